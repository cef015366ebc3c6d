-- A session of any parts and buffers ends: while no refusal stands each call takes a byte.
-- Assumes nothing.
use Prim.Native.Nat.{ℕ, zero, suc, ◌-◌, ◌*◌, ◌≤◌, ◌<◌}
use mathlib.Core.Path.{◌≡◌, refl, sym, ap, subst, ◌∙◌}
use mathlib.Core.Bool.{Bool, true, false}
use mathlib.Core.List.{List, [], ◌∷◌, ◌++◌}
use native.Mathlib.Omega.{arith}
use lib.Dec.{leb, ltb}
use lib.ListN.{length, take, drop, length-drop}
use Rattle.std.specs.Prelude.{Result, Ok, Err}
use Rattle.wire.specs.Bytes.{pick, Octets}
use Rattle.wire.specs.Fields.{formed}
use Rattle.wire.specs.Numbers.{read_number}
use Rattle.wire.specs.declared.Number.{Number}
use Rattle.wire.specs.declared.Refusal.{Refusal}
use Rattle.entries.specs.Profiles.{record_size, number_of}
use Rattle.entries.specs.Entries.{entry_of, records_good}
use Rattle.entries.specs.declared.Profile.{Profile}
use Rattle.entries.specs.declared.Profile.TheVariants.{One, Two}
use Rattle.report.specs.Header.{heeding, judge_field, wanted_of, count_of}
use Rattle.uncut.specs.State.{State, Numbers, Records, Counting, Refused, Accepted, start, standing}
use Rattle.uncut.specs.Step.{group_in, above_in, after_bad, refused as by_refusal, with_number, field_grown, record_judged, record_grown, step, after}
use Rattle.uncut.specs.Cutting.{closed, taking}
use Rattle.uncut.proofs.All.{moves, stands-closed, closed-takes}
use Rattle.pieces.specs.Record.{state_of, words_of}
use Rattle.pieces.specs.Fitness.{fit}
use Rattle.pieces.specs.Calls.{open_after, take_answer, take_after, take_bytes}
use Rattle.pieces.specs.Kept.{Kept}
use Rattle.pieces.specs.Handing.{Handed, over as all, shut as refused, call as handing}
use Rattle.pieces.specs.Sessions.{Part, bytes_of, Hold, Session, over, next as passed, call, shut, Ended, SessionEnds}
use Rattle.pieces.proofs.Staying.{kept-after, kept-start}
use Rattle.pieces.proofs.Back.{words_back}
use Rattle.pieces.proofs.Handed.{octets-taken, octets-dropped, answer-stood, after_is, answer-taken}

-- ---- the end was not said

abbrev Unsaid : State → Type 0
Unsaid (Numbers ns held) = Unit
Unsaid (Records ns n last above held) = Unit
Unsaid (Counting ns n) = Unit
Unsaid (Refused n) = Unit
Unsaid (Accepted ns) = ⊥

no_true : {A : Type 0} → false ≡ true → A
no_true e = let z : ◌≡◌ {A = ℕ} 0 1 = cc in absurd (omega arith)

not-zero : (m : ℕ) → suc m ≡ 0 → ⊥
not-zero m e = omega arith

module _ (p : Profile) where
  unsaid-field : (ns held : List ℕ) → Unsaid (field_grown p ns held)
  unfolding field_grown with_number
  unsaid-field ns held = go (read_number held 0)
    where
      wanted : (ms : List ℕ) (b : Bool) → Unsaid (pick b (Records ms (count_of ms) 0 0 []) (Numbers ms []))
      wanted ms true = tt
      wanted ms false = tt

      judged : (v : ℕ) (x : Result Unit Refusal) → Unsaid (heeding x by_refusal (with_number p (ns ++ (v ∷ []))))
      judged v (Ok u) = wanted (ns ++ (v ∷ [])) (leb (wanted_of p (ns ++ (v ∷ []))) (length (ns ++ (v ∷ []))))
      judged v (Err refusal) = tt

      go : (q : Result Number Refusal) → Unsaid (formed q (Numbers ns held) (λ v next b. heeding (judge_field p ns v b) by_refusal (with_number p (ns ++ (v ∷ [])))))
      go (Ok k) = judged k.value (judge_field p ns k.value k.shortest)
      go (Err refusal) = tt

  unsaid-step : (st : State) (b : ℕ) → Unsaid st → Unsaid (step p st b)
  unfolding step record_grown record_judged
  unsaid-step (Numbers ns held) b h = unsaid-field ns (held ++ (b ∷ []))
  unsaid-step (Records ns zero last above held) b h = tt
  unsaid-step (Records ns (suc n) last above held) b h = go (ltb (length r) (record_size p)) (records_good p 1 last above r)
    where
      r : List ℕ
      r = held ++ (b ∷ [])

      go : (c g : Bool) → Unsaid (pick c (Records ns (suc n) last above r) (pick g (Records ns n (group_in (entry_of p r)) (above_in (entry_of p r)) []) (after_bad p ns n)))
      go true g = tt
      go false true = tt
      go false false = tt
  unsaid-step (Counting ns zero) b h = tt
  unsaid-step (Counting ns (suc n)) b h = tt
  unsaid-step (Refused n) b h = tt
  unsaid-step (Accepted ns) b h = h

  unsaid-after : (st : State) (s : List ℕ) → Unsaid st → Unsaid (after p st s)
  unfolding after
  unsaid-after st [] h = h
  unsaid-after st (b ∷ s) h = unsaid-after (step p st b) s (unsaid-step st b h)

  -- so where no refusal stands there is something to take
  not-closed : (st : State) → fit p st ≡ true → Unsaid st → standing st ≡ 0 → closed st ≡ false
  unfolding fit
  not-closed (Numbers ns held) f h q = refl
  not-closed (Records ns n last above held) f h q = refl
  not-closed (Counting ns zero) f h q = absurd (omega arith)
  not-closed (Counting ns (suc n)) f h q = refl
  not-closed (Refused n) f h q = no_true (rw q at f)
  not-closed (Accepted ns) f h q = absurd h

  -- ---- one part, in at most n calls, then the others

  module _ (parts : List Part) (xs : List ℕ) (f : record_size p ≤ length xs)
      (others : (st : State) → Kept p st → Unsaid st → Ended p (words_of p st) parts) where
    abbrev with_part : List ℕ → List Part
    with_part part = record { bytes = part; buffer = xs } ∷ parts

    taken-all : (st : State) → Kept p st → Unsaid st → Ended p (words_of p st) (with_part [])
    taken-all st k u = let r = others st k u in record { words = r.words; out = r.out; session = passed xs r.session; handed = r.handed }

    stands-still : (st : State) → Kept p st → (part : List ℕ) (m : ℕ) → standing st ≡ suc m → Ended p (words_of p st) (with_part part)
    stands-still st k part m q =
        let a : (take_answer (words_of p st) part (length xs)).result ≡ suc m = answer-stood p st k part xs f m q in
        let t : (take_answer (words_of p st) part (length xs)).taken ≡ 0 = answer-taken p st k part xs f ∙ closed-takes p (length xs) st part (stands-closed st (λ z. not-zero m (sym q ∙ z))) in
        let b : standing (state_of (words_of p st)) ≡ suc m = ap standing (words_back p st k) ∙ q in
        record { words = words_of p st; out = []; session = shut {w = words_of p st} part xs (λ z. not-zero m (sym a ∙ z)) t; handed = refused {w = words_of p st} (λ z. not-zero m (sym b ∙ z)) }

    goes_on : (st : State) (k : Kept p st) (part : List ℕ) → 0 < taking p (length xs) st part
        → Ended p (words_of p (after p st (take (taking p (length xs) st part) part))) (with_part (drop (taking p (length xs) st part) part)) → Ended p (words_of p st) (with_part part)
    goes_on st k part h r =
        let a : take_after (words_of p st) part (length xs) ≡ words_of p (after p st (take (taking p (length xs) st part) part)) = after_is p st k part xs f in
        let t : (take_answer (words_of p st) part (length xs)).taken ≡ taking p (length xs) st part = answer-taken p st k part xs f in
        let s : Session p (take_after (words_of p st) part (length xs)) (with_part (drop (take_answer (words_of p st) part (length xs)).taken part)) r.words r.out =
        subst (λ (n : ℕ). Session p (take_after (words_of p st) part (length xs)) (with_part (drop n part)) r.words r.out) (sym t)
        (subst (λ (x : List ℕ). Session p x (with_part (drop (taking p (length xs) st part) part)) r.words r.out) (sym a) r.session) in
        let d : Handed p (take_after (words_of p st) part (length xs)) (drop (take_answer (words_of p st) part (length xs)).taken part ++ bytes_of parts) r.words r.out =
        subst (λ (n : ℕ). Handed p (take_after (words_of p st) part (length xs)) (drop n part ++ bytes_of parts) r.words r.out) (sym t)
        (subst (λ (x : List ℕ). Handed p x (drop (taking p (length xs) st part) part ++ bytes_of parts) r.words r.out) (sym a) r.handed) in
        record {
          words = r.words;
          out = take (record_size p * (take_answer (words_of p st) part (length xs)).records) (take_bytes (words_of p st) part xs) ++ r.out;
          session = call {w = words_of p st} part xs (subst (λ (n : ℕ). 0 < n) (sym t) h) s;
          handed = handing {w = words_of p st} part (bytes_of parts) xs f d;
        }

    one-part : (n : ℕ) (part : List ℕ) → length part ≤ n → Octets part → (st : State) → Kept p st → Unsaid st → Ended p (words_of p st) (with_part part)
    one-part zero part l o st k u = go part l
      where
        go : (part : List ℕ) → length part ≤ 0 → Ended p (words_of p st) (with_part part)
        go [] l = taken-all st k u
        go (b ∷ part) l = absurd (omega arith)
    one-part (suc n) part l o st k u = go (one-part n) part l o (standing st) refl
      where
        go : ((part : List ℕ) → length part ≤ n → Octets part → (st : State) → Kept p st → Unsaid st → Ended p (words_of p st) (with_part part)) → (part : List ℕ) → length part ≤ suc n → Octets part
            → (m : ℕ) → standing st ≡ m → Ended p (words_of p st) (with_part part)
        go more [] l o m q = taken-all st k u
        go more (b ∷ part) l o (suc m) q = stands-still st k (b ∷ part) m q
        go more (b ∷ part) l o zero q =
            let h : 0 < taking p (length xs) st (b ∷ part) = moves p (length xs) st b part f (not-closed st k.fits u q) in
            let d : length (drop (taking p (length xs) st (b ∷ part)) (b ∷ part)) ≡ length (b ∷ part) - taking p (length xs) st (b ∷ part) = length-drop (taking p (length xs) st (b ∷ part)) (b ∷ part) in
            goes_on st k (b ∷ part) h
            (more (drop (taking p (length xs) st (b ∷ part)) (b ∷ part)) (omega arith) (octets-dropped (taking p (length xs) st (b ∷ part)) (b ∷ part) o)
            (after p st (take (taking p (length xs) st (b ∷ part)) (b ∷ part)))
            (kept-after p st (take (taking p (length xs) st (b ∷ part)) (b ∷ part)) k (octets-taken (taking p (length xs) st (b ∷ part)) (b ∷ part) o))
            (unsaid-after st (take (taking p (length xs) st (b ∷ part)) (b ∷ part)) u))

  all-parts : (parts : List Part) → Hold p parts → (st : State) → Kept p st → Unsaid st → Ended p (words_of p st) parts
  all-parts [] h st k u = record { words = words_of p st; out = []; session = over; handed = all }
  all-parts (part ∷ parts) h st k u = one-part parts part.buffer h.0.1 (all-parts parts h.1) (length part.bytes) part.bytes (omega arith) h.0.0 st k u

pub session-ends : SessionEnds
session-ends p before parts h = subst (λ (x : List ℕ). Ended p x parts) (sym (opened p)) (all-parts p parts h start (kept-start p) tt)
  where
    opened : (q : Profile) → open_after before (number_of q) ≡ words_of q start
    opened One = refl
    opened Two = refl
