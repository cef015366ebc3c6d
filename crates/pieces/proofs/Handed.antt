-- Consistency is kept by every call, and the calls on words are the steps on states: so a report may be handed in anyhow.
-- Assumes nothing.
use Prim.Native.Nat.{ℕ, zero, suc, ◌+◌, ◌-◌, ◌*◌, ◌/◌, ◌≤◌}
use mathlib.Core.Path.{◌≡◌, refl, sym, ap, ap₂, subst, ◌∙◌}
use mathlib.Core.Bool.{Bool, true, false}
use mathlib.Core.List.{List, [], ◌∷◌, ◌++◌}
use native.Mathlib.Nat.{mul-zero, mul-add, mul-div_cancel_left}
use native.Mathlib.Omega.{arith}
use borrow.Author.Tests.{le-leb}
use lib.Dec.{eqb, ltb}
use lib.ListN.{length, take, drop, length-append}
use lib.Seq.{take_at, length-take-le}
use Rattle.wire.specs.Bytes.{pick, splice, Octets}
use Rattle.entries.specs.Profiles.{record_size, number_of}
use Rattle.entries.specs.Entries.{records_good}
use Rattle.entries.specs.declared.Profile.{Profile}
use Rattle.entries.specs.declared.Profile.TheVariants.{One, Two}
use Rattle.uncut.specs.State.{State, Numbers, Records, Counting, Refused, Accepted, start, standing, header_at, whole_at, report_at, at_end}
use Rattle.uncut.specs.Step.{record_given, step, given, after, delivered}
use Rattle.uncut.specs.Cutting.{closed, stops, taking, Fed, over, shut, call}
use Rattle.pieces.specs.Record.{profile_in, state_of, words_of}
use Rattle.pieces.specs.Fitness.{consistent}
use Rattle.pieces.specs.Calls.{unless_refused, refused_report, open_refusal, open_after, take_refusal, taken_of, state_after, given_of, answer_of, refused_as, take_answer, take_after, take_bytes, end_refusal, end_answer, end_after}
use Rattle.pieces.specs.Kept.{Kept}
use Rattle.pieces.specs.Handing.{KeepsConsistent, SaidBack, Handed, over as all, shut as refused, call as handing, HandedAnyhow}
use Rattle.uncut.proofs.Uncut.{Sound, sound-step, whole-size}
use Rattle.uncut.proofs.Cuts.{closed_after, cut-anyhow}
use Rattle.uncut.proofs.All.{stands-closed, closed-takes}
use Rattle.uncut.proofs.Rows.{size-pos}
use Rattle.pieces.proofs.Staying.{kept-after, kept-end, kept-start}
use Rattle.pieces.proofs.Back.{words_back, profile-back, words-pass, consistent-kept}
use Rattle.pieces.proofs.Fits.{ready-fit}

pub said-back : SaidBack
said-back p st h = words_back p st h

-- ---- a part of bytes is bytes

pub octets-taken : (k : ℕ) (xs : List ℕ) → Octets xs → Octets (take k xs)
octets-taken zero xs q i = omega arith
octets-taken (suc k) [] q i = omega arith
octets-taken (suc k) (x ∷ xs) q zero = q zero
octets-taken (suc k) (x ∷ xs) q (suc i) = octets-taken k xs (λ j. q (suc j)) i

octets-front : (xs ys : List ℕ) → Octets (xs ++ ys) → Octets xs
octets-front [] ys q i = omega arith
octets-front (x ∷ xs) ys q zero = q zero
octets-front (x ∷ xs) ys q (suc i) = octets-front xs ys (λ j. q (suc j)) i

pub octets-dropped : (k : ℕ) (xs : List ℕ) → Octets xs → Octets (drop k xs)
octets-dropped zero xs q = q
octets-dropped (suc k) [] q = q
octets-dropped (suc k) (x ∷ xs) q = octets-dropped k xs (λ j. q (suc j))

octets-rest : (k : ℕ) (xs ys : List ℕ) → Octets (xs ++ ys) → Octets (drop k xs ++ ys)
octets-rest zero xs ys q = q
octets-rest (suc k) [] ys q = q
octets-rest (suc k) (x ∷ xs) ys q = octets-rest k xs ys (λ j. q (suc j))

taking-within : (p : Profile) (room : ℕ) (st : State) (s : List ℕ) → taking p room st s ≤ length s
unfolding taking
taking-within p room st [] = omega arith
taking-within p room st (b ∷ s) = go (stops p room st) (taking-within p (room - length (given p st b)) (step p st b) s)
  where
    go : (c : Bool) → taking p (room - length (given p st b)) (step p st b) s ≤ length s → pick c 0 (suc (taking p (room - length (given p st b)) (step p st b) s)) ≤ suc (length s)
    go true h = omega arith
    go false h = omega arith

-- ---- consistency

open-consistent : (w : List ℕ) (profile : ℕ) → open_refusal profile ≡ 0 → consistent (open_after w profile) ≡ true
open-consistent w profile e = go (eqb profile 1) (eqb profile 2) e
  where
    go : (a b : Bool) → ◌≡◌ {A = ℕ} (pick a 0 (pick b 0 18)) 0 → consistent (pick a (words_of One start) (pick b (words_of Two start) w)) ≡ true
    go true b e = words-pass One start (kept-start One)
    go false true e = words-pass Two start (kept-start Two)
    go false false e = absurd (omega arith)

take-consistent : (w part : List ℕ) (room : ℕ) → Octets part → consistent w ≡ true → consistent (take_after w part room) ≡ true
unfolding take_after
take-consistent w part room o e = go (take_refusal w room)
  where
    k : Kept (profile_in w) (state_after w part room)
    k = kept-after (profile_in w) (state_of w) (taken_of w part room) (consistent-kept w e) (octets-taken (taking (profile_in w) room (state_of w) part) part o)

    go : (n : ℕ) → consistent (unless_refused n (words_of (profile_in w) (state_after w part room)) w) ≡ true
    go zero = words-pass (profile_in w) (state_after w part room) k
    go (suc n) = e

end-consistent : (w : List ℕ) → consistent w ≡ true → consistent (end_after w) ≡ true
unfolding end_after
end-consistent w e = go (end_refusal w)
  where
    go : (n : ℕ) → consistent (unless_refused n (words_of (profile_in w) (at_end (state_of w))) w) ≡ true
    go zero = words-pass (profile_in w) (at_end (state_of w)) (kept-end (profile_in w) (state_of w) (consistent-kept w e))
    go (suc n) = e

pub keeps-consistent : KeepsConsistent
keeps-consistent = record { opening = open-consistent; part = take-consistent; end = end-consistent }

-- ---- what is delivered is whole records

pub record Rows (p : Profile) (s : List ℕ) : Type 0 where
  pub n : ℕ
  pub long : length s ≡ record_size p * n

module _ (p : Profile) where
  given-rows : (st : State) (b : ℕ) → Sound p st → Rows p (given p st b)
  unfolding given record_given
  given-rows (Numbers ns held) b h = record { n = 0; long = sym (mul-zero (record_size p)) }
  given-rows (Records ns zero last above held) b h = record { n = 0; long = sym (mul-zero (record_size p)) }
  given-rows (Records ns (suc n) last above held) b h = go (ltb (length r) (record_size p)) refl (records_good p 1 last above r)
    where
      r : List ℕ
      r = held ++ (b ∷ [])

      go : (c : Bool) → ltb (length r) (record_size p) ≡ c → (g : Bool) → Rows p (pick c [] (pick g r []))
      go true t g = record { n = 0; long = sym (mul-zero (record_size p)) }
      go false t true = record { n = 1; long = omega (arith, whole-size p held b h t) }
      go false t false = record { n = 0; long = sym (mul-zero (record_size p)) }
  given-rows (Counting ns n) b h = record { n = 0; long = sym (mul-zero (record_size p)) }
  given-rows (Refused n) b h = record { n = 0; long = sym (mul-zero (record_size p)) }
  given-rows (Accepted ns) b h = record { n = 0; long = sym (mul-zero (record_size p)) }

  delivered-rows : (st : State) (s : List ℕ) → Sound p st → Rows p (delivered p st s)
  unfolding delivered
  delivered-rows st [] h = record { n = 0; long = sym (mul-zero (record_size p)) }
  delivered-rows st (b ∷ s) h =
      let x = given-rows st b h in
      let y = delivered-rows (step p st b) s (sound-step p st b h) in
      let l = length-append (given p st b) (delivered p (step p st b) s) in
      record { n = x.n + y.n; long = l ∙ ap₂ ◌+◌ x.long y.long ∙ sym (mul-add (record_size p) x.n y.n) }

  sound-kept : (st : State) → Kept p st → Sound p st
  sound-kept (Numbers ns held) h = (ready-fit p (Numbers ns held) h.fits).0
  sound-kept (Records ns n last above held) h = (ready-fit p (Records ns n last above held) h.fits).0
  sound-kept (Counting ns n) h = tt
  sound-kept (Refused n) h = tt
  sound-kept (Accepted ns) h = tt

  -- ---- the calls are the steps

  pub record Stands (w' : List ℕ) (st : State) (s out : List ℕ) : Type 0 where
    pub st' : State
    pub says : w' ≡ words_of p st'
    pub kept : Kept p st'
    pub fed : Fed p st s st' out

  module _ (st : State) (h : Kept p st) (part xs : List ℕ) (f : record_size p ≤ length xs) where
    abbrev w : List ℕ
    w = words_of p st

    abbrev k : ℕ
    k = taking p (length xs) st part

    pub refusal_is : take_refusal w (length xs) ≡ standing st
    unfolding take_refusal
    refusal_is = rw (words-pass p st h, profile-back p st, le-leb (record_size p) (length xs) f, words_back p st h)

    taken_is : taken_of w part (length xs) ≡ take k part
    taken_is = ap₂ (λ (x : Profile) (y : State). take (taking x (length xs) y part) part) (profile-back p st) (words_back p st h)

    pub state-is : state_after w part (length xs) ≡ after p st (take k part)
    state-is = ap₂ (λ (x : Profile) (y : State). after x y (taken_of w part (length xs))) (profile-back p st) (words_back p st h) ∙ ap (after p st) taken_is

    given_is : given_of w part (length xs) ≡ delivered p st (take k part)
    given_is = ap₂ (λ (x : Profile) (y : State). delivered x y (taken_of w part (length xs))) (profile-back p st) (words_back p st h) ∙ ap (delivered p st) taken_is

    within : k ≤ length part
    within = taking-within p (length xs) st part

    -- where a refusal stands no byte is taken
    still : (n : ℕ) → standing st ≡ suc n → (k ≡ 0) × ((after p st (take k part) ≡ st) × (delivered p st (take k part) ≡ []))
    still n q =
        let c : closed st ≡ true = stands-closed st (λ z. omega arith) in
        let a = closed_after p st (take k part) c in
        (closed-takes p (length xs) st part c, (a.0, a.1))

    pub after_is : take_after w part (length xs) ≡ words_of p (after p st (take k part))
    unfolding take_after
    after_is = rw refusal_is (go (standing st) refl)
      where
        go : (n : ℕ) → standing st ≡ n → unless_refused n (words_of (profile_in w) (state_after w part (length xs))) w ≡ words_of p (after p st (take k part))
        go zero q = ap₂ words_of (profile-back p st) state-is
        go (suc n) q = ap (words_of p) (sym (still n q).1.0)

    pub answer-taken : (take_answer w part (length xs)).taken ≡ k
    unfolding take_answer
    answer-taken = rw refusal_is (go (standing st) refl)
      where
        go : (n : ℕ) → standing st ≡ n → (unless_refused n (answer_of (state_after w part (length xs)) (length (taken_of w part (length xs))) (length (given_of w part (length xs)) / record_size (profile_in w))) (refused_as n)).taken ≡ k
        go zero q = ap length taken_is ∙ length-take-le k part within
        go (suc n) q = sym (still n q).0

    pub answer-records : record_size p * (take_answer w part (length xs)).records ≡ length (delivered p st (take k part))
    unfolding take_answer
    answer-records = rw refusal_is (go (standing st) refl)
      where
        go : (n : ℕ) → standing st ≡ n → record_size p * (unless_refused n (answer_of (state_after w part (length xs)) (length (taken_of w part (length xs))) (length (given_of w part (length xs)) / record_size (profile_in w))) (refused_as n)).records ≡ length (delivered p st (take k part))
        go zero q =
            let r = delivered-rows st (take k part) (sound-kept st h) in
            ap₂ (λ (x : List ℕ) (y : Profile). record_size p * (length x / record_size y)) given_is (profile-back p st) ∙ ap (λ (x : ℕ). record_size p * (x / record_size p)) r.long
            ∙ ap (λ (x : ℕ). record_size p * x) (mul-div_cancel_left r.n (size-pos p)) ∙ sym r.long
        go (suc n) q = mul-zero (record_size p) ∙ sym (ap length (still n q).1.1)

    pub bytes-are : take (record_size p * (take_answer w part (length xs)).records) (take_bytes w part xs) ≡ delivered p st (take k part)
    unfolding take_bytes
    bytes-are = ap (λ (x : ℕ). take x (take_bytes w part xs)) answer-records ∙ rw refusal_is (go (standing st) refl)
      where
        go : (n : ℕ) → standing st ≡ n → take (length (delivered p st (take k part))) (unless_refused n (splice xs 0 (given_of w part (length xs))) xs) ≡ delivered p st (take k part)
        go zero q = rw given_is (take_at (delivered p st (take k part)) (drop (0 + length (delivered p st (take k part))) xs) (length (delivered p st (take k part))) refl)
        go (suc n) q = rw (still n q).1.1 refl

    -- a refusal that stands is given again
    pub answer-stood : (n : ℕ) → standing st ≡ suc n → (take_answer w part (length xs)).result ≡ suc n
    unfolding take_answer
    answer-stood n q = rw (refusal_is, q) refl

    -- the header that the call hands over
    pub answer-header : (take_answer w part (length xs)).whole ≡ 1 → (whole_at (after p st (take k part)) ≡ 1) × ((take_answer w part (length xs)).header ≡ header_at (after p st (take k part)))
    unfolding take_answer
    answer-header = rw refusal_is (go (standing st))
      where
        go : (n : ℕ) → (unless_refused n (answer_of (state_after w part (length xs)) (length (taken_of w part (length xs))) (length (given_of w part (length xs)) / record_size (profile_in w))) (refused_as n)).whole ≡ 1
            → (whole_at (after p st (take k part)) ≡ 1) × ((unless_refused n (answer_of (state_after w part (length xs)) (length (taken_of w part (length xs))) (length (given_of w part (length xs)) / record_size (profile_in w))) (refused_as n)).header ≡ header_at (after p st (take k part)))
        go zero e = (ap whole_at (sym state-is) ∙ e, ap header_at state-is)
        go (suc n) e = absurd (omega arith)

  pub handed : {w w' s out : List ℕ} (st : State) → Kept p st → w ≡ words_of p st → Octets s → Handed p w s w' out → Stands w' st s out
  handed st h e o all = record { st' = st; says = e; kept = h; fed = over }
  handed st h e o (refused {w} {s} n) = record { st' = st; says = e; kept = h; fed = shut (stands-closed st (λ z. n (ap standing (ap state_of e ∙ words_back p st h) ∙ z))) }
  handed {w} {w'} st h e o (handing {out = out} part rest xs f more) =
      let k : ℕ = taking p (length xs) st part in
      let a : take_after w part (length xs) ≡ words_of p (after p st (take (taking p (length xs) st part) part)) = ap (λ (x : List ℕ). take_after x part (length xs)) e ∙ after_is st h part xs f in
      let t : (take_answer w part (length xs)).taken ≡ taking p (length xs) st part = ap (λ (x : List ℕ). (take_answer x part (length xs)).taken) e ∙ answer-taken st h part xs f in
      let b : take (record_size p * (take_answer w part (length xs)).records) (take_bytes w part xs) ≡ delivered p st (take (taking p (length xs) st part) part) =
      ap (λ (x : List ℕ). take (record_size p * (take_answer x part (length xs)).records) (take_bytes x part xs)) e ∙ bytes-are st h part xs f in
      let r = handed (after p st (take (taking p (length xs) st part) part)) (kept-after p st (take (taking p (length xs) st part) part) h (octets-taken (taking p (length xs) st part) part (octets-front part rest o))) a (octets-rest (take_answer w part (length xs)).taken part rest o) more in
      let g : Fed p (after p st (take (taking p (length xs) st part) part)) (drop (taking p (length xs) st part) part ++ rest) r.st' out = subst (λ (n : ℕ). Fed p (after p st (take (taking p (length xs) st part) part)) (drop n part ++ rest) r.st' out) t r.fed in
      record { st' = r.st'; says = r.says; kept = r.kept; fed = subst (λ (d : List ℕ). Fed p st (part ++ rest) r.st' (d ++ out)) (sym b) (call part rest (length xs) f g) }

-- the end of a report on which a refusal stands
refused-again : (st : State) (n : ℕ) → standing st ≡ suc n → refused_report (suc n) ≡ report_at (at_end st)
unfolding at_end
refused-again (Numbers ns held) n e = absurd (omega arith)
refused-again (Records ns k last above held) n e = absurd (omega arith)
refused-again (Counting ns zero) n e = ap refused_report (sym e)
refused-again (Counting ns (suc k)) n e = absurd (omega arith)
refused-again (Refused k) n e = ap refused_report (sym e)
refused-again (Accepted ns) n e = absurd (omega arith)

pub handed-anyhow : HandedAnyhow
unfolding end_answer end_refusal
handed-anyhow p before s w out o d =
    let r = handed p start (kept-start p) (opened p) o d in
    let c = cut-anyhow p s r.st' out r.fed in
    let e : consistent w ≡ true = ap consistent r.says ∙ words-pass p r.st' r.kept in
    let b : state_of w ≡ r.st' = ap state_of r.says ∙ words_back p r.st' r.kept in
    (rw (e, b) (said r.st' ∙ c.0), c.1)
  where
    -- where a refusal stands the end gives it
    said : (st : State) → unless_refused (standing st) (report_at (at_end st)) (refused_report (standing st)) ≡ report_at (at_end st)
    said st = it (standing st) refl
      where
        it : (n : ℕ) → standing st ≡ n → unless_refused n (report_at (at_end st)) (refused_report n) ≡ report_at (at_end st)
        it zero q = refl
        it (suc n) q = refused-again st n q

    opened : (p : Profile) → open_after before (number_of p) ≡ words_of p start
    opened One = refl
    opened Two = refl
