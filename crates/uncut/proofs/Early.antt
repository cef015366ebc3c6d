-- The header that is handed over before the end: once the numbers are whole no byte changes them, and they are those of the whole reader.
-- Assumes nothing.
use Prim.Native.Nat.{ℕ, zero, suc, ◌+◌, ◌*◌, zero-le}
use mathlib.Core.Path.{◌≡◌, refl, sym, ap, ◌∙◌}
use mathlib.Core.Bool.{Bool, true, false}
use mathlib.Core.List.{List, [], ◌∷◌, ◌++◌}
use native.Mathlib.Omega.{arith}
use lib.Dec.{leb, eqb, ltb}
use lib.ListN.{length}
use Rattle.std.specs.Prelude.{Result, Ok, Err}
use Rattle.wire.specs.Bytes.{pick}
use Rattle.wire.specs.Fields.{formed}
use Rattle.wire.specs.Numbers.{read_number}
use Rattle.wire.specs.declared.Number.{Number}
use Rattle.wire.specs.declared.Refusal.{Refusal}
use Rattle.wire.specs.declared.Refusal.TheVariants.{Ends, BrokenEntry, BytesRemain}
use Rattle.entries.specs.Profiles.{record_size}
use Rattle.entries.specs.Entries.{entry_of, records_good, entries_good}
use Rattle.entries.specs.declared.Profile.{Profile}
use Rattle.report.specs.Limits.{most_numbers}
use Rattle.report.specs.Header.{heeding, judge_field, wanted_of, count_of, header_of, empty_header}
use Rattle.report.specs.Reader.{Reading, Whole, Stopped, part_of, read_numbers, judge_entries, report_reading, report_of}
use Rattle.report.specs.declared.Header.{Header}
use Rattle.uncut.specs.State.{State, Numbers, Records, Counting, Refused, Accepted, start, header_at, whole_at}
use Rattle.uncut.specs.Step.{group_in, above_in, after_bad, refused, with_number, field_grown, record_judged, record_grown, step, after}
use Rattle.uncut.specs.Whole.{header_in, HeaderOfNumbers, HeaderOfAccepted}
use Rattle.uncut.proofs.Cuts.{closed_after}
use Rattle.uncut.proofs.Free.{Made, ahead, free-is, field_step}
use Rattle.uncut.proofs.Uncut.{Sound, sound-step, sound-start}

-- behind a header of the numbers ms, or refused
abbrev Behind : List ℕ → State → Type 0
Behind ms (Numbers ns held) = ⊥
Behind ms (Records ns n last above held) = ns ≡ ms
Behind ms (Counting ns n) = ns ≡ ms
Behind ms (Refused n) = Unit
Behind ms (Accepted ns) = ns ≡ ms

-- before a bad record
abbrev Fresh : State → Type 0
Fresh (Numbers ns held) = Unit
Fresh (Records ns n last above held) = Unit
Fresh (Counting ns n) = ⊥
Fresh (Refused n) = Unit
Fresh (Accepted ns) = ⊥

behind-header : (ms : List ℕ) (st : State) → Behind ms st → whole_at st ≡ 1 → header_at st ≡ header_of ms
behind-header ms (Numbers ns held) h e = absurd h
behind-header ms (Records ns n last above held) h e = ap header_of h
behind-header ms (Counting ns zero) h e = absurd (omega arith)
behind-header ms (Counting ns (suc n)) h e = ap header_of h
behind-header ms (Refused n) h e = absurd (omega arith)
behind-header ms (Accepted ns) h e = ap header_of h

module _ (p : Profile) where
  behind-step : (ms : List ℕ) (st : State) (b : ℕ) → Behind ms st → Behind ms (step p st b)
  unfolding step record_grown record_judged
  behind-step ms (Numbers ns held) b h = absurd h
  behind-step ms (Records ns zero last above held) b h = tt
  behind-step ms (Records ns (suc n) last above held) b h = go (ltb (length r) (record_size p)) (records_good p 1 last above r)
    where
      r : List ℕ
      r = held ++ (b ∷ [])

      go : (c g : Bool) → Behind ms (pick c (Records ns (suc n) last above r) (pick g (Records ns n (group_in (entry_of p r)) (above_in (entry_of p r)) []) (after_bad p ns n)))
      go true g = h
      go false true = h
      go false false = h
  behind-step ms (Counting ns zero) b h = h
  behind-step ms (Counting ns (suc n)) b h = h
  behind-step ms (Refused n) b h = tt
  behind-step ms (Accepted ns) b h = h

  behind-after : (ms : List ℕ) (st : State) (s : List ℕ) → Behind ms st → Behind ms (after p st s)
  unfolding after
  behind-after ms st [] h = h
  behind-after ms st (b ∷ s) h = behind-after ms (step p st b) s (behind-step ms st b h)

  fresh-field : (ns held : List ℕ) → Fresh (field_grown p ns held)
  unfolding field_grown with_number
  fresh-field ns held = go (read_number held 0)
    where
      wanted : (ms : List ℕ) (b : Bool) → Fresh (pick b (Records ms (count_of ms) 0 0 []) (Numbers ms []))
      wanted ms true = tt
      wanted ms false = tt

      judged : (v : ℕ) (x : Result Unit Refusal) → Fresh (heeding x refused (with_number p (ns ++ (v ∷ []))))
      judged v (Ok u) = wanted (ns ++ (v ∷ [])) (leb (wanted_of p (ns ++ (v ∷ []))) (length (ns ++ (v ∷ []))))
      judged v (Err refusal) = tt

      go : (q : Result Number Refusal) → Fresh (formed q (Numbers ns held) (λ v next b. heeding (judge_field p ns v b) refused (with_number p (ns ++ (v ∷ [])))))
      go (Ok n) = judged n.value (judge_field p ns n.value n.shortest)
      go (Err refusal) = tt

  abbrev headers : Made Header
  headers = record { stop = λ n. empty_header; rows = λ ns n last above s. header_of ns; counted = λ n s. empty_header; done = header_of }

  -- the numbers are whole already, or a refusal stands
  settled : (ns s rest : List ℕ) (n last above : ℕ) (held : List ℕ) → whole_at (after p (Records ns n last above held) s) ≡ 1 → header_at (after p (Records ns n last above held) s) ≡ ahead headers p (Records ns n last above held) (s ++ rest)
  unfolding ahead
  settled ns s rest zero last above held e = behind-header ns (after p (Records ns zero last above held) s) (behind-after ns (Records ns zero last above held) s refl) e
  settled ns s rest (suc n) last above held e = behind-header ns (after p (Records ns (suc n) last above held) s) (behind-after ns (Records ns (suc n) last above held) s refl) e

  none : {A : Type 0} (n : ℕ) (s : List ℕ) → whole_at (after p (Refused n) s) ≡ 1 → A
  none n s e = let q : whole_at (after p (Refused n) s) ≡ 0 = ap whole_at (closed_after p (Refused n) s refl).0 in absurd (omega arith)

  early : (s rest : List ℕ) (st : State) → Sound p st → Fresh st → whole_at (after p st s) ≡ 1 → header_at (after p st s) ≡ ahead headers p st (s ++ rest)
  unfolding after step
  early [] rest st h f e = go st f e
    where
      go : (x : State) → Fresh x → whole_at x ≡ 1 → header_at x ≡ ahead headers p x rest
      go (Numbers ns held) f e = absurd (omega arith)
      go (Records ns n last above held) f e = settled ns [] rest n last above held e
      go (Counting ns n) f e = absurd f
      go (Refused n) f e = absurd (omega arith)
      go (Accepted ns) f e = absurd f
  early (b ∷ s) rest st h f e = go (early s rest) st h f e
    where
      go : ((x : State) → Sound p x → Fresh x → whole_at (after p x s) ≡ 1 → header_at (after p x s) ≡ ahead headers p x (s ++ rest)) → (x : State) → Sound p x → Fresh x
          → whole_at (after p (step p x b) s) ≡ 1 → header_at (after p (step p x b) s) ≡ ahead headers p x (b ∷ (s ++ rest))
      go more (Numbers ns held) h f e =
          more (field_grown p ns (held ++ (b ∷ []))) (sound-step p (Numbers ns held) b h) (fresh-field ns (held ++ (b ∷ []))) e
          ∙ sym (field_step headers p ns held h.0 h.1 b (s ++ rest))
      go more (Records ns n last above held) h f e = settled ns (b ∷ s) rest n last above held e
      go more (Counting ns n) h f e = absurd f
      go more (Refused n) h f e = none n (b ∷ s) e
      go more (Accepted ns) h f e = absurd f

pub header-of-numbers : HeaderOfNumbers
unfolding ahead
header-of-numbers p s rest e = early p s rest start (sound-start p) tt e ∙ sym (free-is (headers p) p (s ++ rest) header_in (λ refusal. refl) (λ ns at h. refl) most_numbers 0 [] zero-le)

-- where the entries bring no refusal the header is that of the numbers
judged-header : (p : Profile) (s : List ℕ) (r : Reading) → (report_of (judge_entries p s r)).refusal ≡ 0 → header_in r ≡ (report_of (judge_entries p s r)).header
unfolding judge_entries report_of
judged-header p s (Stopped refusal) e = refl
judged-header p s (Whole ns at) e = go (leb (at + record_size p * count_of ns) (length s)) (entries_good p (part_of p s ns at)) (eqb (at + record_size p * count_of ns) (length s)) e
  where
    go : (l g q : Bool) → (report_of (pick l (pick g (pick q (Whole ns at) (Stopped BytesRemain)) (Stopped BrokenEntry)) (Stopped Ends))).refusal ≡ 0
        → header_of ns ≡ (report_of (pick l (pick g (pick q (Whole ns at) (Stopped BytesRemain)) (Stopped BrokenEntry)) (Stopped Ends))).header
    go true true true e = refl
    go true true false e = absurd (omega arith)
    go true false q e = absurd (omega arith)
    go false g q e = absurd (omega arith)

pub header-of-accepted : HeaderOfAccepted
unfolding report_reading
header-of-accepted p s rest e a = header-of-numbers p s rest e ∙ judged-header p (s ++ rest) (read_numbers p (s ++ rest)) a
