-- The reader in pieces comes to what the whole reader comes to: from each state a byte more leaves what is ahead as it was.
-- Assumes nothing.
use Prim.Native.Nat.{ℕ, zero, suc, ◌+◌, ◌*◌, ◌≤◌, ◌<◌, zero-le}
use mathlib.Core.Path.{◌≡◌, refl, sym, ap, ◌∙◌}
use mathlib.Core.Bool.{Bool, true, false}
use mathlib.Core.List.{List, [], ◌∷◌, ◌++◌, append-nil}
use native.Mathlib.Nat.{mul-zero}
use native.Mathlib.Omega.{arith}
use borrow.Author.Tests.{lt-leb, le-leb, leb-false, ne_eqb, ltb-true, ltb-false}
use lib.Dec.{leb, ltb}
use lib.ListN.{length, length-append}
use lib.Seq.{append_snoc}
use Rattle.std.specs.Prelude.{Result, Ok, Err}
use Rattle.wire.specs.Bytes.{pick}
use Rattle.wire.specs.Fields.{formed}
use Rattle.wire.specs.Numbers.{read_number}
use Rattle.wire.specs.declared.Number.{Number}
use Rattle.wire.specs.declared.Refusal.{Refusal}
use Rattle.wire.specs.declared.Refusal.TheVariants.{Ends}
use Rattle.wire.proofs.Reading.{number-ends}
use Rattle.entries.specs.Profiles.{record_size}
use Rattle.entries.specs.Entries.{entry_of, records_good}
use Rattle.entries.specs.declared.Profile.{Profile}
use Rattle.report.specs.Limits.{most_numbers}
use Rattle.report.specs.Header.{heeding, judge_field, wanted_of, count_of}
use Rattle.report.specs.Reader.{judge_entries, report_reading, report_of}
use Rattle.report.specs.declared.Report.{Report}
use Rattle.report.proofs.Heeding.{number-refused}
use Rattle.uncut.specs.State.{State, Numbers, Records, Counting, Refused, Accepted, start, report_at, at_end}
use Rattle.uncut.specs.Step.{group_in, above_in, after_bad, refused, with_number, field_grown, record_judged, record_grown, record_given, step, given, after, delivered}
use Rattle.uncut.specs.Whole.{good_run, good_in, SameAnswer, GoodDelivered}
use Rattle.uncut.proofs.Rows.{size-pos, leb-more, run-next, run_short, refused_with, accepted_as, entries_from, counted_on, entries_next, entries-short, entries-whole}
use Rattle.uncut.proofs.Free.{Made, ahead, free-is, field-ends, field_step}

-- ---- states that bytes come to: a field or a record that is carried is unfinished

abbrev pub Sound : Profile → State → Type 0
Sound p (Numbers ns held) = (length ns < wanted_of p ns) × (read_number held 0 ≡ Err Ends)
Sound p (Records ns n last above held) = length held < record_size p
Sound p (Counting ns n) = Unit
Sound p (Refused n) = Unit
Sound p (Accepted ns) = Unit

module _ (p : Profile) where
  sound-number : (ns : List ℕ) → Sound p (with_number p ns)
  unfolding with_number
  sound-number ns = go (leb (wanted_of p ns) (length ns)) refl
    where
      go : (b : Bool) → leb (wanted_of p ns) (length ns) ≡ b → Sound p (pick b (Records ns (count_of ns) 0 0 []) (Numbers ns []))
      go true e = size-pos p
      go false e = (leb-false (wanted_of p ns) (length ns) e, sym (number-ends [] 0 zero-le))

  sound-field : (ns held : List ℕ) → length ns < wanted_of p ns → Sound p (field_grown p ns held)
  unfolding field_grown
  sound-field ns held w = go (read_number held 0) refl
    where
      judged : (v : ℕ) (x : Result Unit Refusal) → Sound p (heeding x refused (with_number p (ns ++ (v ∷ []))))
      judged v (Ok u) = sound-number (ns ++ (v ∷ []))
      judged v (Err refusal) = tt

      go : (q : Result Number Refusal) → read_number held 0 ≡ q
          → Sound p (formed q (Numbers ns held) (λ v next b. heeding (judge_field p ns v b) refused (with_number p (ns ++ (v ∷ [])))))
      go (Ok n) e = judged n.value (judge_field p ns n.value n.shortest)
      go (Err refusal) e = (w, e ∙ ap Err (number-refused held 0 e))

  sound-record : (ns : List ℕ) (n last above : ℕ) (held : List ℕ) → Sound p (record_grown p ns n last above held)
  unfolding record_grown record_judged
  sound-record ns n last above held = go (ltb (length held) (record_size p)) refl (records_good p 1 last above held)
    where
      go : (b : Bool) → ltb (length held) (record_size p) ≡ b → (g : Bool)
          → Sound p (pick b (Records ns (suc n) last above held) (pick g (Records ns n (group_in (entry_of p held)) (above_in (entry_of p held)) []) (after_bad p ns n)))
      go true e g = ltb-true (length held) (record_size p) e
      go false e true = size-pos p
      go false e false = tt

  pub sound-step : (st : State) (b : ℕ) → Sound p st → Sound p (step p st b)
  unfolding step
  sound-step (Numbers ns held) b h = sound-field ns (held ++ (b ∷ [])) h.0
  sound-step (Records ns zero last above held) b h = tt
  sound-step (Records ns (suc n) last above held) b h = sound-record ns n last above (held ++ (b ∷ []))
  sound-step (Counting ns zero) b h = tt
  sound-step (Counting ns (suc n)) b h = tt
  sound-step (Refused n) b h = tt
  sound-step (Accepted ns) b h = tt

  pub sound-start : Sound p start
  sound-start = (omega arith, sym (number-ends [] 0 zero-le))

  -- a record that a byte makes whole is as long as a record
  pub whole-size : (held : List ℕ) (b : ℕ) → length held < record_size p → ltb (length (held ++ (b ∷ []))) (record_size p) ≡ false → length (held ++ (b ∷ [])) ≡ record_size p
  whole-size held b h e =
      let l : length (held ++ (b ∷ [])) ≡ length held + 1 = length-append held (b ∷ []) in
      omega (arith, ltb-false (length (held ++ (b ∷ []))) (record_size p) e)

  -- ---- the answer

  abbrev answers : Made Report
  answers = record { stop = refused_with; rows = entries_from p; counted = counted_on; done = accepted_as }

  answer-end : (st : State) → Sound p st → report_at (at_end st) ≡ ahead answers p st []
  unfolding at_end ahead entries_from records_good
  answer-end (Numbers ns held) h = sym (field-ends answers p ns held h.0 h.1)
  answer-end (Records ns zero last above held) h = rw mul-zero
  answer-end (Records ns (suc n) last above held) h = sym (ap (entries_from p ns (suc n) last above) (append-nil held) ∙ entries-short p ns n last above held h)
  answer-end (Counting ns zero) h = refl
  answer-end (Counting ns (suc n)) h = let l : 0 < suc n = omega arith in rw (lt-leb (suc n) 0 l)
  answer-end (Refused n) h = refl
  answer-end (Accepted ns) h = refl

  answer-step : (st : State) (b : ℕ) (s : List ℕ) → Sound p st → ahead answers p st (b ∷ s) ≡ ahead answers p (step p st b) s
  unfolding step ahead entries_from records_good record_grown record_judged
  answer-step (Numbers ns held) b s h = field_step answers p ns held h.0 h.1 b s
  answer-step (Records ns zero last above held) b s h =
      let l : 0 ≤ length (b ∷ s) = zero-le in
      rw (mul-zero, le-leb 0 (length (b ∷ s)) l, ne_eqb 0 (length (b ∷ s)) (λ q. omega arith))
  answer-step (Records ns (suc n) last above held) b s h = ap (entries_from p ns (suc n) last above) (sym (append_snoc held b s)) ∙ go (ltb (length r) (record_size p)) refl
    where
      r : List ℕ
      r = held ++ (b ∷ [])

      rows-ahead : (n last above : ℕ) → entries_from p ns n last above s ≡ ahead answers p (Records ns n last above []) s
      rows-ahead zero last above = refl
      rows-ahead (suc n) last above = refl

      judged : (g : Bool) → pick g (entries_from p ns n (group_in (entry_of p r)) (above_in (entry_of p r)) s) (counted_on (record_size p * n) s)
          ≡ ahead answers p (pick g (Records ns n (group_in (entry_of p r)) (above_in (entry_of p r)) []) (after_bad p ns n)) s
      judged true = rows-ahead n (group_in (entry_of p r)) (above_in (entry_of p r))
      judged false = refl

      go : (c : Bool) → ltb (length r) (record_size p) ≡ c
          → entries_from p ns (suc n) last above (r ++ s) ≡ ahead answers p (pick c (Records ns (suc n) last above r) (record_judged p ns n last above r)) s
      go true e = refl
      go false e = entries_next p ns n last above r s (whole-size held b h e) ∙ judged (records_good p 1 last above r)
  answer-step (Counting ns zero) b s h =
      let l : 0 ≤ length (b ∷ s) = zero-le in
      let m : 0 ≤ length s = zero-le in
      rw (le-leb 0 (length (b ∷ s)) l, le-leb 0 (length s) m)
  answer-step (Counting ns (suc n)) b s h = rw (leb-more 1 n (length s) (suc n) (length (b ∷ s)) (omega arith) (omega arith))
  answer-step (Refused n) b s h = refl
  answer-step (Accepted ns) b s h = refl

  pub answer-ahead : (st : State) (s : List ℕ) → Sound p st → report_at (at_end (after p st s)) ≡ ahead answers p st s
  unfolding after
  answer-ahead st [] h = answer-end st h
  answer-ahead st (b ∷ s) h = answer-ahead (step p st b) s (sound-step st b h) ∙ sym (answer-step st b s h)

  -- ---- what is delivered

  abbrev delivers : Made (List ℕ)
  delivers = record { stop = λ n. []; rows = λ ns. good_run p; counted = λ n s. []; done = λ ns. [] }

  given-end : (st : State) → Sound p st → ahead delivers p st [] ≡ []
  unfolding ahead good_run
  given-end (Numbers ns held) h = field-ends delivers p ns held h.0 h.1
  given-end (Records ns zero last above held) h = refl
  given-end (Records ns (suc n) last above held) h = ap (good_run p (suc n) last above) (append-nil held) ∙ run_short p (suc n) last above held h
  given-end (Counting ns n) h = refl
  given-end (Refused n) h = refl
  given-end (Accepted ns) h = refl

  given-step : (st : State) (b : ℕ) (s : List ℕ) → Sound p st → ahead delivers p st (b ∷ s) ≡ given p st b ++ ahead delivers p (step p st b) s
  unfolding step given ahead good_run record_grown record_judged record_given
  given-step (Numbers ns held) b s h = field_step delivers p ns held h.0 h.1 b s
  given-step (Records ns zero last above held) b s h = refl
  given-step (Records ns (suc n) last above held) b s h = ap (good_run p (suc n) last above) (sym (append_snoc held b s)) ∙ go (ltb (length r) (record_size p)) refl
    where
      r : List ℕ
      r = held ++ (b ∷ [])

      rows-ahead : (n last above : ℕ) → good_run p n last above s ≡ ahead delivers p (Records ns n last above []) s
      rows-ahead zero last above = refl
      rows-ahead (suc n) last above = refl

      judged : (g : Bool) → pick g (r ++ good_run p n (group_in (entry_of p r)) (above_in (entry_of p r)) s) []
          ≡ pick g r [] ++ ahead delivers p (pick g (Records ns n (group_in (entry_of p r)) (above_in (entry_of p r)) []) (after_bad p ns n)) s
      judged true = ap (λ (t : List ℕ). r ++ t) (rows-ahead n (group_in (entry_of p r)) (above_in (entry_of p r)))
      judged false = refl

      go : (c : Bool) → ltb (length r) (record_size p) ≡ c
          → good_run p (suc n) last above (r ++ s)
          ≡ pick c [] (pick (records_good p 1 last above r) r []) ++ ahead delivers p (pick c (Records ns (suc n) last above r) (record_judged p ns n last above r)) s
      go true e = refl
      go false e = run-next p r (whole-size held b h e) n last above s ∙ judged (records_good p 1 last above r)
  given-step (Counting ns zero) b s h = refl
  given-step (Counting ns (suc n)) b s h = refl
  given-step (Refused n) b s h = refl
  given-step (Accepted ns) b s h = refl

  pub delivered-ahead : (st : State) (s : List ℕ) → Sound p st → delivered p st s ≡ ahead delivers p st s
  unfolding delivered
  delivered-ahead st [] h = sym (given-end st h)
  delivered-ahead st (b ∷ s) h = ap (λ (t : List ℕ). given p st b ++ t) (delivered-ahead (step p st b) s (sound-step st b h)) ∙ sym (given-step st b s h)

-- ---- from the start, against the whole reader

pub same_answer : SameAnswer
unfolding ahead report_reading judge_entries report_of
same_answer p s =
    answer-ahead p start s (sound-start p)
    ∙ sym (free-is (answers p) p s (λ r. report_of (judge_entries p s r)) (λ refusal. refl) (λ ns at h. entries-whole p ns s at h) most_numbers 0 [] zero-le)

pub good-delivered : GoodDelivered
unfolding ahead good_in
good-delivered p s =
    delivered-ahead p start s (sound-start p)
    ∙ sym (free-is (delivers p) p s (good_in p s) (λ refusal. refl) (λ ns at h. refl) most_numbers 0 [] zero-le)
