-- The whole reader: how one number more, and each later judgement, carries the reading on or ends it.
-- Assumes nothing.
use Prim.Native.Nat.{ℕ, suc, ◌+◌, ◌-◌, ◌*◌, ◌≤◌, ◌<◌}
use mathlib.Core.Path.{◌≡◌, refl, sym, ap, ◌∙◌}
use mathlib.Core.Bool.{Bool, true, false}
use mathlib.Core.List.{List, [], ◌∷◌, ◌++◌}
use native.Mathlib.Numerals.{add-one}
use native.Mathlib.Omega.{arith}
use borrow.Author.Tests.{le-leb, lt-leb, eqb-true}
use lib.Dec.{leb, eqb}
use lib.ListN.{length, take, drop, set}
use lib.Seq.{take-suc-set, length-take-le}
use Rattle.std.specs.Prelude.{Result, Ok, Err}
use Rattle.wire.specs.Bytes.{pick}
use Rattle.wire.specs.Fields.{found, formed}
use Rattle.wire.specs.Numbers.{read_number}
use Rattle.wire.specs.declared.Refusal.{Refusal}
use Rattle.wire.specs.declared.Refusal.TheVariants.{Ends, BrokenEntry, BytesRemain}
use Rattle.entries.specs.Profiles.{record_size}
use Rattle.entries.specs.declared.Profile.{Profile}
use Rattle.report.specs.Limits.{most_numbers}
use Rattle.report.specs.Header.{unless, heeding, judge_field, wanted_of, count_of, header_of}
use Rattle.entries.specs.Entries.{entries_good}
use Rattle.report.specs.Reader.{Reading, Whole, Stopped, numbers_from, read_numbers, part_of, judge_entries, fault_behind, report_reading, report_of, read_report, entries_in, entries_of, reading_of}
use Rattle.report.specs.declared.NumbersRead.{NumbersRead}

-- ---- what the code's own answer holds

pub found-whole : (read : NumbersRead) → reading_of (Ok read) ≡ Whole (take read.count read.numbers) read.next
unfolding reading_of
found-whole read = refl

pub found-stopped : (refusal : Refusal) → reading_of (Err refusal) ≡ Stopped refusal
unfolding reading_of
found-stopped refusal = refl

module _ (p : Profile) where
  -- ---- the numbers so far are the first count of an array

  module _ (s numbers : List ℕ) (at count : ℕ) (R : Reading) (h : count < most_numbers) (l : length numbers ≡ most_numbers)
      (inv : numbers_from p (most_numbers - count) s at (take count numbers) ≡ R) where
    so_far : length (take count numbers) ≡ count
    so_far = length-take-le count numbers (omega arith)

    opened : pick (leb (wanted_of p (take count numbers)) count) (Whole (take count numbers) at)
        (formed (read_number s at) (Stopped Ends) (λ v next b.
        heeding (judge_field p (take count numbers) v b) Stopped (numbers_from p (most_numbers - (count + 1)) s next (take count numbers ++ (v ∷ []))))) ≡ R
    unfolding numbers_from
    opened = let e : most_numbers - count ≡ suc (most_numbers - (count + 1)) = omega arith in rw (e, so_far) at inv

    pub whole-now : wanted_of p (take count numbers) ≤ count → Whole (take count numbers) at ≡ R
    whole-now w = rw (le-leb (wanted_of p (take count numbers)) count w) at opened

    going : count < wanted_of p (take count numbers) → formed (read_number s at) (Stopped Ends) (λ v next b.
        heeding (judge_field p (take count numbers) v b) Stopped (numbers_from p (most_numbers - (count + 1)) s next (take count numbers ++ (v ∷ [])))) ≡ R
    going w = rw (lt-leb (wanted_of p (take count numbers)) count w) at opened

    pub ends_now : count < wanted_of p (take count numbers) → {refusal : Refusal} → read_number s at ≡ Err refusal → Stopped Ends ≡ R
    ends_now w e = rw e at (going w)

    module _ (v next : ℕ) (r : Result Unit Refusal) (b : Bool) (w : count < wanted_of p (take count numbers)) (e : read_number s at ≡ found v next b) (j : r ≡ judge_field p (take count numbers) v b) where
      pub refused-now : {refusal : Refusal} → r ≡ Err refusal → Stopped refusal ≡ R
      refused-now n = rw (e, ← j, n) at (going w)

      pub more-now : r ≡ Ok tt → numbers_from p (most_numbers - (count + 1)) s next (take (count + 1) (set numbers count v)) ≡ R
      more-now z =
          let g : numbers_from p (most_numbers - (count + 1)) s next (take count numbers ++ (v ∷ [])) ≡ R = rw (e, ← j, z) at (going w) in
          ap (numbers_from p (most_numbers - (count + 1)) s next) (ap (λ (n : ℕ). take n (set numbers count v)) (add-one count) ∙ take-suc-set numbers count v (omega arith)) ∙ g

  pub full-now : (s numbers : List ℕ) (at count : ℕ) (R : Reading) → most_numbers ≤ count → numbers_from p (most_numbers - count) s at (take count numbers) ≡ R → Whole (take count numbers) at ≡ R
  unfolding numbers_from
  full-now s numbers at count R h inv = let e : most_numbers - count ≡ 0 = omega arith in rw e at inv

  -- ---- after the numbers

  -- the definition's judgement of the entries by the answer that the code asks for
  judged-by : (s ns : List ℕ) (at : ℕ) → judge_entries p s (Whole ns at) ≡ heeding (fault_behind p s at (count_of ns)) Stopped (Whole ns at)
  unfolding judge_entries
  judged-by s ns at = go (leb (at + record_size p * count_of ns) (length s)) (entries_good p (part_of p s ns at)) (eqb (at + record_size p * count_of ns) (length s))
    where
      behind : Bool → Bool → Bool → Result Unit Refusal
      behind a b c = pick a (pick b (unless BytesRemain c) (Err BrokenEntry)) (Err Ends)

      go : (a b c : Bool) → pick a (pick b (pick c (Whole ns at) (Stopped BytesRemain)) (Stopped BrokenEntry)) (Stopped Ends) ≡ heeding (behind a b c) Stopped (Whole ns at)
      go true true true = refl
      go true true false = refl
      go true false c = refl
      go false b c = refl

  -- the numbers were refused
  pub stopped-judged : (s : List ℕ) (refusal : Refusal) → reading_of (Err refusal) ≡ read_numbers p s → Stopped refusal ≡ report_reading p s
  unfolding report_reading judge_entries
  stopped-judged s refusal e = ap (judge_entries p s) (sym (found-stopped refusal) ∙ e)

  -- they were not: r is what the code has of what comes behind them
  module _ (s : List ℕ) (read : NumbersRead) (e : reading_of (Ok read) ≡ read_numbers p s) (k : ℕ) (r : Result Unit Refusal) (c : k ≡ count_of (take read.count read.numbers))
      (j : r ≡ fault_behind p s read.next k) where
    after : report_reading p s ≡ heeding r Stopped (Whole (take read.count read.numbers) read.next)
    unfolding report_reading
    after = ap (judge_entries p s) (sym e ∙ found-whole read) ∙ rw (j, c) (judged-by s (take read.count read.numbers) read.next)

    pub refused-behind : {refusal : Refusal} → r ≡ Err refusal → Stopped refusal ≡ report_reading p s
    refused-behind n = rw n at (sym after)

    pub whole-behind : r ≡ Ok tt → Whole (take read.count read.numbers) read.next ≡ report_reading p s
    whole-behind n = rw n at (sym after)

  -- ---- what reader and companion answer

  pub report-stopped : (s : List ℕ) (refusal : Refusal) → Stopped refusal ≡ report_reading p s → report_of (Stopped refusal) ≡ read_report p s
  report-stopped s refusal e = ap report_of e

  pub report-whole : (s ns : List ℕ) (at : ℕ) → Whole ns at ≡ report_reading p s → record { refusal = 0; header = header_of ns } ≡ read_report p s
  unfolding report_of
  report-whole s ns at e = ap report_of e

  pub none-stopped : (s : List ℕ) (refusal : Refusal) → Stopped refusal ≡ report_reading p s → [] ≡ entries_of p s
  unfolding entries_in
  none-stopped s refusal e = ap (entries_in p s) e

  -- what an accepted report says
  pub record Judged (s ns : List ℕ) (at : ℕ) : Type 0 where
    pub numbers : read_numbers p s ≡ Whole ns at
    pub good : entries_good p (part_of p s ns at) ≡ true
    pub end : at + record_size p * count_of ns ≡ length s

  pub judged-whole : (s ns : List ℕ) (at : ℕ) → Whole ns at ≡ report_reading p s → Judged s ns at
  unfolding report_reading judge_entries
  judged-whole s ns at e = by (read_numbers p s) refl e
    where
      by : (r : Reading) → read_numbers p s ≡ r → Whole ns at ≡ judge_entries p s r → Judged s ns at
      by (Stopped refusal) f e = absurd (cc)
      by (Whole ms to) f e = go (leb (to + record_size p * count_of ms) (length s)) (entries_good p (part_of p s ms to)) (eqb (to + record_size p * count_of ms) (length s)) refl refl e
        where
          go : (a b c : Bool) → entries_good p (part_of p s ms to) ≡ b → eqb (to + record_size p * count_of ms) (length s) ≡ c → Whole ns at ≡ pick a (pick b (pick c (Whole ms to) (Stopped BytesRemain)) (Stopped BrokenEntry)) (Stopped Ends) → Judged s ns at
          go true true true g t e =
              let n : ns ≡ ms = cc in
              let q : at ≡ to = cc in
              record { numbers = f ∙ sym e; good = rw (n, q) g; end = rw (n, q) (eqb-true (to + record_size p * count_of ms) (length s) t) }
          go true true false g t e = absurd (cc)
          go true false c g t e = absurd (cc)
          go false b c g t e = absurd (cc)

  pub part-whole : (s ns : List ℕ) (at : ℕ) → Whole ns at ≡ report_reading p s → take (length s - at) (drop at s) ≡ entries_of p s
  unfolding entries_in
  part-whole s ns at w =
      let l = (judged-whole s ns at w).end in
      let m : length s - at ≡ record_size p * count_of ns = omega arith in
      rw m (ap (entries_in p s) w)
