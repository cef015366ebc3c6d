-- The refusal table for the report's writer, proved: every answer is one row's, and each row's condition leads to its number.
-- Assumes nothing.
use Prim.Native.Nat.{ℕ, ◌-◌, ◌/◌, ◌≤◌, ◌<◌}
use mathlib.Core.Path.{◌≡◌, refl, sym, ap, subst}
use mathlib.Core.Logic.{◌⊎◌, inl, inr, ⊎_elim}
use mathlib.Core.Bool.{Bool, true, false}
use mathlib.Core.List.{List, [], ◌∷◌}
use native.Mathlib.Omega.{arith}
use lib.ListN.{length}
use Rattle.std.specs.Prelude.{Result, Ok, Err}
use Rattle.wire.specs.Numbers.{encode_all, all_small, width_of}
use Rattle.wire.specs.Exactly.{OneOf, Small}
use Rattle.wire.specs.Refusals.{number_of, refusal_number}
use Rattle.wire.specs.declared.Refusal.{Refusal}
use Rattle.wire.specs.declared.Refusal.TheVariants.{BrokenCount, OtherTotal, BrokenEntry}
use Rattle.wire.proofs.Lengths.{split}
use Rattle.wire.proofs.Small.{all_small_lem, not-small}
use Rattle.entries.specs.Limits.{most_entries}
use Rattle.entries.specs.Profiles.{record_size}
use Rattle.entries.specs.declared.Profile.{Profile}
use Rattle.entries.specs.Entries.{entries_fault}
use Rattle.entries.specs.Fitting.{fitting_of}
use Rattle.entries.specs.Exactly.{Ragged, TooMany, BadRecord}
use Rattle.entries.proofs.Exactly.{fault-judged}
use Rattle.entries.proofs.Largest.{size_none}
use Rattle.report.specs.Header.{first_fault, numbers_of}
use Rattle.report.specs.Writer.{report_size, planned, write_answer, stored_as}
use Rattle.report.specs.Exactly.{SumHolds, MetricsObey, HeaderPasses, MaximumPasses, Passes, MetricsBroken, MaximumBroken, ReportWrites}
use Rattle.report.specs.declared.Header.{Header}
use Rattle.report.specs.declared.Written.{Written}
use Rattle.report.proofs.Heeding.{not-refused, refused-as}
use Rattle.report.proofs.Rows.{Table, end, row, Row, one_of}
use Rattle.report.proofs.Planning.{plan-large, plan-fault, plan-above, plan-broken, plan-room, plan-done}
use Rattle.report.proofs.Metrics.{Verdict, wrong-sum, broken, right, verdict}

-- ---- the faults of a header

sum-fault : (p : Profile) (h : Header) → (SumHolds h → ⊥) → first_fault p (numbers_of p h) ≡ Err OtherTotal
sum-fault p h n = go (first_fault p (numbers_of p h)) (verdict p h)
  where
    go : (x : Result Unit Refusal) → Verdict p h x → x ≡ Err OtherTotal
    go x (wrong-sum f) = refl
    go x (broken s f) = absurd (n s)
    go x (right s o) = absurd (n s)

metrics-fault : (p : Profile) (h : Header) → SumHolds h → (MetricsObey p h → ⊥) → first_fault p (numbers_of p h) ≡ Err BrokenCount
metrics-fault p h s n = go (first_fault p (numbers_of p h)) (verdict p h)
  where
    go : (x : Result Unit Refusal) → Verdict p h x → x ≡ Err BrokenCount
    go x (wrong-sum f) = absurd (f s)
    go x (broken s f) = refl
    go x (right s o) = absurd (n o)

no-fault : (p : Profile) (h : Header) → SumHolds h → MetricsObey p h → first_fault p (numbers_of p h) ≡ Ok tt
no-fault p h s o = go (first_fault p (numbers_of p h)) (verdict p h)
  where
    go : (x : Result Unit Refusal) → Verdict p h x → x ≡ Ok tt
    go x (wrong-sum f) = absurd (f s)
    go x (broken s f) = absurd (f o)
    go x (right s o) = refl

-- ---- the rows

module _ (p : Profile) (h : Header) (entries : List ℕ) (maximum room : ℕ) where
  abbrev ns : List ℕ
  ns = numbers_of p h

  abbrev least : ℕ
  least = report_size p (length (encode_all ns)) 0

  abbrev refusal : ℕ
  refusal = refusal_number (planned p ns entries maximum room)

  abbrev table : Table
  table =
      row 0 (Passes p h entries maximum × (least ≤ room))
      (row 5 (Small ns → ⊥)
      (row 9 (Passes p h entries maximum × (room < least))
      (row 10 (MetricsBroken p h ⊎ (MaximumBroken p h maximum ⊎ (MaximumPasses p h maximum × TooMany p entries)))
      (row 11 (Small ns × (SumHolds h → ⊥))
      (row 12 (MaximumPasses p h maximum × (Ragged p entries ⊎ BadRecord p entries)) end)))))

  -- ---- each row's condition leads to its number

  to-five : (Small ns → ⊥) → refusal ≡ 5
  to-five n = go (all_small ns) refl
    where
      go : (b : Bool) → all_small ns ≡ b → refusal ≡ 5
      go true e = absurd (n ((all_small_lem ns).0 e))
      go false e = ap refusal_number (sym (plan-large p ns entries maximum room e))

  to-fault : (x : Refusal) → Small ns → first_fault p ns ≡ Err x → refusal ≡ number_of x
  to-fault x s e = ap refusal_number (sym (plan-fault p ns entries maximum room ((all_small_lem ns).1 s) (sym e)))

  numbers-small : HeaderPasses p h → all_small ns ≡ true
  numbers-small ok = (all_small_lem ns).1 ok.small

  numbers-good : HeaderPasses p h → first_fault p ns ≡ Ok tt
  numbers-good ok = no-fault p h ok.sum ok.metrics

  to-above : MaximumBroken p h maximum → refusal ≡ 10
  to-above ok = ap refusal_number (sym (plan-above p ns entries maximum room (numbers-small ok.header) (numbers-good ok.header) ok.above))

  to-broken : (x : Refusal) → MaximumPasses p h maximum → refusal_number (entries_fault p entries) ≡ number_of x → refusal ≡ number_of x
  to-broken x ok e = ap refusal_number (sym (plan-broken p ns entries maximum room (numbers-small ok.header) (numbers-good ok.header) ok.within (sym (refused-as (entries_fault p entries) x e))))

  records-pass : Passes p h entries maximum → entries_fault p entries ≡ Ok tt
  records-pass ok = not-refused (entries_fault p entries) ((fault-judged p entries).accepted.1 ok.records)

  to-nine : Passes p h entries maximum × (room < least) → refusal ≡ 9
  to-nine q =
      let ok = q.0.front in
      ap refusal_number (sym (plan-room p ns entries maximum room (numbers-small ok.header) (numbers-good ok.header) ok.within (records-pass q.0) (omega (arith, q.1, size_none p))))

  to-done : Passes p h entries maximum × (least ≤ room) → refusal ≡ 0
  to-done q =
      let ok = q.0.front in
      let head : ℕ = length (encode_all ns) in
      let k : ℕ = fitting_of p (length entries / record_size p) maximum (room - head) in
      ap refusal_number (sym (plan-done p ns entries maximum room (numbers-small ok.header) (numbers-good ok.header) ok.within (records-pass q.0) head k (width_of k) refl (omega (arith, q.1, size_none p)) refl refl))

  -- ---- and every answer is in a row

  in_row : Row table refusal
  in_row = by (all_small ns) refl
    where
      fits : Passes p h entries maximum → Row table refusal
      fits ok = split least room (λ l. subst (Row table) (sym (to-done (ok, l))) (ok, l)) (λ l. subst (Row table) (sym (to-nine (ok, l))) (ok, l))

      records : MaximumPasses p h maximum → OneOf (refusal_number (entries_fault p entries)) (0 ∷ 10 ∷ 12 ∷ []) → Row table refusal
      records ok (inl e) = fits (record { front = ok; records = (fault-judged p entries).accepted.0 e })
      records ok (inr (inl e)) = subst (Row table) (sym (to-broken BrokenCount ok e)) (inr (inr (ok, (fault-judged p entries).ten.0 e)))
      records ok (inr (inr (inl e))) = subst (Row table) (sym (to-broken BrokenEntry ok e)) (ok, (fault-judged p entries).twelve.0 e)
      records ok (inr (inr (inr x3))) = elim x3 [ ]

      front : HeaderPasses p h → Row table refusal
      front ok =
          split maximum most_entries
          (λ l. records (record { header = ok; within = l }) (fault-judged p entries).others)
          (λ l. let b : MaximumBroken p h maximum = record { header = ok; above = l } in subst (Row table) (sym (to-above b)) (inr (inl b)))

      head : Small ns → (x : Result Unit Refusal) → Verdict p h x → Row table refusal
      head s x (wrong-sum f) = subst (Row table) (sym (to-fault OtherTotal s (sum-fault p h f))) (s, f)
      head s x (broken t f) = subst (Row table) (sym (to-fault BrokenCount s (metrics-fault p h t f))) (inl (record { small = s; sum = t; broken = f }))
      head s x (right t o) = front (record { small = s; sum = t; metrics = o })

      by : (b : Bool) → all_small ns ≡ b → Row table refusal
      by true e = head ((all_small_lem ns).0 e) (first_fault p ns) (verdict p h)
      by false e = subst (Row table) (sym (to-five (not-small ns e))) (not-small ns e)

pub report-writes : ReportWrites
report-writes p h entries maximum room =
    let n : ℕ = refusal_number (write_answer p h entries maximum room) in
    let found : (x : ℕ) → n ≡ x → Row (table p h entries maximum room) x = λ x e. subst (Row (table p h entries maximum room)) e (in_row p h entries maximum room) in
    let fault : (x : Refusal) → MaximumPasses p h maximum → refusal_number (entries_fault p entries) ≡ number_of x → n ≡ number_of x = to-broken p h entries maximum room in
    let faults = fault-judged p entries in
    record {
      five = (found 5, to-five p h entries maximum room);
      eleven = (found 11, λ q. to-fault p h entries maximum room OtherTotal q.0 (sum-fault p h q.1));
      ten = (
        found 10,
        ⊎_elim (λ q. to-fault p h entries maximum room BrokenCount q.small (metrics-fault p h q.sum q.broken))
            (⊎_elim (to-above p h entries maximum room) (λ q. fault BrokenCount q.0 (faults.ten.1 q.1))),
      );
      twelve = (found 12, λ q. fault BrokenEntry q.0 (faults.twelve.1 q.1));
      nine = (found 9, to-nine p h entries maximum room);
      accepted = (found 0, to-done p h entries maximum room);
      others = one_of (table p h entries maximum room) n (in_row p h entries maximum room);
    }

-- a refused write
pub unchanged : (p : Profile) (w : Result Written Refusal) (ns entries xs : List ℕ) → (refusal_number w ≡ 0 → ⊥) → stored_as p w ns entries xs ≡ xs
unfolding stored_as
unchanged p (Ok w) _ entries xs f = absurd (f refl)
unchanged p (Err _) _ entries xs f = refl
