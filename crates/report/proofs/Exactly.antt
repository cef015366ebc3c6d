-- The refusal table for the report's reader, proved: every reading ends in one row, and each row's condition leads there.
-- Assumes nothing.
use Prim.Native.Nat.{ℕ, ◌+◌, ◌*◌, ◌≤◌}
use mathlib.Core.Path.{◌≡◌, refl, sym, ap, ◌∙◌, subst}
use mathlib.Core.Logic.{◌⊎◌, inl, inr, ⊎_elim}
use mathlib.Core.Bool.{Bool, true, false}
use mathlib.Core.List.{List, [], ◌∷◌}
use native.Mathlib.Omega.{arith}
use borrow.Author.Tests.{le-leb, lt-leb, eq-eqb, ne_eqb, leb-true, leb-false, eqb-true, eqb-false}
use lib.Arith.{lt_of_le-ne}
use lib.Dec.{leb, eqb}
use lib.ListN.{length}
use Rattle.wire.specs.Bytes.{pick}
use Rattle.wire.specs.Refusals.{number_of, refusal_number}
use Rattle.wire.specs.declared.Refusal.{Refusal}
use Rattle.wire.specs.declared.Refusal.TheVariants.{Ends, BrokenCount, OtherTotal, BrokenEntry, BytesRemain, LongerForm}
use Rattle.wire.specs.Exactly.{OneOf}
use Rattle.entries.specs.Profiles.{record_size}
use Rattle.entries.specs.declared.Profile.{Profile}
use Rattle.report.specs.Header.{judge, count_of}
use Rattle.entries.specs.Entries.{entries_good}
use Rattle.report.specs.Reader.{Reading, Whole, Stopped, read_numbers, part_of, judge_entries, report_reading, report_of, read_report}
use Rattle.report.specs.Exactly.{EndsInside, Longer, Faulty, TooFew, BadEntry, Behind, Sound, ReportReads}
use Rattle.report.proofs.Rows.{Table, end, row, Row, one_of}
use Rattle.report.proofs.Heeding.{number-some, refused-as}
use Rattle.report.proofs.Places.{place-judged}
use Rattle.report.proofs.Following.{End, inside, longer, fault, header, numbers-end, headed-whole, open-ends, open-longer, open-fault}

module _ (p : Profile) where
  -- ---- the row of each number

  abbrev table : List ℕ → Table
  table s =
      row 0 (Sound p s)
      (row 2 (EndsInside p s ⊎ TooFew p s)
      (row 10 (Faulty p 10 s)
      (row 11 (Faulty p 11 s)
      (row 12 (BadEntry p s)
      (row 13 (Behind p s)
      (row 15 (Longer p s) end))))))

  refusal_in : Reading → ℕ
  refusal_in (Whole ns at) = 0
  refusal_in (Stopped refusal) = number_of refusal

  refusal_is : (r : Reading) → (report_of r).refusal ≡ refusal_in r
  unfolding report_of refusal_in
  refusal_is (Whole ns at) = refl
  refusal_is (Stopped n) = refl

  -- every reading ends in a row
  in_row : (s : List ℕ) (r : Reading) → End p s r → Row (table s) (refusal_in (judge_entries p s r))
  unfolding refusal_in judge_entries
  in_row s (Stopped refusal) (inside x) = inl x
  in_row s (Stopped refusal) (longer x) = x
  in_row s (Stopped refusal) (fault f) = go (place-judged p f.ns f.v).others
    where
      go : OneOf (refusal_number (judge p f.ns f.v)) (0 ∷ 10 ∷ 11 ∷ []) → Row (table s) (number_of refusal)
      go (inl e) = absurd (number-some refusal (sym f.fault ∙ e))
      go (inr (inl e)) = let q : number_of refusal ≡ 10 = sym f.fault ∙ e in subst (Row (table s)) (sym q) (subst (λ (m : ℕ). Faulty p m s) q f)
      go (inr (inr (inl e))) = let q : number_of refusal ≡ 11 = sym f.fault ∙ e in subst (Row (table s)) (sym q) (subst (λ (m : ℕ). Faulty p m s) q f)
      go (inr (inr (inr x))) = elim x [ ]
  in_row s (Whole ns at) (header h) = go (leb end (length s)) (entries_good p (part_of p s ns at)) (eqb end (length s)) refl refl refl
    where
      end : ℕ
      end = at + record_size p * count_of ns

      go : (a b c : Bool) → leb (at + record_size p * count_of ns) (length s) ≡ a → entries_good p (part_of p s ns at) ≡ b → eqb (at + record_size p * count_of ns) (length s) ≡ c
          → Row (table s) (refusal_in (pick a (pick b (pick c (Whole ns at) (Stopped BytesRemain)) (Stopped BrokenEntry)) (Stopped Ends)))
      go true true true f q r = record { ns = ns; at = at; header = h; good = q; end = eqb-true (at + record_size p * count_of ns) (length s) r }
      go true true false f q r =
          let l : at + record_size p * count_of ns ≤ length s = leb-true (at + record_size p * count_of ns) (length s) f in
          record { ns = ns; at = at; header = h; good = q; remain = lt_of_le-ne l (eqb-false (at + record_size p * count_of ns) (length s) r) }
      go true false c f q r = record { ns = ns; at = at; header = h; there = leb-true (at + record_size p * count_of ns) (length s) f; bad = q }
      go false b c f q r = inr (record { ns = ns; at = at; header = h; few = leb-false (at + record_size p * count_of ns) (length s) f })

  -- ---- and each row's condition leads there

  module _ (s : List ℕ) where
    by : (r : Reading) → read_numbers p s ≡ r → (read_report p s).refusal ≡ refusal_in (judge_entries p s r)
    unfolding report_reading
    by r e = refusal_is (report_reading p s) ∙ ap (λ (x : Reading). refusal_in (judge_entries p s x)) e

    to_inside : EndsInside p s → (read_report p s).refusal ≡ 2
    unfolding refusal_in judge_entries
    to_inside x = by (Stopped Ends) (open-ends p s x.ns x.at x.far x.ends)

    to-longer : Longer p s → (read_report p s).refusal ≡ 15
    unfolding refusal_in judge_entries
    to-longer x = by (Stopped LongerForm) (open-longer p s x.ns x.at x.far x.v x.next x.reads)

    to-fault : (refusal : Refusal) → Faulty p (number_of refusal) s → (read_report p s).refusal ≡ number_of refusal
    unfolding refusal_in judge_entries
    to-fault refusal f = by (Stopped refusal) (open-fault p s f.ns f.at f.far f.v f.next refusal f.reads (refused-as (judge p f.ns f.v) refusal f.fault))

    to-few : TooFew p s → (read_report p s).refusal ≡ 2
    unfolding refusal_in judge_entries
    to-few x = by (Whole x.ns x.at) (headed-whole p s x.ns x.at x.header) ∙ rw (lt-leb (x.at + record_size p * count_of x.ns) (length s) x.few)

    to-bad : BadEntry p s → (read_report p s).refusal ≡ 12
    unfolding refusal_in judge_entries
    to-bad x = by (Whole x.ns x.at) (headed-whole p s x.ns x.at x.header) ∙ rw (le-leb (x.at + record_size p * count_of x.ns) (length s) x.there, x.bad)

    to-behind : Behind p s → (read_report p s).refusal ≡ 13
    unfolding refusal_in judge_entries
    to-behind x =
        let l : x.at + record_size p * count_of x.ns ≤ length s = omega (arith, x.remain) in
        by (Whole x.ns x.at) (headed-whole p s x.ns x.at x.header)
        ∙ rw (le-leb (x.at + record_size p * count_of x.ns) (length s) l, x.good, ne_eqb (x.at + record_size p * count_of x.ns) (length s) (λ e. omega (arith, x.remain)))

    pub sound-judged : (x : Sound p s) → report_reading p s ≡ Whole x.ns x.at
    unfolding report_reading judge_entries
    sound-judged x =
        let l : x.at + record_size p * count_of x.ns ≤ length s = omega (arith, x.end) in
        ap (judge_entries p s) (headed-whole p s x.ns x.at x.header)
        ∙ rw (le-leb (x.at + record_size p * count_of x.ns) (length s) l, x.good, eq-eqb (x.at + record_size p * count_of x.ns) (length s) x.end)

    to-sound : Sound p s → (read_report p s).refusal ≡ 0
    unfolding refusal_in
    to-sound x = refusal_is (report_reading p s) ∙ ap refusal_in (sound-judged x)

    at_row : (n : ℕ) → (read_report p s).refusal ≡ n → Row (table s) n
    at_row n e = subst (Row (table s)) (sym (by (read_numbers p s) refl) ∙ e) (in_row s (read_numbers p s) (numbers-end p s))

pub report-reads : ReportReads
report-reads p s = record {
  two = (λ e. at_row p s 2 e, ⊎_elim (to_inside p s) (to-few p s));
  ten = (λ e. at_row p s 10 e, to-fault p s BrokenCount);
  eleven = (λ e. at_row p s 11 e, to-fault p s OtherTotal);
  twelve = (λ e. at_row p s 12 e, to-bad p s);
  thirteen = (λ e. at_row p s 13 e, to-behind p s);
  fifteen = (λ e. at_row p s 15 e, to-longer p s);
  accepted = (λ e. at_row p s 0 e, to-sound p s);
  others = one_of (table p s) (read_report p s).refusal (at_row p s (read_report p s).refusal refl);
}
