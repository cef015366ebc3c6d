-- What breaks the rule of a place: the tests of the definitions are the rows' conditions.
-- Assumes nothing.
use Prim.Native.Nat.{ℕ, ◌+◌, ◌-◌, ◌/◌, ◌%◌, ◌≤◌}
use mathlib.Core.Path.{◌≡◌, refl, sym, ap, ◌∙◌, subst}
use mathlib.Core.Logic.{◌⊎◌, inl, inr, ⊎_elim}
use mathlib.Core.Bool.{Bool, true, false}
use mathlib.Core.List.{List}
use native.Mathlib.Omega.{arith}
use borrow.Author.Tests.{lt-leb, le-ltb, eq-eqb, ne_eqb, leb-false, ltb-false, eqb-true, eqb-false}
use lib.Dec.{leb, eqb, ltb}
use lib.ListN.{length, get_or}
use Rattle.std.specs.Prelude.{Ok}
use Rattle.wire.specs.Bytes.{pick}
use Rattle.wire.specs.Refusals.{refusal_number}
use Rattle.wire.specs.declared.Refusal.TheVariants.{BrokenCount, OtherTotal}
use Rattle.wire.proofs.Lengths.{split}
use Rattle.entries.specs.Limits.{most_entries}
use Rattle.report.specs.Layout.{at_total, at_received, at_late, at_lost, at_metrics, fixed_numbers}
use Rattle.entries.specs.Profiles.{most_metrics, type_allowed}
use Rattle.entries.specs.declared.Profile.{Profile}
use Rattle.report.specs.Header.{unless, type_rises, judge_later, judge}
use Rattle.report.specs.Exactly.{SumBroken, CountBroken, Later, TypeBroken, EntriesBroken, PlaceJudged}
use Rattle.report.proofs.Rows.{Table, end, row, Row, one_of}

never : {A : Type 0} → false ≡ true → A
never e = let z : ◌≡◌ {A = ℕ} 0 1 = cc in absurd (omega arith)

module _ (p : Profile) (ns : List ℕ) (v : ℕ) where
  abbrev table : Table
  table = row 0 Unit (row 10 (CountBroken p ns v ⊎ (TypeBroken p ns v ⊎ EntriesBroken ns v)) (row 11 (SumBroken ns v) end))

  in_row : Row table (refusal_number (judge p ns v))
  unfolding judge judge_later
  in_row =
      go (eqb (length ns) at_lost) (eqb (get_or ns at_total 0) (get_or ns at_received 0 + get_or ns at_late 0 + v)) (eqb (length ns) at_metrics) (leb v (most_metrics p)) (ltb (length ns) fixed_numbers) (eqb (length ns % 2) 1)
      (eqb ((length ns - fixed_numbers) / 2) (get_or ns at_metrics 0)) (leb v most_entries) (type_allowed p v) (type_rises ns v) refl refl refl refl refl refl refl refl refl refl
    where
      go : (a b c d e f g h k t : Bool) → eqb (length ns) at_lost ≡ a → eqb (get_or ns at_total 0) (get_or ns at_received 0 + get_or ns at_late 0 + v) ≡ b → eqb (length ns) at_metrics ≡ c → leb v (most_metrics p) ≡ d
          → ltb (length ns) fixed_numbers ≡ e → eqb (length ns % 2) 1 ≡ f → eqb ((length ns - fixed_numbers) / 2) (get_or ns at_metrics 0) ≡ g → leb v most_entries ≡ h → type_allowed p v ≡ k → type_rises ns v ≡ t
          → Row table (refusal_number (pick a (unless OtherTotal b) (pick c (unless BrokenCount d) (pick e (Ok (tt {0})) (pick f (Ok (tt {0})) (pick g (unless BrokenCount h) (unless BrokenCount (pick k t false))))))))
      go true true c d e f g h k t pa pb pc pd pe pf pg ph pk pt = tt
      go true false c d e f g h k t pa pb pc pd pe pf pg ph pk pt =
          record { place = eqb-true (length ns) at_lost pa; differs = eqb-false (get_or ns at_total 0) (get_or ns at_received 0 + get_or ns at_late 0 + v) pb }
      go false b true true e f g h k t pa pb pc pd pe pf pg ph pk pt = tt
      go false b true false e f g h k t pa pb pc pd pe pf pg ph pk pt = inl (record { place = eqb-true (length ns) at_metrics pc; above = leb-false v (most_metrics p) pd })
      go false b false d true f g h k t pa pb pc pd pe pf pg ph pk pt = tt
      go false b false d false true g h k t pa pb pc pd pe pf pg ph pk pt = tt
      go false b false d false false true true k t pa pb pc pd pe pf pg ph pk pt = tt
      go false b false d false false true false k t pa pb pc pd pe pf pg ph pk pt =
          inr (inr (record { place = record { behind = ltb-false (length ns) fixed_numbers pe; even = eqb-false (length ns % 2) 1 pf }; last = eqb-true ((length ns - fixed_numbers) / 2) (get_or ns at_metrics 0) pg; above = leb-false v most_entries ph }))
      go false b false d false false false h true true pa pb pc pd pe pf pg ph pk pt = tt
      go false b false d false false false h true false pa pb pc pd pe pf pg ph pk pt =
          inr (inl (record { place = record { behind = ltb-false (length ns) fixed_numbers pe; even = eqb-false (length ns % 2) 1 pf }; metric = eqb-false ((length ns - fixed_numbers) / 2) (get_or ns at_metrics 0) pg; broken = λ q. never (sym pt ∙ q.1) }))
      go false b false d false false false h false t pa pb pc pd pe pf pg ph pk pt =
          inr (inl (record { place = record { behind = ltb-false (length ns) fixed_numbers pe; even = eqb-false (length ns % 2) 1 pf }; metric = eqb-false ((length ns - fixed_numbers) / 2) (get_or ns at_metrics 0) pg; broken = λ q. never (sym pk ∙ q.0) }))

  to-sum : SumBroken ns v → refusal_number (judge p ns v) ≡ 11
  unfolding judge
  to-sum x = rw (eq-eqb (length ns) at_lost x.place, ne_eqb (get_or ns at_total 0) (get_or ns at_received 0 + get_or ns at_late 0 + v) x.differs)

  to-count : CountBroken p ns v → refusal_number (judge p ns v) ≡ 10
  unfolding judge
  to-count x = rw (ne_eqb (length ns) at_lost (λ e. omega (arith, x.place)), eq-eqb (length ns) at_metrics x.place, lt-leb v (most_metrics p) x.above)

  later : Later ns → judge p ns v ≡ judge_later p ns v
  unfolding judge
  later x =
      rw (ne_eqb (length ns) at_lost (λ e. omega (arith, x.behind)), ne_eqb (length ns) at_metrics (λ e. omega (arith, x.behind)), le-ltb (length ns) fixed_numbers x.behind, ne_eqb (length ns % 2) 1 x.even)

  to_type : TypeBroken p ns v → refusal_number (judge p ns v) ≡ 10
  unfolding judge_later
  to_type x = ap refusal_number (later x.place) ∙ rw (ne_eqb ((length ns - fixed_numbers) / 2) (get_or ns at_metrics 0) x.metric) (go (type_allowed p v) (type_rises ns v) refl refl)
    where
      go : (k t : Bool) → type_allowed p v ≡ k → type_rises ns v ≡ t → refusal_number (unless BrokenCount (pick k t false)) ≡ 10
      go true true p q = absurd (x.broken (p, q))
      go true false p q = refl
      go false t p q = refl

  to-entries : EntriesBroken ns v → refusal_number (judge p ns v) ≡ 10
  unfolding judge_later
  to-entries x = ap refusal_number (later x.place) ∙ rw (eq-eqb ((length ns - fixed_numbers) / 2) (get_or ns at_metrics 0) x.last, lt-leb v most_entries x.above)

pub place-judged : PlaceJudged
place-judged p ns v = record {
  eleven = (λ e. subst (Row (table p ns v)) e (in_row p ns v), to-sum p ns v);
  ten = (λ e. subst (Row (table p ns v)) e (in_row p ns v), ⊎_elim (to-count p ns v) (⊎_elim (to_type p ns v) (to-entries p ns v)));
  others = one_of (table p ns v) (refusal_number (judge p ns v)) (in_row p ns v);
}

-- ---- what a number that brought no refusal obeys

module _ (p : Profile) (ns : List ℕ) (v : ℕ) (z : judge p ns v ≡ Ok tt) where
  pub metrics-small : length ns ≡ at_metrics → v ≤ most_metrics p
  metrics-small l = split v (most_metrics p) (λ h. h) (λ h. absurd (eqb-false 10 0 refl (sym (to-count p ns v (record { place = l; above = h })) ∙ ap refusal_number z)))

  pub entries-small : Later ns → (length ns - fixed_numbers) / 2 ≡ get_or ns at_metrics 0 → v ≤ most_entries
  entries-small l e = split v most_entries (λ h. h) (λ h. absurd (eqb-false 10 0 refl (sym (to-entries p ns v (record { place = l; last = e; above = h })) ∙ ap refusal_number z)))
