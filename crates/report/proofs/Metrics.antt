-- The writer's judgement of a header, put as the rules of its sum and its metrics: one metric after the other, over their number.
-- Assumes nothing.
use Prim.Native.Nat.{ℕ, zero, suc, ◌+◌, ◌-◌, ◌*◌, ◌/◌, ◌%◌, ◌≤◌, ◌<◌, min, zero-le}
use mathlib.Core.Path.{◌≡◌, refl, sym, ap, ◌∙◌, subst}
use mathlib.Core.Logic.{◌⊎◌, inl, inr}
use mathlib.Core.Bool.{Bool, true, false}
use mathlib.Core.List.{List, [], ◌∷◌, ◌++◌, append_assoc}
use native.Mathlib.Nat.{zero-add, min-eq_left, le_refl}
use native.Mathlib.Omega.{arith}
use borrow.Author.Tests.{lt-ltb, le-ltb, eq-eqb, ne_eqb, leb-true, leb-false, ltb-true, eqb-true, eqb-false}
use lib.Dec.{leb, eqb, ltb}
use lib.ListN.{length, get_or, length-append, get_or-append}
use lib.Seq.{get_or-append-add}
use Rattle.std.specs.Prelude.{Result, Ok, Err}
use Rattle.wire.specs.Bytes.{pick}
use Rattle.wire.specs.Refusals.{refusal_number}
use Rattle.wire.specs.declared.Refusal.{Refusal}
use Rattle.wire.specs.declared.Refusal.TheVariants.{BrokenCount, OtherTotal}
use Rattle.wire.specs.Exactly.{OneOf}
use Rattle.wire.proofs.Lengths.{split}
use Rattle.report.specs.Layout.{at_lost, at_metrics, fixed_numbers}
use Rattle.entries.specs.Profiles.{most_metrics, type_allowed}
use Rattle.entries.specs.declared.Profile.{Profile}
use Rattle.report.specs.Average.{stored_of}
use Rattle.report.specs.Header.{unless, heeding, type_rises, judge, judge_later, fault_after, first_fault, pairs, numbers_of}
use Rattle.report.specs.Exactly.{SumHolds, MetricsObey}
use Rattle.report.specs.declared.Header.{Header}
use Rattle.report.proofs.Heeding.{not-refused, refused-as}
use Rattle.report.proofs.Following.{fault-first}
use Rattle.report.proofs.Places.{place-judged}

module _ (p : Profile) where
  -- from the ninth number on there is no 11
  pub later-range : (ns us : List ℕ) → fixed_numbers ≤ length ns → (fault_after p ns us ≡ Ok tt) ⊎ (fault_after p ns us ≡ Err BrokenCount)
  unfolding fault_after
  later-range ns [] h = inl refl
  later-range ns (v ∷ us) h =
      go (later-range (ns ++ (v ∷ [])) us (omega (arith, length-append ns (v ∷ [])))) (place-judged p ns v).others
    where
      go : (fault_after p (ns ++ (v ∷ [])) us ≡ Ok tt) ⊎ (fault_after p (ns ++ (v ∷ [])) us ≡ Err BrokenCount) → OneOf (refusal_number (judge p ns v)) (0 ∷ 10 ∷ 11 ∷ [])
          → (heeding (judge p ns v) Err (fault_after p (ns ++ (v ∷ [])) us) ≡ Ok tt) ⊎ (heeding (judge p ns v) Err (fault_after p (ns ++ (v ∷ [])) us) ≡ Err BrokenCount)
      go more (inl e) = rw (not-refused (judge p ns v) e) more
      go more (inr (inl e)) = inr (rw (refused-as (judge p ns v) BrokenCount e))
      go more (inr (inr (inl e))) = absurd (omega (arith, ((place-judged p ns v).eleven.0 e).place))
      go more (inr (inr (inr x))) = elim x [ ]

  -- ---- one metric: its type is judged, its value is not

  module _ (ks vs : List ℕ) where
    -- the metrics before i were read: their numbers, how many there are to be, and the last type
    record Before (ns : List ℕ) (i m : ℕ) : Type 0 where
      count : length ns ≡ fixed_numbers + 2 * i
      many : get_or ns at_metrics 0 ≡ m
      last : (j : ℕ) → suc j ≡ i → get_or ns (length ns - 2) 0 ≡ get_or ks j 0

    -- what metric i must obey
    record Obeyed (i : ℕ) : Type 0 where
      known : type_allowed p (get_or ks i 0) ≡ true
      rises : (j : ℕ) → suc j ≡ i → get_or ks j 0 < get_or ks i 0

    module _ (ns : List ℕ) (i m : ℕ) (b : Before ns i m) (h : i < m) where
      type-judged : (v : ℕ) → judge p ns v ≡ unless BrokenCount (pick (type_allowed p v) (type_rises ns v) false)
      unfolding judge judge_later
      type-judged v =
          rw (
            ne_eqb (length ns) at_lost (λ e. omega (arith, b.count)),
            ne_eqb (length ns) at_metrics (λ e. omega (arith, b.count)),
            le-ltb (length ns) fixed_numbers (omega (arith, b.count)),
            ne_eqb (length ns % 2) 1 (λ e. omega (arith, b.count)),
            ne_eqb ((length ns - fixed_numbers) / 2) (get_or ns at_metrics 0) (λ e. omega (arith, b.count, b.many)),
          )

      value-judged : (u v : ℕ) → judge p (ns ++ (u ∷ [])) v ≡ Ok tt
      unfolding judge
      value-judged u v =
          let l : length (ns ++ (u ∷ [])) ≡ fixed_numbers + 2 * i + 1 = rw length-append (omega (arith, b.count)) in
          rw (ne_eqb (length (ns ++ (u ∷ []))) at_lost (λ e. omega arith), ne_eqb (length (ns ++ (u ∷ []))) at_metrics (λ e. omega arith), le-ltb (length (ns ++ (u ∷ []))) fixed_numbers (omega arith), eq-eqb (length (ns ++ (u ∷ [])) % 2) 1 (omega arith))

      rises-first : i ≡ 0 → (v : ℕ) → type_rises ns v ≡ true
      rises-first z v = rw (eq-eqb (length ns) fixed_numbers (omega (arith, b.count)))

      rises-later : (j : ℕ) → suc j ≡ i → (v : ℕ) → type_rises ns v ≡ ltb (get_or ks j 0) v
      rises-later j e v = rw (ne_eqb (length ns) fixed_numbers (λ z. omega (arith, b.count)), b.last j e)

      good-type : judge p ns (get_or ks i 0) ≡ Ok tt → Obeyed i
      good-type e = go (type_allowed p (get_or ks i 0)) (type_rises ns (get_or ks i 0)) refl refl (sym (type-judged (get_or ks i 0)) ∙ e)
        where
          go : (a c : Bool) → type_allowed p (get_or ks i 0) ≡ a → type_rises ns (get_or ks i 0) ≡ c → unless BrokenCount (pick a c false) ≡ Ok tt → Obeyed i
          go true true p q e = record { known = p; rises = λ j f. ltb-true (get_or ks j 0) (get_or ks i 0) (sym (rises-later j f (get_or ks i 0)) ∙ q) }
          go true false p q e = absurd (cc)
          go false c p q e = absurd (cc)

      type-good : Obeyed i → judge p ns (get_or ks i 0) ≡ Ok tt
      type-good o = type-judged (get_or ks i 0) ∙ rw (o.known, rises i refl)
        where
          rises : (k : ℕ) → i ≡ k → type_rises ns (get_or ks i 0) ≡ true
          rises zero e = rises-first e (get_or ks i 0)
          rises (suc j) e = rises-later j (sym e) (get_or ks i 0) ∙ lt-ltb (get_or ks j 0) (get_or ks i 0) (o.rises j (sym e))

      next-before : (u v : ℕ) → u ≡ get_or ks i 0 → Before ((ns ++ (u ∷ [])) ++ (v ∷ [])) (suc i) m
      next-before u v e =
          let l : length ((ns ++ (u ∷ [])) ++ (v ∷ [])) ≡ length ns + 2 = simp length-append (omega arith) in
          let a : (ns ++ (u ∷ [])) ++ (v ∷ []) ≡ ns ++ (u ∷ v ∷ []) = append_assoc ns (u ∷ []) (v ∷ []) in
          record {
            count = omega (arith, b.count);
            many = rw a (get_or-append ns (u ∷ v ∷ []) 0 at_metrics (omega (arith, b.count)) ∙ b.many);
            last = λ j f. let n : length ((ns ++ (u ∷ [])) ++ (v ∷ [])) - 2 ≡ length ns + 0 = omega arith in
                let q : i ≡ j = omega arith in
                rw (n, a) (get_or-append-add ns (u ∷ v ∷ []) 0 0 ∙ e ∙ ap (λ (x : ℕ). get_or ks x 0) q);
          }

    -- ---- k metrics from the i-th on

    pairs-good : (k i m : ℕ) (ns : List ℕ) → Before ns i m → i + k ≡ m → fault_after p ns (pairs k i ks vs) ≡ Ok tt → (j : ℕ) → i ≤ j → j < m → Obeyed j
    unfolding pairs
    pairs-good zero i m ns b l e j a q = absurd (omega arith)
    pairs-good (suc k) i m ns b l e j a q =
        let f = fault-first p ns (get_or ks i 0) (get_or vs i 0 ∷ pairs k (suc i) ks vs) e in
        let g = fault-first p (ns ++ (get_or ks i 0 ∷ [])) (get_or vs i 0) (pairs k (suc i) ks vs) f.1 in
        split (suc i) j
        (λ h. pairs-good k (suc i) m ((ns ++ (get_or ks i 0 ∷ [])) ++ (get_or vs i 0 ∷ [])) (next-before ns i m b (omega arith) (get_or ks i 0) (get_or vs i 0) refl) (omega arith) g.1 j h q)
        (λ h. let z : i ≡ j = omega arith in subst Obeyed z (good-type ns i m b (omega arith) f.0))

    good-pairs : (k i m : ℕ) (ns : List ℕ) → Before ns i m → i + k ≡ m → ((j : ℕ) → j < m → Obeyed j) → fault_after p ns (pairs k i ks vs) ≡ Ok tt
    unfolding pairs fault_after
    good-pairs zero i m ns b l f = refl
    good-pairs (suc k) i m ns b l f =
        rw (type-good ns i m b (omega arith) (f i (omega arith)), value-judged ns i m b (omega arith) (get_or ks i 0) (get_or vs i 0))
        (good-pairs k (suc i) m ((ns ++ (get_or ks i 0 ∷ [])) ++ (get_or vs i 0 ∷ [])) (next-before ns i m b (omega arith) (get_or ks i 0) (get_or vs i 0) refl) (omega arith) f)

  -- ---- the whole header

  pub data Verdict (h : Header) : Result Unit Refusal → Type 0 where
    wrong-sum : (SumHolds h → ⊥) → Verdict h (Err OtherTotal)
    broken : SumHolds h → (MetricsObey p h → ⊥) → Verdict h (Err BrokenCount)
    right : SumHolds h → MetricsObey p h → Verdict h (Ok tt)

  module _ (h : Header) where
    abbrev fixed : List ℕ
    fixed = h.timestamp ∷ h.interval ∷ h.total ∷ h.received ∷ h.late ∷ h.lost ∷ stored_of h.average ∷ h.metrics ∷ []

    abbrev rest : Result Unit Refusal
    rest = fault_after p fixed (pairs (min h.metrics (most_metrics p)) 0 h.kinds h.values)

    header-fault : first_fault p (numbers_of p h) ≡ pick (eqb h.total (h.received + h.late + h.lost)) (pick (leb h.metrics (most_metrics p)) rest (Err BrokenCount)) (Err OtherTotal)
    unfolding numbers_of fault_after judge
    header-fault = go (eqb h.total (h.received + h.late + h.lost)) (leb h.metrics (most_metrics p)) rest
      where
        go : (b c : Bool) (r : Result Unit Refusal) → heeding (unless OtherTotal b) Err (heeding (unless BrokenCount c) Err r) ≡ pick b (pick c r (Err BrokenCount)) (Err OtherTotal)
        go true true r = refl
        go true false r = refl
        go false c r = refl

    start : Before h.kinds h.values fixed 0 h.metrics
    start = record { count = refl; many = refl; last = λ j e. absurd (omega arith) }

    obeyed : MetricsObey p h → (j : ℕ) → j < h.metrics → Obeyed h.kinds h.values j
    obeyed o j l = record { known = o.known j l; rises = λ i e. rises i j e l }
      where
        rises : (i j : ℕ) → suc i ≡ j → j < h.metrics → get_or h.kinds i 0 < get_or h.kinds j 0
        rises i j e l = subst (λ (x : ℕ). get_or h.kinds i 0 < get_or h.kinds x 0) e (o.rising i (omega arith))

    rest-right : MetricsObey p h → rest ≡ Ok tt
    rest-right o = rw (min-eq_left o.few) (good-pairs h.kinds h.values h.metrics 0 h.metrics fixed start (zero-add h.metrics) (obeyed o))

    right-rest : h.metrics ≤ most_metrics p → rest ≡ Ok tt → MetricsObey p h
    right-rest l e =
        let g : (j : ℕ) → j < h.metrics → Obeyed h.kinds h.values j =
        λ j q. pairs-good h.kinds h.values h.metrics 0 h.metrics fixed start (zero-add h.metrics) (rw (min-eq_left l) at e) j zero-le q in
        record { few = l; known = λ i q. (g i q).known; rising = λ i q. (g (suc i) q).rises i refl }

    pub verdict : Verdict h (first_fault p (numbers_of p h))
    verdict = subst (Verdict h) (sym header-fault) (go (eqb h.total (h.received + h.late + h.lost)) (leb h.metrics (most_metrics p)) refl refl)
      where
        refused-now : ◌≡◌ {A = Result Unit Refusal} (Ok tt) (Err BrokenCount) → ⊥
        refused-now e = absurd (cc)

        last : SumHolds h → h.metrics ≤ most_metrics p → (rest ≡ Ok tt) ⊎ (rest ≡ Err BrokenCount) → Verdict h rest
        last s l (inl e) = subst (Verdict h) (sym e) (right s (right-rest l e))
        last s l (inr e) = subst (Verdict h) (sym e) (broken s (λ o. refused-now (sym (rest-right o) ∙ e)))

        go : (b c : Bool) → eqb h.total (h.received + h.late + h.lost) ≡ b → leb h.metrics (most_metrics p) ≡ c → Verdict h (pick b (pick c rest (Err BrokenCount)) (Err OtherTotal))
        go true true t q = last (eqb-true h.total (h.received + h.late + h.lost) t) (leb-true h.metrics (most_metrics p) q) (later-range fixed (pairs (min h.metrics (most_metrics p)) 0 h.kinds h.values) (le_refl 8))
        go true false t q = broken (eqb-true h.total (h.received + h.late + h.lost) t) (λ o. omega (arith, o.few, leb-false h.metrics (most_metrics p) q))
        go false c t q = wrong-sum (eqb-false h.total (h.received + h.late + h.lost) t)
