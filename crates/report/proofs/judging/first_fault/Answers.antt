-- `report::first_fault` meets its contract. The loop's invariant: the numbers to come, after those passed, have the fault of the whole.
-- Assumes nothing.
use borrow.Author.Rules.{rules}
use mathlib.Core.Path.{◌≡◌, refl, sym, ◌∙◌}
use mathlib.Core.Bool.{Bool, true, false}
use Prim.Native.Nat.{ℕ, ◌+◌, ◌%◌, ◌≤◌, ◌<◌, zero-le}
use mathlib.Core.List.{List, [], ◌∷◌}
use native.Mathlib.Numerals.{add-one}
use native.Mathlib.Omega.{arith}
use borrow.Author.Tests.{eq-eqb, ne_eqb, le-leb, lt-leb, le-ltb}
use lib.Dec.{eqb, leb}
use lib.ListN.{length, get_or, take, drop, drop_of_length-le}
use lib.Seq.{take-suc, drop-cons, length-take-le}
use Rattle.std.specs.Prelude.{Result, Ok, Err}
use Rattle.std.proofs.lemmas.Result.{err_from_is_err_and}
use Rattle.wire.specs.Bytes.{pick}
use Rattle.wire.specs.declared.Refusal.{Refusal}
use Rattle.wire.specs.declared.Refusal.TheVariants.{BrokenCount, OtherTotal}
use Rattle.wire.proofs.Lengths.{split}
use Rattle.entries.specs.Profiles.{most_metrics}
use Rattle.entries.specs.declared.Profile.{Profile}
use Rattle.report.specs.Header.{unless, heeding, judge, judge_later, fault_after, first_fault}
use Rattle.report.proofs.judging.first_fault.Goals as goal

-- ---- the first eight: the sum, then the metric count
eight : (p : Profile) (a b c d e f g h : ℕ) (vs : List ℕ) → first_fault p (a ∷ b ∷ c ∷ d ∷ e ∷ f ∷ g ∷ h ∷ vs)
    ≡ pick (eqb c (d + e + f)) (pick (leb h (most_metrics p)) (fault_after p (a ∷ b ∷ c ∷ d ∷ e ∷ f ∷ g ∷ h ∷ []) vs) (Err BrokenCount)) (Err OtherTotal)
unfolding fault_after judge
eight p a b c d e f g h vs = go (eqb c (d + e + f)) (leb h (most_metrics p))
  where
    go : (s m : Bool) → heeding (unless OtherTotal s) Err (heeding (unless BrokenCount m) Err (fault_after p (a ∷ b ∷ c ∷ d ∷ e ∷ f ∷ g ∷ h ∷ []) vs))
        ≡ pick s (pick m (fault_after p (a ∷ b ∷ c ∷ d ∷ e ∷ f ∷ g ∷ h ∷ []) vs) (Err BrokenCount)) (Err OtherTotal)
    go true true = refl
    go true false = refl
    go false m = refl

-- fewer than six bring none: the first that can is the sixth
few-first : (p : Profile) (ns : List ℕ) → length ns ≤ 5 → Ok tt ≡ first_fault p ns
unfolding fault_after judge
few-first p [] l = refl
few-first p (a ∷ []) l = refl
few-first p (a ∷ b ∷ []) l = refl
few-first p (a ∷ b ∷ c ∷ []) l = refl
few-first p (a ∷ b ∷ c ∷ d ∷ []) l = refl
few-first p (a ∷ b ∷ c ∷ d ∷ e ∷ []) l = refl
few-first p (a ∷ b ∷ c ∷ d ∷ e ∷ f ∷ vs) l = absurd (omega arith)

-- six or seven: the sum alone
sum_first : (p : Profile) (c d e f : ℕ) → ◌≡◌ {A = Result Unit Refusal} (heeding (unless OtherTotal (eqb c (d + e + f))) Err (Ok tt)) (pick (eqb c (d + e + f)) (pick (leb 0 (most_metrics p)) (Ok tt) (Err BrokenCount)) (Err OtherTotal))
sum_first p c d e f = go (eqb c (d + e + f)) (leb 0 (most_metrics p)) (le-leb 0 (most_metrics p) zero-le)
  where
    go : (s m : Bool) → m ≡ true → ◌≡◌ {A = Result Unit Refusal} (heeding (unless OtherTotal s) Err (Ok tt)) (pick s (pick m (Ok tt) (Err BrokenCount)) (Err OtherTotal))
    go true true t = refl
    go true false t = absurd (cc)
    go false m t = refl

fixed-first : (p : Profile) (ns : List ℕ) → 6 ≤ length ns
    → first_fault p ns ≡ pick (eqb (get_or ns 2 0) (get_or ns 3 0 + get_or ns 4 0 + get_or ns 5 0)) (pick (leb (get_or ns 7 0) (most_metrics p)) (fault_after p (take 8 ns) (drop 8 ns)) (Err BrokenCount)) (Err OtherTotal)
unfolding fault_after judge
fixed-first p (a ∷ b ∷ c ∷ d ∷ e ∷ f ∷ g ∷ h ∷ vs) l = eight p a b c d e f g h vs
fixed-first p (a ∷ b ∷ c ∷ d ∷ e ∷ f ∷ g ∷ []) l = sum_first p c d e f
fixed-first p (a ∷ b ∷ c ∷ d ∷ e ∷ f ∷ []) l = sum_first p c d e f
fixed-first p [] l = absurd (omega arith)
fixed-first p (a ∷ []) l = absurd (omega arith)
fixed-first p (a ∷ b ∷ []) l = absurd (omega arith)
fixed-first p (a ∷ b ∷ c ∷ []) l = absurd (omega arith)
fixed-first p (a ∷ b ∷ c ∷ d ∷ []) l = absurd (omega arith)
fixed-first p (a ∷ b ∷ c ∷ d ∷ e ∷ []) l = absurd (omega arith)

-- ---- those behind, two by two: a type or the entry count, and a value, which brings nothing

-- one number more
turn : (p : Profile) (ns : List ℕ) (i : ℕ) → i < length ns
    → fault_after p (take i ns) (drop i ns) ≡ heeding (judge p (take i ns) (get_or ns i 0)) Err (fault_after p (take (i + 1) ns) (drop (i + 1) ns))
unfolding fault_after
turn p ns i h = rw (add-one, drop-cons ns i 0, take-suc ns i 0)

done : (p : Profile) (ns : List ℕ) (i : ℕ) → length ns ≤ i → fault_after p (take i ns) (drop i ns) ≡ Ok tt
unfolding fault_after
done p ns i h = rw (drop_of_length-le ns h)

still-fixed : (ns : List ℕ) (i : ℕ) → 8 ≤ i → i < length ns → 8 ≤ length (take i ns)
still-fixed ns i b h = rw (length-take-le i ns (omega arith)) b

module _ (p : Profile) (ns : List ℕ) (i : ℕ) (b : 8 ≤ i) (h : i < length ns) where
  long : length (take i ns) ≡ i
  long = length-take-le i ns (omega arith)

  value : i % 2 ≡ 1 → judge p (take i ns) (get_or ns i 0) ≡ Ok tt
  unfolding judge
  value o = rw (long, ne_eqb i 5 (λ q. omega arith), ne_eqb i 7 (λ q. omega arith), le-ltb i 8 b, eq-eqb (i % 2) 1 o)

  type : i % 2 ≡ 0 → judge p (take i ns) (get_or ns i 0) ≡ judge_later p (take i ns) (get_or ns i 0)
  unfolding judge
  type o = rw (long, ne_eqb i 5 (λ q. omega arith), ne_eqb i 7 (λ q. omega arith), le-ltb i 8 b, ne_eqb (i % 2) 1 (λ q. omega arith))

pass-value : (p : Profile) (ns : List ℕ) (i : ℕ) → 8 ≤ i → i % 2 ≡ 1 → fault_after p (take i ns) (drop i ns) ≡ fault_after p (take (i + 1) ns) (drop (i + 1) ns)
pass-value p ns i b o =
    split (length ns) i
    (λ h. done p ns i h ∙ sym (done p ns (i + 1) (omega arith)))
    (λ h. rw (value p ns i b h o) at (turn p ns i h))

module _ (p : Profile) (ns : List ℕ) (i : ℕ) (r f : Result Unit Refusal) (b : 8 ≤ i) (o : i % 2 ≡ 0) (h : i < length ns) (e : r ≡ judge_later p (take i ns) (get_or ns i 0)) where
  is : judge p (take i ns) (get_or ns i 0) ≡ r
  is = type p ns i b h o ∙ sym e

  stop : {refusal : Refusal} → r ≡ Err refusal → fault_after p (take i ns) (drop i ns) ≡ f → Err refusal ≡ f
  stop n inv = rw (turn p ns i h, is, n) at inv

  more : r ≡ Ok tt → fault_after p (take i ns) (drop i ns) ≡ f → fault_after p (take (i + 2) ns) (drop (i + 2) ns) ≡ f
  more z inv =
      let q : fault_after p (take (i + 1) ns) (drop (i + 1) ns) ≡ f = rw (turn p ns i h, is, z) at inv in
      let v = pass-value p ns (i + 1) (omega arith) (omega arith) in
      let m : i + 1 + 1 ≡ i + 2 = omega arith in
      (rw m at (sym v)) ∙ q

-- what the code has found so far: the sum does not hold, there are too many metrics, or neither
module _ (p : Profile) (ns : List ℕ) (l : 6 ≤ length ns) (s : Bool) (e : s ≡ eqb (get_or ns 2 0) (get_or ns 3 0 + get_or ns 4 0 + get_or ns 5 0)) where
  sum-wrong : s ≡ false → Err OtherTotal ≡ first_fault p ns
  sum-wrong f = sym (fixed-first p ns l ∙ rw (← e, f))

  module _ (t : s ≡ true) (most : ℕ) (m : most ≡ most_metrics p) where
    too_many : most < get_or ns 7 0 → Err BrokenCount ≡ first_fault p ns
    too_many h = sym (fixed-first p ns l ∙ rw (← e, t, ← m, lt-leb (get_or ns 7 0) most h))

    goes_on : get_or ns 7 0 ≤ most → fault_after p (take 8 ns) (drop 8 ns) ≡ first_fault p ns
    goes_on h = sym (fixed-first p ns l ∙ rw (← e, t, ← m, le-leb (get_or ns 7 0) most h))

pub returns-then-numbers-le-AT_LOST : goal.returns-then-numbers-le-AT_LOST
returns-then-numbers-le-AT_LOST c =
    let a = c.args in
    few-first a.profile a.numbers.now c.if-numbers-le-AT_LOST.true

pub returns-then-not-adds_up : goal.returns-then-not-adds_up
returns-then-not-adds_up c =
    let a = c.args in
    sum-wrong a.profile a.numbers.now c.if-numbers-le-AT_LOST.false _ c.adds_up.ensures c.if-not-adds_up.true

pub returns-then-most-number_at : goal.returns-then-most-number_at
returns-then-most-number_at c =
    let a = c.args in
    too_many a.profile a.numbers.now c.if-numbers-le-AT_LOST.false _ c.adds_up.ensures c.if-not-adds_up.false _ c.most_metrics-most.ensures.0 (rw c.number_at.ensures at c.if-most-number_at.true)

pub loop-i-init : goal.loop-i-init
loop-i-init c =
    let a = c.args in
    (search rules, (refl, goes_on a.profile a.numbers.now c.if-numbers-le-AT_LOST.false _ c.adds_up.ensures c.if-not-adds_up.false _ c.most_metrics-most.ensures.0 (rw c.number_at.ensures at c.if-most-number_at.false)))

pub slice_bounds-judge_later-end : goal.slice_bounds-judge_later-end
slice_bounds-judge_later-end c = sym (length-take-le _ _ (search rules))

pub judge_later-requires : goal.judge_later-requires
judge_later-requires c = still-fixed _ _ c.loop-i.invariant.0 c.loop-i-test.true

pub returns-in_err-judge_later : goal.returns-in_err-judge_later
returns-in_err-judge_later c =
    let l = c.loop-i.invariant in
    let p = err_from_is_err_and c.from_residual.result c.from_residual.ensures.1 in
    rw (p.1, p.2) (stop _ _ _ _ _ l.0 l.1.0 c.loop-i-test.true c.judge_later.ensures c.in_err-judge_later.was l.1.1)

pub loop-i-preserved : goal.loop-i-preserved
loop-i-preserved c =
    let l = c.loop-i.invariant in
    (omega arith, (omega arith, more _ _ _ _ _ l.0 l.1.0 c.loop-i-test.true c.judge_later.ensures c.in_ok-judge_later.was l.1.1))

pub returns-else-most-number_at : goal.returns-else-most-number_at
returns-else-most-number_at c = sym (done _ _ _ c.loop-i-test.false) ∙ c.loop-i.invariant.1.1

-- fewer than two numbers are left behind this one
pub returns-in_ok-judge_later : goal.returns-in_ok-judge_later
returns-in_ok-judge_later c =
    let l = c.loop-i.invariant in
    sym (done _ _ (c.loop-i.i + 2) (omega (arith, c.if-i-end-i-gt2.false))) ∙ more _ _ _ _ _ l.0 l.1.0 c.loop-i-test.true c.judge_later.ensures c.in_ok-judge_later.was l.1.1
