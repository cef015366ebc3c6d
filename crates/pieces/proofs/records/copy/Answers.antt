-- `pieces::records::copy` meets its contract. The loop's invariant: what was passed is what was copied.
-- Assumes nothing.
use mathlib.Core.Path.{◌≡◌, refl, sym, ◌∙◌}
use Prim.Native.Nat.{ℕ, ◌+◌, ◌≤◌, ◌<◌}
use mathlib.Core.List.{List}
use native.Mathlib.Omega.{arith}
use native.Mathlib.Numerals.{add-one}
use lib.ListN.{length, get_or, take, set, length-set}
use lib.Seq.{take-suc, take-suc-set, take_all}
use Rattle.pieces.proofs.records.copy.Goals as goal

turn : (to from : List ℕ) (i : ℕ) → i < length to → i < length from → take i to ≡ take i from → take (i + 1) (set to i (get_or from i 0)) ≡ take (i + 1) from
turn to from i h l e = rw (add-one, take-suc-set to i (get_or from i 0) h, take-suc from i 0 l, e)

done : (to from : List ℕ) (i : ℕ) → length to ≡ length from → length from ≤ i → take i to ≡ take i from → to ≡ from
done to from i h l e = sym (take_all i to (omega arith)) ∙ e ∙ take_all i from l

pub loop-i-init : goal.loop-i-init
loop-i-init c = (refl, refl)

pub bounds-to-i : goal.bounds-to-i
bounds-to-i c = omega (arith, c.requires)

pub loop-i-preserved : goal.loop-i-preserved
loop-i-preserved c =
    let l = c.loop-i in
    (simp length-set l.invariant.0, turn l.to _ l.i (omega (arith, c.requires)) c.loop-i-test.true l.invariant.1)

pub returns : goal.returns
returns c = done _ _ _ (c.loop-i.invariant.0 ∙ c.requires) c.loop-i-test.false c.loop-i.invariant.1
