-- `wire::several::length_of` meets its contract. The loop's invariant: what is counted and the numbers to come make the whole.
-- Assumes nothing.
use Prim.Native.Nat.{ℕ, ◌+◌, ◌≤◌, ◌<◌}
use mathlib.Core.List.{List, []}
use mathlib.Core.Path.{◌≡◌, sym, ◌∙◌}
use native.Mathlib.Omega.{arith}
use Rattle.std.proofs.lemmas.Result.{err_from_is_err_and}
use lib.ListN.{length, get_or, drop, drop_of_length-le, length-append}
use Rattle.std.specs.Prelude.{Ok}
use Rattle.wire.specs.Numbers.{limit, width_of, encode, encode_all, all_small, length_of}
use Rattle.wire.proofs.Lengths.{code-small, width-le}
use Rattle.wire.proofs.Writing.{encode-next, small-next, large-here, length-encode, large-length, bytes-length}
use Rattle.wire.proofs.several.length_of.Goals as goal

-- one number more
turn : (vs : List ℕ) (i total w : ℕ) → i < length vs → get_or vs i 0 ≤ limit → w ≡ width_of (get_or vs i 0)
    → total + length (encode_all (drop i vs)) ≡ length (encode_all vs)
    → total + w + length (encode_all (drop (i + 1) vs)) ≡ length (encode_all vs)
turn vs i total w h l e inv =
    let n : length (encode_all (drop i vs)) ≡ length (encode (get_or vs i 0)) + length (encode_all (drop (i + 1) vs)) =
    rw (encode-next vs i h) (simp length-append) in
    omega (arith, length-encode (get_or vs i 0) l)

-- none is left
done : (vs : List ℕ) (i total : ℕ) → length vs ≤ i → all_small (drop i vs) ≡ all_small vs
    → total + length (encode_all (drop i vs)) ≡ length (encode_all vs) → Ok total ≡ length_of vs
unfolding all_small encode_all
done vs i total h s inv =
    let d : drop i vs ≡ [] = drop_of_length-le vs h in
    bytes-length vs total (sym (rw d at s)) (omega (arith, rw d at inv))

pub returns-in_err-fit : goal.returns-in_err-fit
returns-in_err-fit c =
    let l = c.loop-value in
    let vs = c.args.values.now in
    let p = err_from_is_err_and c.from_residual.result c.from_residual.ensures.1 in
    rw (p.1, p.2, c.in_err-fit.ensures.0) (large-length vs (sym l.invariant.1 ∙ large-here vs l.value-index c.loop-value-test.true c.in_err-fit.ensures.1))

pub overflow_add-total : goal.overflow_add-total
overflow_add-total c = omega (arith, c.in_ok-fit.ensures, width-le (get_or c.args.values.now c.loop-value.value-index 0))

pub loop-value-preserved : goal.loop-value-preserved
loop-value-preserved c =
    let l = c.loop-value in
    let h = c.loop-value-test.true in
    let vs = c.args.values.now in
    let s : get_or vs l.value-index 0 ≤ limit = code-small _ (omega (arith, c.in_ok-fit.ensures)) in
    let w = c.in_ok-fit.ensures.2 in
    (omega (arith, width-le (get_or vs l.value-index 0)), sym (small-next vs l.value-index h s) ∙ l.invariant.1, turn vs l.value-index l.total _ h s w l.invariant.2)

pub returns : goal.returns
returns c =
    let l = c.loop-value in
    done _ l.value-index l.total c.loop-value-test.false l.invariant.1 l.invariant.2
