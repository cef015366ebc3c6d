-- `report::store` meets its contract: the records laid behind the numbers are one write of both.
-- Assumes nothing.
use mathlib.Core.Path.{◌≡◌}
use Prim.Native.Nat.{ℕ, ◌+◌, ◌-◌, ◌≤◌}
use mathlib.Core.List.{List, ◌++◌}
use native.Mathlib.Omega.{arith}
use lib.ListN.{length, take, drop}
use lib.Seq.{drop-drop}
use Rattle.wire.specs.Bytes.{splice}
use Rattle.wire.specs.Numbers.{encode_all}
use Rattle.wire.proofs.Bytes.{splice-splice}
use Rattle.report.proofs.writer.store.Goals as goal

laid : (xs ns rs ys zs : List ℕ) (at : ℕ) → at ≡ length (encode_all ns) → at + length rs ≤ length xs → ys ≡ splice xs 0 (encode_all ns) → zs ≡ rs
    → take at ys ++ (zs ++ drop (at + length rs - at) (drop at ys)) ≡ splice xs 0 (encode_all ns ++ rs)
laid xs ns rs ys zs at e h y q =
    let m : at + length rs - at ≡ length rs = omega arith in
    let f : at ≡ 0 + length (encode_all ns) = omega arith in
    rw (m, drop-drop, q, y, f) (splice-splice xs (encode_all ns) rs 0 (omega arith))

pub returns : goal.returns
returns c =
    let a = c.args in
    let p = c.requires in
    laid a.buf.now a.numbers.now a.records.now _ _ a.at p.1.0 p.1.1 c.store_numbers.ensures c.copy.ensures
