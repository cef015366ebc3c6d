-- `pieces::words::come` meets its contract: the numbers stand there one after the other.
-- Assumes nothing.
use borrow.Author.Rules.{rules}
use mathlib.Core.Path.{◌≡◌}
use native.Mathlib.Omega.{arith}
use Prim.Native.Nat.{◌+◌, ◌-◌}
use lib.ListN.{length}
use Rattle.pieces.proofs.Laying.{part-come}
use Rattle.pieces.proofs.words.come.Goals as goal

pub returns : goal.returns
returns c =
    let a = c.args in
    let l : length a.state.now ≡ 56 = search rules in
    let z : 7 + a.count - 7 ≡ a.count = omega arith in
    (rw z (part-come a.state.now a.count l (omega (arith, c.requires))), l)
