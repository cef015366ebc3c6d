-- `pieces::words::store` meets its contract: the words that say nothing become 0, and the first seven are set.
-- Assumes nothing.
use native.Mathlib.Omega.{arith}
use Rattle.pieces.proofs.Laying.{behind-laid, stored}
use Rattle.pieces.proofs.words.store.Goals as goal

pub returns : goal.returns
returns c =
    let a = c.args in
    let t = c.tidied-next in
    let l = c.all_of-end.ensures.1 in
    let e = rw c.all_of-end.ensures.0 at c.clear-2.ensures in
    stored a.profile t.result _ c.number_of.result a.state.now c.clear-2.new.state l (omega (arith, c.requires.0, t.ensures.1.0)) (omega (arith, c.requires.1, t.ensures.1.1)) (omega (arith, l, c.cut.ensures.long, c.clear.ensures.long, c.clear-2.ensures.long))
    (behind-laid a.state.now t.result.count t.result.carried l (omega (arith, c.requires.0, t.ensures.1.0)) (omega (arith, c.requires.1, t.ensures.1.1)) c.cut.new.state c.clear.new.state c.clear-2.new.state c.cut.ensures c.clear.ensures e) c.number_of.ensures (t.ensures.0 a.state.now)
