-- `words_down` meets its contract. The invariant: the words below `i` have moved, and the others are 0.
-- Assumes nothing.
use Rattle.window.proofs.Sixteen.{Sixteen, told}
use Rattle.window.proofs.Shift.{moving-all}
use Rattle.window.proofs.words_down.Goals as goal
use Rattle.window.proofs.words_down.Goals.{After-told_words}

known : (c : After-told_words) → Sixteen c.args.words.now
known c = told _ c.told_words.ensures

pub returns : goal.returns
returns c =
    let l = c in
    moving-all _ l.loop-i.next _ l.loop-i.i (known (goal.at.returns l).After-told_words) l.loop-i.invariant.1 c.loop-i-test.false
