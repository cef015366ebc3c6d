-- `sent::calls::cleared` meets its contract: the mark's own part of the word is no more than the word.
-- Assumes nothing.
use borrow.Author.Rules.{rules}
use mir.Val.{Fits}
use mir.Syntax.{w64}
use Rattle.sent.proofs.Sends.{part-cleared}
use Rattle.sent.proofs.calls.cleared.Goals as goal

pub returns : goal.returns
returns c =
    let w : Fits w64 c.args.word = search rules in
    part-cleared c.args.word c.args.k w.fits
