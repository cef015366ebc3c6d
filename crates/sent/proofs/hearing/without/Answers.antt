-- `sent::hearing::without` meets its contract: the law of its bits.
-- Assumes nothing.
use borrow.Author.Rules.{rules}
use mir.Val.{Fits}
use mir.Syntax.{w64}
use Rattle.sent.proofs.Words.{without_is}
use Rattle.sent.proofs.hearing.without.Goals as goal

pub returns : goal.returns
returns c =
    let a : Fits w64 c.args.word = search rules in
    let b : Fits w64 c.args.other = search rules in
    without_is c.args.word c.args.other a.fits b.fits
