-- `sent::hearing::either` meets its contract: the law of its bits.
-- Assumes nothing.
use borrow.Author.Rules.{rules}
use mir.Val.{Fits}
use mir.Syntax.{w64}
use Rattle.sent.proofs.Words.{either_is}
use Rattle.sent.proofs.hearing.either.Goals as goal

pub returns : goal.returns
returns c =
    let a : Fits w64 c.args.a = search rules in
    let b : Fits w64 c.args.b = search rules in
    either_is c.args.a c.args.b a.fits b.fits
