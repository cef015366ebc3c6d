-- `events::step` meets its contract: the line fits the room that there is.
-- Assumes nothing.
use Prim.Native.Nat.{◌+◌, ◌≤◌}
use mathlib.Core.Path.{◌≡◌, ap}
use native.Mathlib.Omega.{arith}
use borrow.Author.Rules.{rules}
use mir.Val.{Fits}
use mir.Syntax.{w64}
use lib.ListN.{length}
use Rattle.receiver.specs.declared.Answer.{Answer}
use Rattle.events.specs.Lines.{line_of}
use Rattle.events.proofs.Laid.{line-most}
use Rattle.events.proofs.Playing.{laid_done, laid-bytes}
use Rattle.events.proofs.pieces.step.Goals as goal
use Rattle.events.proofs.pieces.step.Goals.{After-put_line}

fitting : (c : After-put_line) → length (line_of c.args.index c.answer-answered.result) ≤ 63
fitting c =
    let i : Fits w64 c.args.index = search rules in
    let r : Fits w64 c.answer-answered.result.result = search rules in
    let k : Fits w64 c.answer-answered.result.next.cause = search rules in
    line-most _ _ _ i.fits r.fits k.fits

pub unwrap-at-requires : goal.unwrap-at-requires
unwrap-at-requires c =
    let f = fitting (goal.at.unwrap-at-requires c).After-put_line in
    rw (laid_done _ c.answer-answered.result _ _ f c.requires c.put_line.ensures.0)

pub returns : goal.returns
returns c =
    let e = c.answer-answered.ensures in
    let f = fitting (goal.at.returns c).After-put_line in
    let d = laid_done _ c.answer-answered.result _ _ f c.requires c.put_line.ensures.0 in
    let n : c.unwrap-at.result ≡ c.args.at + length (line_of c.args.index c.answer-answered.result) = cc (c.unwrap-at.ensures, d) in
    (ap (λ (a : Answer). a.next) e, rw (← e) n, rw (← e) (laid-bytes _ c.answer-answered.result _ _ f c.requires c.put_line.ensures.1), omega (arith, f))
