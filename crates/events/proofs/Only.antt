-- Only one: two results that meet the contract of a public call, as its source states it, are equal, and so are the lent buffers that they leave.
-- Assumes nothing.
use mathlib.Core.Path.{sym, ◌∙◌}
use Rattle.wire.proofs.Only.{OneAnswer, OneBuffer}
use Rattle.events.proofs.opening.Reads as opening
use Rattle.events.proofs.opening.Kinds as opening-kinds
use Rattle.events.proofs.calls.read_event.Reads as read-event
use Rattle.events.proofs.calls.read_event.Kinds as read-event-kinds
use Rattle.events.proofs.calls.answer.Reads as answer
use Rattle.events.proofs.calls.answer.Kinds as answer-kinds
use Rattle.events.proofs.lines.put_line.Reads as put-line
use Rattle.events.proofs.lines.put_line.Kinds as put-line-kinds
use Rattle.events.proofs.pieces.piece.Reads as piece
use Rattle.events.proofs.pieces.piece.Kinds as piece-kinds

pub opening-one : OneAnswer 0 opening-kinds.ps opening-kinds.r opening.Post
opening-one κs given x y s t p q = p ∙ sym q

pub read-event-one : OneAnswer 1 read-event-kinds.ps read-event-kinds.r read-event.Post
read-event-one κs given x y s t p q = p ∙ sym q

pub answer-one : OneAnswer 1 answer-kinds.ps answer-kinds.r answer.Post
answer-one κs given x y s t p q = p ∙ sym q

pub put-line-one : OneBuffer 1 put-line-kinds.ps put-line-kinds.r (λ κs s. s.0.now) put-line.Post
put-line-one κs given x y s t p q = (p.0 ∙ sym q.0, p.1 ∙ sym q.1)

pub piece-one : OneBuffer 2 piece-kinds.ps piece-kinds.r (λ κs s. s.1.1.1.0.now) piece.Post
piece-one κs given x y s t p q = (p.0 ∙ sym q.0, p.1 ∙ sym q.1)
