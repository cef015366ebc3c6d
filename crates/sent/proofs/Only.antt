-- Only one: two results that meet the contract of a public call, as its source states it, are equal, and so are the record and the lists that they leave.
-- Assumes nothing.
use mathlib.Core.Path.{refl, sym, ◌∙◌}
use Rattle.wire.proofs.Only.{OneAnswer, OneBuffer}
use Rattle.sent.proofs.calls.open.Reads as opening
use Rattle.sent.proofs.calls.open.Kinds as opening-kinds
use Rattle.sent.proofs.calls.send.Reads as send
use Rattle.sent.proofs.calls.send.Kinds as send-kinds
use Rattle.sent.proofs.hearing.heard.Reads as heard
use Rattle.sent.proofs.hearing.heard.Kinds as heard-kinds
use Rattle.sent.proofs.calls.SentFromRefusal.from.Reads as sent-from
use Rattle.sent.proofs.calls.SentFromRefusal.from.Kinds as sent-from-kinds
use Rattle.sent.proofs.hearing.ReplyFromRefusal.from.Reads as reply-from
use Rattle.sent.proofs.hearing.ReplyFromRefusal.from.Kinds as reply-from-kinds

pub open-one : OneBuffer 1 opening-kinds.ps opening-kinds.r (λ κs s. s.0.now) opening.Post
open-one κs given x y s t p q = (refl, p ∙ sym q)

pub send-one : OneBuffer 1 send-kinds.ps send-kinds.r (λ κs s. s.0.now) send.Post
send-one κs given x y s t p q = (p.0 ∙ sym q.0, p.1 ∙ sym q.1)

pub heard-one-record : OneBuffer 4 heard-kinds.ps heard-kinds.r (λ κs s. s.0.now) heard.Post
heard-one-record κs given x y s t p q = (p.answers ∙ sym q.answers, p.leaves ∙ sym q.leaves)

pub heard-one-acked : OneBuffer 4 heard-kinds.ps heard-kinds.r (λ κs s. s.1.1.0.now) heard.Post
heard-one-acked κs given x y s t p q = (p.answers ∙ sym q.answers, p.lists-acked ∙ sym q.lists-acked)

pub heard-one-lost : OneBuffer 4 heard-kinds.ps heard-kinds.r (λ κs s. s.1.1.1.0.now) heard.Post
heard-one-lost κs given x y s t p q = (p.answers ∙ sym q.answers, p.lists-lost ∙ sym q.lists-lost)

pub sent-from-one : OneAnswer 0 sent-from-kinds.ps sent-from-kinds.r sent-from.Post
sent-from-one κs given x y s t p q = p ∙ sym q

pub reply-from-one : OneAnswer 0 reply-from-kinds.ps reply-from-kinds.r reply-from.Post
reply-from-one κs given x y s t p q = p ∙ sym q
