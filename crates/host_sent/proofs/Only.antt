-- Only one: two results that meet the contract of an exported call, as its source states it, are equal, and so are the record and the lists that they leave.
-- Assumes nothing.
use mathlib.Core.Path.{refl, sym, ◌∙◌}
use Rattle.wire.proofs.Only.{OneBuffer}
use Rattle.host_sent.proofs.lumbixet_losses_open.Reads as losses-open
use Rattle.host_sent.proofs.lumbixet_losses_open.Kinds as losses-open-kinds
use Rattle.host_sent.proofs.lumbixet_losses_send.Reads as losses-send
use Rattle.host_sent.proofs.lumbixet_losses_send.Kinds as losses-send-kinds
use Rattle.host_sent.proofs.lumbixet_losses_heard.Reads as losses-heard
use Rattle.host_sent.proofs.lumbixet_losses_heard.Kinds as losses-heard-kinds

pub losses-open-one : OneBuffer 1 losses-open-kinds.ps losses-open-kinds.r (λ κs s. s.0.now) losses-open.Post
losses-open-one κs given x y s t p q = (refl, p ∙ sym q)

pub losses-send-one : OneBuffer 1 losses-send-kinds.ps losses-send-kinds.r (λ κs s. s.0.now) losses-send.Post
losses-send-one κs given x y s t p q = (p.0 ∙ sym q.0, p.1 ∙ sym q.1)

pub losses-heard-one-record : OneBuffer 4 losses-heard-kinds.ps losses-heard-kinds.r (λ κs s. s.0.now) losses-heard.Post
losses-heard-one-record κs given x y s t p q = (p.answers ∙ sym q.answers, p.leaves ∙ sym q.leaves)

pub losses-heard-one-acked : OneBuffer 4 losses-heard-kinds.ps losses-heard-kinds.r (λ κs s. s.1.1.0.now) losses-heard.Post
losses-heard-one-acked κs given x y s t p q = (p.answers ∙ sym q.answers, p.lists-acked ∙ sym q.lists-acked)

pub losses-heard-one-lost : OneBuffer 4 losses-heard-kinds.ps losses-heard-kinds.r (λ κs s. s.1.1.1.0.now) losses-heard.Post
losses-heard-one-lost κs given x y s t p q = (p.answers ∙ sym q.answers, p.lists-lost ∙ sym q.lists-lost)
