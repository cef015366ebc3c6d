-- Only one: two results that meet the contract of a public call, as its source states it, are equal, and so are the lent buffers that they leave.
-- Assumes nothing.
use mathlib.Core.Path.{sym, ◌∙◌}
use Rattle.wire.proofs.Only.{OneAnswer, OneBuffer}
use Rattle.receiver.proofs.Receiver.consistent.Reads as consistent
use Rattle.receiver.proofs.Receiver.consistent.Kinds as consistent-kinds
use Rattle.receiver.proofs.Receiver.open.Reads as opening
use Rattle.receiver.proofs.Receiver.open.Kinds as opening-kinds
use Rattle.receiver.proofs.Receiver.packet.Reads as packet
use Rattle.receiver.proofs.Receiver.packet.Kinds as packet-kinds
use Rattle.receiver.proofs.Receiver.timer.Reads as timer
use Rattle.receiver.proofs.Receiver.timer.Kinds as timer-kinds
use Rattle.receiver.proofs.Receiver.immediate.Reads as immediate
use Rattle.receiver.proofs.Receiver.immediate.Kinds as immediate-kinds
use Rattle.receiver.proofs.Receiver.threshold.Reads as threshold
use Rattle.receiver.proofs.Receiver.threshold.Kinds as threshold-kinds
use Rattle.receiver.proofs.Receiver.confirm.Reads as confirm
use Rattle.receiver.proofs.Receiver.confirm.Kinds as confirm-kinds
use Rattle.receiver.proofs.Receiver.write.Reads as write
use Rattle.receiver.proofs.Receiver.write.Kinds as write-kinds

pub consistent-one : OneAnswer 0 consistent-kinds.ps consistent-kinds.r consistent.Post
consistent-one κs given x y s t p q = p ∙ sym q

pub opening-one : OneAnswer 0 opening-kinds.ps opening-kinds.r opening.Post
opening-one κs given x y s t p q = p ∙ sym q

pub packet-one : OneAnswer 0 packet-kinds.ps packet-kinds.r packet.Post
packet-one κs given x y s t p q = p ∙ sym q

pub timer-one : OneAnswer 0 timer-kinds.ps timer-kinds.r timer.Post
timer-one κs given x y s t p q = p ∙ sym q

pub immediate-one : OneAnswer 0 immediate-kinds.ps immediate-kinds.r immediate.Post
immediate-one κs given x y s t p q = p ∙ sym q

pub threshold-one : OneAnswer 0 threshold-kinds.ps threshold-kinds.r threshold.Post
threshold-one κs given x y s t p q = p ∙ sym q

pub confirm-one : OneAnswer 0 confirm-kinds.ps confirm-kinds.r confirm.Post
confirm-one κs given x y s t p q = p ∙ sym q

pub write-one : OneBuffer 1 write-kinds.ps write-kinds.r (λ κs s. s.1.1.1.0.now) write.Post
write-one κs given x y s t p q = (p.0 ∙ sym q.0, p.1 ∙ sym q.1)
