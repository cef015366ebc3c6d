-- Only one: two results that meet the contract of an exported call, as its source states it, are equal, and so are the lent buffers that they leave.
-- Assumes nothing.
use mathlib.Core.Path.{sym, ◌∙◌}
use Rattle.wire.proofs.Only.{OneAnswer, OneBuffer}
use Rattle.host.proofs.calls.lumbixet_open.Reads as opening
use Rattle.host.proofs.calls.lumbixet_open.Kinds as opening-kinds
use Rattle.host.proofs.calls.lumbixet_packet.Reads as packet
use Rattle.host.proofs.calls.lumbixet_packet.Kinds as packet-kinds
use Rattle.host.proofs.calls.lumbixet_timer.Reads as timer
use Rattle.host.proofs.calls.lumbixet_timer.Kinds as timer-kinds
use Rattle.host.proofs.calls.lumbixet_threshold.Reads as threshold
use Rattle.host.proofs.calls.lumbixet_threshold.Kinds as threshold-kinds
use Rattle.host.proofs.calls.lumbixet_immediate.Reads as immediate
use Rattle.host.proofs.calls.lumbixet_immediate.Kinds as immediate-kinds
use Rattle.host.proofs.calls.lumbixet_confirm.Reads as confirm
use Rattle.host.proofs.calls.lumbixet_confirm.Kinds as confirm-kinds
use Rattle.host.proofs.calls.lumbixet_write.Reads as write
use Rattle.host.proofs.calls.lumbixet_write.Kinds as write-kinds

pub opening-one : OneAnswer 0 opening-kinds.ps opening-kinds.r opening.Post
opening-one κs given x y s t p q = p ∙ sym q

pub packet-one : OneAnswer 0 packet-kinds.ps packet-kinds.r packet.Post
packet-one κs given x y s t p q = p ∙ sym q

pub timer-one : OneAnswer 0 timer-kinds.ps timer-kinds.r timer.Post
timer-one κs given x y s t p q = p ∙ sym q

pub threshold-one : OneAnswer 0 threshold-kinds.ps threshold-kinds.r threshold.Post
threshold-one κs given x y s t p q = p ∙ sym q

pub immediate-one : OneAnswer 0 immediate-kinds.ps immediate-kinds.r immediate.Post
immediate-one κs given x y s t p q = p ∙ sym q

pub confirm-one : OneAnswer 0 confirm-kinds.ps confirm-kinds.r confirm.Post
confirm-one κs given x y s t p q = p ∙ sym q

pub write-one : OneBuffer 1 write-kinds.ps write-kinds.r (λ κs s. s.1.1.1.0.now) write.Post
write-one κs given x y s t p q = (p.0 ∙ sym q.0, p.1 ∙ sym q.1)
