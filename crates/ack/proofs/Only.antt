-- Only one: two results that meet the contract of the public function, as its source states it, are equal, and so are the lent buffers that they leave.
-- Assumes nothing.
use mathlib.Core.Path.{sym, ◌∙◌}
use Rattle.wire.proofs.Only.{OneBuffer}
use Rattle.ack.proofs.write_ack.Reads as write-ack
use Rattle.ack.proofs.write_ack.Kinds as write-ack-kinds

pub write-ack-one : OneBuffer 1 write-ack-kinds.ps write-ack-kinds.r (λ κs s. s.1.1.1.0.now) write-ack.Post
write-ack-one κs given x y s t p q = (p.0 ∙ sym q.0, p.1 ∙ sym q.1)
