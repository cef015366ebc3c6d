-- Only one: two results that meet the contract of the public function, as its source states it, are equal, and so are the lent buffers that they leave.
-- Assumes nothing.
use mathlib.Core.Path.{sym, ◌∙◌}
use Rattle.wire.proofs.Only.{OneBuffer}
use Rattle.call_log.proofs.noting.logged.Reads as logged
use Rattle.call_log.proofs.noting.logged.Kinds as logged-kinds

-- the answer and the line's buffer
pub logged-one : OneBuffer 2 logged-kinds.ps logged-kinds.r (λ κs s. s.1.1.1.1.0.now) logged.Post
logged-one κs given x y s t p q = (p.0 ∙ sym q.0, p.2 ∙ sym q.2)

-- the answer and the frame's buffer
pub logged-frame-one : OneBuffer 2 logged-kinds.ps logged-kinds.r (λ κs s. s.1.1.1.0.now) logged.Post
logged-frame-one κs given x y s t p q = (p.0 ∙ sym q.0, p.1 ∙ sym q.1)
