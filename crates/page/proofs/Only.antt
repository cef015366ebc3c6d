-- Only one: two results that meet the contract of the public function, as its source states it, are equal, and so are the lent buffers that they leave.
-- Assumes nothing.
use mathlib.Core.Path.{sym, ◌∙◌}
use Rattle.wire.proofs.Only.{OneBuffer}
use Rattle.page.proofs.put_page.Reads as put-page
use Rattle.page.proofs.put_page.Kinds as put-page-kinds

pub put-page-one : OneBuffer 1 put-page-kinds.ps put-page-kinds.r (λ κs s. s.0.now) put-page.Post
put-page-one κs given x y s t p q = (p.0 ∙ sym q.0, p.1 ∙ sym q.1)
