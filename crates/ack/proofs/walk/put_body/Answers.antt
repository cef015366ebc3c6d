-- `ack::walk::put_body` meets its contract: what the first walk stored is the frame, or the second is laid over it.
-- Assumes nothing.
use Prim.Native.Nat.{ℕ}
use mathlib.Core.Path.{◌≡◌, refl, ◌∙◌}
use mathlib.Core.Logic.{inl, inr}
use native.Mathlib.Omega.{arith}
use Rattle.seen.proofs.Tests.{by-test}
use Rattle.ack.proofs.walk.put_body.Goals as goal

pub put_frame-short-requires : goal.put_frame-short-requires
put_frame-short-requires c = let p = c.requires in (p.0, p.1, p.2, p.3, p.4, p.5, inl refl)

pub put_frame-wide-requires : goal.put_frame-wide-requires
put_frame-wide-requires c =
    let p = c.requires in
    (p.0, p.1, p.2, omega (arith, p.3, c.put_frame-short.auto.buf), p.4, p.5, inr (refl, (c.put_frame-short.ensures.1 c.if-short.true).1))

pub returns-then-short : goal.returns-then-short
returns-then-short c =
    by-test c.put_frame-wide.result.over
    (λ t. absurd (let z : ◌≡◌ {A = ℕ} 16383 63 = (c.put_frame-wide.ensures.1 t).0 in omega arith))
    (λ t. let r = c.put_frame-wide.ensures.0 t in (r.0, r.1 ∙ (c.put_frame-short.ensures.1 c.if-short.true).2))

pub returns : goal.returns
returns c = c.put_frame-short.ensures.0 c.if-short.false
