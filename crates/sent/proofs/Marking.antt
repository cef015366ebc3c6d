-- The marks of a frame's ranges: a range added to those marked, and the ranges after it.
-- Assumes nothing.
use Prim.Native.Nat.{ℕ, ◌+◌, ◌-◌, ◌≤◌, ◌<◌}
use mathlib.Core.Path.{◌≡◌, refl, sym, ap, ◌∙◌}
use mathlib.Core.Bool.{Bool, true, false, ◌||◌}
use mathlib.Core.List.{List, []}
use native.Mathlib.Omega.{arith}
use lib.ListN.{length, replicate}
use Rattle.frames.specs.Ack.{Ranges, before}
use Rattle.marks.specs.Marks.{mark, between, with_range}
use Rattle.sent.specs.Heard.{within}
use Rattle.marks.proofs.Ring.{or-none, between-same}
use Rattle.marks.proofs.Ranges.{range-marks}
use Rattle.sent.proofs.Agree.{no-mark}

assoc : (x y z : Bool) → ((x || y) || z) ≡ (x || (y || z))
assoc true y z = refl
assoc false y z = refl

-- what is marked, with the ranges r still to mark, is the whole w
pub Marked : List ℕ → ℕ → Ranges → (ℕ → Bool) → Type 0
Marked ws floor r w = (n : ℕ) → floor ≤ n → n < floor + 1024 → (mark ws n || within r.pairs n) ≡ w n

pub marked-none : (floor : ℕ) (r : Ranges) → Marked (replicate 16 0) floor r (within r.pairs)
unfolding Marked
marked-none floor r n h l = ap (λ (x : Bool). x || within r.pairs n) (no-mark n)

-- a range is added
module _ (ws now : List ℕ) (floor lo high from : ℕ) (sixteen : length ws ≡ 16) (most : high < floor + 1024) (start : from ≡ lo + (floor - lo)) (a : now ≡ with_range ws (high + 1 - from) from) (r : Ranges) (w : ℕ → Bool) (m : Marked ws floor r w) where
  added : (n : ℕ) → floor ≤ n → n < floor + 1024 → mark now n ≡ (mark ws n || between lo (high + 1) n)
  added n h l =
      ap (λ (ws : List ℕ). mark ws n) a ∙ range-marks ws from (high + 1) floor n sixteen (omega arith) (omega arith) h l
      ∙ ap (λ (x : Bool). mark ws n || x) (between-same from (high + 1) n lo (high + 1) n (λ p q. (omega arith, q)) (λ p q. (omega arith, q)))

  pub marked_more : {q : Ranges} → before lo high q ≡ r → Marked now floor q w
  unfolding Marked within
  marked_more {q} e n h l =
      ap (λ (x : Bool). x || within q.pairs n) (added n h l) ∙ assoc (mark ws n) (between lo (high + 1) n) (within q.pairs n)
      ∙ ap (λ (x : Ranges). mark ws n || within x.pairs n) e ∙ m n h l

  pub marked-last : {q : Ranges} → q.pairs ≡ [] → before lo high q ≡ r → (n : ℕ) → floor ≤ n → n < floor + 1024 → mark now n ≡ w n
  unfolding Marked within
  marked-last {q} z e n h l = sym (ap (λ (ps : List ℕ). mark now n || within ps n) z ∙ or-none (mark now n)) ∙ marked_more {q = q} e n h l
