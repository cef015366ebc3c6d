-- `play::keep` meets its contract: the library's copy lays what stood from `from` on over the start.
-- Assumes nothing.
use native.Mathlib.Nat.{zero-add}
use Rattle.std.proofs.Common.{ℕ, ◌-◌, ◌≤◌, ◌≡◌, subst, arith, List, length, length-drop, take, drop}
use Rattle.std.specs.List.{copy_within}
use Rattle.std.proofs.lemmas.List.Edits.{take-paste, drop-paste}
use Rattle.play.proofs.keep.Goals as goal

-- the bytes that were moved, and those behind them
moved : (b : List ℕ) (from to : ℕ) → from ≤ to → to ≤ length b
    → (take (to - from) (copy_within b from to 0) ≡ take (to - from) (drop from b)) × (drop (to - from) (copy_within b from to 0) ≡ drop (to - from) b)
moved b from to h l =
    let m : to - from ≤ length (drop from b) = omega (arith, length-drop from b) in (
      subst (λ (k : ℕ). take k (copy_within b from to 0) ≡ take (to - from) (drop from b)) (zero-add (to - from)) (take-paste b 0 (drop from b) (to - from) (omega arith) m),
      subst (λ (k : ℕ). drop k (copy_within b from to 0) ≡ drop k b) (zero-add (to - from)) (drop-paste b 0 (drop from b) (to - from) (omega arith) m),
    )

pub returns : goal.returns
returns c = let a = c.args in rw c.copy_within.ensures.after (moved a.buf.now a.from a.to c.requires.0 c.requires.1)
