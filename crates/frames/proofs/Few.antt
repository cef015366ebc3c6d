-- A walk that stores ranges as it goes, and the copy of few of them.
-- Assumes nothing.
use Prim.Native.Nat.{ℕ, ◌+◌, ◌-◌, ◌*◌, ◌≤◌, ◌<◌}
use mathlib.Core.Path.{◌≡◌, sym, ap, ◌∙◌}
use mathlib.Core.List.{List}
use native.Mathlib.Omega.{arith}
use lib.ListN.{length, set, take, drop}
use lib.Seq.{take_at}
use Rattle.std.specs.Prelude.{Result}
use Rattle.wire.specs.Bytes.{splice}
use Rattle.wire.specs.declared.Refusal.{Refusal}
use Rattle.frames.specs.Ack.{Ranges, before, ranges_from, step, read_range, IsWhole, Filled}
use Rattle.frames.specs.declared.Range.{Range}
use Rattle.frames.proofs.Ranges.{wrote-range}
use Rattle.frames.proofs.Steps.{step-more}
use Rattle.frames.proofs.Lent.{whole_length}

-- ---- the walk: of count ranges, passed are passed

all_left : (count : ℕ) → count - 0 ≡ count
all_left count = omega arith

pub walk-begun : (count : ℕ) (s : List ℕ) (at largest : ℕ) → (ranges_from (count - 0) s at largest).walk ≡ (ranges_from count s at largest).walk
walk-begun count s at largest = ap (λ (k : ℕ). (ranges_from k s at largest).walk) (all_left count)

pub fill-begun : (xs : List ℕ) (count : ℕ) (s : List ℕ) (at largest : ℕ) → splice xs 0 (ranges_from (count - 0) s at largest).pairs ≡ splice xs 0 (ranges_from count s at largest).pairs
fill-begun xs count s at largest = ap (λ (k : ℕ). splice xs 0 (ranges_from k s at largest).pairs) (all_left count)

pub stepped : (count passed : ℕ) (s : List ℕ) (at high : ℕ) {r : Result Range Refusal} {lo lower next : ℕ} → r ≡ read_range (count - passed) s at high → r ≡ step lo lower next → passed ≤ count → (passed ≡ count → ⊥)
    → before lo high (ranges_from (count - (passed + 1)) s next lower) ≡ ranges_from (count - passed) s at high
stepped count passed s at high {r} {lo} {lower} {next} e t h n =
    let k : count - passed - 1 ≡ count - (passed + 1) = omega arith in
    ap (λ (m : ℕ). before lo high (ranges_from m s next lower)) (sym k) ∙ step-more (count - passed) s at high e t (omega (arith, h, n))

-- zs is xs with a range stored at i, and j the place after it
pub wrote_so : (xs : List ℕ) (i : ℕ) {r : Ranges} {ys : List ℕ} → splice xs i r.pairs ≡ ys → {a b : ℕ} {q : Ranges} → before a b q ≡ r → i + 2 ≤ length xs
    → {zs : List ℕ} {j : ℕ} → j ≡ i + 2 → zs ≡ set (set xs i a) (i + 1) b → splice zs j q.pairs ≡ ys
wrote_so xs i w e h f g = rw (f, g) (wrote-range xs i w e h)

-- ---- what the first walk kept: the ranges of a frame that has few

pub kept-few : (s : List ℕ) (at largest count : ℕ) → IsWhole (ranges_from count s at largest).walk → (xs ys : List ℕ) → Filled count s at largest xs ys
    → length xs ≡ 16 → count < 8 → take (2 * (count + 1)) ys ≡ (ranges_from count s at largest).pairs
kept-few s at largest count w xs ys f l h =
    let ps : List ℕ = (ranges_from count s at largest).pairs in
    let d : ys ≡ splice xs 0 ps = f w (omega (arith, l, h)) in
    ap (take (2 * (count + 1))) d ∙ take_at ps (drop (0 + length ps) xs) (2 * (count + 1)) (whole_length count s at largest w)
