-- Numbers of one or two bytes: their bytes, and what storing these leaves.
-- Assumes nothing.
use Prim.Native.Nat.{ℕ, ◌+◌, ◌*◌, ◌/◌, ◌%◌, ◌≤◌, ◌<◌}
use mathlib.Core.Path.{◌≡◌, sym, ap, ◌∙◌}
use mathlib.Core.List.{List, [], ◌∷◌}
use native.Mathlib.Numerals.{add-one}
use native.Mathlib.Omega.{arith}
use borrow.Author.Tests.{le-leb, lt-leb}
use lib.ListN.{length, set, length-set}
use lib.Seq.{set_split}
use Rattle.wire.specs.Bytes.{splice}
use Rattle.wire.specs.Numbers.{code_of, first_from, width_of, form, encode}
use Rattle.wire.proofs.Bytes.{splice-splice}

pub one_code : (v : ℕ) → v < 64 → code_of v ≡ 0
unfolding first_from
one_code v h = rw (le-leb v 63 (omega arith))

pub two-code : (v : ℕ) → 64 ≤ v → v < 16384 → code_of v ≡ 1
unfolding first_from
two-code v h l = rw (lt-leb v 63 (omega arith), le-leb v 16383 (omega arith))

pub one_width : (v : ℕ) → v < 64 → width_of v ≡ 1
unfolding width_of
one_width v h = rw (one_code v h)

pub two-width : (v : ℕ) → 64 ≤ v → v < 16384 → width_of v ≡ 2
unfolding width_of
two-width v h l = rw (two-code v h l)

one_byte : (v : ℕ) → v < 64 → encode v ≡ v ∷ []
unfolding encode form
one_byte v h =
    let e : (0 * 64 + v) % 256 ≡ v = omega arith in
    rw (one_code v h, e)

two_bytes : (v : ℕ) → 64 ≤ v → v < 16384 → encode v ≡ (64 + v / 256) ∷ (v % 256) ∷ []
unfolding encode form
two_bytes v h l =
    let e : (1 * 16384 + v) / 256 % 256 ≡ 64 + v / 256 = omega arith in
    let f : (1 * 16384 + v) % 256 ≡ v % 256 = omega arith in
    rw (two-code v h l, e, f)

set-splice : (xs : List ℕ) (at b : ℕ) → at < length xs → set xs at b ≡ splice xs at (b ∷ [])
set-splice xs at b h = set_split xs at b h ∙ rw add-one

pub one-put : (xs : List ℕ) (at v : ℕ) → v < 64 → at < length xs → (at + 1 ≡ at + width_of v) × (set xs at v ≡ splice xs at (encode v))
one-put xs at v h l = (omega (arith, one_width v h), set-splice xs at v l ∙ ap (splice xs at) (sym (one_byte v h)))

pub two-put : (xs : List ℕ) (at v : ℕ) → 64 ≤ v → v < 16384 → at + 1 < length xs
    → (at + 2 ≡ at + width_of v) × (set (set xs at (64 + v / 256)) (at + 1) (v % 256) ≡ splice xs at (encode v))
two-put xs at v h l r =
    let n = length-set xs at (64 + v / 256) in (
      omega (arith, two-width v h l),
      set-splice (set xs at (64 + v / 256)) (at + 1) (v % 256) (omega arith)
          ∙ ap (λ (ys : List ℕ). splice ys (at + 1) (v % 256 ∷ [])) (set-splice xs at (64 + v / 256) (omega arith))
          ∙ splice-splice xs ((64 + v / 256) ∷ []) (v % 256 ∷ []) at (omega arith)
          ∙ ap (splice xs at) (sym (two_bytes v h l)),
    )
