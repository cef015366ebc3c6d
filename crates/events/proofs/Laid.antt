-- A line laid over a buffer: one column, three of them, and how long they are.
-- Assumes nothing.
use Prim.Native.Nat.{ℕ, suc, ◌+◌, ◌-◌, ◌^◌, ◌≤◌, ◌<◌}
use mathlib.Core.Path.{◌≡◌, refl, ◌∙◌}
use mathlib.Core.List.{List, [], ◌∷◌, ◌++◌, append_assoc}
use native.Mathlib.Omega.{arith}
use lib.ListN.{length, get_or, take, drop, set, length-take, length-drop, length-append}
use lib.Seq.{drop-drop, drop-cons, set_at}
use Rattle.std.specs.Prelude.{Ok, Err}
use Rattle.wire.specs.Bytes.{splice}
use Rattle.wire.specs.Fields.{placed, written}
use Rattle.wire.specs.declared.Refusal.TheVariants.{NoRoom}
use Rattle.wire.proofs.Bytes.{splice-splice}
use Rattle.wire.proofs.Writing.{placed-no, placed-yes}
use Rattle.decimal.specs.Decimal.{places_of, last_digits, decimal}
use Rattle.events.specs.Lines.{blank, line_end, line}
use Rattle.decimal.proofs.Decimal.{length-decimal, all_digits, word-places}

-- a number in decimal and the byte that ends it
abbrev pub column : ℕ → ℕ → List ℕ
column n ends = decimal n ++ (ends ∷ [])

pub length-column : (n ends : ℕ) → length (column n ends) ≡ places_of n + 1
length-column n ends = simp length-append (omega (arith, length-decimal n))

-- ys is what the callee left of the part that it was lent
pub column-laid : (xs ys : List ℕ) (at digits n ends : ℕ) → digits ≡ places_of n → at + digits + 1 ≤ length xs
    → ys ≡ last_digits (length (take (at + digits - at) (drop at xs))) n []
    → set (take at xs ++ (ys ++ drop (at + digits - at) (drop at xs))) (at + digits) ends ≡ splice xs at (column n ends)
column-laid xs ys at digits n ends e h d =
    let m : at + digits - at ≡ digits = omega arith in
    let k : length (take digits (drop at xs)) ≡ digits = simp (length-take, length-drop) (omega arith) in
    let b : ys ≡ decimal n = rw (m, k) at d ∙ all_digits n digits e in
    let p : length (take at xs ++ decimal n) ≡ at + digits = simp (length-append, length-take) (omega (arith, length-decimal n)) in
    let f : at + digits < length xs = omega arith in
    let q : at + (places_of n + 1) ≡ suc (at + digits) = omega arith in
    rw (m, b, drop-drop digits at xs, ← append_assoc (take at xs) (decimal n) (drop (at + digits) xs), drop-cons xs (at + digits) 0 f, set_at (take at xs ++ decimal n) (get_or xs (at + digits) 0) (drop (suc (at + digits)) xs) ends (at + digits) p, length-column n ends, q)
    (simp append_assoc)

-- ---- the line

module _ (index result cause : ℕ) where
  pub length-line : length (line index result cause) ≡ places_of index + places_of result + places_of cause + 3
  unfolding line
  length-line = simp length-append (omega (arith, length-decimal index, length-decimal result, length-decimal cause))

  -- no longer than three words and what ends each
  pub line-most : index < 2 ^ 64 → result < 2 ^ 64 → cause < 2 ^ 64 → length (line index result cause) ≤ 63
  line-most i r c = omega (arith, length-line, word-places index i, word-places result r, word-places cause c)

  pub line-no : (xs : List ℕ) (at : ℕ) → length xs < at + (places_of index + places_of result + places_of cause + 3)
      → (Err NoRoom ≡ placed xs at (line index result cause)) × (xs ≡ written xs at (line index result cause))
  line-no xs at h = placed-no xs at (line index result cause) (omega (arith, length-line))

  columns : (xs : List ℕ) (at : ℕ) → splice xs at (column index blank ++ (column result blank ++ column cause line_end)) ≡ splice xs at (line index result cause)
  unfolding line
  columns xs at = refl

  -- ys, zs, ws are the buffer after the first, the second and the third column, and b, d, e the places
  pub line-yes : (xs ys zs ws : List ℕ) (at b d e : ℕ) → at + (places_of index + places_of result + places_of cause + 3) ≤ length xs
      → b ≡ at + places_of index + 1 → d ≡ b + places_of result + 1 → e ≡ d + places_of cause + 1 → length ys ≡ length xs
      → ys ≡ splice xs at (column index blank) → zs ≡ splice ys b (column result blank) → ws ≡ splice zs d (column cause line_end)
      → (Ok e ≡ placed xs at (line index result cause)) × (ws ≡ written xs at (line index result cause))
  line-yes xs ys zs ws at b d e h f g k l p q r =
      let bs : b ≡ at + length (column index blank) = omega (arith, length-column index blank) in
      let ds : d ≡ b + length (column result blank) = omega (arith, length-column result blank) in
      let es : at + length (line index result cause) ≡ e = omega (arith, length-line) in
      let y = placed-yes xs at (line index result cause) (omega arith) in
      let two : ws ≡ splice ys b (column result blank ++ column cause line_end) =
      r ∙ rw (q, ds) (splice-splice ys (column result blank) (column cause line_end) b (omega (arith, length-column result blank))) in
      (rw es at y.0, two ∙ rw (p, bs) (splice-splice xs (column index blank) (column result blank ++ column cause line_end) at (omega (arith, length-column index blank))) ∙ columns xs at ∙ y.1)
