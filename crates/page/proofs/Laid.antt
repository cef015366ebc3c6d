-- Text laid over a buffer, one part behind the other.
-- Assumes nothing.
use Prim.Native.Nat.{ℕ, ◌+◌, ◌-◌, ◌≤◌, ◌<◌}
use mathlib.Core.Path.{◌≡◌, ap, ◌∙◌}
use mathlib.Core.List.{List, [], ◌∷◌, ◌++◌, append_assoc}
use native.Mathlib.Omega.{arith}
use borrow.Author.Tests.{ne_eqb}
use lib.ListN.{length, take, drop, length-take, length-drop, length-append}
use lib.Seq.{drop-drop}
use Rattle.wire.specs.Bytes.{splice}
use Rattle.decimal.specs.Decimal.{places_of, last_digits, decimal}
use Rattle.wire.proofs.Bytes.{splice-splice}
use Rattle.decimal.proofs.Decimal.{length-decimal, all_digits, places-most}
use Rattle.totals.specs.Totals.{places}
use Rattle.page.specs.Page.{refused_text, name_of}

-- ys is what the callee left of the part that it was lent
pub number-laid : (xs ys : List ℕ) (at digits n : ℕ) → digits ≡ places_of n → at + digits ≤ length xs
    → ys ≡ last_digits (length (take (at + digits - at) (drop at xs))) n []
    → take at xs ++ (ys ++ drop (at + digits - at) (drop at xs)) ≡ splice xs at (decimal n)
number-laid xs ys at digits n e h d =
    let m : at + digits - at ≡ digits = omega arith in
    let k : length (take digits (drop at xs)) ≡ digits = simp (length-take, length-drop) (omega arith) in
    let b : ys ≡ decimal n = rw (m, k) at d ∙ all_digits n digits e in
    let l : length (decimal n) ≡ digits = omega (arith, length-decimal n) in
    rw (m, b, drop-drop digits at xs, l)

-- one part behind the other: ys, zs, ws are the buffer after the first, the second and the third, b and d the places after them
module _ (xs : List ℕ) (at : ℕ) (us vs : List ℕ) where
  pub laid-two : {b : ℕ} {ys zs : List ℕ} → at + length us ≤ length xs → b ≡ at + length us
      → ys ≡ splice xs at us → zs ≡ splice ys b vs → zs ≡ splice xs at (us ++ vs)
  laid-two h e f g = g ∙ rw (e, f) (splice-splice xs us vs at h)

  pub laid-three : (ts : List ℕ) {b d : ℕ} {ys zs ws : List ℕ} → at + length us + length vs ≤ length xs → b ≡ at + length us → d ≡ b + length vs
      → ys ≡ splice xs at us → zs ≡ splice ys b vs → ws ≡ splice zs d ts → ws ≡ splice xs at (us ++ (vs ++ ts))
  laid-three ts {b} {d} h e k f g w =
      let l : at + length us ≤ length xs = omega arith in
      let m : at + length (us ++ vs) ≤ length xs = simp length-append (omega arith) in
      let n : d ≡ at + length (us ++ vs) = simp length-append (omega arith) in
      w ∙ rw (n, laid-two l e f g) (splice-splice xs (us ++ vs) ts at m) ∙ ap (splice xs at) (append_assoc us vs ts)

pub length_three : (us vs ts : List ℕ) → length (us ++ (vs ++ ts)) ≡ length us + length vs + length ts
length_three us vs ts = simp length-append (omega arith)

-- ---- the name of a refusal

module _ (place : ℕ) where
  pub name-refused : (place ≡ 0 → ⊥) → (place ≡ 21 → ⊥) → (place ≡ 22 → ⊥) → (place ≡ 23 → ⊥) → (place ≡ 24 → ⊥) → (place ≡ 25 → ⊥) → (place ≡ 26 → ⊥) → (place ≡ 27 → ⊥) → (place ≡ 28 → ⊥)
      → name_of place ≡ refused_text ++ (decimal place ++ (32 ∷ []))
  unfolding name_of
  name-refused a b c d e f g h i =
      rw (ne_eqb place 0 a, ne_eqb place 21 b, ne_eqb place 22 c, ne_eqb place 23 d, ne_eqb place 24 e, ne_eqb place 25 f, ne_eqb place 26 g, ne_eqb place 27 h, ne_eqb place 28 i)

  -- a refusal has two digits at most
  pub place-digits : place < places → length (decimal place) ≤ 2
  place-digits h = rw (length-decimal place) (places-most 1 place (omega arith))
