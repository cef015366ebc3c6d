-- Text laid over a buffer: byte by byte, and parts behind each other, which are one part.
-- Assumes nothing.
use Prim.Native.Nat.{ℕ, zero, suc, ◌+◌, ◌-◌, ◌/◌, ◌%◌, ◌≤◌, ◌<◌}
use mathlib.Core.Path.{◌≡◌, refl, sym, ◌∙◌}
use mathlib.Core.List.{List, [], ◌∷◌, ◌++◌, append-nil}
use native.Mathlib.Omega.{arith}
use lib.ListN.{length, get_or, take, drop, set, length-append, length-take, length-drop, length-set}
use lib.Seq.{drop-drop}
use Rattle.wire.specs.Bytes.{splice}
use Rattle.wire.proofs.Bytes.{splice-splice, splice-none, store}
use Rattle.decimal.specs.Decimal.{places_of, last_digits, decimal}
use Rattle.decimal.proofs.Decimal.{length-decimal, all_digits}
use Rattle.texts.specs.Forms.{or_null}
use Rattle.texts.specs.Hex.{hex_digit, hex_text}
use Rattle.texts.proofs.Scanning.{one_more}
use Rattle.call_log.specs.Laid.{Laid}

length-splice : (xs us : List ℕ) (at : ℕ) → at + length us ≤ length xs → length (splice xs at us) ≡ length xs
length-splice xs us at h = simp (length-append, length-take, length-drop) (omega arith)

-- one part behind the other
pub laid_then : {xs ys zs us vs : List ℕ} {at mid end : ℕ} → Laid xs at us ys mid → Laid ys mid vs zs end → Laid xs at (us ++ vs) zs end
laid_then {xs} {ys} {zs} {us} {vs} {at} {mid} {end} f g =
    let h : at + length us ≤ length xs = omega (arith, f.place, f.fits) in
    let l : length ys ≡ length xs = rw f.buffer (length-splice xs us at h) in
    let n : length (us ++ vs) ≡ length us + length vs = length-append us vs in
    record {
      place = omega (arith, f.place, g.place, n);
      fits = omega (arith, g.fits, l);
      buffer = g.buffer ∙ rw (f.place, f.buffer) (splice-splice xs us vs at h);
    }

-- nothing is laid
pub laid_none : (xs : List ℕ) (at : ℕ) → at ≤ length xs → Laid xs at [] xs at
laid_none xs at h = record { place = omega arith; fits = h; buffer = sym (splice-none xs at) }

-- nothing stands behind the second of two parts
pub laid_on : (us vs : List ℕ) {xs ys : List ℕ} {at end : ℕ} → Laid xs at (us ++ vs) ys end → Laid xs at (us ++ (vs ++ [])) ys end
laid_on us vs h = rw (append-nil vs) h

-- ---- byte by byte

pub text-turn : (xs text zs : List ℕ) (at i : ℕ) → i < length text → at + i < length xs
    → splice xs (at + i) (drop i text) ≡ zs
    → splice (set xs (at + i) (get_or text i 0)) (at + (i + 1)) (drop (i + 1) text) ≡ zs
text-turn xs text zs at i h l z =
    let w : splice xs (at + i) (get_or text i 0 ∷ drop (i + 1) text) ≡ zs = rw (one_more text i h) at z in
    store xs (drop (i + 1) text) (at + i) (at + (i + 1)) (get_or text i 0) (omega arith) l ∙ w

pub hex-turn : (xs bs zs : List ℕ) (i to a b : ℕ) → i < length bs → to + 1 < length xs
    → a ≡ hex_digit (get_or bs i 0 / 16) → b ≡ hex_digit (get_or bs i 0 % 16)
    → splice xs to (hex_text (drop i bs)) ≡ zs
    → splice (set (set xs to a) (to + 1) b) (to + 2) (hex_text (drop (i + 1) bs)) ≡ zs
hex-turn xs bs zs i to a b h l e f z =
    let rest = hex_text (drop (i + 1) bs) in
    let n : to + 2 ≡ to + 1 + 1 = omega arith in
    let m : to + 1 < length (set xs to a) = rw length-set l in
    let w : splice xs to (a ∷ b ∷ rest) ≡ zs = rw (e, f) (rw (one_more bs i h) at z) in
    store (set xs to a) rest (to + 1) (to + 2) b n m ∙ store xs (b ∷ rest) to (to + 1) a refl (omega arith) ∙ w

-- ys is what the callee left of the part that it was lent
pub number-laid : (xs ys : List ℕ) (at digits n : ℕ) → digits ≡ places_of n → at + digits ≤ length xs
    → ys ≡ last_digits (length (take (at + digits - at) (drop at xs))) n []
    → Laid xs at (decimal n) (take at xs ++ (ys ++ drop (at + digits - at) (drop at xs))) (at + digits)
number-laid xs ys at digits n e h d =
    let m : at + digits - at ≡ digits = omega arith in
    let k : length (take digits (drop at xs)) ≡ digits = simp (length-take, length-drop) (omega arith) in
    let b : ys ≡ decimal n = rw (m, k) at d ∙ all_digits n digits e in
    let l : length (decimal n) ≡ digits = omega (arith, length-decimal n) in
    record { place = omega (arith, l); fits = h; buffer = rw (m, b, drop-drop digits at xs, l) }

-- ---- what may be absent

pub or-null : (end : ℕ) → (end ≡ 0 → ⊥) → or_null end ≡ decimal (end - 1)
or-null zero h = absurd (h refl)
or-null (suc n) h = let e : suc n - 1 ≡ n = omega arith in rw e
