-- A number in bytes that grow at their end or are cut at their start: what is whole stays as it was read, and a place is only a place.
-- Assumes nothing.
use Prim.Native.Nat.{ℕ, ◌+◌, ◌-◌, ◌/◌, ◌≤◌, ◌<◌}
use mathlib.Core.Path.{◌≡◌, refl, sym, ap, ◌∙◌}
use mathlib.Core.Bool.{Bool}
use mathlib.Core.List.{List, [], ◌∷◌, ◌++◌}
use native.Mathlib.Nat.{add-zero}
use native.Mathlib.Omega.{arith}
use borrow.Author.Tests.{le-leb, lt-leb}
use lib.Pow.{pow_pos}
use lib.ListN.{length, get_or, take, drop, length-append, length-drop, get_or-append}
use lib.Seq.{get_or-drop, take-append-le}
use Rattle.std.specs.Prelude.{Result, Ok, Err}
use Rattle.wire.specs.Bytes.{be}
use Rattle.wire.specs.Fields.{read_fixed, found}
use Rattle.wire.specs.Numbers.{len_of, in_form, read_form, read_number}
use Rattle.wire.specs.declared.Fixed.{Fixed}
use Rattle.wire.specs.declared.Number.{Number}
use Rattle.wire.specs.declared.Refusal.{Refusal}
use Rattle.wire.specs.declared.Refusal.TheVariants.{Ends}
use Rattle.wire.proofs.Reading.{whole}
use Rattle.wire.proofs.Lengths.{split}

pub never-value : {A : Type 0} {refusal : Refusal} {v next : ℕ} {b : Bool} → Err refusal ≡ found v next b → A
never-value e = absurd (cc)

-- the bytes of a field, where they are there
abbrev field_at : ℕ → List ℕ → ℕ → Result Fixed Refusal
field_at k s at = whole (be 0 (take (len_of k) (drop at s))) (at + len_of k)

-- ---- a number that is there

there : (s : List ℕ) (at : ℕ) → at + len_of (get_or s at 0 / 64) ≤ length s → read_number s at ≡ in_form (get_or s at 0 / 64) (field_at (get_or s at 0 / 64) s at)
unfolding read_number read_form read_fixed
there s at h = rw (le-leb (at + len_of (get_or s at 0 / 64)) (length s) h)

missing : (s : List ℕ) (at : ℕ) → length s < at + len_of (get_or s at 0 / 64) → read_number s at ≡ Err Ends
unfolding read_number read_form read_fixed
missing s at h = rw (lt-leb (at + len_of (get_or s at 0 / 64)) (length s) h)

-- so long a number is read exactly where it is there, and the place after it is behind its last byte
pub value_there : (s : List ℕ) (at : ℕ) {v next : ℕ} {b : Bool} → read_number s at ≡ found v next b → at + len_of (get_or s at 0 / 64) ≤ length s
value_there s at e =
    split (at + len_of (get_or s at 0 / 64)) (length s) (λ h. h) (λ h. never-value (sym (missing s at h) ∙ e))

pub ends-missing : (s : List ℕ) (at : ℕ) → read_number s at ≡ Err Ends → length s < at + len_of (get_or s at 0 / 64)
ends-missing s at e =
    split (at + len_of (get_or s at 0 / 64)) (length s) (λ h. never-value (sym e ∙ there s at h)) (λ h. h)

place_of : Result Number Refusal → ℕ
place_of (Ok n) = n.next
place_of (Err refusal) = 0

pub value-place : (s : List ℕ) (at : ℕ) {v next : ℕ} {b : Bool} → read_number s at ≡ found v next b → next ≡ at + len_of (get_or s at 0 / 64)
unfolding place_of
value-place s at e = ap place_of (sym e ∙ there s at (value_there s at e))

-- ---- more bytes behind it

-- the first byte stays
first-stays : (r s : List ℕ) → 0 < length r → get_or (r ++ s) 0 0 ≡ get_or r 0 0
first-stays r s h = get_or-append r s 0 0 h

pub still-there : (r s : List ℕ) {v next : ℕ} {b : Bool} → read_number r 0 ≡ found v next b → read_number (r ++ s) 0 ≡ found v next b
still-there r s e =
    let h : 0 + len_of (get_or r 0 0 / 64) ≤ length r = value_there r 0 e in
    let f : get_or (r ++ s) 0 0 ≡ get_or r 0 0 = first-stays r s (omega (arith, pow_pos (get_or r 0 0 / 64))) in
    let l : length (r ++ s) ≡ length r + length s = length-append r s in
    let g : 0 + len_of (get_or r 0 0 / 64) ≤ length (r ++ s) = omega arith in
    let t : take (len_of (get_or r 0 0 / 64)) (r ++ s) ≡ take (len_of (get_or r 0 0 / 64)) r = take-append-le (len_of (get_or r 0 0 / 64)) r s (omega arith) in
    there (r ++ s) 0 (rw f g) ∙ rw (f, t) (sym (there r 0 h)) ∙ e

-- a field that becomes whole by a byte ends with it
pub last_byte : (held : List ℕ) (b : ℕ) {v next : ℕ} {c : Bool} → read_number held 0 ≡ Err Ends → read_number (held ++ (b ∷ [])) 0 ≡ found v next c
    → next ≡ length (held ++ (b ∷ []))
last_byte [] b e r =
    let h : 0 + len_of (b / 64) ≤ 1 = value_there (b ∷ []) 0 r in
    let n = value-place (b ∷ []) 0 r in
    omega (arith, pow_pos (b / 64))
last_byte (x ∷ held) b e r =
    let h : 0 + len_of (x / 64) ≤ length (x ∷ held ++ (b ∷ [])) = value_there (x ∷ held ++ (b ∷ [])) 0 r in
    let m : length (x ∷ held) < 0 + len_of (x / 64) = ends-missing (x ∷ held) 0 e in
    let l : length (held ++ (b ∷ [])) ≡ length held + 1 = length-append held (b ∷ []) in
    let n = value-place (x ∷ held ++ (b ∷ [])) 0 r in
    omega arith

-- ---- read at a place, or behind what was dropped before it

abbrev pub moved : ℕ → Result Number Refusal → Result Number Refusal
moved at (Ok n) = found n.value (at + n.next) n.shortest
moved at (Err refusal) = Err refusal

pub read_dropped : (s : List ℕ) (at : ℕ) → at ≤ length s → read_number s at ≡ moved at (read_number (drop at s) 0)
read_dropped s at h =
    let k : ℕ = get_or s at 0 / 64 in
    let f : get_or (drop at s) 0 0 ≡ get_or s at 0 = get_or-drop at s 0 0 ∙ ap (λ (i : ℕ). get_or s i 0) (add-zero at) in
    let l : length (drop at s) ≡ length s - at = length-drop at s in
    let z : 0 + len_of (get_or s at 0 / 64) ≡ len_of (get_or s at 0 / 64) = omega arith in
    split (at + len_of (get_or s at 0 / 64)) (length s)
    (λ g. let i : 0 + len_of (get_or s at 0 / 64) ≤ length (drop at s) = omega arith in
    let w : in_form (get_or (drop at s) 0 0 / 64) (field_at (get_or (drop at s) 0 0 / 64) (drop at s) 0) ≡ in_form (get_or s at 0 / 64) (field_at (get_or s at 0 / 64) (drop at s) 0) =
    ap (λ (x : ℕ). in_form (x / 64) (field_at (x / 64) (drop at s) 0)) f in
    let y : moved at (in_form (get_or s at 0 / 64) (field_at (get_or s at 0 / 64) (drop at s) 0)) ≡ in_form (get_or s at 0 / 64) (field_at (get_or s at 0 / 64) s at) =
    rw z refl in
    there s at g ∙ sym (ap (moved at) (there (drop at s) 0 (rw f i) ∙ w) ∙ y))
    (λ g. let i : length (drop at s) < 0 + len_of (get_or s at 0 / 64) = omega arith in
    missing s at g ∙ sym (ap (moved at) (missing (drop at s) 0 (rw f i))))
