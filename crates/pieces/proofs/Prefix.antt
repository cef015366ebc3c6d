-- A number is read from its own bytes, and from the first eight: however many stand behind it.
-- Assumes nothing.
use Prim.Native.Nat.{ℕ, zero, suc, ◌+◌, ◌-◌, ◌/◌, ◌≤◌, ◌<◌, min}
use mathlib.Core.Path.{◌≡◌, refl, sym, ap, ◌∙◌}
use mathlib.Core.Bool.{Bool}
use mathlib.Core.List.{List, ◌++◌}
use native.Mathlib.Omega.{arith}
use lib.Pow.{pow_pos, pow_mono}
use lib.ListN.{length, get_or, take, drop, take-append-drop, get_or-append}
use lib.Seq.{length-take-le, take_all, take-append-le, take-append-add, get_or-take}
use Rattle.std.specs.Prelude.{Result, Ok, Err}
use Rattle.wire.specs.Fields.{found}
use Rattle.wire.specs.Numbers.{len_of, read_number}
use Rattle.wire.specs.declared.Number.{Number}
use Rattle.wire.specs.declared.Refusal.{Refusal}
use Rattle.wire.specs.declared.Refusal.TheVariants.{Ends}
use Rattle.wire.proofs.Lengths.{split}
use Rattle.pieces.specs.Reading.{shifted}
use Rattle.wire.proofs.Reading.{found-same}
use Rattle.report.proofs.Heeding.{number-refused}
use Rattle.uncut.proofs.Grown.{never-value, value_there, value-place, ends-missing, still-there, moved, read_dropped}

pub read-prefix : (s : List ℕ) (v n : ℕ) (c : Bool) → read_number s 0 ≡ found v n c → read_number (take n s) 0 ≡ found v n c
read-prefix s v n c e = go (read_number (take n s) 0) refl
  where
    there : 0 + len_of (get_or s 0 0 / 64) ≤ length s
    there = value_there s 0 e

    place : n ≡ 0 + len_of (get_or s 0 0 / 64)
    place = value-place s 0 e

    go : (q : Result Number Refusal) → read_number (take n s) 0 ≡ q → read_number (take n s) 0 ≡ found v n c
    go (Ok k) r =
        let t : read_number (take n s ++ drop n s) 0 ≡ found k.value k.next k.shortest = still-there (take n s) (drop n s) r in
        r ∙ sym t ∙ ap (λ (x : List ℕ). read_number x 0) (take-append-drop n s) ∙ e
    go (Err refusal) r =
        let pos : 0 < n = omega (arith, place, pow_pos (get_or s 0 0 / 64)) in
        let f : get_or (take n s) 0 0 ≡ get_or s 0 0 = get_or-take n s 0 0 pos in
        let l : length (take n s) ≡ n = length-take-le n s (omega (arith, place, there)) in
        let m : length (take n s) < 0 + len_of (get_or s 0 0 / 64) = rw f at (ends-missing (take n s) 0 (r ∙ ap Err (number-refused (take n s) 0 r))) in
        absurd (omega (arith, place))

-- a field is at most eight bytes long
pub ends-short : (s : List ℕ) → get_or s 0 0 < 256 → read_number s 0 ≡ Err Ends → length s < 8
ends-short s h e =
    let m : len_of (get_or s 0 0 / 64) ≤ len_of 3 = let k : get_or s 0 0 / 64 ≤ 3 = omega arith in pow_mono k in
    omega (arith, ends-missing s 0 e)

pub read-eight : (s : List ℕ) → get_or s 0 0 < 256 → read_number (take 8 s) 0 ≡ read_number s 0
read-eight s h = go (read_number (take 8 s) 0) refl
  where
    go : (q : Result Number Refusal) → read_number (take 8 s) 0 ≡ q → read_number (take 8 s) 0 ≡ read_number s 0
    go (Ok k) r = r ∙ sym (still-there (take 8 s) (drop 8 s) r) ∙ ap (λ (x : List ℕ). read_number x 0) (take-append-drop 8 s)
    go (Err refusal) r =
        let f : get_or (take 8 s) 0 0 ≡ get_or s 0 0 = get_or-take 8 s 0 0 (omega arith) in
        let m : length (take 8 s) < 8 = ends-short (take 8 s) (rw f h) (r ∙ ap Err (number-refused (take 8 s) 0 r)) in
        split 8 (length s) (λ l. let k : length (take 8 s) ≡ 8 = length-take-le 8 s l in absurd (omega arith)) (λ l. ap (λ (x : List ℕ). read_number x 0) (take_all 8 s (omega arith)))

-- what is read behind the bytes carried is read from as many more as make eight
pub read_behind : (held rest : List ℕ) → length held ≤ 8 → get_or (held ++ rest) 0 0 < 256 → read_number (held ++ take (min (8 - length held) (length rest)) rest) 0 ≡ read_number (held ++ rest) 0
read_behind held rest h o =
    split (8 - length held) (length rest)
    (λ l.
    let m : min (8 - length held) (length rest) ≡ 8 - length held = omega arith in
    let a : length held + (8 - length held) ≡ 8 = omega arith in
    let t : held ++ take (8 - length held) rest ≡ take 8 (held ++ rest) = sym (take-append-add held rest (8 - length held)) ∙ ap (λ (n : ℕ). take n (held ++ rest)) a in
    ap (λ (n : ℕ). read_number (held ++ take n rest) 0) m ∙ ap (λ (x : List ℕ). read_number x 0) t ∙ read-eight (held ++ rest) o)
    (λ l.
    let m : min (8 - length held) (length rest) ≡ length rest = omega arith in
    ap (λ (n : ℕ). read_number (held ++ take n rest) 0) m ∙ ap (λ (x : List ℕ). read_number (held ++ x) 0) (take_all (length rest) rest (omega arith)))

-- with nothing carried it is read where it stands
pub read_here : (part : List ℕ) (at : ℕ) → at ≤ length part → read_number part at ≡ shifted 0 at (read_number (drop at part) 0)
read_here part at h = read_dropped part at h ∙ go (read_number (drop at part) 0)
  where
    go : (q : Result Number Refusal) → moved at q ≡ shifted 0 at q
    go (Ok k) = let e : k.next - 0 ≡ k.next = omega arith in rw e
    go (Err refusal) = refl

-- what the place of a number that begins with what is carried tells
pub shifted-refused : (carried at : ℕ) (q : Result Number Refusal) {refusal : Refusal} → shifted carried at q ≡ Err refusal → q ≡ Err refusal
shifted-refused carried at (Ok k) e = never-value (sym e)
shifted-refused carried at (Err refusal) e = e

pub record Behind (carried at v next : ℕ) (c : Bool) (q : Result Number Refusal) : Type 0 where
  pub n : ℕ
  pub reads : q ≡ found v n c
  pub place : next ≡ at + (n - carried)

pub shifted-value : (carried at v next : ℕ) (c : Bool) (q : Result Number Refusal) → shifted carried at q ≡ found v next c → Behind carried at v next c q
shifted-value carried at v next c (Ok k) e =
    let s = found-same e in
    record { n = k.next; reads = rw (← s.0, ← s.2) refl; place = sym s.1 }
shifted-value carried at v next c (Err refusal) e = never-value e

-- a field that more bytes make whole ends among them
pub value-past : (held rest : List ℕ) (v n : ℕ) (c : Bool) → read_number held 0 ≡ Err Ends → read_number (held ++ rest) 0 ≡ found v n c → length held < n
value-past held rest v n c u e =
    split n (length held)
    (λ l.
    let t : take n (held ++ rest) ≡ take n held = take-append-le n held rest l in
    let q : read_number (take n held) 0 ≡ found v n c = ap (λ (x : List ℕ). read_number x 0) (sym t) ∙ read-prefix (held ++ rest) v n c e in
    never-value (sym u ∙ ap (λ (x : List ℕ). read_number x 0) (sym (take-append-drop n held)) ∙ still-there (take n held) (drop n held) q))
    (λ l. l)

-- ---- the bytes carried and those behind them, read as one

module _ (held part field : List ℕ) (carried more : ℕ) (h : length held ≡ 24) (l : carried ≤ 8) (m : more ≡ min (8 - carried) (length part))
    (j : take (carried + length (take more part)) field ≡ take carried held ++ take more part) where
  size : length (take carried held) ≡ carried
  size = length-take-le carried held (omega arith)

  field_is : take (carried + more) field ≡ take carried held ++ take more part
  field_is = let e : length (take more part) ≡ more = length-take-le more part (omega arith) in ap (λ (x : ℕ). take (carried + x) field) (sym e) ∙ j

  pub read-field : 0 < carried → get_or held 0 0 < 256 → read_number (take (carried + more) field) 0 ≡ read_number (take carried held ++ part) 0
  read-field z o =
      let b : min (8 - length (take carried held)) (length part) ≡ more = omega (arith, size) in
      let g : get_or (take carried held ++ part) 0 0 ≡ get_or held 0 0 = get_or-append (take carried held) part 0 0 (omega (arith, size)) ∙ get_or-take carried held 0 0 z in
      let r = read_behind (take carried held) part (omega (arith, size)) (rw g o) in
      ap (λ (x : List ℕ). read_number x 0) field_is ∙ ap (λ (x : ℕ). read_number (take carried held ++ take x part) 0) (sym b) ∙ r

pub above_zero : (n : ℕ) → (n ≡ 0 → ⊥) → 0 < n
above_zero zero h = absurd (h refl)
above_zero (suc n) h = omega arith
