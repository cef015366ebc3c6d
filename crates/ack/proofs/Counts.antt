-- The counts take room: the ranges kept with them in a room are those kept without them in the room less their bytes; and how they are stored.
-- Assumes nothing.
use Prim.Native.Nat.{ℕ, suc, ◌+◌, ◌-◌, ◌≤◌, ◌<◌}
use mathlib.Core.Path.{◌≡◌, refl, sym, ap, ◌∙◌, subst}
use mathlib.Core.Bool.{Bool, true, false}
use mathlib.Core.List.{List, [], ◌∷◌, ◌++◌}
use native.Mathlib.Nat.{add-zero, zero-add}
use native.Mathlib.Omega.{arith}
use borrow.Author.Tests.{leb-true, leb-false}
use lib.ListN.{length, length-append, take-append-drop}
use Rattle.std.specs.Prelude.{Option, Some, None, Result, Ok}
use Rattle.wire.specs.Bytes.{pick, splice}
use Rattle.wire.specs.Numbers.{limit, width_of, encode_all, all_small, put_answer, put_bytes}
use Rattle.wire.specs.declared.Refusal.{Refusal}
use Rattle.wire.proofs.Bytes.{splice-splice}
use Rattle.wire.proofs.Small.{all_small_lem}
use Rattle.wire.proofs.Writing.{placed-yes, put_small}
use Rattle.frames.specs.declared.Counts.{Counts}
use Rattle.frames.specs.Ack.{type_of, counts_of}
use Rattle.seen.specs.declared.Seen.{Seen}
use Rattle.seen.specs.Numbers.{small}
use Rattle.ack.specs.Ack.{number_of_ranges, frame, body, ranges_kept}
use Rattle.ack.proofs.Ranges.{Begun}
use Rattle.ack.proofs.Fitting.{bytes_next, bytes-none, bytes_of, frame-parts, tail-length, frame-length, kept-says, kept-is}

-- ---- the ranges that are kept

module _ {s : Seen} (b : Begun s) (delay : ℕ) (d : delay ≤ limit) (tail : Option Counts) where
  -- a frame with counts is the one without them, and the counts
  longer-by : (k : ℕ) → 0 < k → k ≤ number_of_ranges s
      → (length (frame s tail delay k) ≡ length (frame s None delay k) + bytes_of tail) × (0 < length (frame s None delay k))
  longer-by k h l =
      let e : k ≡ suc (k - 1) = omega arith in
      let f = ap (λ (x : ℕ). length (frame s tail delay x)) e in
      let g = ap (λ (x : ℕ). length (frame s None delay x)) e in
      let m = tail-length b delay d tail (k - 1) (omega arith) in
      let n = frame-length b delay d (k - 1) (omega arith) in
      (omega arith, omega arith)

  pub kept_less : (room : ℕ) → ranges_kept s tail delay room ≡ ranges_kept s None delay (room - bytes_of tail)
  kept_less room =
      let c = kept-says s tail delay room in
      let n : ℕ = ranges_kept s tail delay room in
      kept-is s None delay (room - bytes_of tail) n c.within
      (λ h. omega (arith, (longer-by n h c.within).0, leb-true (length (frame s tail delay n)) room (c.holds h)))
      (λ j i k.
      let l = longer-by j (omega arith) k in
      omega (arith, l.0, l.1, leb-false (length (frame s tail delay j)) room (c.above j i k)))

-- ---- a tail by its cases: e is what the code knows of it

module _ {tail : Option Counts} (e : tail ≡ None) where
  pub none-obeys : true ≡ all_small (counts_of tail)
  unfolding all_small
  none-obeys = rw e

  pub none-takes : (room : ℕ) → room ≡ room - bytes_of tail
  unfolding encode_all
  none-takes room = rw e (omega arith)

  pub none-put : (xs : List ℕ) (at : ℕ) → (at ≡ at + bytes_of tail) × (xs ≡ splice xs at (encode_all (counts_of tail)))
  unfolding encode_all
  none-put xs at = rw (e, add-zero) (refl, sym (take-append-drop at xs))

module _ {tail : Option Counts} {ect0 ect1 ce : ℕ} (e : tail ≡ Some (record { ect0 = ect0; ect1 = ect1; ce = ce })) where
  -- 5, count by count
  pub first-breaks : small ect0 ≡ false → false ≡ all_small (counts_of tail)
  unfolding all_small
  first-breaks a = rw (e, a)

  pub second-breaks : small ect0 ≡ true → small ect1 ≡ false → false ≡ all_small (counts_of tail)
  unfolding all_small
  second-breaks a b = rw (e, a, b)

  pub third-decides : {r : Bool} → small ect0 ≡ true → small ect1 ≡ true → r ≡ small ce → r ≡ all_small (counts_of tail)
  unfolding all_small
  third-decides a b c = rw (e, a, b) (c ∙ itself (small ce))
    where
      itself : (b : Bool) → b ≡ pick b true false
      itself true = refl
      itself false = refl

  module _ (obey : all_small (counts_of tail) ≡ true) where
    three-obey : all_small (ect0 ∷ ect1 ∷ ce ∷ []) ≡ true
    three-obey = rw e at obey

    -- the room that they leave
    pub three-take : {w₁ w₂ w₃ : ℕ} → w₁ ≡ width_of ect0 → w₂ ≡ width_of ect1 → w₃ ≡ width_of ce → w₁ + w₂ + w₃ ≡ bytes_of tail
    three-take f g h =
        let s = (all_small_lem (ect0 ∷ ect1 ∷ ce ∷ [])).0 three-obey in
        let n : length (encode_all (ect0 ∷ ect1 ∷ ce ∷ [])) ≡ width_of ect0 + (width_of ect1 + (width_of ce + 0)) =
        omega (arith, bytes_next ect0 (ect1 ∷ ce ∷ []) s.0, bytes_next ect1 (ce ∷ []) s.1.0, bytes_next ce [] s.1.1.0, bytes-none) in
        rw e (omega arith)

    -- they are put
    module _ (xs : List ℕ) (at : ℕ) (room : at + bytes_of tail ≤ length xs) where
      three-room : at + length (encode_all (ect0 ∷ ect1 ∷ ce ∷ [])) ≤ length xs
      three-room = rw e at room

      pub three-done : {r : Result ℕ Refusal} → r ≡ put_answer xs at (ect0 ∷ ect1 ∷ ce ∷ []) → r ≡ Ok (at + length (encode_all (ect0 ∷ ect1 ∷ ce ∷ [])))
      three-done f =
          f ∙ sym ((placed-yes xs at (encode_all (ect0 ∷ ect1 ∷ ce ∷ [])) three-room).0 ∙ (put_small xs at (ect0 ∷ ect1 ∷ ce ∷ []) three-obey).0)

      pub three-put : {r : Result ℕ Refusal} {next : ℕ} {ys : List ℕ} → r ≡ put_answer xs at (ect0 ∷ ect1 ∷ ce ∷ []) → r ≡ Ok next → ys ≡ put_bytes xs at (ect0 ∷ ect1 ∷ ce ∷ [])
          → (next ≡ at + bytes_of tail) × (ys ≡ splice xs at (encode_all (counts_of tail)))
      three-put {next = next} f g h =
          let i = three-done f in
          let n : next ≡ at + length (encode_all (ect0 ∷ ect1 ∷ ce ∷ [])) = cc in
          rw e (n, h ∙ sym ((placed-yes xs at (encode_all (ect0 ∷ ect1 ∷ ce ∷ [])) three-room).1 ∙ (put_small xs at (ect0 ∷ ect1 ∷ ce ∷ []) three-obey).1))

-- after what comes before them they make the frame
pub whole-frame : (s : Seen) (tail : Option Counts) (delay k : ℕ) (xs : List ℕ) {ys zs : List ℕ} {m n : ℕ} → length (frame s tail delay k) ≤ length xs
    → m ≡ length (body s (type_of tail) delay k) → ys ≡ splice xs 0 (body s (type_of tail) delay k)
    → n ≡ m + bytes_of tail → zs ≡ splice ys m (encode_all (counts_of tail))
    → (n ≡ length (frame s tail delay k)) × (zs ≡ splice xs 0 (frame s tail delay k))
whole-frame s tail delay k xs h e f g i =
    let us : List ℕ = body s (type_of tail) delay k in
    let p = frame-parts s tail delay k in
    let l : length (frame s tail delay k) ≡ length us + bytes_of tail = ap length p ∙ length-append us (encode_all (counts_of tail)) in
    let cs : List ℕ = encode_all (counts_of tail) in
    let q : splice (splice xs 0 us) (length us) cs ≡ splice xs 0 (us ++ cs) =
    subst (λ (n : ℕ). splice (splice xs 0 us) n cs ≡ splice xs 0 (us ++ cs)) (zero-add (length us)) (splice-splice xs us cs 0 (omega arith)) in
    (omega arith, i ∙ rw (f, e, p) q)
