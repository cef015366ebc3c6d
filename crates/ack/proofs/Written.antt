-- What `write_ack` answers and leaves in the buffer, from what its tests said: 1, 5, 8, 9 in this order, or the frame.
-- Assumes nothing.
use Prim.Native.Nat.{ℕ, ◌+◌, ◌-◌, ◌/◌, ◌≤◌, ◌<◌}
use mathlib.Core.Path.{◌≡◌, refl, sym, ap, ◌∙◌}
use mathlib.Core.Bool.{Bool, true, false, ◌&&◌}
use mathlib.Core.List.{List}
use native.Mathlib.Omega.{arith}
use borrow.Author.Tests.{le-leb, leb-true, eq-eqb, ne_eqb}
use lib.ListN.{length}
use Rattle.std.specs.Prelude.{Option, None, Result, Ok, Err}
use Rattle.wire.specs.declared.Refusal.{Refusal}
use Rattle.wire.specs.declared.Refusal.TheVariants.{Inconsistent, TooLarge, NothingReceived, NoRoom}
use Rattle.wire.specs.Bytes.{pick, splice}
use Rattle.wire.specs.Numbers.{limit, encode_all, all_small}
use Rattle.frames.specs.declared.Counts.{Counts}
use Rattle.frames.specs.Ack.{type_of, counts_of}
use Rattle.seen.specs.declared.Micros.{Micros}
use Rattle.seen.specs.declared.Seen.{Seen}
use Rattle.seen.specs.Numbers.{small}
use Rattle.seen.specs.Received.{seen_consistent, reported}
use Rattle.ack.specs.Ack.{number_of_ranges, ack_delay, frame, body, fits, ranges_kept, marks_refusal, marks_answer, marks_bytes, ack_refusal, ack_answer, ack_bytes}
use Rattle.ack.proofs.Ranges.{Begun, begun}
use Rattle.ack.proofs.Fitting.{bytes_of, parts-length, first_rest, first-shortest, kept-says}
use Rattle.ack.proofs.Counts.{kept_less, whole-frame}

pub delay-small : (time : Micros) (d : ℕ) → small time.0 ≡ true → d ≤ time.0 → d / 8 ≤ limit
delay-small time d t h = omega (arith, leb-true time.0 limit t)

pub some_end : {end : ℕ} → (end ≡ 0 → ⊥) → 0 < end
some_end n = omega arith

module _ (s : Seen) (time : Micros) (tail : Option Counts) (room : ℕ) where
  pub gives_one : seen_consistent s ≡ false → ack_refusal s time tail room ≡ 1
  unfolding ack_refusal
  gives_one e = rw e

  module _ (y : seen_consistent s ≡ true) where
    pub gives-five : small time.0 ≡ false → ack_refusal s time tail room ≡ 5
    unfolding ack_refusal
    gives-five e = rw (y, e)

    module _ (t : small time.0 ≡ true) where
      pub gives-five-too : all_small (counts_of tail) ≡ false → ack_refusal s time tail room ≡ 5
      unfolding ack_refusal
      gives-five-too e = rw (y, t, e)

      module _ (g : all_small (counts_of tail) ≡ true) where
        pub gives-eight : s.end ≡ 0 → ack_refusal s time tail room ≡ 8
        unfolding ack_refusal
        gives-eight e = rw (y, t, g, eq-eqb s.end 0 e)

        module _ (n : s.end ≡ 0 → ⊥) where
          pub gives-nine : fits (reported s) tail (ack_delay s time) room 1 ≡ false → ack_refusal s time tail room ≡ 9
          unfolding ack_refusal
          gives-nine e = rw (y, t, g, ne_eqb s.end 0 n) (ap (λ (b : Bool). pick b 0 9) e)

          -- then what is reported decides
          pub gives-rest : ack_refusal s time tail room ≡ marks_refusal (reported s) time tail room
          unfolding ack_refusal
          gives-rest = rw (y, t, g, ne_eqb s.end 0 n)

module _ (s : Seen) (time : Micros) (tail : Option Counts) (xs : List ℕ) where
  pub refused_one : seen_consistent s ≡ false → (Err Inconsistent ≡ ack_answer s time tail xs) × (xs ≡ ack_bytes s time tail xs)
  unfolding ack_answer ack_bytes ack_refusal
  refused_one e = rw e (refl, refl)

  module _ (y : seen_consistent s ≡ true) where
    pub refused-five : (small time.0 && all_small (counts_of tail)) ≡ false → (Err TooLarge ≡ ack_answer s time tail xs) × (xs ≡ ack_bytes s time tail xs)
    unfolding ack_answer ack_bytes ack_refusal
    refused-five e = rw (y, e) (refl, refl)

    pub refused-eight : small time.0 ≡ true → all_small (counts_of tail) ≡ true → s.end ≡ 0 → (Err NothingReceived ≡ ack_answer s time tail xs) × (xs ≡ ack_bytes s time tail xs)
    unfolding ack_answer ack_bytes ack_refusal
    refused-eight t g e = rw (y, t, g, eq-eqb s.end 0 e) (refl, refl)

  -- no refusal before 9: the answer is that of what is reported
  pub passed_on : seen_consistent s ≡ true → small time.0 ≡ true → all_small (counts_of tail) ≡ true → (s.end ≡ 0 → ⊥)
      → {a : Result ℕ Refusal} {ys : List ℕ} → (a ≡ marks_answer (reported s) time tail xs) × (ys ≡ marks_bytes (reported s) time tail xs)
      → (a ≡ ack_answer s time tail xs) × (ys ≡ ack_bytes s time tail xs)
  unfolding ack_answer ack_bytes ack_refusal marks_bytes
  passed_on y t g n (e, f) = rw (y, t, g, ne_eqb s.end 0 n) (e, f)

  module _ (y : seen_consistent s ≡ true) (t : small time.0 ≡ true) (h : 0 < s.end) {d : ℕ} (e : d ≡ time.0 - s.arrived.0) where
    some : Begun s
    some = begun s y h

    same : d / 8 ≡ ack_delay s time
    same = ap (λ (x : ℕ). x / 8) e

    pub small-delay : d / 8 ≤ limit
    small-delay = delay-small time d t (omega arith)

    -- k ranges fit what the counts leave of the room
    module _ {k room : ℕ} (q : room ≡ length xs - bytes_of tail) (f : k ≡ ranges_kept s None (d / 8) room) where
      kept : k ≡ ranges_kept s tail (d / 8) (length xs)
      kept = f ∙ rw q (sym (kept_less some (d / 8) small-delay tail (length xs)))

      -- not even the first range fits
      pub wrote_none : k ≡ 0 → (Err NoRoom ≡ marks_answer s time tail xs) × (xs ≡ marks_bytes s time tail xs)
      unfolding marks_answer marks_bytes
      wrote_none z =
          let c = kept-says s tail (d / 8) (length xs) in
          let v : fits s tail (d / 8) (length xs) 1 ≡ false = c.above 1 (omega (arith, kept)) (omega (arith, first_rest some)) in
          let w : fits s tail (ack_delay s time) (length xs) 1 ≡ false = rw same at v in
          rw w (refl, refl)

      module _ (z : k ≡ 0 → ⊥) where
        pub some-kept : (0 < k) × (k ≤ number_of_ranges s) × (length (frame s tail (d / 8) k) ≤ length xs)
        some-kept =
            let c = kept-says s tail (d / 8) (length xs) in
            let h : fits s tail (d / 8) (length xs) k ≡ true = rw kept (c.holds (omega (arith, kept))) in
            (omega arith, omega (arith, kept, c.within), leb-true (length (frame s tail (d / 8) k)) (length xs) h)

        pub body-fits : length (body s (type_of tail) (d / 8) k) + bytes_of tail ≤ length xs
        body-fits = omega (arith, some-kept.2, parts-length s tail (d / 8) k)

        pub wrote-frame : {m n : ℕ} {ys zs : List ℕ} → m ≡ length (body s (type_of tail) (d / 8) k) → ys ≡ splice xs 0 (body s (type_of tail) (d / 8) k)
            → n ≡ m + bytes_of tail → zs ≡ splice ys m (encode_all (counts_of tail))
            → (Ok n ≡ marks_answer s time tail xs) × (zs ≡ marks_bytes s time tail xs)
        unfolding marks_answer marks_bytes
        wrote-frame {m} {n} {ys} {zs} p r g h =
            let o = some-kept in
            let i = first-shortest some (d / 8) small-delay tail k o.0 o.1 in
            let v : fits s tail (d / 8) (length xs) 1 ≡ true = le-leb (length (frame s tail (d / 8) 1)) (length xs) (omega (arith, o.2)) in
            let w : fits s tail (ack_delay s time) (length xs) 1 ≡ true = rw same at v in
            let u = whole-frame s tail (d / 8) k xs o.2 p r g h in
            rw (w, u.0, u.1, kept, same) (refl, refl)
