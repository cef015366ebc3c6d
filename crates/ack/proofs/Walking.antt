-- One walk over the ranges: each is stored as it is found. The ranges still to come, however many they will be, laid over the buffer give the whole,
-- and those stored are the ones that fit. Assumes nothing.
use Prim.Native.Nat.{ℕ, suc, ◌+◌, ◌-◌, ◌≤◌, ◌<◌}
use mathlib.Core.Path.{◌≡◌, refl, sym, ap, ◌∙◌}
use mathlib.Core.Bool.{Bool, true, false}
use mathlib.Core.Logic.{◌⊎◌, ⊎_elim}
use mathlib.Core.List.{List, ◌∷◌, ◌++◌}
use native.Mathlib.Nat.{add-zero, zero-add}
use native.Mathlib.Omega.{arith}
use borrow.Author.Tests.{leb-true, leb-false, ltb-true, ltb-false}
use lib.Dec.{ltb}
use lib.ListN.{length, take-append-drop}
use Rattle.std.specs.Prelude.{None}
use Rattle.wire.specs.Bytes.{splice}
use Rattle.wire.specs.Numbers.{limit, width_of, encode, encode_all}
use Rattle.wire.proofs.Bytes.{splice-splice}
use Rattle.wire.proofs.Lengths.{split, width-pos}
use Rattle.wire.proofs.Writing.{length-encode}
use Rattle.seen.specs.declared.Seen.{Seen}
use Rattle.ack.specs.Ack.{frame, ranges_kept}
use Rattle.window.specs.Window.{value_of, run_below}
use Rattle.ack.proofs.Ranges.{Begun, first-is, missing, top, size, low, few-ranges, fields, fields-zero, fields-some}
use Rattle.ack.proofs.Fitting.{width-grows, bytes-none, bytes_below, base, first-low, first_rest, frame-length, bytes-more, kept-says, Counted, count-first, count-all, counted-fits, some_more, step-sizes, no-more-fit, one-more-fits}
use Rattle.ack.proofs.Short.{one_width, two-width}

-- the field of the range count holds `most`: one byte, or two where more than 64 ranges fit
abbrev pub Field : Seen → ℕ → ℕ → ℕ → Type 0
Field s delay room most = (most ≡ 63) ⊎ ((most ≡ 16383) × (64 < ranges_kept s None delay room))

-- what a walk that began with xs at place `from`, below place p, leaves and answers
abbrev pub Answer : Seen → ℕ → ℕ → ℕ → ℕ → ℕ → List ℕ → List ℕ → ℕ → ℕ → Bool → Type 0
Answer s delay room most from p xs ys end count over =
    (end ≡ from + bytes_below s count p) × (ys ≡ splice xs from (encode_all (fields s count p))) × (end ≤ room) × (count < ranges_kept s None delay room) × (count ≤ most)
    × (over ≡ false → count + 1 ≡ ranges_kept s None delay room)
    × (over ≡ true → (most ≡ 63) × (64 < ranges_kept s None delay room) × (end ≤ length (frame s None delay (ranges_kept s None delay room))))

-- on the way: `count` ranges after the first are stored, down to place p
pub record Walking (s : Seen) (delay room most from : ℕ) (xs ys : List ℕ) (at p count : ℕ) : Type 0 where
  pub long : length ys ≡ length xs
  pub far : width_of most ≤ at
  pub within : at ≤ room
  pub few : count ≤ most
  pub begins : from ≡ base s delay + width_of most
  pub counted : Counted s delay room p (at - width_of most) (count + 1)
  pub whole : (m : ℕ) → splice ys at (encode_all (fields s m p)) ≡ splice xs from (encode_all (fields s (count + m) (low s 1024)))

-- where the first range ends
pub first_ends : {s : Seen} → Begun s → {p : ℕ} → p ≡ 1024 - run_below true 1024 (value_of s.window) → p ≡ low s 1024
first_ends {s} b e = e ∙ sym (first-low b ∙ ap (λ (x : ℕ). 1024 - x) (sym (first-is b (run_below true 1024 (value_of s.window)) refl)))

module _ {s : Seen} (b : Begun s) {delay : ℕ} (d : delay ≤ limit) where
  -- what was counted fits
  pub counted-kept : {room p bytes count : ℕ} → Counted s delay room p bytes count → count ≤ ranges_kept s None delay room
  counted-kept {room} {p} {bytes} {count} c =
      let k : ℕ = ranges_kept s None delay room in
      let l = kept-says s None delay room in
      split count k (λ h. h)
      (λ h.
      let f = counted-fits b delay room d c in
      absurd (omega (arith, leb-false (length (frame s None delay count)) room (l.above count h (omega (arith, c.rest))))))

  pub walk_begins : {room most from : ℕ} (xs : List ℕ) → from + 1 ≡ length (frame s None delay 1) + width_of most → from ≤ room → most ≤ limit → Walking s delay room most from xs xs from (low s 1024) 0
  walk_begins {room} {most} {from} xs e h l =
      let r = first_rest b in
      let n : bytes_below s 0 (low s 1024) ≡ 0 = rw (fields-zero s (low s 1024)) bytes-none in
      let z = one_width 0 (omega arith) in
      let f : from ≡ base s delay + width_of most = omega (arith, frame-length b delay d 0 (omega arith)) in
      let w = width-pos most l in
      let g : from - width_of most ≡ base s delay = omega arith in
      record {
        long = refl;
        far = omega arith;
        within = h;
        few = omega arith;
        begins = f;
        counted = rw g (count-first b delay room d (omega arith));
        whole = λ m. ap (λ (n : ℕ). splice xs from (encode_all (fields s n (low s 1024)))) (sym (zero-add m));
      }

  module _ {room most from : ℕ} {xs ys : List ℕ} {at p count : ℕ} (w : Walking s delay room most from xs ys at p count) where
    -- what is stored so far
    stands : (at ≡ from + bytes_below s count (low s 1024)) × (ys ≡ splice xs from (encode_all (fields s count (low s 1024))))
    unfolding encode_all
    stands =
        let n : bytes_below s 0 p ≡ 0 = rw (fields-zero s p) bytes-none in
        let z : count + 1 - 1 + 0 ≡ count = omega arith in
        let y : splice ys at (encode_all (fields s 0 p)) ≡ ys = rw (fields-zero s p, add-zero) (take-append-drop at ys) in (
          omega (arith, w.counted.sum 0, ap (λ (x : ℕ). bytes_below s x (low s 1024)) z, w.far, w.begins),
          sym y ∙ w.whole 0 ∙ ap (λ (x : ℕ). splice xs from (encode_all (fields s x (low s 1024)))) (add-zero count),
        )

    -- the walk is over, with every range that fits
    pub walk_ends : count + 1 ≡ ranges_kept s None delay room → Answer s delay room most from (low s 1024) xs ys at count false
    walk_ends e =
        let t = stands in
        (t.0, t.1, w.within, omega arith, w.few, λ f. e, λ f. absurd (let z : ◌≡◌ {A = ℕ} 0 1 = cc in omega arith))

    -- a frame with more ranges goes on behind them
    kept-longer : width_of most ≤ 1 → at ≤ length (frame s None delay (ranges_kept s None delay room))
    kept-longer h =
        let k : ℕ = ranges_kept s None delay room in
        let c = w.counted in
        let l = counted-kept c in
        let v = kept-says s None delay room in
        let few = few-ranges s in
        let j : k ≡ suc (k - 1) = omega arith in
        let o : count + 1 - 1 + (k - 1 - count) ≡ k - 1 = omega arith in
        omega
        (arith, ap (λ (x : ℕ). length (frame s None delay x)) j, frame-length b delay d (k - 1) (omega (arith, v.within)), c.sum (k - 1 - count), ap (λ (x : ℕ). bytes_below s x (low s 1024)) o, width-pos (k - 1) (omega (arith, v.within)), w.far)

    -- no range is left
    pub walk-all : top s p ≡ 0 → Answer s delay room most from (low s 1024) xs ys at count false
    walk-all e = walk_ends (count-all b delay room d w.counted e)

    -- m and z are what a step down from p passes and takes
    module _ {m z : ℕ} (e : m ≡ missing s p) (f : z ≡ size s p) (n : z ≡ 0 → ⊥) where
      -- the field is no wider than that of more ranges, and so the next range does not fit with it either
      pub walk-full : Field s delay room most → room < at + width_of (m - 1) + width_of (z - 1) → Answer s delay room most from (low s 1024) xs ys at count false
      walk-full g h =
          let k : ℕ = ranges_kept s None delay room in
          let c = w.counted in
          let l = counted-kept c in
          let v = kept-says s None delay room in
          walk_ends
          (split k (count + 1) (λ i. omega arith)
          (λ i.
          let few = few-ranges s in
          let j : k ≡ suc (k - 1) = omega arith in
          let o : count + 1 - 1 + suc (k - 1 - count - 1) ≡ k - 1 = omega arith in
          let y : width_of most ≤ width_of (k - 1) =
          ⊎_elim (λ q. omega (arith, ap width_of q, one_width 63 (omega arith), width-pos (k - 1) (omega (arith, v.within))))
          (λ q. omega (arith, ap width_of q.0, two-width 16383 (omega arith) (omega arith), two-width (k - 1) (omega (arith, q.1)) (omega (arith, v.within)))) g in
          let t = some_more b d c e f n in
          let x = leb-true (length (frame s None delay k)) room (v.holds (omega arith)) in
          absurd
          (omega
          (arith, x, ap (λ (x : ℕ). length (frame s None delay x)) j, frame-length b delay d (k - 1) (omega (arith, v.within)), c.sum (suc (k - 1 - count - 1)), ap (λ (x : ℕ). bytes_below s x (low s 1024)) o, bytes-more b delay d (k - 1 - count - 1) p c.at t, ap (λ (x : ℕ). width_of (x - 1)) e, ap (λ (x : ℕ). width_of (x - 1)) f, w.far))))

      -- the field holds no larger count: one range more fits with two bytes or does not
      over : Field s delay room most → at + width_of (m - 1) + width_of (z - 1) ≤ room → count ≡ most
          → Answer s delay room most from (low s 1024) xs ys at count (ltb (at + width_of (m - 1) + width_of (z - 1)) room)
      over g h i =
          let c = w.counted in
          let t = stands in
          let l = counted-kept c in
          ⊎_elim
          (λ q.
          let x : width_of (count + 1) ≡ 2 = two-width (count + 1) (omega arith) (omega arith) in
          let y : width_of most ≡ 1 = ap width_of q ∙ one_width 63 (omega arith) in (
            t.0,
            t.1,
            w.within,
            omega arith,
            w.few,
            λ r. no-more-fit b d c e f n refl refl refl (omega (arith, ltb-false (at + width_of (m - 1) + width_of (z - 1)) room r, w.far)),
            λ r.
                let v = counted-kept (one-more-fits b d c e f n refl refl refl (omega (arith, ltb-true (at + width_of (m - 1) + width_of (z - 1)) room r, w.far))) in
                (q, omega arith, kept-longer (omega arith)),
          ))
          (λ q. absurd (omega (arith, q.0, c.few))) g

      pub walk-over : Field s delay room most → at + width_of (m - 1) + width_of (z - 1) ≤ room → count ≡ most → {w₁ w₂ : ℕ} → w₁ ≡ width_of (m - 1) → w₂ ≡ width_of (z - 1)
          → Answer s delay room most from (low s 1024) xs ys at count (ltb (at + w₁ + w₂) room)
      walk-over g h i e₁ e₂ = rw (e₁, e₂) (over g h i)

      -- one range more is stored: us is the buffer with its gap, and vs with its length too
      pub walk-next : at + width_of (m - 1) + width_of (z - 1) ≤ room → (count ≡ most → ⊥) → most ≤ limit → room ≤ length xs
          → {us vs : List ℕ} {mid next : ℕ} → mid ≡ at + width_of (m - 1) → us ≡ splice ys at (encode (m - 1)) → next ≡ mid + width_of (z - 1) → vs ≡ splice us mid (encode (z - 1))
          → length us ≡ length ys → length vs ≡ length us → Walking s delay room most from xs vs next (p - m - z) (count + 1)
      unfolding encode_all
      walk-next h i l r {us} {vs} {mid} {next} e₁ e₂ e₃ e₄ u v =
          let c = w.counted in
          let x = step-sizes b d c e f n in
          let k = c.at.below in
          let g = width-grows (count + 1) most (omega (arith, w.few)) l in
          let j = one-more-fits b d c e f n refl refl refl (omega (arith, w.far)) in
          let y : next - width_of most ≡ at - width_of most + width_of (m - 1) + width_of (z - 1) = omega (arith, w.far) in
          let n₁ : length (encode (m - 1)) ≡ width_of (m - 1) = length-encode (m - 1) (omega arith) in
          let n₂ : length (encode (z - 1)) ≡ width_of (z - 1) = length-encode (z - 1) (omega arith) in
          record {
            long = v ∙ u ∙ w.long;
            far = omega (arith, w.far);
            within = omega arith;
            few = omega (arith, w.few);
            begins = w.begins;
            counted = rw y j;
            whole = λ o.
                let ws : List ℕ = encode_all (fields s o (p - m - z)) in
                let t : fields s (suc o) p ≡ (m - 1) ∷ (z - 1) ∷ fields s o (p - m - z) = rw (e, f) (fields-some s b o p c.at (some_more b d c e f n)) in
                let q : count + 1 + o ≡ count + suc o = omega arith in
                let a : splice vs next ws ≡ splice us mid (encode (z - 1) ++ ws) = rw (e₄, e₃, ← n₂) (splice-splice us (encode (z - 1)) ws mid (omega (arith, w.long))) in
                let a' : splice us mid (encode (z - 1) ++ ws) ≡ splice ys at (encode (m - 1) ++ (encode (z - 1) ++ ws)) = rw (e₂, e₁, ← n₁) (splice-splice ys (encode (m - 1)) (encode (z - 1) ++ ws) at (omega (arith, w.long))) in
                a ∙ a' ∙ ap (λ (l : List ℕ). splice ys at (encode_all l)) (sym t) ∙ w.whole (suc o) ∙ ap (λ (x : ℕ). splice xs from (encode_all (fields s x (low s 1024)))) (sym q);
          }
