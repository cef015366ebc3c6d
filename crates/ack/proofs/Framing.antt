-- The frame up to its counts, put together: what comes before the range count, then what comes after it, and the range count last.
-- Assumes nothing.
use Prim.Native.Nat.{ℕ, suc, ◌+◌, ◌-◌, ◌≤◌, ◌<◌}
use mathlib.Core.Path.{◌≡◌, sym, ap, ◌∙◌, subst}
use mathlib.Core.Logic.{⊎_elim}
use mathlib.Core.List.{List, [], ◌∷◌, ◌++◌, append_assoc, append-nil}
use native.Mathlib.Nat.{zero-add}
use native.Mathlib.Omega.{arith}
use borrow.Author.Tests.{leb-true}
use lib.ListN.{length, take, drop, length-append, length-take}
use lib.Seq.{take-take, take-append-le, drop-drop, drop_at, length-take-le}
use Rattle.std.specs.Prelude.{Option, Some, None}
use Rattle.wire.specs.Bytes.{splice}
use Rattle.wire.specs.Numbers.{limit, width_of, encode, encode_all, put_bytes}
use Rattle.wire.proofs.Bytes.{splice-splice}
use Rattle.wire.proofs.Writing.{length-encode, one-splice}
use Rattle.frames.specs.declared.Counts.{Counts}
use Rattle.frames.specs.Ack.{type_of}
use Rattle.seen.specs.declared.Seen.{Seen}
use Rattle.ack.specs.Ack.{number_of_ranges, frame, body, ranges_kept}
use Rattle.ack.proofs.Ranges.{Begun, size, low, few-ranges, fields, fields-zero}
use Rattle.ack.proofs.Fitting.{bytes_next, bytes-none, bytes_below, base, first_rest, first-size, body-numbers, frame-length, tail-length, parts-length, kept-says, count_none, count-first}
use Rattle.ack.proofs.Short.{one_width, two-width}
use Rattle.ack.proofs.Walking.{Field, counted-kept}

-- ---- bytes over bytes

-- what is behind them stays
drop-splice : (xs ys : List ℕ) (at e : ℕ) → at + length ys ≤ e → at + length ys ≤ length xs → drop e (splice xs at ys) ≡ drop e xs
drop-splice xs ys at e h l =
    let n : ℕ = at + length ys in
    let i : e ≡ n + (e - n) = omega arith in
    let j : length (take at xs ++ ys) ≡ n = simp (length-append, length-take) (omega arith) in
    rw (i, ← drop-drop (e - n) n (splice xs at ys), ← append_assoc (take at xs) ys (drop n xs), drop_at (take at xs ++ ys) (drop n xs) n j) (drop-drop (e - n) n xs)

-- bytes that others are laid over are gone
laid-over : (xs ys us : List ℕ) → drop (length us) ys ≡ drop (length us) xs → splice ys 0 us ≡ splice xs 0 us
laid-over xs ys us e = rw zero-add (ap (λ (l : List ℕ). us ++ l) e)

-- the bytes after a gap, and then those that fill it
fill-in : (xs ys bs : List ℕ) (at : ℕ) → at + length ys ≤ length xs → splice (splice xs (at + length ys) bs) at ys ≡ splice xs at (ys ++ bs)
fill-in xs ys bs at h =
    let n : ℕ = at + length ys in
    let r : List ℕ = bs ++ drop (n + length bs) xs in
    let j : length (take n xs) ≡ n = length-take-le n xs h in
    let t : take at (take n xs ++ r) ≡ take at xs = take-append-le at (take n xs) r (omega arith) ∙ take-take at n xs (omega arith) in
    let q : n + length bs ≡ at + length (ys ++ bs) = rw length-append (omega arith) in
    rw (t, drop_at (take n xs) r n j, append_assoc ys bs (drop (at + length (ys ++ bs)) xs))
    (ap (λ (m : ℕ). take at xs ++ (ys ++ (bs ++ drop m xs))) q)

-- ---- type, largest and delay

module _ (kind largest delay : ℕ) (k : kind < 64) (l : largest ≤ limit) (d : delay ≤ limit) where
  pub head-length : length (encode_all (kind ∷ largest ∷ delay ∷ [])) ≡ 1 + width_of largest + width_of delay
  head-length = omega (arith, bytes_next kind (largest ∷ delay ∷ []) (omega arith), bytes_next largest (delay ∷ []) l, bytes_next delay [] d, bytes-none, one_width kind k)

  pub head-put : (xs : List ℕ) → length (encode_all (kind ∷ largest ∷ delay ∷ [])) ≤ length xs → {us vs ws : List ℕ} {at w₁ w₂ : ℕ}
      → at ≡ 0 + width_of kind → us ≡ splice xs 0 (encode kind) → length us ≡ length xs → vs ≡ put_bytes us at (largest ∷ []) → length vs ≡ length us
      → w₁ ≡ width_of largest → ws ≡ put_bytes vs (at + w₁) (delay ∷ []) → w₂ ≡ width_of delay
      → (at + w₁ + w₂ ≡ length (encode_all (kind ∷ largest ∷ delay ∷ []))) × (ws ≡ splice xs 0 (encode_all (kind ∷ largest ∷ delay ∷ [])))
  unfolding encode_all
  head-put xs h {us} {vs} {ws} {at} {w₁} {w₂} e₁ e₂ n₁ e₃ n₂ f₁ e₄ f₂ =
      let n = head-length in
      let z = one_width kind k in
      let x : length (encode kind) ≡ width_of kind = length-encode kind (omega arith) in
      let y : length (encode largest) ≡ width_of largest = length-encode largest l in
      let a₁ : at ≡ 0 + length (encode kind) = omega arith in
      let a₂ : at + w₁ ≡ at + length (encode largest) = omega arith in
      let g₂ : ws ≡ splice vs (at + w₁) (encode delay ++ []) = e₄ ∙ one-splice vs (at + w₁) delay d (omega arith) ∙ ap (splice vs (at + w₁)) (sym (append-nil (encode delay))) in
      let g₁ : vs ≡ splice us at (encode largest) = e₃ ∙ one-splice us at largest l (omega arith) in
      let h₁ : splice vs (at + w₁) (encode delay ++ []) ≡ splice us at (encode largest ++ (encode delay ++ [])) =
      rw (a₂, g₁) (splice-splice us (encode largest) (encode delay ++ []) at (omega arith)) in
      let h₂ : splice us at (encode largest ++ (encode delay ++ [])) ≡ splice xs 0 (encode kind ++ (encode largest ++ (encode delay ++ []))) =
      rw (a₁, e₂) (splice-splice xs (encode kind) (encode largest ++ (encode delay ++ [])) 0 (omega arith)) in
      (omega arith, g₂ ∙ h₁ ∙ h₂)

-- ---- the whole

pub type-byte : (tail : Option Counts) → type_of tail < 64
type-byte None = omega arith
type-byte (Some counts) = omega arith

module _ {s : Seen} (b : Begun s) {delay : ℕ} (d : delay ≤ limit) where
  pub frame-first : length (frame s None delay 1) ≡ 1 + base s delay
  frame-first =
      let r = first_rest b in
      let n : bytes_below s 0 (low s 1024) ≡ 0 = rw (fields-zero s (low s 1024)) bytes-none in
      omega (arith, frame-length b delay d 0 (omega arith), one_width 0 (omega arith))

  pub first-is-room : {z w₁ w₂ w₃ : ℕ} → z ≡ size s 1024 → w₁ ≡ width_of (s.end - 1) → w₂ ≡ width_of delay → w₃ ≡ width_of (z - 1) → 2 + w₁ + w₂ + w₃ ≡ length (frame s None delay 1)
  first-is-room e e₁ e₂ e₃ = omega (arith, frame-first, e₃ ∙ ap (λ (x : ℕ). width_of (x - 1)) e)

  -- the first range fits or does not
  pub first-kept : {room : ℕ} → length (frame s None delay 1) ≤ room → ranges_kept s None delay room ≡ 0 → ⊥
  first-kept {room} h z = let c = counted-kept b d (count-first b delay room d (omega (arith, frame-first))) in omega arith

  pub none_kept : {room : ℕ} → room < length (frame s None delay 1) → 0 ≡ ranges_kept s None delay room
  none_kept {room} h = count_none b delay room d (omega (arith, frame-first))

  -- K ranges fit, and the field of the range count is no wider than theirs
  module _ {room most : ℕ} (f : Field s delay room most) (h : length (frame s None delay 1) ≤ room) where
    pub head-fits : base s delay + width_of most ≤ room
    head-fits =
        let k : ℕ = ranges_kept s None delay room in
        let v = kept-says s None delay room in
        let few = few-ranges s in
        ⊎_elim (λ q. omega (arith, ap width_of q, one_width 63 (omega arith), frame-first))
        (λ q.
        let j : k ≡ suc (k - 1) = omega (arith, q.1) in
        omega
        (arith, ap width_of q.0, two-width 16383 (omega arith) (omega arith), two-width (k - 1) (omega (arith, q.1)) (omega (arith, v.within)), leb-true (length (frame s None delay k)) room (v.holds (omega (arith, q.1))), ap (λ (x : ℕ). length (frame s None delay x)) j, frame-length b delay d (k - 1) (omega (arith, v.within, q.1))))
        f

    -- the range count of a walk that is not over takes the field
    pub count-width : {count : ℕ} → count ≤ most → count + 1 ≡ ranges_kept s None delay room → (width_of count ≡ width_of most) × (count < 1024)
    count-width {count} l e =
        let v = kept-says s None delay room in
        let few = few-ranges s in
        ⊎_elim (λ q. (one_width count (omega arith) ∙ sym (ap width_of q ∙ one_width 63 (omega arith)), omega arith))
        (λ q. (two-width count (omega (arith, q.1)) (omega (arith, v.within)) ∙ sym (ap width_of q.0 ∙ two-width 16383 (omega arith) (omega arith)), omega (arith, v.within)))
        f

  module _ (tail : Option Counts) {first : ℕ} (e : first ≡ size s 1024) where
    -- the bytes before the range count
    abbrev pub head_bytes : List ℕ
    head_bytes = encode_all (type_of tail ∷ (s.end - 1) ∷ delay ∷ [])

    pub head-long : (length head_bytes ≡ 1 + width_of (s.end - 1) + width_of delay) × (length head_bytes + width_of (first - 1) ≡ base s delay)
    head-long =
        let n = head-length (type_of tail) (s.end - 1) delay (type-byte tail) (omega (arith, b.small)) d in
        (n, omega (arith, ap (λ (x : ℕ). width_of (x - 1)) e))

    body_is : (k : ℕ) → k < number_of_ranges s
        → body s (type_of tail) delay (suc k) ≡ head_bytes ++ (encode k ++ (encode (first - 1) ++ encode_all (fields s k (low s 1024))))
    unfolding body encode_all
    body_is k h = ap encode_all (body-numbers b (type_of tail) delay k h) ∙ rw e (simp append_assoc)

    body-long : (k : ℕ) → k < number_of_ranges s → length (body s (type_of tail) delay (suc k)) ≡ length (frame s None delay (suc k))
    body-long k h = omega (arith, parts-length s tail delay (suc k), tail-length b delay d tail k h, frame-length b delay d k h)

    module _ {room most : ℕ} (f : Field s delay room most) (xs : List ℕ) (r : room ≤ length xs) (count : ℕ)
        {us vs ws : List ℕ} {end : ℕ} (e₁ : us ≡ splice xs 0 head_bytes) (n₁ : length us ≡ length xs)
        (e₂ : vs ≡ splice us (length head_bytes + width_of most) (encode (first - 1))) (n₂ : length vs ≡ length us)
        (e₃ : ws ≡ splice vs (length head_bytes + width_of most + width_of (first - 1)) (encode_all (fields s count (low s 1024))))
        (e₄ : end ≡ length head_bytes + width_of most + width_of (first - 1) + bytes_below s count (low s 1024)) (l : end ≤ room) where
      first_small : first - 1 ≤ limit
      first_small = omega (arith, first-size b)

      -- what stands behind the field
      behind : ws ≡ splice us (length head_bytes + width_of most) (encode (first - 1) ++ encode_all (fields s count (low s 1024)))
      behind =
          let n = length-encode (first - 1) first_small in
          e₃ ∙ rw (e₂, ← n) (splice-splice us (encode (first - 1)) (encode_all (fields s count (low s 1024))) (length head_bytes + width_of most) (omega arith))

      -- the walk was not over: the range count makes it whole
      pub completed : {ys : List ℕ} → count + 1 ≡ ranges_kept s None delay room → width_of count ≡ width_of most → ys ≡ splice ws (length head_bytes) (encode count)
          → (end ≡ length (body s (type_of tail) delay (ranges_kept s None delay room))) × (ys ≡ splice xs 0 (body s (type_of tail) delay (ranges_kept s None delay room)))
      completed {ys} g w i =
          let v = kept-says s None delay room in
          let few = few-ranges s in
          let n : length (encode count) ≡ width_of most = length-encode count (omega (arith, v.within)) ∙ w in
          let k : ranges_kept s None delay room ≡ suc count = omega arith in
          let q = body_is count (omega (arith, v.within)) in
          let c : List ℕ = encode (first - 1) ++ encode_all (fields s count (low s 1024)) in
          let x : ys ≡ splice us (length head_bytes) (encode count ++ c) =
          i ∙ rw (behind, ← n) (fill-in us (encode count) c (length head_bytes) (omega arith)) in
          let y : splice us (length head_bytes) (encode count ++ c) ≡ splice xs 0 (head_bytes ++ (encode count ++ c)) =
          rw e₁ (subst (λ (m : ℕ). splice (splice xs 0 head_bytes) m (encode count ++ c) ≡ splice xs 0 (head_bytes ++ (encode count ++ c))) (zero-add (length head_bytes)) (splice-splice xs head_bytes (encode count ++ c) 0 (omega arith))) in
          rw k (omega (arith, body-long count (omega (arith, v.within)), frame-length b delay d count (omega (arith, v.within)), head-long), x ∙ y ∙ ap (splice xs 0) (sym q))

      -- it was over: what it stored is laid over
      pub passed_over : 64 < ranges_kept s None delay room → end ≤ length (frame s None delay (ranges_kept s None delay room))
          → splice ws 0 (body s (type_of tail) delay (ranges_kept s None delay room)) ≡ splice xs 0 (body s (type_of tail) delay (ranges_kept s None delay room))
      passed_over g h =
          let k : ℕ = ranges_kept s None delay room in
          let v = kept-says s None delay room in
          let j : k ≡ suc (k - 1) = omega arith in
          let m = body-long (k - 1) (omega (arith, v.within)) in
          let y : length (body s (type_of tail) delay k) ≡ length (frame s None delay k) = rw j m in
          let us' : List ℕ = body s (type_of tail) delay k in
          let c : List ℕ = encode (first - 1) ++ encode_all (fields s count (low s 1024)) in
          let o : length c ≡ width_of (first - 1) + bytes_below s count (low s 1024) = length-append (encode (first - 1)) (encode_all (fields s count (low s 1024))) ∙ ap (λ (x : ℕ). x + bytes_below s count (low s 1024)) (length-encode (first - 1) first_small) in
          laid-over xs ws us'
          (ap (drop (length us')) behind ∙ drop-splice us c (length head_bytes + width_of most) (length us') (omega arith) (omega arith)
          ∙ ap (drop (length us')) e₁ ∙ drop-splice xs head_bytes 0 (length us') (omega arith) (omega arith))
