-- What an accepted number says of the bytes: its form is no shorter than the shortest, and the shortest is what the writer writes.
-- Assumes nothing.
use Prim.Native.Nat.{ℕ, suc, ◌+◌, ◌-◌, ◌*◌, ◌/◌, ◌%◌, ◌^◌, ◌≤◌, ◌<◌}
use mathlib.Core.Path.{◌≡◌, refl, sym, ap, ◌∙◌}
use mathlib.Core.Bool.{Bool, true, false}
use mathlib.Core.List.{List, [], ◌∷◌}
use native.Mathlib.Nat.{add-zero, mod-lt, mul_comm, div-add-mod', div-div-eq-div-mul}
use native.Mathlib.Omega.{arith}
use borrow.Author.Tests.{leb-true, eq-eqb, eqb-true}
use lib.Dec.{leb}
use lib.Pow.{suc_ones, pow_pos, pow-lt}
use lib.ListN.{length, get_or, take, drop, length-take, length-drop}
use lib.Seq.{get_or-drop, get_or-take}
use Rattle.std.specs.Prelude.{Result, Ok, Err}
use Rattle.wire.specs.Bytes.{pick, be, Octets}
use Rattle.wire.specs.Fields.{read_fixed, found}
use Rattle.wire.specs.Numbers.{len_of, room_of, limit, code_of, width_of, form, encode, is_shortest, in_form, read_form, read_number}
use Rattle.wire.specs.Exactly.{FormsTold}
use Rattle.wire.specs.declared.Fixed.{Fixed}
use Rattle.wire.specs.declared.Refusal.{Refusal}
use Rattle.wire.specs.declared.Refusal.TheVariants.{Ends}
use Rattle.wire.proofs.Bytes.{be-above, digits-be, octets-part}
use Rattle.wire.proofs.Reading.{whole, whole-same, found-same}
use Rattle.wire.proofs.Lengths.{split, room-le, room-pos, code-least, small-code, width-found, width-least}

-- what reading a field found
pub fixed-is : (len : ℕ) (s : List ℕ) (at v next : ℕ) → read_fixed len s at ≡ whole v next
    → (next ≡ at + len) × (next ≤ length s) × (v ≡ be 0 (take len (drop at s)))
unfolding read_fixed
fixed-is len s at v next e = go (leb (at + len) (length s)) refl e
  where
    go : (b : Bool) → leb (at + len) (length s) ≡ b → pick b (whole (be 0 (take len (drop at s))) (at + len)) (Err Ends) ≡ whole v next
        → (next ≡ at + len) × (next ≤ length s) × (v ≡ be 0 (take len (drop at s)))
    go true t e =
        let m = whole-same e in
        let l : at + len ≤ length s = leb-true (at + len) (length s) t in
        (sym m.1, omega arith, sym m.0)
    go false t e = absurd (cc)

-- what reading a number found: k is its code
record Found (s : List ℕ) (at v next : ℕ) (b : Bool) (k : ℕ) : Type 0 where
  place : next ≡ at + len_of k
  within : next ≤ length s
  value : v ≡ be 0 (take (len_of k) (drop at s)) % room_of k
  told : b ≡ is_shortest k v

number_is : (s : List ℕ) (at v next : ℕ) (b : Bool) → read_number s at ≡ found v next b → Found s at v next b (get_or s at 0 / 64)
unfolding read_number read_form
number_is s at v next b e = go (read_fixed (len_of k) s at) refl e
  where
    k : ℕ
    k = get_or s at 0 / 64

    go : (n : Result Fixed Refusal) → read_fixed (len_of k) s at ≡ n → in_form k n ≡ found v next b → Found s at v next b k
    go (Ok field) t e =
        let w : ℕ = field.value in
        let m : ℕ = field.next in
        let f = fixed-is (len_of k) s at w m t in
        let same = found-same e in
        let q : w % room_of k ≡ v = same.0 in
        let p : m ≡ next = same.1 in
        let r : is_shortest k (w % room_of k) ≡ b = same.2 in
        record {
          place = sym p ∙ f.0;
          within = rw (← p) f.1;
          value = sym q ∙ ap (λ (n : ℕ). n % room_of k) f.2;
          told = sym r ∙ ap (is_shortest k) q;
        }
    go (Err refusal) t e = absurd (cc)

-- two codes of the same length are the same
same_code : (i j : ℕ) → i ≤ j → len_of i ≡ len_of j → i ≡ j
same_code i j h e = split j i (λ l. omega arith) (λ l. omega (arith, pow-lt l))

module _ (s : List ℕ) (at v next : ℕ) {b : Bool} (o : Octets s) (e : read_number s at ≡ found v next b) where
  code_below : get_or s at 0 / 64 < 4
  code_below = omega (arith, o at)

  below : v < room_of (get_or s at 0 / 64)
  below =
      let k : ℕ = get_or s at 0 / 64 in
      rw (number_is s at v next b e).value (mod-lt (be 0 (take (len_of k) (drop at s))) (room-pos k))

  -- a number that was read is one that can be written, and its form was long enough for it
  pub accepted-small : v ≤ limit
  accepted-small = omega (arith, below, room-le (get_or s at 0 / 64) code_below)

  pub accepted-long : at + width_of v ≤ next
  accepted-long = omega (arith, (number_is s at v next b e).place, width-least v (get_or s at 0 / 64) code_below (omega (arith, below)))

  pub accepted-within : next ≤ length s
  accepted-within = (number_is s at v next b e).within

  -- as many bytes as the writer's are the writer's form, and no other form is so long
  pub as-long-shortest : next ≡ at + width_of v → b ≡ true
  as-long-shortest f =
      let k : ℕ = get_or s at 0 / 64 in
      let c : code_of v ≤ k = code-least v k code_below (omega (arith, below)) in
      let w : width_of v ≡ len_of k = omega (arith, (number_is s at v next b e).place) in
      (number_is s at v next b e).told ∙ eq-eqb (code_of v) k (same_code (code_of v) k c (sym (width-found v (omega (arith, code_below))) ∙ w))

-- the code stands above the number: t is one less than the length
code-above : (bs : List ℕ) (t : ℕ) → Octets bs → length bs ≡ suc t → be 0 bs / (64 * 256 ^ t) ≡ get_or bs 0 0 / 64
code-above [] t h l = absurd (omega arith)
code-above (b ∷ bs) t h l =
    let e : length bs ≡ t = omega arith in
    rw (mul_comm 64 (256 ^ t), ← div-div-eq-div-mul (be (0 * 256 + b) bs) (256 ^ t) 64, ← e, be-above bs (0 * 256 + b) (λ i. h (suc i))) (omega arith)

-- a number in its shortest form takes as many bytes as the writer's
pub shortest-place : (s : List ℕ) (at v next : ℕ) → read_number s at ≡ found v next true → v ≤ limit → next ≡ at + width_of v
shortest-place s at v next e l =
    let n = number_is s at v next true e in
    let c : code_of v ≡ get_or s at 0 / 64 = eqb-true (code_of v) (get_or s at 0 / 64) (sym n.told) in
    n.place ∙ ap (λ (w : ℕ). at + w) (sym (width-found v (small-code v l) ∙ ap len_of c))

pub forms-told : FormsTold
forms-told s at v next b o e = (λ t. shortest-place s at v next (rw t at e) (accepted-small s at v next o e), as-long-shortest s at v next o e)

-- and is what the writer writes
pub accepted-shortest : (s : List ℕ) (at v next : ℕ) → Octets s → read_number s at ≡ found v next true → take (width_of v) (drop at s) ≡ encode v
unfolding encode form
accepted-shortest s at v next o e =
    let k : ℕ = get_or s at 0 / 64 in
    let h : k < 4 = code_below s at v next o e in
    let n = number_is s at v next true e in
    let g : code_of v ≡ k = eqb-true (code_of v) k (sym n.told) in
    let w : width_of v ≡ len_of k = width-found v (omega arith) ∙ ap len_of g in
    let bs : List ℕ = take (len_of k) (drop at s) in
    let l : length bs ≡ len_of k = simp (length-take, length-drop) (omega (arith, n.place, n.within)) in
    let b : get_or bs 0 0 ≡ get_or s at 0 = get_or-take (len_of k) (drop at s) 0 0 (pow_pos k) ∙ get_or-drop at s 0 0 ∙ ap (λ (i : ℕ). get_or s i 0) (add-zero at) in
    let ob : Octets bs = octets-part s at (len_of k) o in
    let d : be 0 bs / room_of k ≡ k = code-above bs (2 ^ k - 1) ob (l ∙ sym (suc_ones k)) ∙ ap (λ (x : ℕ). x / 64) b in
    let m : k * room_of k + v ≡ be 0 bs = rw n.value (ap (λ (x : ℕ). x * room_of k + be 0 bs % room_of k) (sym d) ∙ div-add-mod' (be 0 bs) (room_of k)) in
    rw (w, g, m, ← l) (sym (rw l (rw l at (digits-be bs ob))))
