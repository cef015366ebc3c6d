-- How a reader's proof follows its code: what a field answers, and one step for each `let .. else` and each test.
-- Assumes nothing.
use Prim.Native.Nat.{ℕ, suc, ◌+◌, ◌-◌, ◌*◌, ◌%◌, ◌/◌, ◌≤◌, ◌<◌}
use mathlib.Core.Path.{◌≡◌, refl, sym, ap, ap₂, subst, ◌∙◌}
use mathlib.Core.Bool.{Bool, true, false}
use mathlib.Core.List.{List, [], ◌∷◌}
use native.Mathlib.Omega.{arith}
use borrow.Author.Tests.{le-leb, lt-leb}
use lib.Dec.{ltb, leb}
use lib.ListN.{length, get_or, take, drop}
use lib.Pow.{pow_pos}
use lib.Seq.{drop-cons}
use native.Mathlib.Nat.{mod-eq_of_lt, mod-lt}
use Rattle.wire.specs.Bytes.{pick, be}
use Rattle.std.specs.Prelude.{Result, Ok, Err}
use Rattle.wire.specs.Fields.{read_fixed, found, formed}
use Rattle.wire.specs.Numbers.{len_of, room_of, largest_of, is_shortest, below_code, with_form, in_form, read_form, read_number}
use Rattle.wire.specs.declared.Fixed.{Fixed}
use Rattle.wire.specs.declared.Number.{Number}
use Rattle.wire.specs.declared.Refusal.{Refusal}
use Rattle.wire.specs.declared.Refusal.TheVariants.{Ends}
use Rattle.wire.proofs.Lengths.{room_of_lem, room-pos, shortest-code, shortest-one}

-- a field that was read
abbrev pub whole : ℕ → ℕ → Result Fixed Refusal
whole v next = Ok (record { value = v; next = next })

pub whole-same : {v w next mid : ℕ} → whole v next ≡ whole w mid → (v ≡ w) × (next ≡ mid)
whole-same {v} {w} {next} {mid} e =
    let r : ◌≡◌ {A = Fixed} (record { value = v; next = next }) (record { value = w; next = mid }) = cc in
    (ap (λ (n : Fixed). n.value) r, ap (λ (n : Fixed). n.next) r)

-- two numbers that were read
pub found-same : {v w next mid : ℕ} {b c : Bool} → found v next b ≡ found w mid c → (v ≡ w) × (next ≡ mid) × (b ≡ c)
found-same {v} {w} {next} {mid} {b} {c} e =
    let r : ◌≡◌ {A = Number} (record { value = v; next = next; shortest = b }) (record { value = w; next = mid; shortest = c }) = cc in
    (ap (λ (n : Number). n.value) r, ap (λ (n : Number). n.next) r, ap (λ (n : Number). n.shortest) r)

pub fixed-ends : (len : ℕ) (s : List ℕ) (at : ℕ) → length s < at + len → Err Ends ≡ read_fixed len s at
unfolding read_fixed
fixed-ends len s at h = rw (lt-leb (at + len) (length s) h)

-- n is what the code has joined
pub fixed-value : (len : ℕ) (s : List ℕ) (at n : ℕ) → at + len ≤ length s → n ≡ be 0 (take (at + len - at) (drop at s))
    → whole n (at + len) ≡ read_fixed len s at
unfolding read_fixed
fixed-value len s at n h e =
    let m : at + len - at ≡ len = omega arith in
    rw (le-leb (at + len) (length s) h, e, m)

-- for a field whose form counts, and so for every field
module _ {R : Type 0} (f : ℕ → ℕ → Bool → R) {n r : Result Number Refusal} where
  -- the bytes end in it: t is what the `else` knows of the answer n, and e what the call ensures of it
  pub stop : (x : R) {refusal : Refusal} → n ≡ Err refusal → n ≡ r → x ≡ formed r x f
  stop x t e = ap (λ (m : Result Number Refusal). formed m x f) (sym t ∙ e)

  -- it is v, and g is what comes after it
  pub next : (x : R) {v at : ℕ} {shortest : Bool} {y : R} → n ≡ found v at shortest → n ≡ r → y ≡ f v at shortest → y ≡ formed r x f
  next x t e g = g ∙ ap (λ (m : Result Number Refusal). formed m x f) (sym t ∙ e)

module _ {R : Type 0} {b : Bool} {x : R} (p q : R) where
  pub yes : b ≡ true → x ≡ p → x ≡ pick b p q
  yes e g = rw e g

  pub no : b ≡ false → x ≡ q → x ≡ pick b p q
  no e g = rw e g

-- ---- a field in the form of code k: len and big are what the table says of the code

-- such a field is refused where the bytes end in it, and for nothing else
form-refused : (k len : ℕ) (s : List ℕ) (at : ℕ) {refusal : Refusal} → below_code k (read_fixed len s at) ≡ Err refusal → refusal ≡ Ends
unfolding read_fixed
form-refused k len s at {refusal} = go (leb (at + len) (length s))
  where
    go : (b : Bool) → below_code k (pick b (whole (be 0 (take len (drop at s))) (at + len)) (Err Ends)) ≡ Err refusal → refusal ≡ Ends
    go true t = absurd (cc)
    go false t = cc

module _ (k len : ℕ) (s : List ℕ) (at : ℕ) {n : Result Fixed Refusal} (f : len ≡ len_of k) (e : n ≡ read_fixed len s at) where
  pub form-ends : {refusal : Refusal} → n ≡ Err refusal → Err Ends ≡ below_code k (read_fixed (len_of k) s at)
  form-ends t =
      let g : Err _ ≡ below_code k (read_fixed (len_of k) s at) = ap (below_code k) (sym t ∙ rw f at e) in
      ap Err (sym (form-refused k (len_of k) s at (sym g))) ∙ g

  pub form-value : (big : ℕ) {v next : ℕ} → big ≡ largest_of k → n ≡ whole v next → whole (v % (big + 1)) next ≡ below_code k (read_fixed (len_of k) s at)
  form-value big {v} {next} g t = rw (room_of_lem k big g) (ap (below_code k) (sym t ∙ rw f at e))

-- its value is one that the form holds
value_in : Result Fixed Refusal → ℕ
value_in (Ok field) = field.value
value_in (Err refusal) = 0

held : (k : ℕ) (field : Result Fixed Refusal) → value_in (below_code k field) < room_of k
unfolding value_in
held k (Ok field) = mod-lt field.value (room-pos k)
held k (Err refusal) = room-pos k

below-room : (k : ℕ) (field : Result Fixed Refusal) {v next : ℕ} → whole v next ≡ below_code k field → v < room_of k
unfolding value_in
below-room k field {v} {next} e = subst (λ (x : ℕ). x < room_of k) (sym (ap value_in e)) (held k field)

-- ---- a number: k is the code that the first byte gives

pub number-ends : (s : List ℕ) (at : ℕ) → length s ≤ at → Err Ends ≡ read_number s at
unfolding read_number read_form
number-ends s at h =
    let k : ℕ = get_or s at 0 / 64 in
    ap (in_form k) (fixed-ends (len_of k) s at (omega (arith, pow_pos k)))

-- a number is refused where the bytes end in it, and for nothing else
pub number-refused : (s : List ℕ) (at : ℕ) {refusal : Refusal} → read_number s at ≡ Err refusal → refusal ≡ Ends
unfolding read_number read_form read_fixed
number-refused s at {refusal} = go (leb (at + len_of (get_or s at 0 / 64)) (length s))
  where
    go : (b : Bool) → in_form (get_or s at 0 / 64) (pick b (whole (be 0 (take (len_of (get_or s at 0 / 64)) (drop at s))) (at + len_of (get_or s at 0 / 64))) (Err Ends)) ≡ Err refusal
        → refusal ≡ Ends
    go true t = absurd (cc)
    go false t = cc

-- small is the largest value that the table gives the code before it
module _ (s : List ℕ) (at k : ℕ) {n : Result Fixed Refusal} (h : get_or s at 0 / 64 ≡ k) (e : n ≡ below_code k (read_fixed (len_of k) s at)) where
  pub number_cut : {refusal : Refusal} → n ≡ Err refusal → Err Ends ≡ read_number s at
  unfolding read_number read_form
  number_cut t = rw h (ap Err (sym (form-refused k (len_of k) s at (sym e ∙ t))) ∙ ap (with_form k) (sym t ∙ e))

  number_is : {v next : ℕ} → n ≡ whole v next → found v next (is_shortest k v) ≡ read_number s at
  unfolding read_number read_form
  number_is t = rw h (ap (with_form k) (sym t ∙ e))

  pub number-value : (small : ℕ) {v next : ℕ} → 0 < k → k < 4 → small ≡ largest_of (k - 1) → n ≡ whole v next → found v next (ltb small v) ≡ read_number s at
  number-value small {v} {next} p l q t =
      ap (found v next) (rw q (shortest-code k v p l (below-room k (read_fixed (len_of k) s at) (sym t ∙ e)))) ∙ number_is t

-- a number of one byte is that byte: big and len are what the table says of code 0
pub number_short : (s : List ℕ) (at big len v : ℕ) → at < length s → big ≡ largest_of 0 → len ≡ len_of 0 → v ≡ get_or s at 0 → v ≤ big
    → found v (at + len) true ≡ read_number s at
number_short s at big len v l g f e h =
    let d : drop at s ≡ get_or s at 0 ∷ drop (suc at) s = drop-cons s at 0 l in
    let o : at + 1 - at ≡ 1 = omega arith in
    let t : take (at + 1 - at) (drop at s) ≡ get_or s at 0 ∷ [] = ap₂ (λ (n : ℕ) (xs : List ℕ). take n xs) o d in
    let z : v ≡ 0 * 256 + get_or s at 0 = omega arith in
    let j : v ≡ be 0 (take (at + 1 - at) (drop at s)) = z ∙ sym (ap (be 0) t) in
    let m : v % (big + 1) ≡ v = mod-eq_of_lt (omega arith) in
    rw f
    (ap (found v (at + 1)) (shortest-one v (omega arith))
    ∙ number_is s at 0 (omega arith) (form-value 0 1 s at refl (fixed-value 1 s at v (omega arith) j) big g refl) (ap (λ (n : ℕ). whole n (at + 1)) m))
