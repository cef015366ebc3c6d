-- Numbers in the ring of sixteen words: those of one word, and a range of them that a word has.
-- Assumes nothing.
use Prim.Native.Nat.{ℕ, ◌+◌, ◌-◌, ◌*◌, ◌/◌, ◌%◌, ◌^◌, ◌≤◌, ◌<◌}
use mathlib.Core.Path.{◌≡◌, refl, sym, ap, ap₂, ◌∙◌, subst}
use mathlib.Core.Bool.{Bool, true, false, ◌&&◌, ◌||◌}
use mathlib.Core.List.{List}
use native.Mathlib.Decide.{dec_le}
use native.Mathlib.Omega.{arith}
use borrow.Author.Tests.{le-leb, lt-leb, lt-ltb, le-ltb, eqb-true, eqb-false}
use lib.Bits.{bit_or}
use lib.Dec.{ltb, eqb}
use lib.ListN.{length, get_or, set}
use lib.Seq.{get_or-set_same, get_or-set_other}
use Rattle.window.specs.Window.{is_set}
use Rattle.marks.specs.Marks.{mark, first_in, between}
use Rattle.marks.proofs.Listing.{first-hit, first-skip, first-none, first-least, first-most, first-before, first-has}
use Rattle.marks.proofs.Bits.{set-or, set-run}

pub or-none : (x : Bool) → (x || false) ≡ x
or-none true = refl
or-none false = refl

-- the numbers after at in its word
pub same_word : (ws : List ℕ) (at q : ℕ) → at % 64 + q < 64 → mark ws (at + q) ≡ is_set (get_or ws (at / 64 % 16) 0) (at % 64 + q)
same_word ws at q h =
    let i : (at + q) / 64 % 16 ≡ at / 64 % 16 = omega arith in
    let k : (at + q) % 64 ≡ at % 64 + q = omega arith in
    ap₂ (λ (x y : ℕ). is_set (get_or ws x 0) y) i k

-- both tests say the same
pub between-same : (a b n c d m : ℕ) → (a ≤ n → n < b → (c ≤ m) × (m < d)) → (c ≤ m → m < d → (a ≤ n) × (n < b)) → between a b n ≡ between c d m
between-same a b n c d m f g =
    elim (dec_le a n) [
      | yes h ↦ elim (dec_le b n) [
        | yes k ↦ right-out h k
        | no k ↦ let r = f h (omega arith) in ap₂ ◌&&◌ (le-leb a n h) (lt-ltb n b (omega arith)) ∙ sym (ap₂ ◌&&◌ (le-leb c m r.0) (lt-ltb m d r.1))
      ]
      | no h ↦ ap (λ (x : Bool). x && ltb n b) (lt-leb a n (omega arith)) ∙ sym (out-in (λ p q. h (g p q).0))
    ]
  where
    out-in : (c ≤ m → m < d → ⊥) → between c d m ≡ false
    out-in z =
        elim (dec_le c m) [
          | yes h ↦ elim (dec_le d m) [ yes k ↦ ap₂ ◌&&◌ (le-leb c m h) (le-ltb m d k) | no k ↦ absurd (z h (omega arith)) ]
          | no h ↦ ap (λ (x : Bool). x && ltb m d) (lt-leb c m (omega arith))
        ]

    right-out : a ≤ n → b ≤ n → between a b n ≡ between c d m
    right-out h k = ap₂ ◌&&◌ (le-leb a n h) (le-ltb n b k) ∙ sym (out-in (λ p q. let r = g p q in omega (arith, r.1)))

-- len numbers from at on are marked in its word, where they stand in one window of 1,024
module _ (ws : List ℕ) (at len floor n : ℕ) (sixteen : length ws ≡ 16) (one : at % 64 + len ≤ 64) (low : floor ≤ at) (high : at + len ≤ floor + 1024) (above : floor ≤ n) (below : n < floor + 1024) where
  abbrev word : ℕ
  word = bit_or (get_or ws (at / 64 % 16) 0) ((2 ^ 64 - 1) / 2 ^ (64 - len) * 2 ^ (at % 64) % 2 ^ 64)

  here : n / 64 % 16 ≡ at / 64 % 16 → mark (set ws (at / 64 % 16) word) n ≡ (mark ws n || between at (at + len) n)
  here e =
      let b : between (at % 64) (at % 64 + len) (n % 64) ≡ between at (at + len) n
      = between-same (at % 64) (at % 64 + len) (n % 64) at (at + len) n (λ p q. (omega arith, omega arith)) (λ p q. (omega arith, omega arith)) in
      ap (λ (x : ℕ). is_set x (n % 64)) (ap (λ (j : ℕ). get_or (set ws (at / 64 % 16) word) j 0) e ∙ get_or-set_same ws (at / 64 % 16) word 0 (omega arith))
      ∙ set-or (get_or ws (at / 64 % 16) 0) ((2 ^ 64 - 1) / 2 ^ (64 - len) * 2 ^ (at % 64) % 2 ^ 64) (n % 64)
      ∙ ap₂ ◌||◌ (ap (λ (j : ℕ). is_set (get_or ws j 0) (n % 64)) (sym e)) (set-run len (at % 64) (n % 64) one (omega arith) ∙ b)

  elsewhere : (n / 64 % 16 ≡ at / 64 % 16 → ⊥) → mark (set ws (at / 64 % 16) word) n ≡ (mark ws n || between at (at + len) n)
  elsewhere f =
      let b : between at (at + len) n ≡ between 1 0 0 = between-same at (at + len) n 1 0 0 (λ p q. absurd (f (omega arith))) (λ p q. absurd (omega arith)) in
      ap (λ (x : ℕ). is_set x (n % 64)) (get_or-set_other ws (at / 64 % 16) (n / 64 % 16) word 0 f) ∙ sym (ap (λ (x : Bool). mark ws n || x) b ∙ or-none (mark ws n))

  pub run-marked : mark (set ws (at / 64 % 16) word) n ≡ (mark ws n || between at (at + len) n)
  run-marked = go (eqb (n / 64 % 16) (at / 64 % 16)) refl
    where
      go : (b : Bool) → eqb (n / 64 % 16) (at / 64 % 16) ≡ b → mark (set ws (at / 64 % 16) word) n ≡ (mark ws n || between at (at + len) n)
      go true e = here (eqb-true (n / 64 % 16) (at / 64 % 16) e)
      go false e = elsewhere (eqb-false (n / 64 % 16) (at / 64 % 16) e)

-- ---- the search, a word at a time: f is the first bit set in the word of at, from at's own on

module _ (ws : List ℕ) (at to f : ℕ) (e : f ≡ first_in (is_set (get_or ws (at / 64 % 16) 0)) (64 - at % 64) (at % 64)) where
  abbrev w : ℕ
  w = get_or ws (at / 64 % 16) 0

  pub least : at % 64 ≤ f
  least = subst (λ (x : ℕ). at % 64 ≤ x) (sym e) (first-least (is_set w) (64 - at % 64) (at % 64))

  pub most : f ≤ 64
  most = let h = first-most (is_set w) (64 - at % 64) (at % 64) in omega arith

  passed : (q : ℕ) → q < f - at % 64 → mark ws (at + q) ≡ false
  passed q h =
      let m = most in
      same_word ws at q (omega arith) ∙ first-before (is_set w) (64 - at % 64) (at % 64) (at % 64 + q) (omega arith) (subst (λ (x : ℕ). at % 64 + q < x) e (omega arith))

  pub next_past : at < to → to - at ≤ f - at % 64 → to ≡ first_in (mark ws) (to - at) at
  next_past l h =
      let n : to ≡ at + (to - at) = omega arith in
      n ∙ sym (first-none (mark ws) (to - at) at (λ q m. passed q (omega arith)))

  pub next-found : f - at % 64 < to - at → f < 64 → at + (f - at % 64) ≡ first_in (mark ws) (to - at) at
  next-found h l =
      let m = least in
      let n : at % 64 + (f - at % 64) ≡ f = omega arith in
      let b : is_set w f ≡ true = subst (λ (x : ℕ). is_set w x ≡ true) (sym e) (first-has (is_set w) (64 - at % 64) (at % 64) (subst (λ (x : ℕ). x < at % 64 + (64 - at % 64)) e (omega arith))) in
      sym (first-skip (mark ws) (f - at % 64) (to - at) at (omega arith) passed
      ∙ first-hit (mark ws) (to - at - (f - at % 64)) (at + (f - at % 64)) (omega arith) (same_word ws at (f - at % 64) (omega arith) ∙ ap (is_set w) n ∙ b))

  pub next-on : f - at % 64 < to - at → 64 ≤ f → first_in (mark ws) (to - at) at ≡ first_in (mark ws) (to - (at + (64 - at % 64))) (at + (64 - at % 64))
  next-on h l =
      let m = most in
      let n : to - at - (64 - at % 64) ≡ to - (at + (64 - at % 64)) = omega arith in
      first-skip (mark ws) (64 - at % 64) (to - at) at (omega arith) (λ q k. passed q (omega arith)) ∙ ap (λ (j : ℕ). first_in (mark ws) j (at + (64 - at % 64))) n

-- ---- ranges that are empty, and that meet

-- no number lies in it
pub empty : (a b n : ℕ) → (a ≤ n → n < b → ⊥) → between a b n ≡ false
empty a b n f = between-same a b n 1 0 0 (λ p q. absurd (f p q)) (λ p q. absurd (omega arith))

-- two ranges that meet are one
pub meet : (x : Bool) (a b c n : ℕ) → a ≤ b → b ≤ c → ((x || between a b n) || between b c n) ≡ (x || between a c n)
meet true a b c n h k = refl
meet false a b c n h k =
    elim (dec_le b n) [
      | yes l ↦ ap (λ (y : Bool). y || between b c n) (empty a b n (λ p q. omega arith)) ∙ between-same b c n a c n (λ p q. (omega arith, q)) (λ p q. (l, q))
      | no l ↦ ap (λ (y : Bool). between a b n || y) (empty b c n (λ p q. l p)) ∙ or-none (between a b n) ∙ between-same a b n a c n (λ p q. (p, omega arith)) (λ p q. (p, omega arith))
    ]
