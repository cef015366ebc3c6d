-- What callers use of the window: laws that speak of its number W and of places alone, for all values. Assumes nothing.
use mathlib.Core.Path.{◌≡◌, refl, sym, ap, ◌∙◌, subst}
use mathlib.Core.Bool.{Bool, true, false}
use mathlib.Core.Logic.{⊎_elim}
use Prim.Native.Nat.{ℕ, zero, suc, ◌+◌, ◌-◌, ◌*◌, ◌/◌, ◌^◌, ◌%◌, ◌≤◌, ◌<◌, zero-le}
use native.Mathlib.Nat.{not-suc-le-zero, le_of_suc-le-suc, eq-or-lt_of_le, add_comm, add-zero, one-mul, zero-mul, lt_of_lt_of_le, lt_of_le_of_lt, mod-eq_of_lt, mod-lt, le_refl}
use native.Mathlib.Omega.{arith}
use borrow.Author.Tests.{eq-eqb, ne_eqb, eqb-true, eqb-false}
use lib.Dec.{eqb}
use lib.Pow.{pow_mono, pow_pos, shr_le, shr_lt}
use Rattle.window.specs.Words.{words_of, bit}
use Rattle.window.specs.Window.{value_of, window_of, is_set, with_bit, first_clear, run_below, none_below}
use Rattle.window.specs.declared.Window.{Window}
use Rattle.std.specs.Prelude.{Some, None}
use Rattle.window.proofs.Bits.{bit-lt, bit-add, bit-above, bit-low, bit-room, bit_added, bit-added-other, same_bits}
use Rattle.window.proofs.Words.{number-words, length-words, words-words}
use Rattle.window.proofs.Sixteen.{Sixteen, bounded, whole, as-window}
use Rattle.window.proofs.Clear.{hit, pass, stop, skip}
use Rattle.window.proofs.Runs.{marks, run_none, run_on, run-off, run-skip, run-stop}

-- ---- a window and its number

-- the number of the window of a number: its 1,024 low bits
pub number_of : (w : ℕ) → value_of (window_of w) ≡ w % 2 ^ 1024
number_of w = number-words 16 w

-- of a number below 2 ^ 1024, the number itself
pub number-kept : (w : ℕ) → w < 2 ^ 1024 → value_of (window_of w) ≡ w
number-kept w l = number_of w ∙ mod-eq_of_lt l

-- the window of a window's number is that window
pub window-kept : (s : Window) → Sixteen s.words → window_of (value_of s) ≡ s
window-kept s h = as-window (words_of 16 (value_of s)) s.words (whole s.words h)

-- the number of a window is below 2 ^ 1024
pub number-below : (s : Window) → Sixteen s.words → value_of s < 2 ^ 1024
number-below s h = bounded s.words h

-- the window of a number has sixteen words
pub window-sixteen : (w : ℕ) → Sixteen (window_of w).words
window-sixteen w = record { long = length-words 16 w; words = words-words 16 w }

-- ---- the mark at a place, as a bit

-- a marked place has the bit 1
pub marked-bit : (w p : ℕ) → is_set w p ≡ true → bit w p ≡ 1
marked-bit w p e = eqb-true (bit w p) 1 e

-- a place that is not marked has the bit 0
pub unmarked-bit : (w p : ℕ) → is_set w p ≡ false → bit w p ≡ 0
unmarked-bit w p e = let n : bit w p ≡ 1 → ⊥ = eqb-false (bit w p) 1 e in omega (arith, n, bit-lt w p)

-- no place is marked in 0
pub zero-mark : (q : ℕ) → is_set 0 q ≡ false
zero-mark q = ap (λ (x : ℕ). eqb x 1) (bit-above 0 0 q (pow_pos 0) zero-le)

-- ---- a place marked

-- marking a place that is not marked adds 2 ^ p
pub mark-new : (w p : ℕ) → is_set w p ≡ false → with_bit w p ≡ w + 2 ^ p
mark-new w p e = ap (λ (b : ℕ). w + (1 - b) * 2 ^ p) (unmarked-bit w p e) ∙ ap (λ (x : ℕ). w + x) (one-mul (2 ^ p))

-- marking a marked place changes nothing
pub mark-again : (w p : ℕ) → is_set w p ≡ true → with_bit w p ≡ w
mark-again w p e = ap (λ (b : ℕ). w + (1 - b) * 2 ^ p) (marked-bit w p e) ∙ ap (λ (x : ℕ). w + x) (zero-mul (2 ^ p)) ∙ add-zero w

-- a mark is there or is not
by-mark : {P : Type 0} (w p : ℕ) → (is_set w p ≡ true → P) → (is_set w p ≡ false → P) → P
by-mark {P} w p f g = go (is_set w p) refl
  where
    go : (b : Bool) → is_set w p ≡ b → P
    go true e = f e
    go false e = g e

-- the place that was marked is marked
pub mark-there : (w p : ℕ) → is_set (with_bit w p) p ≡ true
mark-there w p =
    by-mark w p (λ e. ap (λ (v : ℕ). is_set v p) (mark-again w p e) ∙ e)
    (λ e. ap (λ (v : ℕ). is_set v p) (mark-new w p e) ∙ ap (λ (x : ℕ). eqb x 1) (bit_added w p (unmarked-bit w p e)))

-- every other place is as it was
pub mark-elsewhere : (w p q : ℕ) → (q ≡ p → ⊥) → is_set (with_bit w p) q ≡ is_set w q
mark-elsewhere w p q n =
    by-mark w p (λ e. ap (λ (v : ℕ). is_set v q) (mark-again w p e))
    (λ e. ap (λ (v : ℕ). is_set v q) (mark-new w p e) ∙ ap (λ (x : ℕ). eqb x 1) (bit-added-other w p q (unmarked-bit w p e) n))

-- a mark below place k keeps a number below 2 ^ k
pub mark-below : (k w p : ℕ) → w < 2 ^ k → p < k → with_bit w p < 2 ^ k
mark-below k w p h l =
    by-mark w p (λ e. subst (λ (v : ℕ). v < 2 ^ k) (sym (mark-again w p e)) h)
    (λ e. subst (λ (v : ℕ). v < 2 ^ k) (sym (mark-new w p e)) (bit-room k w p h l (unmarked-bit w p e)))

-- ---- places moved, and places dropped

-- after an advance by d a place has the mark of the place d above it
pub moved-mark : (w d q : ℕ) → is_set (w / 2 ^ d) q ≡ is_set w (q + d)
moved-mark w d q = ap (λ (x : ℕ). eqb x 1) (sym (bit-add w d q) ∙ ap (bit w) (add_comm d q))

-- the places below k are kept by a division's rest
pub low-mark : (w k q : ℕ) → q < k → is_set (w % 2 ^ k) q ≡ is_set w q
low-mark w k q l = ap (λ (x : ℕ). eqb x 1) (bit-low w k q l)

-- of a window made of a number each place has the number's mark
pub made-mark : (v q : ℕ) → q < 1024 → is_set (value_of (window_of v)) q ≡ is_set v q
made-mark v q l = ap (λ (x : ℕ). is_set x q) (number_of v) ∙ low-mark v 1024 q l

-- no place from k on is marked in a number below 2 ^ k
pub high-mark : (w k q : ℕ) → w < 2 ^ k → k ≤ q → is_set w q ≡ false
high-mark w k q h l = ap (λ (x : ℕ). eqb x 1) (bit-above w k q h l)

-- and so in a division's rest
pub rest-mark : (w k q : ℕ) → k ≤ q → is_set (w % 2 ^ k) q ≡ false
rest-mark w k q l = high-mark (w % 2 ^ k) k q (mod-lt w (pow_pos k)) l

-- two numbers below 2 ^ k with the same marks are equal
pub same-marks : (k v w : ℕ) → v < 2 ^ k → w < 2 ^ k → ((q : ℕ) → q < k → is_set v q ≡ is_set w q) → v ≡ w
same-marks k v w hv hw h = same_bits k v w hv hw (λ q l. by-mark v q (both q l) (neither q l))
  where
    both : (q : ℕ) → q < k → is_set v q ≡ true → bit v q ≡ bit w q
    both q l e = marked-bit v q e ∙ sym (marked-bit w q (sym (h q l) ∙ e))

    neither : (q : ℕ) → q < k → is_set v q ≡ false → bit v q ≡ bit w q
    neither q l e = unmarked-bit v q e ∙ sym (unmarked-bit w q (sym (h q l) ∙ e))

-- ---- the first missing place

-- m is a place of the range, not marked, and all places of the range before it are
pub record FirstMissing (from to w m : ℕ) : Type 0 where
  pub least : from ≤ m
  pub below : m < to
  pub missing : is_set w m ≡ false
  pub before : (q : ℕ) → from ≤ q → q < m → is_set w q ≡ true

-- the same of n places from p on, as the search goes
some-says : (n p w m : ℕ) → first_clear n p w ≡ Some m → FirstMissing p (p + n) w m
unfolding first_clear
some-says zero p w m e = absurd (let z : ◌≡◌ {A = ℕ} 0 1 = cc in omega arith)
some-says (suc n) p w m e = go (some-says n (suc p) w m) (bit w p) refl
  where
    go : (first_clear n (suc p) w ≡ Some m → FirstMissing (suc p) (suc p + n) w m) → (b : ℕ) → bit w p ≡ b → FirstMissing p (p + suc n) w m
    go rest zero z =
        let s : Some p ≡ Some m = sym (hit (suc n) p w (omega arith) z) ∙ e in
        let i : p ≡ m = cc in record {
          least = omega arith;
          below = omega arith;
          missing = ap (is_set w) (sym i) ∙ ap (λ (x : ℕ). eqb x 1) z;
          before = λ q a b. absurd (omega arith);
        }
    go rest (suc b) z =
        let o : bit w p ≡ 1 = omega (arith, bit-lt w p) in
        let r = rest (sym (pass n p w o) ∙ e) in record {
          least = omega (arith, r.least);
          below = omega (arith, r.below);
          missing = r.missing;
          before = λ q a b. ⊎_elim (λ g. ap (is_set w) (sym g) ∙ ap (λ (x : ℕ). eqb x 1) o) (λ g. r.before q g b) (eq-or-lt_of_le a);
        }

nothing-says : (n p w : ℕ) → first_clear n p w ≡ None → (q : ℕ) → p ≤ q → q < p + n → is_set w q ≡ true
unfolding first_clear
nothing-says zero p w e q a b = absurd (omega arith)
nothing-says (suc n) p w e q a b = go (nothing-says n (suc p) w) (bit w p) refl
  where
    go : (first_clear n (suc p) w ≡ None → (q : ℕ) → suc p ≤ q → q < suc p + n → is_set w q ≡ true) → (b : ℕ) → bit w p ≡ b → is_set w q ≡ true
    go rest zero z =
        let s : Some p ≡ None = sym (hit (suc n) p w (omega arith) z) ∙ e in
        absurd (let i : ◌≡◌ {A = ℕ} 0 1 = cc in omega arith)
    go rest (suc c) z =
        let o : bit w p ≡ 1 = omega (arith, bit-lt w p) in
        ⊎_elim (λ g. ap (is_set w) (sym g) ∙ ap (λ (x : ℕ). eqb x 1) o) (λ g. rest (sym (pass n p w o) ∙ e) q g (omega arith)) (eq-or-lt_of_le a)

-- the answer `Some m` says that m is the first place that is not marked
pub missing-says : (from to w m : ℕ) → first_clear (to - from) from w ≡ Some m → FirstMissing from to w m
missing-says from to w m e =
    let r = some-says (to - from) from w m e in record {
      least = r.least;
      below = omega (arith, r.below, r.least);
      missing = r.missing;
      before = r.before;
    }

-- and is given where m is
pub missing-is : (from to w m : ℕ) → FirstMissing from to w m → first_clear (to - from) from w ≡ Some m
missing-is from to w m r =
    let i : from + (m - from) ≡ m = omega (arith, r.least) in
    let l : 0 < to - from - (m - from) = omega (arith, r.least, r.below) in
    skip (to - from) (m - from) from w (λ q l. marked-bit w (from + q) (r.before (from + q) (omega arith) (omega (arith, r.least))))
    ∙ ap (λ (p : ℕ). first_clear (to - from - (m - from)) p w) i ∙ hit (to - from - (m - from)) m w l (unmarked-bit w m r.missing)

-- the answer `None` says that all places from `from` below `to` are marked
pub none-missing-says : (from to w : ℕ) → first_clear (to - from) from w ≡ None → (q : ℕ) → from ≤ q → q < to → is_set w q ≡ true
none-missing-says from to w e q a b = nothing-says (to - from) from w e q a (omega arith)

-- and is given where they are
pub none-missing-is : (from to w : ℕ) → ((q : ℕ) → from ≤ q → q < to → is_set w q ≡ true) → first_clear (to - from) from w ≡ None
none-missing-is from to w h =
    let z : to - from - (to - from) ≡ 0 = omega arith in
    skip (to - from) (to - from) from w (λ q l. marked-bit w (from + q) (h (from + q) (omega arith) (omega arith)))
    ∙ stop (to - from - (to - from)) (from + (to - from)) w z

-- ---- the run of one mark directly below a place

-- the k places directly below n have the mark b, and the next, if there is one, has not
pub record Run (b : Bool) (n w k : ℕ) : Type 0 where
  pub within : k ≤ n
  pub has : (q : ℕ) → n - k ≤ q → q < n → is_set w q ≡ b
  pub ends : k < n → is_set w (n - k - 1) ≡ b → ⊥

-- the answer k says so
pub run-says : (b : Bool) (n w k : ℕ) → run_below b n w ≡ k → Run b n w k
run-says b zero w k e = record { within = omega (arith, run_none b 0 w refl); has = λ q i j. absurd (not-suc-le-zero j); ends = λ l. absurd (not-suc-le-zero l) }
run-says b (suc p) w k e = marks (is_set w p) b (go (run-says b p w (run_below b p w) refl)) stopped
  where
    go : Run b p w (run_below b p w) → is_set w p ≡ b → Run b (suc p) w k
    go r o =
        let f : k ≡ suc (run_below b p w) = sym e ∙ run_on b p w o in
        let g : suc p - k - 1 ≡ p - run_below b p w - 1 = omega arith in record {
          within = omega (arith, r.within);
          has = λ q i j. ⊎_elim (λ h. ap (is_set w) h ∙ o) (λ h. r.has q (omega arith) h) (eq-or-lt_of_le (le_of_suc-le-suc j));
          ends = λ l m. r.ends (omega arith) (ap (is_set w) (sym g) ∙ m);
        }

    stopped : (is_set w p ≡ b → ⊥) → Run b (suc p) w k
    stopped o =
        let f : k ≡ 0 = sym e ∙ run-off b p w o in
        let g : p ≡ suc p - k - 1 = omega arith in record {
          within = omega arith;
          has = λ q i j. absurd (omega arith);
          ends = λ l m. o (ap (is_set w) g ∙ m);
        }

-- and is given where that is so
pub run_is : (b : Bool) (n w k : ℕ) → Run b n w k → run_below b n w ≡ k
run_is b n w k r =
    ⊎_elim
    (λ e.
    let z : n - k ≡ 0 = omega arith in
    omega (arith, run-skip b k n w r.within r.has, run_none b (n - k) w z))
    (λ l. run-stop b k n w l r.has (r.ends l)) (eq-or-lt_of_le r.within)

-- ---- no mark below a place

-- the answer true says that no place below p is marked
pub none-says : (p w : ℕ) → none_below p w ≡ true → (q : ℕ) → q < p → is_set w q ≡ false
none-says p w e q l =
    sym (low-mark w p q l) ∙ ap (λ (v : ℕ). is_set v q) (eqb-true (w % 2 ^ p) 0 e) ∙ zero-mark q

-- and is given where none is
pub none_is : (p w : ℕ) → ((q : ℕ) → q < p → is_set w q ≡ false) → none_below p w ≡ true
none_is p w h =
    eq-eqb (w % 2 ^ p) 0
    (same-marks p (w % 2 ^ p) 0 (mod-lt w (pow_pos p)) (pow_pos p) (λ q l. low-mark w p q l ∙ h q l ∙ sym (zero-mark q)))

-- the code asks whether the run of places that are not marked has them all
pub none-by-run : (p w : ℕ) → eqb (run_below false p w) p ≡ none_below p w
none-by-run p w = go (none_below p w) refl
  where
    go : (b : Bool) → none_below p w ≡ b → eqb (run_below false p w) p ≡ none_below p w
    go true t =
        let r : Run false p w p = record { within = le_refl p; has = λ q g l. none-says p w t q l; ends = λ l e. absurd (omega arith) } in
        eq-eqb (run_below false p w) p (run_is false p w p r) ∙ sym t
    go false f =
        ne_eqb (run_below false p w) p
        (λ e.
        let t = none_is p w (λ q l. (run-says false p w p e).has q (omega arith) l) in
        let g : true ≡ false = sym t ∙ f in
        let z : ◌≡◌ {A = ℕ} 0 1 = cc in omega arith)
        ∙ sym f

-- an advance by d leaves no mark below p where there was none below p + d
pub none-moved : (p d w : ℕ) → none_below (p + d) w ≡ true → none_below p (w / 2 ^ d) ≡ true
none-moved p d w e = none_is p (w / 2 ^ d) (λ q l. moved-mark w d q ∙ none-says (p + d) w e (q + d) (omega arith))

-- a mark from p on leaves no mark below p
pub none_kept : (p m w : ℕ) → none_below p w ≡ true → p ≤ m → none_below p (with_bit w m) ≡ true
none_kept p m w e l = none_is p (with_bit w m) (λ q i. mark-elsewhere w m q (λ f. omega arith) ∙ none-says p w e q i)

-- ---- an advance with the top place marked: the packet number L + d accepted

module _ (w d : ℕ) (h : w < 2 ^ 1024) (l : 0 < d) where
  -- an advance leaves the top place free
  pub top-free : is_set (w / 2 ^ d) 1023 ≡ false
  top-free =
      let e : 1024 ≤ 1023 + d = omega arith in high-mark (w / 2 ^ d) 1023 1023 (shr_lt 1023 d (lt_of_lt_of_le h (pow_mono e))) (omega arith)

  -- advanced by d and marked at the top the window has the number W / 2 ^ d + 2 ^ 1023
  pub pushed : window_of (with_bit (value_of (window_of (w / 2 ^ d))) 1023) ≡ window_of (w / 2 ^ d + 2 ^ 1023)
  pushed =
      ap (λ (v : ℕ). window_of (with_bit v 1023)) (number-kept (w / 2 ^ d) (lt_of_le_of_lt (shr_le w d) h))
      ∙ ap window_of (mark-new (w / 2 ^ d) 1023 top-free)

  -- which is below 2 ^ 1024
  pub pushed-below : w / 2 ^ d + 2 ^ 1023 < 2 ^ 1024
  pushed-below =
      subst (λ (v : ℕ). v < 2 ^ 1024) (mark-new (w / 2 ^ d) 1023 top-free)
      (mark-below 1024 (w / 2 ^ d) 1023 (lt_of_le_of_lt (shr_le w d) h) (omega arith))
