-- How many of the last records fit: the search from the top finds the largest number that does, whatever the sizes are; with more room or a higher limit none is dropped.
-- Assumes nothing.
use Rattle.std.proofs.Common.{◌≡◌, ℕ, zero, suc, ◌+◌, ◌-◌, ◌*◌, ◌/◌, ◌<◌, ◌≤◌, min, List, length, sym, refl, ap, ◌∙◌, mul-zero, arith, length-drop, drop-drop, le-leb}
use native.Mathlib.Nat.{min-le_left, min-le_right, le-min}
use borrow.Author.Tests.{lt-leb}
use Rattle.wire.specs.Numbers.{width_of, first_from}
use Rattle.wire.proofs.Lengths.{split, width-le}
use Rattle.entries.specs.Profiles.{record_size}
use Rattle.entries.specs.Fitting.{size_of, largest_within, fitting_of, last_of}
use Rattle.entries.specs.Exactly.{RecordsFit, RecordsStay}
use Rattle.entries.specs.declared.Profile.{Profile}
use Rattle.entries.proofs.Sizes.{held, not-held, no_less, one_fewer}
use Rattle.entries.proofs.Profiles.{sized}

-- no record takes one byte, that of the count
pub size_none : (p : Profile) → size_of p 0 ≡ 1
unfolding width_of first_from
size_none p = ap (λ (n : ℕ). 1 + n) (mul-zero (record_size p))

below : (m k : ℕ) → k ≤ suc m → (k ≡ suc m → ⊥) → k ≤ m
below m k h n = split k m (λ p. p) (λ p. absurd (n (omega arith)))

module _ (size : ℕ → ℕ) (room : ℕ) where
  -- a number up to the given one that fits, or is 0, and above which none does, is what the search finds
  pub within-is : (most k : ℕ) → k ≤ most → (0 < k → size k ≤ room) → ((j : ℕ) → k < j → j ≤ most → room < size j) → k ≡ largest_within size room most
  unfolding largest_within
  within-is zero k h f n = omega arith
  within-is (suc m) k h f n =
      split (size (suc m)) room
      (λ y. rw (le-leb (size (suc m)) room y) (split (suc m) k (λ p. omega arith) (λ p. absurd (omega (arith, n (suc m) p (omega arith))))))
      (λ y. rw (lt-leb (size (suc m)) room y) (within-is m k (below m k h (λ e. omega (arith, f (omega arith), ap size e))) f (λ j l b. n j l (omega arith))))

  pub within-most : (most : ℕ) → largest_within size room most ≤ most
  unfolding largest_within
  within-most zero = omega arith
  within-most (suc k) =
      split (size (suc k)) room
      (λ h. rw (le-leb (size (suc k)) room h) (omega arith))
      (λ h. rw (lt-leb (size (suc k)) room h) (omega (arith, within-most k)))

  -- what is found is within the room, unless it is 0
  pub within-fits : (most : ℕ) → 0 < largest_within size room most → size (largest_within size room most) ≤ room
  unfolding largest_within
  within-fits zero h = absurd (omega arith)
  within-fits (suc k) h =
      split (size (suc k)) room
      (λ l. rw (le-leb (size (suc k)) room l) l)
      (λ l. rw (lt-leb (size (suc k)) room l) (within-fits k (rw (lt-leb (size (suc k)) room l) at h)))

  -- and no larger number up to the given one is
  pub within-longest : (most k : ℕ) → k ≤ most → size k ≤ room → k ≤ largest_within size room most
  unfolding largest_within
  within-longest zero k h l = h
  within-longest (suc m) k h l =
      split (size (suc m)) room
      (λ y. rw (le-leb (size (suc m)) room y) h)
      (λ n. rw (lt-leb (size (suc m)) room n) (within-longest m k (below m k h (λ e. omega (arith, ap size e))) l))

-- more room, and a search that begins no lower, finds no smaller number
pub within_more : (size : ℕ → ℕ) (room room' most most' : ℕ) → room ≤ room' → most ≤ most' → largest_within size room most ≤ largest_within size room' most'
within_more size room room' most most' r m =
    let k : ℕ = largest_within size room most in
    split 1 k
    (λ p. within-longest size room' most' k (omega (arith, within-most size room most)) (omega (arith, within-fits size room most p)))
    (λ p. omega arith)

pub above-none : (k : ℕ) → (k ≡ 0 → ⊥) → 0 < k
above-none zero n = absurd (n refl)
above-none (suc k) n = omega arith

-- ---- the run of last records

-- the code begins with what the room holds without the count: k records, or one fewer
module _ (p : Profile) (given most room n q k : ℕ) (l : n ≡ min given most) (z : q ≡ room / record_size p) (m : k ≡ min n q) where
  e : k ≡ min (min given most) (room / record_size p)
  e = m ∙ rw (l, z)

  k-most : k ≤ min given most
  k-most = rw e (min-le_left (min given most) (room / record_size p))

  k-room : record_size p * k ≤ room
  k-room = let l : k ≤ room / record_size p = rw e (min-le_right (min given most) (room / record_size p)) in held (record_size p) (sized p) room k l

  pub k-held : (size : ℕ) → size ≡ record_size p → size * k ≤ room
  k-held size y = rw y k-room

  above : (j : ℕ) → k < j → j ≤ min given most → room < size_of p j
  above j l m =
      split j (room / record_size p)
      (λ h. let q : j ≤ k = rw e (le-min m h) in absurd (omega arith))
      (λ h. let q = not-held (record_size p) (sized p) room j h in add_left (width_of j) room (record_size p * j) q)
    where
      add_left : (w a b : ℕ) → a < b → a < w + b
      add_left w a b h = omega arith

  pub fits-none : k ≡ 0 → 0 ≡ fitting_of p given most room
  fits-none z = sym z ∙ within-is (size_of p) room (min given most) k k-most (λ q. absurd (omega arith)) above

  pub fits_all : (size : ℕ) → size ≡ record_size p → 0 < k → width_of k ≤ room - size * k → k ≡ fitting_of p given most room
  fits_all size y o h = within-is (size_of p) room (min given most) k k-most (λ l. within (width_of k) room (record_size p * k) (rw y at h) k-room) above
    where
      within : (w r b : ℕ) → w ≤ r - b → b ≤ r → w + b ≤ r
      within w r b h l = omega arith

  -- the count of one fewer takes at most 8 bytes, half of a record of 16
  pub fits-one-fewer : (size : ℕ) → size ≡ record_size p → 0 < k → room - size * k < width_of k → k - 1 ≡ fitting_of p given most room
  fits-one-fewer size y o h =
      within-is (size_of p) room (min given most) (k - 1) (omega (arith, k-most))
      (λ l. within (width_of (k - 1)) room (record_size p * (k - 1)) (record_size p * k) (record_size p) (width-le (k - 1)) (omega arith) (one_fewer (record_size p) k o) k-room)
      (λ j l m. split j k (λ q. let j-is : j ≡ k = omega arith in rw j-is (beyond (width_of k) room (record_size p * k) (rw y at h) k-room)) (λ q. above j q m))
    where
      within : (w r a b size : ℕ) → w ≤ 8 → 8 ≤ size → a + size ≡ b → b ≤ r → w + a ≤ r
      within w r a b size h i e l = omega arith

      beyond : (w r b : ℕ) → r - b < w → b ≤ r → r < w + b
      beyond w r b h l = omega arith

pub records-fit : RecordsFit
records-fit p given most room =
    let top : ℕ = min given most in
    let m = within-most (size_of p) room top in
    record {
      limit = omega (arith, m, min-le_right given most);
      given = omega (arith, m, min-le_left given most);
      fits = λ z. fits z (largest_within (size_of p) room top) (within-fits (size_of p) room top);
      longest = λ j l g f. within-longest (size_of p) room top j (le-min g l) f;
    }
  where
    fits : size_of p 0 ≤ room → (k : ℕ) → (0 < k → size_of p k ≤ room) → size_of p k ≤ room
    fits z zero h = z
    fits z (suc k) h = h (omega arith)

-- the last k of the last m
last-last : (p : Profile) (s : List ℕ) (k m : ℕ) → k ≤ m → record_size p * m ≤ length s → last_of p s k ≡ last_of p (last_of p s m) k
last-last p s k m h l = rw (drop-drop, sums (length s) (length (last_of p s m)) (record_size p * k) (record_size p * m) (length-drop (length s - record_size p * m) s) (no_less (record_size p) k m h) l)
  where
    sums : (n d a b : ℕ) → d ≡ n - (n - b) → a ≤ b → b ≤ n → n - b + (d - a) ≡ n - a
    sums n d a b e h l = omega arith

pub records-stay : RecordsStay
records-stay p s most most' room room' h r =
    let n : ℕ = length s / record_size p in
    let q : fitting_of p n most room ≤ fitting_of p n most' room' = within_more (size_of p) room room' (min n most) (min n most') r (le-min (min-le_left n most) (omega (arith, min-le_right n most))) in
    record {
      more = q;
      last = last-last p s (fitting_of p n most room) (fitting_of p n most' room') q (held (record_size p) (sized p) (length s) (fitting_of p n most' room') (records-fit p n most' room').given);
    }
