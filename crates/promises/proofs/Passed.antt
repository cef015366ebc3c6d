-- Laws of `count`, and of the numbers passed over: what a newly accepted packet adds to them, by comparing tests number by number.
-- Assumes nothing.
use Prim.Native.Nat.{ℕ, zero, suc, ◌+◌, ◌≤◌, ◌<◌, zero-le}
use mathlib.Core.Path.{◌≡◌, refl, ap}
use mathlib.Core.Bool.{Bool, true, false, not, ◌&&◌, false≢true}
use mathlib.Core.List.{List, [], ◌∷◌}
use mathlib.Core.Logic.{⊎_elim}
use native.Mathlib.Omega.{arith}
use native.Mathlib.Nat.{le_of_suc-le-suc, not-suc-le-zero, le_refl, le_trans, eq-or-lt_of_le}
use lib.Arith.{le-zero}
use lib.Dec.{ltb, eqb}
use borrow.Author.Tests.{lt-ltb, eqb-false, eq-eqb}
use Rattle.wire.proofs.Lengths.{split}
use Rattle.promises.specs.Accepted.{one_if, Packet}
use Rattle.promises.specs.Told.{largest, among}
use Rattle.promises.specs.Passed.{count, passes, passed, passed_over}
use Rattle.promises.proofs.Truth.{either_left, either-right, both, both_left, both_right, neither_left, neither_right, not-both}
use Rattle.promises.proofs.Packets.{largest-grows}

one-mono : (a b : Bool) → (a ≡ true → b ≡ true) → one_if a ≤ one_if b
one-mono false b h = zero-le
one-mono true b h = go b (h refl)
  where
    go : (b : Bool) → b ≡ true → 1 ≤ one_if b
    go true e = le_refl 1
    go false e = absurd (false≢true e)

abbrev Within : (ℕ → Bool) → (ℕ → Bool) → Type 0
Within f g = (m : ℕ) → f m ≡ true → g m ≡ true

count-within : (f g : ℕ → Bool) → Within f g → (b : ℕ) → count f b ≤ count g b
unfolding count
count-within f g h zero = le_refl 0
count-within f g h (suc b) = omega (arith, count-within f g h b, one-mono (f b) (g b) (h b))

count-longer : (f : ℕ → Bool) (b c : ℕ) → b ≤ c → count f b ≤ count f c
unfolding count
count-longer f b zero l = rw (le-zero l) (le_refl (count f 0))
count-longer f b (suc c) l =
    ⊎_elim (λ e. rw e (le_refl (count f (suc c)))) (λ k. omega (arith, count-longer f b c (le_of_suc-le-suc k))) (eq-or-lt_of_le l)

-- a larger test and a longer stretch count no less
count-mono : (f g : ℕ → Bool) → Within f g → {b c : ℕ} → b ≤ c → count f b ≤ count g c
count-mono f g h {b} {c} l = le_trans (count-within f g h b) (count-longer g b c l)

-- ... and more, where the longer stretch has a number more
count-above : (f g : ℕ → Bool) → Within f g → (b c m : ℕ) → b ≤ m → m < c → g m ≡ true → count f b + 1 ≤ count g c
unfolding count
count-above f g h b c m l k e =
    let one : one_if (g m) ≡ 1 = ap one_if e in
    let below : count f b ≤ count g m = count-mono f g h l in
    let up : count g (suc m) ≤ count g c = count-longer g (suc m) c k in
    omega arith

-- ... or where the larger test has one more
count-new-same : (f g : ℕ → Bool) → Within f g → (m b : ℕ) → m < b → f m ≡ false → g m ≡ true → count f b + 1 ≤ count g b
unfolding count
count-new-same f g h m zero l p q = absurd (not-suc-le-zero l)
count-new-same f g h m (suc b) l p q =
    ⊎_elim
    (λ e.
    let zer : one_if (f b) ≡ 0 = rw (← e) (ap one_if p) in
    let one : one_if (g b) ≡ 1 = rw (← e) (ap one_if q) in
    omega (arith, count-within f g h b))
    (λ k. omega (arith, count-new-same f g h m b k p q, one-mono (f b) (g b) (h b)))
    (eq-or-lt_of_le (le_of_suc-le-suc l))

count-new : (f g : ℕ → Bool) → Within f g → (m b c : ℕ) → b ≤ c → m < b → f m ≡ false → g m ≡ true → count f b + 1 ≤ count g c
count-new f g h m b c l k p q = le_trans (count-new-same f g h m b k p q) (count-longer g b c l)

-- what is passed over stays so
passed-grows : (p : Packet) (ps : List Packet) → Within (passed ps) (passed (p ∷ ps))
unfolding passed
passed-grows p ps m e = either_left (passed ps m) (passes p ps m) e

-- a larger number passes over what was not received
passed-by : (p : Packet) (ps : List Packet) (m : ℕ) → m < p.number → among ps m ≡ false → passes p ps m ≡ true
passed-by p ps m l e = both (ltb m p.number) (not (among ps m)) (lt-ltb m p.number l) (ap not e)

-- a number below the largest that was not received is passed over
pub missing-passed : (ps : List Packet) (m : ℕ) → m < largest ps → among ps m ≡ false → passed ps m ≡ true
unfolding passed among largest
missing-passed [] m l e = absurd (not-suc-le-zero l)
missing-passed (p ∷ ps) m l e =
    let absent : among ps m ≡ false = neither_right (eqb p.number m) (among ps m) e in
    let other : p.number ≡ m → ⊥ = eqb-false p.number m (neither_left (eqb p.number m) (among ps m) e) in
    split p.number m
    (λ h. either_left (passed ps m) (passes p ps m) (missing-passed ps m (omega (arith, other)) absent))
    (λ h. either-right (passed ps m) (passes p ps m) (passed-by p ps m h absent))

-- the ones passed over that came late
unfoldable pub came_late : List Packet → ℕ → Bool
came_late ps m = passed ps m && among ps m

unfoldable pub late : List Packet → ℕ
late ps = count (came_late ps) (largest ps)

late-grows : (p : Packet) (ps : List Packet) → Within (came_late ps) (came_late (p ∷ ps))
unfolding came_late among
late-grows p ps m e =
    both (passed (p ∷ ps) m) (among (p ∷ ps) m) (passed-grows p ps m (both_left (passed ps m) (among ps m) e))
    (either-right (eqb p.number m) (among ps m) (both_right (passed ps m) (among ps m) e))

pub late-mono : (p : Packet) (ps : List Packet) → late ps ≤ late (p ∷ ps)
unfolding late
late-mono p ps = count-mono (came_late ps) (came_late (p ∷ ps)) (late-grows p ps) (largest-grows p ps)

pub late-new : (p : Packet) (ps : List Packet) → p.number < largest ps → among ps p.number ≡ false → late ps + 1 ≤ late (p ∷ ps)
unfolding late came_late among
late-new p ps l e =
    let n : ℕ = p.number in
    count-new
    (came_late ps)
    (came_late (p ∷ ps))
    (late-grows p ps)
    n
    (largest ps)
    (largest (p ∷ ps))
    (largest-grows p ps)
    l
    (not-both (passed ps n) (among ps n) e)
    (both (passed (p ∷ ps) n) (among (p ∷ ps) n) (passed-grows p ps n (missing-passed ps n l e)) (either_left (eqb n n) (among ps n) (eq-eqb n n refl)))

pub late-le : (ps : List Packet) → late ps ≤ passed_over ps
unfolding late came_late passed_over
late-le ps = count-mono (came_late ps) (passed ps) (λ m e. both_left (passed ps m) (among ps m) e) (le_refl (largest ps))

pub passed_over-mono : (p : Packet) (ps : List Packet) → passed_over ps ≤ passed_over (p ∷ ps)
unfolding passed_over
passed_over-mono p ps = count-mono (passed ps) (passed (p ∷ ps)) (passed-grows p ps) (largest-grows p ps)

-- passed over below b
unfoldable pub below : List Packet → ℕ → ℕ
below ps b = count (passed ps) b

pub below-le : (ps : List Packet) (b : ℕ) → b ≤ largest ps → below ps b ≤ passed_over ps
unfolding below passed_over
below-le ps b l = count-mono (passed ps) (passed ps) (λ m e. e) l

pub below-mono : (p : Packet) (ps : List Packet) {b c : ℕ} → b ≤ c → below ps b ≤ below (p ∷ ps) c
unfolding below
below-mono p ps l = count-mono (passed ps) (passed (p ∷ ps)) (passed-grows p ps) l

pub below_new : (p : Packet) (ps : List Packet) (b c m : ℕ) → b ≤ m → m < c → m < largest (p ∷ ps) → among (p ∷ ps) m ≡ false → below ps b + 1 ≤ below (p ∷ ps) c
unfolding below
below_new p ps b c m l k i e = count-above (passed ps) (passed (p ∷ ps)) (passed-grows p ps) b c m l k (missing-passed (p ∷ ps) m i e)
