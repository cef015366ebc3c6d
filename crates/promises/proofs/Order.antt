-- The order line in numbers: the search over places and the search over numbers go side by side, place p standing for the number p + L's end - 1024.
-- Assumes nothing.
use Prim.Native.Nat.{ℕ, zero, suc, ◌+◌, ◌-◌, ◌≤◌, ◌<◌, min, max}
use mathlib.Core.Path.{◌≡◌, refl, ap, ap₂, ◌∙◌}
use mathlib.Core.Bool.{Bool, true, false, ◌||◌}
use mathlib.Core.List.{List}
use native.Mathlib.Nat.{le-max_left, le-max_right, le_trans, min-le_left}
use native.Mathlib.Omega.{arith}
use lib.Dec.{ltb}
use Rattle.window.specs.Window.{first_clear}
use Rattle.std.specs.Prelude.{Option, Some, None}
use Rattle.window.proofs.Laws.{marked-bit, unmarked-bit}
use Rattle.window.proofs.Clear.{hit, pass}
use Rattle.seen.specs.declared.Seen.{Seen}
use Rattle.seen.specs.Received.{floor_of, floor, place_of, is_any, first_missing}
use Rattle.receiver.specs.Packet.{reaches, out_of_order, gap_reached, order}
use Rattle.promises.specs.Accepted.{Packet, packets}
use Rattle.promises.specs.Told.{largest, among, confirmed_of, seen_of}
use Rattle.promises.specs.Order.{missing_from, smallest_missing, far_below, order_of, InNumbers}
use Rattle.promises.proofs.Marks.{marks_of, told-value, told-place, seen}

-- an answer over places as one over numbers
abbrev in_numbers : ℕ → Option ℕ → Option ℕ
in_numbers end (Some place) = Some (place + end - 1024)
in_numbers end None = None

search : (ps : List Packet) (k p m : ℕ) → p + largest ps ≡ m + 1024 → in_numbers (largest ps) (first_clear k p (marks_of ps)) ≡ missing_from ps k m
unfolding missing_from first_clear
search ps zero p m e = refl
search ps (suc k) p m e = go (among ps m) refl (search ps k (suc p) (suc m) (omega arith))
  where
    go : (b : Bool) → among ps m ≡ b → in_numbers (largest ps) (first_clear k (suc p) (marks_of ps)) ≡ missing_from ps k (suc m)
        → in_numbers (largest ps) (first_clear (suc k) p (marks_of ps)) ≡ missing_from ps (suc k) m
    go true t h = ap (in_numbers (largest ps)) (pass k p (marks_of ps) (marked-bit (marks_of ps) p (told-place ps p m e ∙ t))) ∙ h ∙ rw (t, missing_from)
    go false t h =
        let z : p + largest ps - 1024 ≡ m = omega arith in
        ap (in_numbers (largest ps)) (hit (suc k) p (marks_of ps) (omega arith) (unmarked-bit (marks_of ps) p (told-place ps p m e ∙ t))) ∙ ap Some z ∙ rw (t, missing_from)

-- a number at or above the floor, and its place
place-sum : (n end : ℕ) → floor_of end ≤ n → place_of end n + end ≡ n + 1024
place-sum n end l = omega arith

-- as many places as numbers lie between two numbers
between : (n low end : ℕ) → floor_of end ≤ low → place_of end n - place_of end low ≡ n - low
between n low end l = omega arith

-- a number found below both bounds is below the first
below-first : (m low to end : ℕ) → low ≤ m → m < low + (min to end - low) → m < to
below-first m low to end a b = omega (arith, min-le_left to end)

sought : (k : ℕ) (ps : List Packet) (from to : ℕ) → in_numbers (largest ps) (first_missing (seen k ps) from to) ≡ smallest_missing (floor (seen k ps)) ps from to
unfolding first_missing smallest_missing
sought k ps from to =
    let low : ℕ = max from (floor (seen k ps)) in
    let l : floor_of (largest ps) ≤ low = le_trans (le-max_right k (floor_of (largest ps))) (le-max_right from (floor (seen k ps))) in
    let e : place_of (largest ps) (min to (largest ps)) - place_of (largest ps) low ≡ min to (largest ps) - low = between (min to (largest ps)) low (largest ps) l in
    ap₂ (λ (k w : ℕ). in_numbers (largest ps) (first_clear k (place_of (largest ps) low) w)) e (told-value ps)
    ∙ search ps (min to (largest ps) - low) (place_of (largest ps) low) low (place-sum low (largest ps) l)

any_same : (end : ℕ) (x : Option ℕ) → is_any x ≡ is_any (in_numbers end x)
any_same end (Some place) = refl
any_same end None = refl

reach-same : (s : Seen) (reach end : ℕ) (x : Option ℕ) → reaches s reach end x ≡ far_below reach end (in_numbers s.end x)
reach-same s reach end (Some place) = refl
reach-same s reach end None = refl

order-of : (k : ℕ) (ps : List Packet) (r n highest acknowledged end : ℕ)
    → order (seen k ps) r n highest acknowledged end ≡ order_of (floor (seen k ps)) ps r n highest acknowledged end
unfolding order order_of out_of_order gap_reached
order-of k ps zero n highest acknowledged end = refl
order-of k ps (suc zero) n highest acknowledged end =
    ap (λ (b : Bool). ltb (n + 1) highest || b) (any_same (largest ps) (first_missing (seen k ps) highest n) ∙ ap is_any (sought k ps highest n))
order-of k ps (suc (suc r)) n highest acknowledged end =
    let reach : ℕ = min (suc (suc r)) 1023 in
    reach-same (seen k ps) reach end (first_missing (seen k ps) (acknowledged - reach) (end - 1))
    ∙ ap (far_below reach end) (sought k ps (acknowledged - reach) (end - 1))

pub in-numbers : InNumbers
unfolding seen_of
in-numbers cs r n highest acknowledged end = order-of (confirmed_of cs) (packets cs) r n highest acknowledged end

-- ---- what the search over numbers finds

pub record Found (ps : List Packet) (from to m : ℕ) : Type 0 where
  pub least : from ≤ m
  pub most : m < to
  pub missing : among ps m ≡ false

found_from : (ps : List Packet) (k n m : ℕ) → missing_from ps k n ≡ Some m → Found ps n (n + k) m
unfolding missing_from
found_from ps zero n m e = absurd (cc)
found_from ps (suc k) n m e = go (among ps n) refl (λ f. found_from ps k (suc n) m f) e
  where
    go : (b : Bool) → among ps n ≡ b → (missing_from ps k (suc n) ≡ Some m → Found ps (suc n) (suc n + k) m)
        → elim b [ true ↦ missing_from ps k (suc n) | false ↦ Some n ] ≡ Some m
        → Found ps n (n + suc k) m
    go true t i f = let v = i f in record { least = omega (arith, v.least); most = omega (arith, v.most); missing = v.missing }
    go false t i f = let h : n ≡ m = cc in record { least = omega arith; most = omega arith; missing = rw (← h) t }

pub found : (floor : ℕ) (ps : List Packet) (from to m : ℕ) → smallest_missing floor ps from to ≡ Some m → Found ps from to m
unfolding smallest_missing
found floor ps from to m e =
    let low : ℕ = max from floor in
    let v = found_from ps (min to (largest ps) - low) low m e in
    let l : from ≤ low = le-max_left from floor in
    let a : low ≤ m = v.least in
    let b : m < low + (min to (largest ps) - low) = v.most in
    record { least = omega arith; most = below-first m low to (largest ps) a b; missing = v.missing }
