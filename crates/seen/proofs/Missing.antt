-- The missing numbers: where the first of them lies, and that none is found where none is sought.
-- Assumes nothing.
use Prim.Native.Nat.{ℕ, ◌+◌, ◌-◌, ◌≤◌, ◌<◌, min, max}
use mathlib.Core.Path.{◌≡◌, ap}
use native.Mathlib.Nat.{le-max_left, le-max_right, min-le_left, min-le_right}
use native.Mathlib.Omega.{arith}
use Rattle.window.specs.Window.{value_of, first_clear}
use Rattle.std.specs.Prelude.{Some, None}
use Rattle.window.proofs.Laws.{missing-says}
use Rattle.seen.specs.declared.Seen.{Seen}
use Rattle.seen.specs.Received.{floor, place_of, first_missing}

-- a number that is not above another has no higher place
not-higher : (a b end : ℕ) → a ≤ b → 0 ≡ place_of end a - place_of end b
not-higher a b end h = omega arith

module _ (s : Seen) (from to : ℕ) where
  -- the places from which and to which is sought
  abbrev lowest : ℕ
  lowest = place_of s.end (max from (floor s))

  abbrev highest : ℕ
  highest = place_of s.end (min to s.end)

  module _ (place : ℕ) (e : first_missing s from to ≡ Some place) where
    -- a missing number of the window is at or above the floor
    pub place-least : 1024 ≤ place + s.end
    unfolding first_missing
    place-least = omega (arith, (missing-says lowest highest (value_of s.window) place e).least, le-max_right from (floor s))

    -- and its place is one of the window, below that of `to`
    pub place-below : (place < 1024) × (place + s.end < to + 1024)
    unfolding first_missing
    place-below =
        let m = (missing-says lowest highest (value_of s.window) place e).below in
        (omega (arith, min-le_right to s.end), omega (arith, min-le_left to s.end))

  -- nothing is missing where nothing is asked for
  pub none-sought : min to s.end ≤ max from (floor s) → None ≡ first_missing s from to
  unfolding first_missing first_clear
  none-sought h =
      let e : 0 ≡ highest - lowest = not-higher (min to s.end) (max from (floor s)) s.end h in
      ap (λ (n : ℕ). first_clear n lowest (value_of s.window)) e

  pub none_between : to ≤ from → None ≡ first_missing s from to
  none_between h = none-sought (omega (arith, min-le_left to s.end, le-max_left from (floor s)))
