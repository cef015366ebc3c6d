-- S of demand 3: which packet numbers were passed over, and how many. Read from the accepted packets, the last one first.
use Rattle.std.specs.Prelude.{ℕ, zero, suc, ◌+◌, ◌-◌, ◌≡◌, Bool, true, false, not, ◌&&◌, ◌||◌, List, [], ◌∷◌, ltb}
use Rattle.promises.specs.Accepted.{Packet, one_if}
use Rattle.promises.specs.Told.{largest, among}

-- how many of the numbers 0, 1, .., n - 1 pass a test
unfoldable pub count : (ℕ → Bool) → ℕ → ℕ
count test zero = zero
count test (suc n) = count test n + one_if (test n)

-- m "was not yet received when a larger one", that of p, "was accepted, in the window or below it"; ps are the packets accepted before p
abbrev pub passes : Packet → List Packet → ℕ → Bool
passes p ps m = ltb m p.number && not (among ps m)

-- m "is passed over"
unfoldable pub passed : List Packet → ℕ → Bool
passed [] m = false
passed (p ∷ ps) m = passed ps m || passes p ps m

-- how many are, each "once"; all of them lie below the largest accepted
unfoldable pub passed_over : List Packet → ℕ
passed_over ps = count (passed ps) (largest ps)

-- what that comes to: an accepted packet adds the numbers between the largest before it and its own, however far apart the two are
abbrev pub PassedBetween : Type 0
PassedBetween = (p : Packet) (ps : List Packet) → passed_over (p ∷ ps) ≡ passed_over ps + (p.number - largest ps)
