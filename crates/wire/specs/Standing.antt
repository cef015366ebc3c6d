-- Numbers that stand in the bytes one after the other: in any form, and in their shortest.
use Rattle.std.specs.Prelude.{ℕ, ◌≡◌, Bool, true, List, [], ◌∷◌}
use Rattle.wire.specs.Numbers.{read_number}
use Rattle.wire.specs.Fields.{found}

-- the numbers stand one after the other from at on, and next is the place after them
pub data Stand (s : List ℕ) : ℕ → List ℕ → ℕ → Type 0 where
  none : {at : ℕ} → Stand s at [] at
  one : {at v mid next : ℕ} {shortest : Bool} {vs : List ℕ} → read_number s at ≡ found v mid shortest → Stand s mid vs next → Stand s at (v ∷ vs) next

-- so do these, each in its shortest form
pub data StandShortest (s : List ℕ) : ℕ → List ℕ → ℕ → Type 0 where
  no_more : {at : ℕ} → StandShortest s at [] at
  short : {at v mid next : ℕ} {vs : List ℕ} → read_number s at ≡ found v mid true → StandShortest s mid vs next → StandShortest s at (v ∷ vs) next
