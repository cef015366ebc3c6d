-- Laws of "none of the n objects from a place on arrived": one step of the search, and its end.
-- Assumes nothing.
use Prim.Native.Nat.{ℕ, ◌+◌, ◌-◌, ◌≤◌, ◌<◌}
use mathlib.Core.Path.{◌≡◌}
use mathlib.Core.Bool.{true, false}
use mathlib.Core.List.{List}
use native.Mathlib.Numerals.{add-one}
use borrow.Author.Tests.{le-leb, lt-leb}
use Rattle.wire.proofs.Lengths.{split}
use Rattle.tracker.specs.Known.{most_objects}
use Rattle.tracker.specs.Record.{word_at, state_of, received, has_arrived, none_arrived}
use Rattle.tracker.proofs.Walks.{remains, none-remains}

-- a word says that its object arrived, or it does not
pub arrives : {P : Type 0} (word : ℕ) → (has_arrived word ≡ true → P) → (has_arrived word ≡ false → P) → P
arrives word f g = split received (state_of word) (λ h. f (le-leb received (state_of word) h)) (λ h. g (lt-leb received (state_of word) h))

module _ (r : List ℕ) (place : ℕ) where
  pub none-stops : place < most_objects → has_arrived (word_at r place) ≡ true → none_arrived (most_objects - place) place r ≡ false
  unfolding none_arrived
  none-stops h e = rw (remains place h, e)

  pub none-next : place < most_objects → has_arrived (word_at r place) ≡ false
      → none_arrived (most_objects - (place + 1)) (place + 1) r ≡ none_arrived (most_objects - place) place r
  unfolding none_arrived
  none-next h e = rw (remains place h, e, add-one)

  pub none_done : most_objects ≤ place → none_arrived (most_objects - place) place r ≡ true
  unfolding none_arrived
  none_done h = rw (none-remains place h)
