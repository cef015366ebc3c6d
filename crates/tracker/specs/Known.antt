-- What is known of the 256 objects, in the paper's terms: what became of each, and which arrival was the first.
-- Statuses, summary and entries are made from this alone; an object's place is its number less the first one.
use Rattle.std.specs.Prelude.{ℕ, Bool, true, false}

-- "a tracker for the 256 object numbers from a given first one"
abbrev pub most_objects : ℕ
most_objects = 256

-- what became of an object: nothing is known of it; it ended early, by the caller's word at this time; it came at this time, late or not
pub data Fate : Type 0 where
  unknown : Fate
  ended : (time : ℕ) → Fate
  came : (time : ℕ) (late : Bool) → Fate

-- "An object that arrived"
abbrev pub has_come : Fate → Bool
has_come unknown = false
has_come (ended time) = false
has_come (came time late) = true

-- the first arrival: its object's place, and its time
pub data FirstArrival : Type 0 where
  none_yet : FirstArrival
  first_came : (place time : ℕ) → FirstArrival

pub record Known : Type 0 where
  -- the number of the first object
  pub first : ℕ
  -- "It takes an expected interval"
  pub interval : ℕ
  -- "First means first by order of calls"
  pub arrival : FirstArrival
  -- what became of the object at each place
  pub became : ℕ → Fate
