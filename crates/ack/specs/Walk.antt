-- What the walk over a window's words keeps, and what it reports of them. Assumes nothing.
use Rattle.std.specs.Prelude.{ℕ, ◌+◌, ◌-◌, ◌*◌, ◌^◌, ◌≤◌, ◌<◌, ◌≡◌, Bool, List, length, Option, None}
use Rattle.window.specs.Words.{bit}
use Rattle.window.specs.Window.{lent_value, window_of, is_set, cleared_below}
use Rattle.frames.specs.declared.Counts.{Counts}
use Rattle.frames.specs.Ack.{type_of}
use Rattle.seen.specs.declared.Seen.{Seen}
use Rattle.ack.specs.declared.walk.Told.{Told}
use Rattle.ack.specs.Ack.{frame, body, ranges_kept}

-- what is reported of lent words, where L's end is `end`: the marks from place `least` up. When L arrived plays no part
abbrev pub marks_from : List ℕ → ℕ → ℕ → Seen
marks_from words end least = record { window = window_of (cleared_below least (lent_value words)); end = end; arrived = record { 0 = 0 }; confirmed = 0 }

-- the same by what a frame tells, and how many of its ranges fit the room without counts
abbrev pub marks_told : List ℕ → Told → Seen
marks_told words told = marks_from words told.end told.least

abbrev pub kept_told : List ℕ → Told → ℕ
kept_told words told = ranges_kept (marks_told words told) None told.delay told.room

-- the bytes of the frame with k ranges and no counts, and of that with all that fit, up to its counts
abbrev pub room_told : List ℕ → Told → ℕ → ℕ
room_told words told k = length (frame (marks_told words told) None told.delay k)

abbrev pub body_told : List ℕ → Told → Option Counts → List ℕ
body_told words told tail = body (marks_told words told) (type_of tail) told.delay (kept_told words told)

-- of the places of word i below a place, `left` has those at which the number w has not the mark b
pub record Others (b : Bool) (w place i left : ℕ) : Type 0 where
  pub word : i < 16
  pub from : 64 * i ≤ place
  pub to : place ≤ 64 * i + 64
  pub small : left < 2 ^ (place - 64 * i)
  pub same : (q : ℕ) → q < place - 64 * i → bit left q ≡ 0 → is_set w (64 * i + q) ≡ b
  pub other : (q : ℕ) → q < place - 64 * i → bit left q ≡ 1 → is_set w (64 * i + q) ≡ b → ⊥
