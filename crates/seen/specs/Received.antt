-- What was received: the window and its floor, what consistent means of it, refusals 6 and 7, what an accepted number marks, what is reported, and the missing numbers.
-- What may be absent is kept as an end, one past the number, and 0 for none.
use Rattle.std.specs.Prelude.{ℕ, ◌+◌, ◌-◌, ◌/◌, ◌^◌, min, max, Bool, true, false, ◌&&◌, ◌||◌, List, leb, ltb, eqb, Option, Some, None, Result, Ok, Err}
use Rattle.wire.specs.Bytes.{pick}
use Rattle.wire.specs.declared.Refusal.{Refusal}
use Rattle.wire.specs.declared.Refusal.TheVariants.{Received, BelowWindow}
use Rattle.window.specs.Window.{places, value_of, window_of, is_set, with_bit, none_below, cleared_below, first_clear}
use Rattle.window.specs.declared.Window.{Window}
use Rattle.seen.specs.declared.Micros.{Micros}
use Rattle.seen.specs.declared.Seen.{Seen}
use Rattle.seen.specs.Numbers.{small, small_end}

-- ---- the window

-- what was received, its window's words being lent beside it
abbrev pub over : List ℕ → Seen → Seen
over words s = record { window = record { words = words }; end = s.end; arrived = s.arrived; confirmed = s.confirmed }

-- "the floor, the larger of 0 and L - 1,023", where L's end is `end`
abbrev pub floor_of : ℕ → ℕ
floor_of end = end - places

-- "The record gets a floor [..]; the larger of it and the window's own floor is used for ranges, missing numbers and refusal 7" (02, No. 12)
abbrev pub floor : Seen → ℕ
floor s = max s.confirmed (floor_of s.end)

-- the place of a number of the window, where L's end is `end`: L's own is the last
abbrev pub place_of : ℕ → ℕ → ℕ
place_of end n = n + places - end

-- whether a number of the window was received
abbrev pub received : Seen → ℕ → Bool
received s n = is_set (value_of s.window) (place_of s.end n)

-- ---- "Consistent means"

-- "the floor is at most L, and 0 while nothing was received" (02, No. 12)
abbrev pub floor_fits : Seen → Bool
floor_fits s = leb s.confirmed (s.end - 1)

-- "every number and time obeys 5", of L and of its arrival; and the floor fits L
abbrev pub numbers_obey : Seen → Bool
numbers_obey s = small_end s.end && (small s.arrived.0 && floor_fits s)

-- "L's own place is marked and none below number 0"; "if nothing was received, no place is marked"
abbrev pub marks_fit : ℕ → ℕ → Bool
marks_fit w end = none_below (places - end) w && (eqb end 0 || is_set w (places - 1))

abbrev pub marks_consistent : Seen → Bool
marks_consistent s = marks_fit (value_of s.window) s.end

unfoldable pub seen_consistent : Seen → Bool
seen_consistent s = numbers_obey s && marks_consistent s

-- ---- refusals

-- "7: the packet number lies below the window; 6: [it] lies in the window and was received"
unfoldable pub number_refusal : Seen → ℕ → ℕ
number_refusal s n = pick (leb s.end n) 0 (pick (ltb n (floor s)) 7 (pick (received s n) 6 0))

-- the same by name
unfoldable pub number_check : Seen → ℕ → Result Unit Refusal
number_check s n = pick (leb s.end n) (Ok tt) (pick (ltb n (floor s)) (Err BelowWindow) (pick (received s n) (Err Received) (Ok tt)))

-- ---- "Accepted packets are marked and L moves if exceeded"

abbrev pub mark_at : Window → ℕ → Window
mark_at w place = window_of (with_bit (value_of w) place)

abbrev pub move_on : Window → ℕ → Window
move_on w d = window_of (value_of w / 2 ^ d)

unfoldable pub seen_after : Seen → ℕ → Micros → Seen
seen_after s n time =
    pick (ltb n s.end)
    (record { window = mark_at s.window (place_of s.end n); end = s.end; arrived = s.arrived; confirmed = s.confirmed })
    (record { window = mark_at (move_on s.window (n + 1 - s.end)) (places - 1); end = n + 1; arrived = time; confirmed = s.confirmed })

-- a number that does not obey 5 changes nothing
abbrev pub marked : Seen → ℕ → Micros → Seen
marked s n time = pick (small n) (seen_after s n time) s

-- ---- "When a packet that carried our ACK with largest k is itself confirmed, [..] stop reporting numbers up to k" (02, No. 12)

-- the floor "rises to k + 1, or to L where k is L"; "The floor never falls"
unfoldable pub confirmed_after : Seen → ℕ → Seen
confirmed_after s k = record { window = s.window; end = s.end; arrived = s.arrived; confirmed = max s.confirmed (min (k + 1) (s.end - 1)) }

-- what is reported: the marks from the floor up
abbrev pub reported : Seen → Seen
reported s = record { window = window_of (cleared_below (place_of s.end (floor s)) (value_of s.window)); end = s.end; arrived = s.arrived; confirmed = s.confirmed }

-- ---- "missing numbers are sought only in the window as it stands after this packet"

-- the place of the first from `from` up to below `to`
unfoldable pub first_missing : Seen → ℕ → ℕ → Option ℕ
first_missing s from to =
    let low = place_of s.end (max from (floor s)) in
    first_clear (place_of s.end (min to s.end) - low) low (value_of s.window)

abbrev pub is_any : Option ℕ → Bool
is_any (Some place) = true
is_any None = false
