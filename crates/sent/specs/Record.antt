-- The loss list's record, 36 words that the caller lends: what each word says, and what consistent means.
-- What may be absent is kept as an end, one past the number, and 0 for none.
use Rattle.std.specs.Prelude.{ℕ, ◌+◌, ◌-◌, ◌/◌, ◌%◌, ◌≤◌, ◌<◌, ◌≡◌, Bool, true, false, not, ◌&&◌, ◌||◌, List, [], ◌∷◌, ◌++◌, leb, eqb, get_or}
use Rattle.wire.specs.Numbers.{limit}
use Rattle.window.specs.Window.{is_set}
use Rattle.marks.specs.Marks.{mark, none_in, ring_of}

-- "a record of up to 1,024 sent packet numbers in a row"
abbrev pub most_held : ℕ
most_held = 1024

-- "counted from 0": the next number to send, so many were sent
abbrev pub next_of : List ℕ → ℕ
next_of r = get_or r 32 0

-- "the forgotten number keeps its last state in the totals"
abbrev pub acked_before : List ℕ → ℕ
acked_before r = get_or r 33 0

abbrev pub lost_before : List ℕ → ℕ
lost_before r = get_or r 34 0

-- the end of "the largest acknowledged"
abbrev pub end_of : List ℕ → ℕ
end_of r = get_or r 35 0

-- the oldest number held
abbrev pub floor_of : List ℕ → ℕ
floor_of r = next_of r - most_held

-- ---- "each outstanding, acknowledged or lost"

pub data State : Type 0 where
  Outstanding : State
  Acknowledged : State
  Lost : State

abbrev pub is_acknowledged : State → Bool
is_acknowledged Outstanding = false
is_acknowledged Acknowledged = true
is_acknowledged Lost = false

abbrev pub is_lost : State → Bool
is_lost Outstanding = false
is_lost Acknowledged = false
is_lost Lost = true

-- a held number's two marks, and its state by them
abbrev pub acked_at : List ℕ → ℕ → Bool
acked_at r n = mark r n

abbrev pub lost_at : List ℕ → ℕ → Bool
lost_at r n = is_set (get_or r (16 + n / 64 % 16) 0) (n % 64)

abbrev pub state_of : Bool → Bool → State
state_of true marked = Acknowledged
state_of false true = Lost
state_of false false = Outstanding

abbrev pub state_at : List ℕ → ℕ → State
state_at r n = state_of (acked_at r n) (lost_at r n)

abbrev pub is_outstanding : List ℕ → ℕ → Bool
is_outstanding r n = not (acked_at r n || lost_at r n)

-- the record of which each held number's state is what f says
unfoldable pub record_of : (ℕ → State) → ℕ → ℕ → ℕ → ℕ → List ℕ
record_of f next acked lost end =
    ring_of (λ n. is_acknowledged (f n)) (next - most_held) ++ (ring_of (λ n. is_lost (f n)) (next - most_held) ++ (next ∷ acked ∷ lost ∷ end ∷ []))

-- "the largest acknowledged is at least n + 3 (RFC 9002 section 6.1.1)", given its end
abbrev pub is_due : ℕ → ℕ → Bool
is_due end n = leb (n + 4) end

-- ---- "a record whose parts disagree or break 5"

-- next breaks 5, the largest acknowledged was not sent, or the totals of the forgotten do not add up to their number
abbrev pub numbers_agree : ℕ → ℕ → ℕ → ℕ → Bool
numbers_agree next end acked lost = (leb next (limit + 1) && leb end next) && eqb (acked + lost) (next - most_held)

-- a number is both acknowledged and lost, an outstanding one should be lost by the rule, or a mark stands outside the held numbers
abbrev pub wrong_at : List ℕ → ℕ → Bool
wrong_at r n = ((acked_at r n && lost_at r n) || (is_due (end_of r) n && is_outstanding r n)) || (leb (next_of r) n && not (is_outstanding r n))

unfoldable pub consistent : List ℕ → Bool
consistent r = numbers_agree (next_of r) (end_of r) (acked_before r) (lost_before r) && none_in (wrong_at r) most_held (floor_of r)

-- ---- the same by words

-- bit k is wrong, given the words' bits: due and outside have those of the numbers that the rule settles, and of those that are not held
abbrev pub wrong_bit : ℕ → ℕ → ℕ → ℕ → ℕ → Bool
wrong_bit acked lost due outside k =
    ((is_set acked k && is_set lost k) || (is_set due k && not (is_set acked k || is_set lost k))) || (is_set outside k && not (not (is_set acked k || is_set lost k)))

-- word i has such a bit
abbrev pub word_wrong : List ℕ → List ℕ → List ℕ → ℕ → Bool
word_wrong r due outside i = not (none_in (wrong_bit (get_or r i 0) (get_or r (16 + i) 0) (get_or due i 0) (get_or outside i 0)) 64 0)

-- the marks of the numbers from floor on that the rule settles
pub record DueMarks (ws : List ℕ) (floor end : ℕ) : Type 0 where
  pub marks : end ≤ floor + 1027 → (n : ℕ) → floor ≤ n → n < floor + 1024 → mark ws n ≡ is_due end n
