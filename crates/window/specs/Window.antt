-- The window's meaning: its sixteen words are one number W below 2 ^ 1024, and a place is marked where W's bit there is 1. Assumes nothing.
use Rattle.std.specs.Prelude.{Bool, true, false, List, ℕ, zero, suc, ◌+◌, ◌-◌, ◌*◌, ◌/◌, ◌%◌, ◌^◌, eqb, Option, Some, None}
use Rattle.std.specs.Bool.{beq}
use Rattle.window.specs.Words.{number_of, words_of, words_in, bit}
use Rattle.window.specs.declared.Window.{Window}

-- How many places a window has.
abbrev pub places : ℕ
places = 1024

-- The number W of a window.
abbrev pub value_of : Window → ℕ
value_of s = number_of s.words

-- The number W of a window's words that are lent. What lies behind a reference may be any list in a contract, and a window's words are its first sixteen.
abbrev pub lent_value : List ℕ → ℕ
lent_value words = number_of (words_in 16 words)

-- The window of a number, of which it keeps the 1,024 lowest bits.
abbrev pub window_of : ℕ → Window
window_of w = record { words = words_of 16 w }

-- Whether a place is marked.
abbrev pub is_set : ℕ → ℕ → Bool
is_set w p = eqb (bit w p) 1

-- The number with a place marked.
abbrev pub with_bit : ℕ → ℕ → ℕ
with_bit w p = w + (1 - bit w p) * 2 ^ p

-- The first place that is not marked, among n places from p on.
unfoldable pub first_clear : ℕ → ℕ → ℕ → Option ℕ
first_clear zero p w = None
first_clear (suc n) p w = elim (bit w p) [ zero ↦ Some p | suc b ↦ first_clear n (suc p) w ]

-- How many places directly below place n have the mark b.
unfoldable pub run_below : Bool → ℕ → ℕ → ℕ
run_below b zero w = 0
run_below b (suc p) w = elim (beq (is_set w p) b) [ true ↦ suc (run_below b p w) | false ↦ 0 ]

-- Whether no place below place p is marked.
abbrev pub none_below : ℕ → ℕ → Bool
none_below p w = eqb (w % 2 ^ p) 0

-- The number without the marks below place p.
abbrev pub cleared_below : ℕ → ℕ → ℕ
cleared_below p w = w / 2 ^ p * 2 ^ p
