-- The page: "It prints reports accepted, reports refused for each number that occurs, rising, the four summary totals and the
-- entry count by status".
use Rattle.std.specs.Prelude.{ℕ, zero, suc, ◌+◌, ◌*◌, ◌≤◌, List, [], ◌∷◌, ◌++◌, Bool, true, Result, eqb, leb, ltb, length, get_or}
use Rattle.wire.specs.Bytes.{pick}
use Rattle.wire.specs.Fields.{placed, written}
use Rattle.wire.specs.declared.Refusal.{Refusal}
use Rattle.decimal.specs.Decimal.{decimal}
use Rattle.totals.specs.declared.Totals.{Totals}
use Rattle.totals.specs.declared.Standing.{Standing}
use Rattle.totals.specs.Totals.{places, at_total, at_received, at_late, at_lost, totals_of}
use Rattle.totals.specs.Adding.{Held}
use Rattle.totals.specs.Files.{Cut, Reports, EndsEarly, cut}

-- ---- the words, byte by byte

-- `accepted `
abbrev pub accepted_text : List ℕ
accepted_text = 97 ∷ 99 ∷ 99 ∷ 101 ∷ 112 ∷ 116 ∷ 101 ∷ 100 ∷ 32 ∷ []

-- `refused `
abbrev pub refused_text : List ℕ
refused_text = 114 ∷ 101 ∷ 102 ∷ 117 ∷ 115 ∷ 101 ∷ 100 ∷ 32 ∷ []

-- `total `
abbrev pub total_text : List ℕ
total_text = 116 ∷ 111 ∷ 116 ∷ 97 ∷ 108 ∷ 32 ∷ []

-- `received `
abbrev pub received_text : List ℕ
received_text = 114 ∷ 101 ∷ 99 ∷ 101 ∷ 105 ∷ 118 ∷ 101 ∷ 100 ∷ 32 ∷ []

-- `late `
abbrev pub late_text : List ℕ
late_text = 108 ∷ 97 ∷ 116 ∷ 101 ∷ 32 ∷ []

-- `lost `
abbrev pub lost_text : List ℕ
lost_text = 108 ∷ 111 ∷ 115 ∷ 116 ∷ 32 ∷ []

-- `entries `
abbrev pub entries_text : List ℕ
entries_text = 101 ∷ 110 ∷ 116 ∷ 114 ∷ 105 ∷ 101 ∷ 115 ∷ 32 ∷ []

-- `not `
abbrev pub not_text : List ℕ
not_text = 110 ∷ 111 ∷ 116 ∷ 32 ∷ []

-- `partial `
abbrev pub partial_text : List ℕ
partial_text = 112 ∷ 97 ∷ 114 ∷ 116 ∷ 105 ∷ 97 ∷ 108 ∷ 32 ∷ []

-- ` full`, marks a sum that would pass 2^64 - 1
abbrev pub full_text : List ℕ
full_text = 32 ∷ 102 ∷ 117 ∷ 108 ∷ 108 ∷ []

abbrev pub line_end : ℕ
line_end = 10

-- ---- the lines

-- the words of a place, a blank behind; of a refusal its number too
unfoldable pub name_of : ℕ → List ℕ
name_of place =
    pick (eqb place 0) accepted_text
    (pick (eqb place at_total) total_text
    (pick (eqb place at_received) received_text
    (pick (eqb place at_late) late_text
    (pick (eqb place at_lost) lost_text
    (pick (eqb place 25) (entries_text ++ received_text)
    (pick (eqb place 26) (entries_text ++ late_text)
    (pick (eqb place 27) (entries_text ++ (not_text ++ received_text))
    (pick (eqb place 28) (entries_text ++ partial_text)
    (refused_text ++ (decimal place ++ (32 ∷ [])))))))))))

abbrev pub end_of : ℕ → List ℕ
end_of full = pick (eqb full 0) (line_end ∷ []) (full_text ++ (line_end ∷ []))

-- a line: name and number, and ` full` where the sum is
unfoldable pub line : ℕ → ℕ → ℕ → List ℕ
line place sum full = name_of place ++ (decimal sum ++ end_of full)

-- "for each number that occurs": every other line is always there
unfoldable pub is_shown : ℕ → ℕ → Bool
is_shown place sum = pick (eqb place 0) true (pick (leb at_total place) true (ltb 0 sum))

unfoldable pub shown : Totals → ℕ → List ℕ
shown t place = pick (is_shown place (get_or t.sums place 0)) (line place (get_or t.sums place 0) (get_or t.full place 0)) []

-- n places from the i-th on, "rising"
unfoldable pub lines_from : ℕ → ℕ → Totals → List ℕ
lines_from zero i t = []
lines_from (suc n) i t = shown t i ++ lines_from n (i + 1) t

abbrev pub lines : Totals → List ℕ
lines t = lines_from places 0 t

-- ---- the page

-- "2 alone for a file that ends early"
abbrev pub early : List ℕ
early = 50 ∷ line_end ∷ []

abbrev pub page_of : Cut → List ℕ
page_of (Reports rs) = lines (totals_of rs)
page_of EndsEarly = early

-- all that the program prints for a file
abbrev pub page : List ℕ → List ℕ
page file = page_of (cut file)

-- ---- in a lent buffer

-- what is printed where a file ends with so many bytes left: it ended early if some are left or are still to be skipped
unfoldable pub printed : Standing → ℕ → List ℕ
printed st left = pick (eqb (st.skip + left) 0) (lines st.totals) early

-- `entries not received `, twenty digits, and ` full` with the line's end
abbrev pub longest_line : ℕ
longest_line = 47

abbrev pub longest_page : ℕ
longest_page = longest_line * places

-- 9: "the smallest permitted output does not fit the room"; the page is one output, and goes by its own length
abbrev pub page_placed : Standing → ℕ → List ℕ → Result ℕ Refusal
page_placed st left xs = placed xs 0 (printed st left)

abbrev pub page_written : Standing → ℕ → List ℕ → List ℕ
page_written st left xs = written xs 0 (printed st left)

-- so many bytes always suffice
abbrev pub PageFits : Type 0
PageFits = (st : Standing) (left : ℕ) → Held st.totals → length (printed st left) ≤ longest_page
