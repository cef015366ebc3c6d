-- Examples of the week's totals, on the definitions: a file that is empty, one with the report of P9, one that is cut, and sums at the edge.
use Rattle.std.specs.Prelude.{ℕ, ◌+◌, ◌≡◌, List, [], ◌∷◌, ◌++◌}
use Rattle.totals.specs.Totals.{most, kept, mark}
use Rattle.page.specs.Page.{accepted_text, refused_text, total_text, received_text, late_text, lost_text, entries_text, not_text, partial_text, line_end, early, page}

-- a number of one digit, and the line's end
abbrev pub ends : ℕ → List ℕ
ends n = (48 + n) ∷ line_end ∷ []

-- the lines that follow the refusals: the four totals, then no entries
abbrev pub following : ℕ → ℕ → ℕ → ℕ → List ℕ
following total received late lost =
    total_text ++ ends total ++ received_text ++ ends received ++ late_text ++ ends late ++ lost_text ++ ends lost
    ++ entries_text ++ received_text ++ ends 0 ++ entries_text ++ late_text ++ ends 0 ++ entries_text ++ not_text ++ received_text ++ ends 0 ++ entries_text ++ partial_text ++ ends 0

-- P9, after its length
abbrev pub report : List ℕ
report = 0 ∷ 0 ∷ 0 ∷ 15 ∷ 0x80 ∷ 0x0f ∷ 0x42 ∷ 0x40 ∷ 0x80 ∷ 0x01 ∷ 0x86 ∷ 0xa0 ∷ 3 ∷ 1 ∷ 1 ∷ 1 ∷ 3 ∷ 0 ∷ 0 ∷ []

pub record Pages : Type 0 where
  pub nothing : page [] ≡ accepted_text ++ ends 0 ++ following 0 0 0 0
  -- a report of length 0 is a cut report: refused with 2, and its refusal has its line
  pub two : page (report ++ (0 ∷ 0 ∷ 0 ∷ 0 ∷ []) ++ report) ≡ accepted_text ++ ends 2 ++ refused_text ++ (50 ∷ 32 ∷ []) ++ ends 1 ++ following 6 2 2 2
  -- "2 alone for a file that ends early": in a report, and in a length
  pub early-report : page (report ++ (0 ∷ 0 ∷ 0 ∷ 1 ∷ [])) ≡ early
  pub early-length : page (report ++ (0 ∷ 0 ∷ 0 ∷ [])) ≡ early

-- "one that would pass 2^64 - 1 stays there and is marked"; exactly 2^64 - 1 is not full
pub record Edges : Type 0 where
  pub at : (kept most ≡ most) × (mark most ≡ 0)
  pub past : (kept (most + 1) ≡ most) × (mark (most + 1) ≡ 1)
