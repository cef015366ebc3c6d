-- Where a report stands whose bytes have come so far: what is carried between calls, and what a call answers from it.
use Rattle.std.specs.Prelude.{ℕ, zero, suc, List, []}
use Rattle.report.specs.Header.{header_of, empty_header}
use Rattle.report.specs.declared.Header.{Header}
use Rattle.report.specs.declared.Report.{Report}

-- it "carries at most one unfinished field or record between calls"
pub data State : Type 0 where
  -- the numbers so far, and the bytes of the unfinished field
  Numbers : List ℕ → List ℕ → State
  -- the header's numbers, how many records are not yet whole, the group of the record before, one past its object number (both 0
  -- before the first), and the bytes of the unfinished record
  Records : List ℕ → ℕ → ℕ → ℕ → List ℕ → State
  -- a bad record came: the header's numbers, and how many of the report's entry bytes are still to come
  Counting : List ℕ → ℕ → State
  -- a refusal stands
  Refused : ℕ → State
  -- the end was said, and the report was accepted
  Accepted : List ℕ → State

-- before the first byte
abbrev pub start : State
start = Numbers [] []

-- the refusal that stands, 0 for none: "12 is given when all the report's entry bytes have come"
abbrev pub standing : State → ℕ
standing (Numbers ns held) = 0
standing (Records ns n last above held) = 0
standing (Counting ns zero) = 12
standing (Counting ns (suc n)) = 0
standing (Refused n) = n
standing (Accepted ns) = 0

-- the header is handed over once it is whole, and is empty beside a refusal
abbrev pub header_at : State → Header
header_at (Numbers ns held) = empty_header
header_at (Records ns n last above held) = header_of ns
header_at (Counting ns zero) = empty_header
header_at (Counting ns (suc n)) = header_of ns
header_at (Refused n) = empty_header
header_at (Accepted ns) = header_of ns

-- 1 where it is handed over
abbrev pub whole_at : State → ℕ
whole_at (Numbers ns held) = 0
whole_at (Records ns n last above held) = 1
whole_at (Counting ns zero) = 0
whole_at (Counting ns (suc n)) = 1
whole_at (Refused n) = 0
whole_at (Accepted ns) = 1

-- both, as the whole reader answers
abbrev pub report_at : State → Report
report_at st = record { refusal = standing st; header = header_at st }

-- "The caller says the end": "2 if the end comes first"
unfoldable pub at_end : State → State
at_end (Numbers ns held) = Refused 2
at_end (Records ns zero last above held) = Accepted ns
at_end (Records ns (suc n) last above held) = Refused 2
at_end (Counting ns zero) = Refused 12
at_end (Counting ns (suc n)) = Refused 2
at_end (Refused n) = Refused n
at_end (Accepted ns) = Accepted ns
