-- Each sentence of request No. 4 on a case, on the definitions: objects from 100 on, the calls in their order, and what is asked at a time.
use Rattle.std.specs.Prelude.{ℕ, zero, suc, ◌-◌, ◌+◌, ◌^◌, ◌≡◌, List, [], ◌∷◌, ◌++◌, ℤ, pos, negsuc}
use Rattle.tracker.specs.Calls.{numbers_refusal, arrival_obeys}
use Rattle.tracker.specs.Status.{since_of, age_of, entry_bytes}
use Rattle.tracker.specs.Report.{header_of}
use Rattle.tracked.specs.Told.{Call, arrival, early_end, became_told, status_told, average_told, total_told, summary_told, entries_told, refusal_told}

-- the status of an object at a time, after the calls, with an expected interval
abbrev pub status : ℕ → List Call → ℕ → ℕ → ℕ
status interval calls time object = status_told 100 interval calls time object

-- its age
abbrev pub age : ℕ → List Call → ℕ → ℕ → ℕ
age interval calls time object = age_of (status interval calls time object) time (since_of (became_told 100 object calls))

-- the average
abbrev pub average : ℕ → List Call → ℤ
average interval calls = average_told 100 interval calls

-- what a report at time 0 is refused with
abbrev pub refusal : ℕ → List Call → ℕ → ℕ
refusal interval calls room = refusal_told 100 interval calls 0 0 room

-- what an arrival is refused with
abbrev pub arrival_refusal : ℕ → ℕ → ℕ → ℕ
arrival_refusal object time deadline = numbers_refusal 100 object (arrival_obeys object time deadline)

-- an arrival without a deadline, and with one, which is kept as an end
abbrev pub comes : ℕ → ℕ → Call
comes object time = arrival object time 0

abbrev pub comes_by : ℕ → ℕ → ℕ → Call
comes_by object time deadline = arrival object time (deadline + 1)

-- n objects from a number on, each 10 after the one before
abbrev pub all_come : ℕ → ℕ → ℕ → List Call
all_come zero object time = []
all_come (suc n) object time = comes object time ∷ all_come n (object + 1) (time + 10)

-- 100 and 104 received, 101 late, 102 ended early, 103 not received; 105 is expected at 50
abbrev pub five : List Call
five = comes 100 0 ∷ comes_by 101 30 20 ∷ early_end 102 35 ∷ comes 104 40 ∷ []

-- first by calls is 105 at 50, by number 101 at 20, by time 103 at 10: so 106 is lost past 80, past 90, past 60
abbrev pub three_firsts : List Call
three_firsts = comes 105 50 ∷ comes 101 20 ∷ comes 103 10 ∷ []

pub record Examples : Type 0 where
  -- "late if its arrival exceeds a known deadline, otherwise received"
  pub at-the-deadline : status 10 (comes_by 100 50 50 ∷ []) 60 100 ≡ 0
  pub past-the-deadline : status 10 (comes_by 100 51 50 ∷ []) 60 100 ≡ 1
  -- "partial if it ended early"
  pub ended : status 10 (early_end 101 40 ∷ []) 60 101 ≡ 3
  -- "not received once a larger number has arrived"; "otherwise it has no status"
  pub larger-arrived : (status 10 (comes 105 50 ∷ []) 50 104 ≡ 2) × (status 10 (comes 105 50 ∷ []) 50 106 ≡ 4)
  -- "once more than twice the interval has passed after its expected arrival"
  pub at-twice : status 10 (comes 105 50 ∷ []) 80 106 ≡ 4
  pub past-twice : (status 10 (comes 105 50 ∷ []) 81 106 ≡ 2) × (status 10 (comes 105 50 ∷ []) 81 107 ≡ 4)
  -- an expected arrival beyond 2^62, and an interval of 0
  pub far-away : status (2 ^ 61) (comes 100 50 ∷ []) (2 ^ 62 - 1) 103 ≡ 4
  pub no-interval : (status 0 (comes 100 50 ∷ []) 50 101 ≡ 4) × (status 0 (comes 100 50 ∷ []) 51 355 ≡ 2)
  -- "before any arrival there is none"
  pub none-arrived : status 10 [] (2 ^ 62 - 1) 355 ≡ 4
  -- "First means first by order of calls"
  pub first-by-calls : (status 10 three_firsts 80 106 ≡ 4) × (status 10 three_firsts 81 106 ≡ 2)
  -- "An arrival after an early end or a loss counts"
  pub after-a-loss : status 10 (comes 105 50 ∷ comes 101 70 ∷ []) 80 101 ≡ 0
  pub after-an-end : status 10 (early_end 101 40 ∷ comes 101 50 ∷ []) 60 101 ≡ 0
  -- "A second arrival, a second early end, or one after an arrival, is ignored"
  pub second-arrival : (status 10 (comes 101 50 ∷ comes_by 101 60 10 ∷ []) 100 101 ≡ 0) × (age 10 (comes 101 50 ∷ comes_by 101 60 10 ∷ []) 100 101 ≡ 50)
  pub second-end : age 10 (early_end 101 40 ∷ early_end 101 70 ∷ []) 100 101 ≡ 60
  pub end-after-arrival : status 10 (comes 101 50 ∷ early_end 101 60 ∷ []) 100 101 ≡ 0
  -- "Entry ages stop at the largest four-byte number and are 0 where the clock went back"
  pub oldest : (age 10 (comes 101 0 ∷ []) (2 ^ 32 - 1) 101 ≡ 2 ^ 32 - 1) × (age 10 (comes 101 0 ∷ []) (2 ^ 32) 101 ≡ 2 ^ 32 - 1)
  pub clock-back : age 10 (comes 101 50 ∷ []) 49 101 ≡ 0
  -- "0 for fewer than two arrivals"
  pub few : (average 10 [] ≡ pos 0) × (average 10 (comes 101 50 ∷ []) ≡ pos 0)
  -- "by arrival time", late ones included
  pub two : (average 10 (comes 101 50 ∷ comes 100 65 ∷ []) ≡ pos 5) × (average 10 (comes 101 50 ∷ comes_by 102 65 60 ∷ []) ≡ pos 5)
  -- "rounded toward zero": 7 over 2 gaps, and -13 over 2 gaps
  pub three : (average 10 (comes 100 0 ∷ comes 101 27 ∷ comes 102 5 ∷ []) ≡ pos 3) × (average 10 (comes 100 0 ∷ comes 101 3 ∷ comes 102 7 ∷ []) ≡ negsuc 5)
  -- all 256 arrived, one after the other
  pub everyone : (average 7 (all_come 256 100 0) ≡ pos 3) × (total_told 100 7 (all_come 256 100 0) 0 ≡ 256)
  -- "the entries and the summary [..] over all objects with a status": total 5, received 2, late 1, lost 2; gaps of 30 and 10, less 10 each, over 2
  pub summary : summary_told 100 10 five 50 1000 ≡ header_of 50 1000 5 2 1 2 (pos 10)
  pub entries : entries_told 100 10 five 50 ≡ entry_bytes 100 0 50 ++ entry_bytes 101 1 20 ++ entry_bytes 102 3 15 ++ entry_bytes 103 2 0 ++ entry_bytes 104 0 10
  -- "5 for an average outside the signed range"
  pub highest : (refusal 0 (comes 100 0 ∷ comes 101 (2 ^ 61 - 1) ∷ []) 32 ≡ 0) × (refusal 0 (comes 100 0 ∷ comes 101 (2 ^ 61) ∷ []) 32 ≡ 5)
  pub lowest : (refusal (2 ^ 61) (comes 100 0 ∷ comes 101 0 ∷ []) 32 ≡ 0) × (refusal (2 ^ 61 + 1) (comes 100 0 ∷ comes 101 0 ∷ []) 32 ≡ 5)
  -- "then 9"
  pub room : (refusal 10 (comes 102 0 ∷ []) 48 ≡ 0) × (refusal 10 (comes 102 0 ∷ []) 47 ≡ 9)
  -- "then 17 for an object outside the 256"
  pub outside : (arrival_refusal 99 0 0 ≡ 17) × ((arrival_refusal 355 0 0 ≡ 0) × (arrival_refusal 356 0 0 ≡ 17))
  pub five-first : arrival_refusal 356 (2 ^ 62) 0 ≡ 5
