-- The header as a list of numbers: where each stands. "Timestamp; .. interval, total, received, late, lost, average; then metric
-- count and type-value pairs; then entry count": the entry count is the last.
use Rattle.std.specs.Prelude.{ℕ, ◌+◌, ◌*◌}

abbrev pub at_timestamp : ℕ
at_timestamp = 0

abbrev pub at_interval : ℕ
at_interval = 1

abbrev pub at_total : ℕ
at_total = 2

abbrev pub at_received : ℕ
at_received = 3

abbrev pub at_late : ℕ
at_late = 4

abbrev pub at_lost : ℕ
at_lost = 5

abbrev pub at_average : ℕ
at_average = 6

-- the metric count
abbrev pub at_metrics : ℕ
at_metrics = 7

-- so many numbers come before the metrics
abbrev pub fixed_numbers : ℕ
fixed_numbers = 8

-- the type of metric i, and its value
abbrev pub at_type : ℕ → ℕ
at_type i = fixed_numbers + 2 * i

abbrev pub at_value : ℕ → ℕ
at_value i = fixed_numbers + 2 * i + 1
