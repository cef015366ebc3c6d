-- The limits of the report, each named once.
use Rattle.std.specs.Prelude.{ℕ, ◌+◌, ◌*◌}
use Rattle.report.specs.Layout.{fixed_numbers}

-- a header has places for "up to 8 metrics" (02, No. 10), whatever its profile
abbrev pub metric_places : ℕ
metric_places = 8

-- the numbers that every header has, a type and a value for each metric, and the entry count
abbrev pub most_numbers : ℕ
most_numbers = fixed_numbers + 2 * metric_places + 1
