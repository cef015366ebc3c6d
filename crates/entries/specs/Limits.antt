-- The limits of entry records, each named once.
use Rattle.std.specs.Prelude.{ℕ}

-- "records of 16 bytes"
abbrev pub entry_size : ℕ
entry_size = 16

-- "group (8 bytes"
abbrev pub group_size : ℕ
group_size = 8

-- "The limit becomes 200 for both readers and the writer" (02, No. 8)
abbrev pub most_entries : ℕ
most_entries = 200

-- a writer takes "0 to 256 entry records"
abbrev pub most_given : ℕ
most_given = 256
