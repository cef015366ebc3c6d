-- "An entry": a record of 16 bytes, in profile 2 behind its group, and the rule of records one after the other.
use Rattle.std.specs.Prelude.{ℕ, zero, suc, ◌*◌, ◌/◌, ◌%◌, Bool, true, false, List, Result, Ok, Err, length, take, drop, ◌==◌, nat_le, nat_lt, slice_index}
use Rattle.wire.specs.Bytes.{pick, be}
use Rattle.wire.specs.Numbers.{limit}
use Rattle.wire.specs.declared.Refusal.{Refusal}
use Rattle.wire.specs.declared.Refusal.TheVariants.{Ends, BrokenCount, BrokenEntry, OtherProfile}
use Rattle.entries.specs.Limits.{entry_size, most_given}
use Rattle.entries.specs.Profiles.{group_bytes, record_size, of_profile}
use Rattle.entries.specs.declared.Profile.{Profile}
use Rattle.entries.specs.declared.Status.{Status}
use Rattle.entries.specs.declared.Status.TheVariants.{Received, Late, NotReceived, Partial}
use Rattle.entries.specs.declared.Entry.{Entry}

-- ---- one entry

-- "group (8 bytes", of no bytes 0
abbrev pub group_of : Profile → List ℕ → ℕ
group_of p b = be 0 (take (group_bytes p) b)

-- "then the present 16"
abbrev pub behind : Profile → List ℕ → List ℕ
behind p b = drop (group_bytes p) b

-- "object number (8 bytes, high first"
abbrev pub object_of : List ℕ → ℕ
object_of b = be 0 (take 8 b)

-- "status (1 byte"
abbrev pub status_of : List ℕ → ℕ
status_of b = slice_index b 8

-- "three zero bytes", as one number
abbrev pub zeros_of : List ℕ → ℕ
zeros_of b = be 0 (take 3 (drop 9 b))

-- "age in microseconds at the timestamp (4 bytes"
abbrev pub age_of : List ℕ → ℕ
age_of b = be 0 (take 4 (drop 12 b))

-- "0 received, 1 late, 2 not received, 3 partial"
abbrev pub status_number : Status → ℕ
status_number Received = 0
status_number Late = 1
status_number NotReceived = 2
status_number Partial = 3

-- an entry that obeys its rule
abbrev pub entry : ℕ → ℕ → Status → ℕ → Result Entry Refusal
entry group object status age = Ok (record { group = group; object = object; status = status; age = age })

-- the entry with the status that has the number
abbrev pub with_status : ℕ → ℕ → ℕ → ℕ → Result Entry Refusal
with_status group object status age =
    pick (status == 0) (entry group object Received age)
    (pick (status == 1) (entry group object Late age)
    (pick (status == 2) (entry group object NotReceived age)
    (pick (status == 3) (entry group object Partial age) (Err BrokenEntry))))

-- age "0 where status is 2, any value otherwise"
abbrev pub age_good : ℕ → ℕ → Bool
age_good status age = pick (status == 2) (age == 0) true

-- the entry that the fields of a record make: group and object "at most 2^62 - 1", "three zero bytes"
unfoldable pub entry_from : ℕ → ℕ → ℕ → ℕ → ℕ → Result Entry Refusal
entry_from group object status zeros age =
    pick (nat_le group limit)
    (pick (nat_le object limit)
    (pick (zeros == 0)
    (pick (age_good status age) (with_status group object status age) (Err BrokenEntry)) (Err BrokenEntry)) (Err BrokenEntry)) (Err BrokenEntry)

-- the entry in the bytes behind its group: 2 where they are too few, 12 where they break the rule
unfoldable pub entry_behind : ℕ → List ℕ → Result Entry Refusal
entry_behind group b = pick (nat_le entry_size (length b)) (entry_from group (object_of b) (status_of b) (zeros_of b) (age_of b)) (Err Ends)

-- the entry in the bytes of one record
abbrev pub entry_of : Profile → List ℕ → Result Entry Refusal
entry_of p b = entry_behind (group_of p b) (behind p b)

-- the bytes of record i
abbrev pub record_at : Profile → List ℕ → ℕ → List ℕ
record_at p s i = take (record_size p) (drop (i * record_size p) s)

abbrev pub entry_at : Profile → List ℕ → ℕ → Result Entry Refusal
entry_at p s i = entry_of p (record_at p s i)

-- by the number that "The caller passes"; "18 for a profile other than 1 or 2, first" (02, No. 10)
abbrev pub entry_by : ℕ → List ℕ → ℕ → Result Entry Refusal
entry_by n s i = of_profile n (Err OtherProfile) (λ p. entry_at p s i)

-- ---- records in a row

-- "They rise by group, then object" (02, No. 10): above is one past the object number of the record before, which has group last
abbrev pub at_or_above : ℕ → ℕ → ℕ → ℕ → Bool
at_or_above last above group object = pick (group == last) (nat_le above object) (nat_lt last group)

-- "Object numbers rise strictly", in a group: last and above are 0 for the first record; f takes what it leaves for the next, and x is
-- the answer where it breaks the rule
abbrev pub follows_or : {A : Type 0} → ℕ → ℕ → Result Entry Refusal → (ℕ → ℕ → A) → A → A
follows_or last above (Ok e) f x = pick (at_or_above last above e.group e.object) (f e.group (suc e.object)) x
follows_or last above (Err refusal) f x = x

abbrev pub follows : ℕ → ℕ → Result Entry Refusal → (ℕ → ℕ → Bool) → Bool
follows last above e f = follows_or last above e f false

-- n records in a row
unfoldable pub records_good : Profile → ℕ → ℕ → ℕ → List ℕ → Bool
records_good p zero last above s = true
records_good p (suc n) last above s = follows last above (entry_of p (take (record_size p) s)) (λ group next. records_good p n group next (drop (record_size p) s))

abbrev pub entries_good : Profile → List ℕ → Bool
entries_good p s = records_good p (length s / record_size p) 0 0 s

-- a writer's judgement, 16 being the record's size: "an entry length that is no multiple of 16 (12), more than 256 records (10), each record (12)"
unfoldable pub entries_fault : Profile → List ℕ → Result Unit Refusal
entries_fault p s =
    pick (length s % record_size p == 0)
    (pick (nat_le (length s / record_size p) most_given)
    (pick (entries_good p s) (Ok tt) (Err BrokenEntry)) (Err BrokenCount)) (Err BrokenEntry)
