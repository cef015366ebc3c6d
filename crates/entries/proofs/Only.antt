-- Only one: two results that meet the contract of a public call, as its source states it, are equal.
-- Assumes nothing.
use Rattle.std.proofs.Common.{sym, ◌∙◌}
use Rattle.wire.proofs.Only.{OneAnswer}
use Rattle.entries.proofs.one.read_entry.Reads as read-entry
use Rattle.entries.proofs.one.read_entry.Kinds as read-entry-kinds
use Rattle.entries.proofs.one.entry_at.Reads as entry_at
use Rattle.entries.proofs.one.entry_at.Kinds as entry-at-kinds
use Rattle.entries.proofs.row.entries_good.Reads as entries-good
use Rattle.entries.proofs.row.entries_good.Kinds as entries-good-kinds
use Rattle.entries.proofs.row.good_run.Reads as good-run
use Rattle.entries.proofs.row.good_run.Kinds as good-run-kinds
use Rattle.entries.proofs.row.entries_fault.Reads as entries-fault
use Rattle.entries.proofs.row.entries_fault.Kinds as entries-fault-kinds
use Rattle.entries.proofs.fit.fitting.Reads as fitting
use Rattle.entries.proofs.fit.fitting.Kinds as fitting-kinds
use Rattle.entries.proofs.record_size.Reads as record-size
use Rattle.entries.proofs.record_size.Kinds as record-size-kinds
use Rattle.entries.proofs.records_in.Reads as records-in
use Rattle.entries.proofs.records_in.Kinds as records-in-kinds
use Rattle.entries.proofs.Status.number.Reads as status-number
use Rattle.entries.proofs.Status.number.Kinds as status-number-kinds
use Rattle.entries.proofs.one.entry_of.Reads as entry_of
use Rattle.entries.proofs.one.entry_of.Kinds as entry-of-kinds
use Rattle.entries.proofs.ProfileTryFromU64.try_from.Reads as by-number
use Rattle.entries.proofs.ProfileTryFromU64.try_from.Kinds as by-number-kinds

pub read-entry-one : OneAnswer 1 read-entry-kinds.ps read-entry-kinds.r read-entry.Post
read-entry-one κs given x y s t p q = p ∙ sym q

pub entry-at-one : OneAnswer 1 entry-at-kinds.ps entry-at-kinds.r entry_at.Post
entry-at-one κs given x y s t p q = p ∙ sym q

pub entries-good-one : OneAnswer 1 entries-good-kinds.ps entries-good-kinds.r entries-good.Post
entries-good-one κs given x y s t p q = p ∙ sym q

pub good-run-one : OneAnswer 1 good-run-kinds.ps good-run-kinds.r good-run.Post
good-run-one κs given x y s t p q = p ∙ sym q

pub entries-fault-one : OneAnswer 1 entries-fault-kinds.ps entries-fault-kinds.r entries-fault.Post
entries-fault-one κs given x y s t p q = p ∙ sym q

pub fitting-one : OneAnswer 0 fitting-kinds.ps fitting-kinds.r fitting.Post
fitting-one κs given x y s t p q = p ∙ sym q

pub record-size-one : OneAnswer 0 record-size-kinds.ps record-size-kinds.r record-size.Post
record-size-one κs given x y s t p q = p ∙ sym q

pub records-in-one : OneAnswer 0 records-in-kinds.ps records-in-kinds.r records-in.Post
records-in-one κs given x y s t p q = p ∙ sym q

pub entry-of-one : OneAnswer 1 entry-of-kinds.ps entry-of-kinds.r entry_of.Post
entry-of-one κs given x y s t p q = p ∙ sym q

pub status-number-one : OneAnswer 0 status-number-kinds.ps status-number-kinds.r status-number.Post
status-number-one κs given x y s t p q = p ∙ sym q

pub profile-by-one : OneAnswer 0 by-number-kinds.ps by-number-kinds.r by-number.Post
profile-by-one κs given x y s t p q = p ∙ sym q
