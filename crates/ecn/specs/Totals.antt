-- "totals of accepted packets marked ECT(0), ECT(1) and CE, and of unmarked ones" (02, No. 2): what a packet counts, and the counts that an ACK tells.
use Rattle.std.specs.Prelude.{ℕ, ◌+◌, min, Bool, true, false, ◌&&◌, Option, Some, None}
use Rattle.wire.specs.Numbers.{limit}
use Rattle.frames.specs.declared.Counts.{Counts}
use Rattle.seen.specs.Numbers.{small}
use Rattle.ecn.specs.declared.Mark.{Mark}
use Rattle.ecn.specs.declared.Mark.TheVariants.{None, Ect0, Ect1, Ce}
use Rattle.ecn.specs.declared.Kind.{Kind}
use Rattle.ecn.specs.declared.Kind.TheVariants.{Plain, Counts as WithCounts}
use Rattle.ecn.specs.declared.Totals.{Totals}

-- "Packets carry one of four marks, none being the fourth": whether it is CE
abbrev pub is_ce : Mark → Bool
is_ce None = false
is_ce Ect0 = false
is_ce Ect1 = false
is_ce Ce = true

-- and which of the other three
abbrev pub is_ect0 : Mark → Bool
is_ect0 None = false
is_ect0 Ect0 = true
is_ect0 Ect1 = false
is_ect0 Ce = false

abbrev pub is_ect1 : Mark → Bool
is_ect1 None = false
is_ect1 Ect0 = false
is_ect1 Ect1 = true
is_ect1 Ce = false

abbrev pub is_none : Mark → Bool
is_none None = true
is_none Ect0 = false
is_none Ect1 = false
is_none Ce = false

-- "Refusals: 1 also for a total above that"
unfoldable pub totals_consistent : Totals → Bool
totals_consistent t = small t.ect0 && (small t.ect1 && (small t.ce && small t.unmarked))

-- "A total stays at 2^62 - 1"
abbrev pub one_more : ℕ → ℕ
one_more total = min (total + 1) limit

-- an accepted packet, of either kind, counts for its mark
unfoldable pub totals_after : Totals → Mark → Totals
totals_after t None = record { ect0 = t.ect0; ect1 = t.ect1; ce = t.ce; unmarked = one_more t.unmarked }
totals_after t Ect0 = record { ect0 = one_more t.ect0; ect1 = t.ect1; ce = t.ce; unmarked = t.unmarked }
totals_after t Ect1 = record { ect0 = t.ect0; ect1 = one_more t.ect1; ce = t.ce; unmarked = t.unmarked }
totals_after t Ce = record { ect0 = t.ect0; ect1 = t.ect1; ce = one_more t.ce; unmarked = t.unmarked }

-- "The caller chooses 02 or 03 at the write": the counts are the totals at that write
abbrev pub tail_of : Kind → Totals → Option Counts
tail_of Plain t = None
tail_of WithCounts t = Some (record { ect0 = t.ect0; ect1 = t.ect1; ce = t.ce })
