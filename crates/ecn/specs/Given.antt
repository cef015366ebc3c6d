-- Marks and the type of an ACK, as a host gives them: by a plain number and a truth value.
use Rattle.std.specs.Prelude.{ℕ, ◌%◌, Bool, true, false, eqb}
use Rattle.wire.specs.Bytes.{pick}
use Rattle.ecn.specs.declared.Mark.{Mark}
use Rattle.ecn.specs.declared.Mark.TheVariants.{None, Ect0, Ect1, Ce}
use Rattle.ecn.specs.declared.Kind.{Kind}
use Rattle.ecn.specs.declared.Kind.TheVariants.{Plain, Counts}

-- the ECN field of the IP header (RFC 3168): 0 none, 1 ECT(1), 2 ECT(0), 3 CE; of the number only the two low bits count
unfoldable pub mark_of : ℕ → Mark
mark_of ecn = pick (eqb (ecn % 4) 0) None (pick (eqb (ecn % 4) 1) Ect1 (pick (eqb (ecn % 4) 2) Ect0 Ce))

-- "The caller chooses 02 or 03 at the write" (02, No. 2)
abbrev pub kind_of : Bool → Kind
kind_of true = Counts
kind_of false = Plain
