-- The calls of which a host lends the record: what it gets where the record stays with it.
use Rattle.receiver.specs.declared.Wrote.{Wrote}
use Rattle.lent.specs.declared.WroteLent.{WroteLent}

-- what the write call answers, without the record
abbrev pub wrote_lent : Wrote → WroteLent
wrote_lent w = record { result = w.result; length = w.length }
