-- The receiver's calls, as a host in C gives and gets them.
use Rattle.std.specs.Prelude.{ℕ}
use Rattle.receiver.specs.declared.Verdict.{Verdict}
use Rattle.receiver.specs.declared.Verdict.TheVariants.{Accepted, Stale, Refused}
use Rattle.receiver.specs.declared.Heard.{Heard}
use Rattle.receiver.specs.declared.Answer.{Answer}

-- "it answers "stale"": a number of its own, no refusal of the table
abbrev pub stale_number : ℕ
stale_number = 255

-- "this paper's number .. for each of the enum's cases"
abbrev pub verdict_out : Verdict → ℕ
verdict_out Accepted = 0
verdict_out Stale = stale_number
verdict_out (Refused n) = n

-- the threshold call's number, and the next record
unfoldable pub heard_out : Heard → Answer
heard_out h = record { result = verdict_out h.verdict; next = h.next }
