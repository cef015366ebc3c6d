-- A line of the output.
use Rattle.std.specs.Prelude.{ℕ, List, [], ◌∷◌, ◌++◌}
use Rattle.decimal.specs.Decimal.{decimal}
use Rattle.receiver.specs.declared.Answer.{Answer}

abbrev pub blank : ℕ
blank = 32

abbrev pub line_end : ℕ
line_end = 10

-- "Each line has record index from 0, result (0 accepted, else refusal), cause afterwards"
unfoldable pub line : ℕ → ℕ → ℕ → List ℕ
line index result cause = (decimal index ++ (blank ∷ [])) ++ ((decimal result ++ (blank ∷ [])) ++ (decimal cause ++ (line_end ∷ [])))

abbrev pub line_of : ℕ → Answer → List ℕ
line_of index a = line index a.result a.next.cause
