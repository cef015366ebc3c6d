-- The example of document 01, on the definitions: "Packets 0, 1, 3, 4, 5 (flag 1), write, packet 5 (flag 1), all at time 0, print exactly, without a heading".
use Rattle.std.specs.Prelude.{ℕ, ◌+◌, ◌≡◌, List, [], ◌∷◌, ◌++◌}
use Rattle.wire.specs.Fields.{fixed}
use Rattle.events.specs.Replay.{replay}

abbrev pub joined : List (List ℕ) → List ℕ
joined [] = []
joined (bytes ∷ more) = bytes ++ joined more

-- a record at time 0: kind, flags, six ignored bytes, number, time
abbrev pub at_zero : ℕ → ℕ → ℕ → List ℕ
at_zero kind flags number = (kind ∷ flags ∷ 0 ∷ 0 ∷ 0 ∷ 0 ∷ 0 ∷ 0 ∷ []) ++ (fixed 8 number ++ fixed 8 0)

abbrev pub packet : ℕ → List ℕ
packet number = at_zero 1 1 number

abbrev pub write : List ℕ
write = at_zero 3 0 0

-- three digits, a blank between them, and a line end
abbrev pub row : ℕ → ℕ → ℕ → List ℕ
row a b c = (48 + a) ∷ 32 ∷ (48 + b) ∷ 32 ∷ (48 + c) ∷ 10 ∷ []

abbrev pub SevenLines : Type 0
SevenLines =
    replay (joined (packet 0 ∷ packet 1 ∷ packet 3 ∷ packet 4 ∷ packet 5 ∷ write ∷ packet 5 ∷ []))
    ≡ joined (row 0 0 0 ∷ row 1 0 0 ∷ row 2 0 0 ∷ row 3 0 0 ∷ row 4 0 3 ∷ row 5 0 0 ∷ row 6 6 0 ∷ [])
