-- A file is read piece by piece: however it is cut, the page is that of the whole file.
use Rattle.std.specs.Prelude.{ℕ, ◌+◌, ◌<◌, ◌≡◌, List, [], ◌∷◌, ◌++◌, length, drop}
use Rattle.totals.specs.declared.Standing.{Standing}
use Rattle.totals.specs.Totals.{longest}
use Rattle.totals.specs.Files.{length_size, start, taken}
use Rattle.page.specs.Page.{page, printed}

-- where the program stands between two pieces, and the bytes that are left of the last one
pub record Place : Type 0 where
  pub standing : Standing
  pub left : List ℕ

-- one turn: the piece is read behind what is left, `piece` takes what is whole, and the rest is kept
abbrev pub turn : Place → List ℕ → Place
turn p bytes =
    let s = p.left ++ bytes in
    let done = taken p.standing s in
    record { standing = done.next; left = drop done.used s }

abbrev pub turns : Place → List (List ℕ) → Place
turns p [] = p
turns p (bytes ∷ more) = turns (turn p bytes) more

abbrev pub opened : Place
opened = record { standing = start; left = [] }

-- less is left than the longest report that is read has, with its length: a buffer of so many bytes always has room to read on
abbrev pub LeftShort : Type 0
LeftShort = (p : Place) (bytes : List ℕ) → length (turn p bytes).left < length_size + longest

-- the file is the pieces one after the other
abbrev pub file : List (List ℕ) → List ℕ
file [] = []
file (bytes ∷ more) = bytes ++ file more

-- what is printed at the end of the pieces is the page of the file
abbrev pub PageInPieces : Type 0
PageInPieces = (pieces : List (List ℕ)) → printed (turns opened pieces).standing (length (turns opened pieces).left) ≡ page (file pieces)
