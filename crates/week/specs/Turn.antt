-- What the program does with what it reads: turns of the definitions, up to the end of the file; and what it prints then.
-- That the bytes and answers spoken of are those of the system's `read` no contract can say.
use Rattle.std.specs.Prelude.{ℕ, zero, suc, ◌+◌, ◌-◌, ◌^◌, ◌≤◌, ◌≡◌, Bool, true, false, List, [], ◌∷◌, ◌++◌, Option, Some, None, ℤ, pos, negsuc, length, take, drop}
use Rattle.std.specs.Int.Signed.{lt_z}
use Rattle.std.specs.Counts.{clamp_len}
use Rattle.wire.specs.Bytes.{pick}
use Rattle.totals.specs.Totals.{longest}
use Rattle.totals.specs.Files.{length_size}
use Rattle.page.specs.Page.{page, printed}
use Rattle.page.specs.Pieces as pieces
use Rattle.week.specs.declared.Last.{Last}
use Rattle.week.specs.declared.Last.TheVariants.{Gave, Ended, Failed}
use Rattle.week.specs.declared.Place.{Place}

-- ---- one read

-- `read` answers how many bytes it gave: a byte or more
abbrev pub gave : ℤ → Bool
gave got = lt_z (pos 0) got

-- or 0 at the end of the input; less than 0 is a read that failed
abbrev pub at_end : ℤ → Bool
at_end (pos zero) = true
at_end (pos (suc n)) = false
at_end (negsuc n) = false

-- how many bytes it gave
abbrev pub many : ℤ → ℕ
many (pos n) = n
many (negsuc n) = 0

-- what is known of the last read: whether it gave bytes, and whether it gave none because the input has ended
abbrev pub more_of : Last → Bool
more_of Gave = true
more_of Ended = false
more_of Failed = false

abbrev pub ended_of : Last → Bool
ended_of Gave = false
ended_of Ended = true
ended_of Failed = false

-- what `read` answers where it gives so many bytes, or fails
abbrev pub answer_of : Option ℕ → ℤ
answer_of None = negsuc 0
answer_of (Some came) = pos came

-- and what the read came to
abbrev pub last_of : Option ℕ → Last
last_of None = Failed
last_of (Some zero) = Ended
last_of (Some (suc n)) = Gave

-- ---- one turn

-- a buffer of so many bytes always has room behind what is left
abbrev pub least : ℕ
least = length_size + longest

-- where the program stands, with what is left at the start of its buffer
abbrev pub standing : Place → List ℕ → pieces.Place
standing p xs = record { standing = p.standing; left = take p.left xs }

-- what a read that answered got put into the buffer behind what was left
abbrev pub came : Place → List ℕ → ℤ → List ℕ
came p xs got = take (clamp_len got (length (drop p.left xs))) (drop p.left xs)

-- xs is the buffer as the read leaves it, ys as the turn leaves it
pub record Took (p : Place) (xs : List ℕ) (got : ℤ) (r : Place) (ys : List ℕ) : Type 0 where
  pub turned : standing r ys ≡ pieces.turn (standing p xs) (came p xs got)
  pub within : r.left ≤ length ys
  pub goes_on : more_of r.last ≡ gave got
  pub ends : ended_of r.last ≡ at_end got

-- a read: what it answered, and the bytes that it gave, as many as it answered
pub record Read : Type 0 where
  pub got : ℤ
  pub bytes : List ℕ
  pub as_many : length bytes ≡ many got

-- xs is the buffer before the read
pub record Turned (p : Place) (xs : List ℕ) (r : Place) (ys : List ℕ) : Type 0 where
  pub read : Read
  pub turned : standing r ys ≡ pieces.turn (standing p xs) read.bytes
  pub within : r.left ≤ length ys
  pub goes_on : more_of r.last ≡ gave read.got
  pub ends : ended_of r.last ≡ at_end read.got

-- ---- all turns

-- reads one after the other, each but the last of a byte or more; whether there may be more, and whether the input has ended
pub data Reads : List Read → Bool → Bool → Type 0 where
  begun : Reads [] true false
  next : {rs : List Read} {ended : Bool} → Reads rs true ended → (r : Read) → Reads (rs ++ (r ∷ [])) (gave r.got) (at_end r.got)

abbrev pub pieces_of : List Read → List (List ℕ)
pieces_of [] = []
pieces_of (r ∷ rs) = r.bytes ∷ pieces_of rs

-- what was read, one read after the other
abbrev pub file : List Read → List ℕ
file reads = pieces.file (pieces_of reads)

-- it is read on until a read gives no byte, unless there are more reads than a word counts; the page is that of what was read
pub record HasRead (p : Place) : Type 0 where
  pub reads : List Read
  pub in_order : Reads reads (more_of p.last) (ended_of p.last)
  pub no-sooner : more_of p.last ≡ true → length reads ≡ 2 ^ 64 - 1
  pub page-is : printed p.standing p.left ≡ page (file reads)

-- ---- what is printed

-- a page only where the input has ended
abbrev pub to_print : Place → List ℕ
to_print p = pick (ended_of p.last) (printed p.standing p.left) []

-- us is all that the program prints: the page of the file that was read to its end, and nothing where a read failed
pub record Printed (us : List ℕ) : Type 0 where
  pub reads : List Read
  pub more : Bool
  pub ended : Bool
  pub in_order : Reads reads more ended
  pub no-sooner : more ≡ true → length reads ≡ 2 ^ 64 - 1
  pub all : us ≡ pick ended (page (file reads)) []
