-- What the contracts of the writing functions say: a text was laid over a buffer.
use Rattle.std.specs.Prelude.{ℕ, ◌+◌, ◌≤◌, ◌≡◌, List, length}
use Rattle.wire.specs.Bytes.{splice}

-- the text stands in xs from at on, end is the place after it, and ys is the buffer then
pub record Laid (xs : List ℕ) (at : ℕ) (text ys : List ℕ) (end : ℕ) : Type 0 where
  pub place : end ≡ at + length text
  pub fits : end ≤ length xs
  pub buffer : ys ≡ splice xs at text
