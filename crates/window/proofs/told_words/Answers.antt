-- `told_words` meets its contract: what owning a `[u64; 16]` tells. Assumes nothing.
use borrow.Author.Rules.{rules}
use mir.Val.{Fits}
use mir.Syntax.{w64}
use lib.ListN.{get_or}
use Rattle.window.proofs.Sixteen.{Sixteen, lent_same}
use Rattle.window.proofs.told_words.Goals as goal
use Rattle.window.proofs.told_words.Goals.{Start}

known : (c : Start) → Sixteen c.args.words
known c = record { long = search rules; words = λ i. let f : Fits w64 (get_or c.args.words i 0) = search rules in f.fits }

pub returns : goal.returns
returns c = lent_same _ (known c)
