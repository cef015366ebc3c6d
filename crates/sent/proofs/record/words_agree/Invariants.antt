-- `sent::record::words_agree` meets its contract. The loop's invariant: the answer from here is the answer from the start.
-- Assumes nothing.
use mathlib.Core.Path.{◌≡◌}
use Prim.Native.Nat.{◌-◌}
use Rattle.marks.specs.Marks.{none_in}
use Rattle.sent.specs.Record.{word_wrong}
use Rattle.sent.proofs.record.words_agree.Given as goal

abbrev pub invariant-loop-i : goal.invariant-loop-i
invariant-loop-i l = none_in (word_wrong l.losses l.due l.outside) (16 - l.i) l.i ≡ none_in (word_wrong l.losses l.due l.outside) 16 0
