-- `sent::record::words_agree` meets its contract. The loop's invariant: the answer from here is the answer from the start.
-- Assumes nothing.
use mathlib.Core.Path.{◌≡◌, sym, ap, ◌∙◌}
use mathlib.Core.Bool.{not}
use Prim.Native.Nat.{ℕ, ◌+◌, ◌-◌}
use native.Mathlib.Omega.{arith}
use Rattle.marks.specs.Marks.{none_in}
use Rattle.sent.specs.Record.{word_wrong}
use Rattle.marks.proofs.Listing.{none-stop, none-next, none_is}
use Rattle.sent.proofs.record.words_agree.Goals as goal

pub returns-then-not-word_agrees : goal.returns-then-not-word_agrees
returns-then-not-word_agrees c =
    let i = c.loop-i.i in
    let s = c.args in
    let w = word_wrong s.losses.now s.due.now s.outside.now in
    sym (none-stop w (16 - i) i (omega arith) (ap not (sym c.word_agrees.ensures ∙ c.if-not-word_agrees.true))) ∙ c.loop-i.invariant

pub loop-i-preserved : goal.loop-i-preserved
loop-i-preserved c =
    let i = c.loop-i.i in
    let s = c.args in
    let w = word_wrong s.losses.now s.due.now s.outside.now in
    let d : 16 - (i + 1) ≡ 16 - i - 1 = omega arith in
    ap (λ (k : ℕ). none_in w k (i + 1)) d ∙ sym (none-next w (16 - i) i (omega arith) (ap not (sym c.word_agrees.ensures ∙ c.if-not-word_agrees.false))) ∙ c.loop-i.invariant

pub returns : goal.returns
returns c =
    let l = c.loop-i in
    sym (none_is _ (16 - l.i) l.i (λ q h m. absurd (omega arith))) ∙ l.invariant
