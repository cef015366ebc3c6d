-- `pieces::calls::answer` meets its contract: the header is handed over where it is whole, as the words have it.
-- Assumes nothing.
use mathlib.Core.Path.{refl, sym, ap, ◌∙◌}
use lib.ListN.{length, take}
use Rattle.pieces.specs.Record.{numbers_in, held_in}
use Rattle.pieces.proofs.Stages.{header-none}
use Rattle.pieces.proofs.Showing.{places-long, header-written}
use Rattle.pieces.proofs.calls.answer.Goals as goal

pub returns-then-whole-eq0 : goal.returns-then-whole-eq0
returns-then-whole-eq0 c = λ p w e.
    let s = c.args.s in
    let none = header-none s.stage s.left s.last s.above (take s.count (numbers_in w)) (take s.carried (held_in w)) (sym (c.whole_at-whole.ensures w) ∙ c.if-whole-eq0.true) in
    rw (c.empty_header-none.ensures, c.standing_at-result.ensures w, c.whole_at-whole.ensures w, none) refl

pub header_in-header-requires : goal.header_in-header-requires
header_in-header-requires c = (ap length c.come.ensures.0 ∙ places-long c.args.state.now, c.requires)

pub returns : goal.returns
returns c = λ p w e.
    let a = c.args in
    let header = header-written p a.s w a.state.now c.come.result.now c.header_in-header.result c.requires e c.come.ensures.0 (λ z. c.if-whole-eq0.false (c.whole_at-whole.ensures w ∙ z)) c.header_in-header.ensures in
    rw (c.standing_at-result.ensures w, c.whole_at-whole.ensures w, header) refl
