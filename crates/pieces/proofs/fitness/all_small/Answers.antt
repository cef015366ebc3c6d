-- `pieces::fitness::all_small` meets its contract: every number was asked, or one was found that is above the limit.
-- Assumes nothing.
use Prim.Native.Nat.{◌≤◌, ◌<◌}
use borrow.Author.Rules.{rules}
use borrow.Author.Tests.{tests}
use Rattle.std.proofs.lemmas.Iterator.{cases_from_all, YieldsList-from_slice}
use Rattle.wire.specs.Numbers.{limit}
use Rattle.pieces.proofs.Parts.{small-told}
use Rattle.pieces.proofs.fitness.all_small.Goals as goal

pub returns : goal.returns
returns c =
    small-told c.all.result c.args.numbers.now
    (cases_from_all _ _ _ (λ x. x ≤ limit) (λ x. limit < x) c.all.ensures.ran (YieldsList-from_slice c.args.numbers.now cc) (λ x q k. search (rules, tests)) (λ x q k. search (rules, tests)))
