-- `call_log::verdict_of` meets its contract.
-- Assumes nothing.
use borrow.Author.Rules.{rules}
use Rattle.call_log.proofs.Answers.{refused-verdict}
use Rattle.call_log.proofs.calls.verdict_of.Goals as goal

pub returns-in_default : goal.returns-in_default
returns-in_default c = search (rules, refused-verdict)
