-- `entries::entry_behind` meets its contract: the entry is what the judge makes of the parts, where they are there.
-- Assumes nothing.
use Rattle.std.proofs.Common.{◌∙◌}
use Rattle.entries.proofs.Steps.{parts-short, parts-there}
use Rattle.entries.proofs.one.entry_behind.Goals as goal

pub returns-in_default : goal.returns-in_default
returns-in_default c = parts-short c.args.bytes.now _ c.parts_in.ensures c.args.group c.in_default.is

pub returns : goal.returns
returns c = c.judge_entry.ensures ∙ parts-there c.args.bytes.now _ c.parts_in.ensures _ c.in-Some.is c.args.group
