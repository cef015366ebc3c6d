-- `entries::entry_of` meets its contract: the group is the first field, where the profile has one, and the rest stands behind it.
-- Assumes nothing.
use Rattle.entries.proofs.Fields.{group-ends, group-there, group-is}
use Rattle.entries.proofs.one.entry_of.Goals as goal

pub returns-in_default : goal.returns-in_default
returns-in_default c =
    let a = c.args in
    group-ends a.profile a.bytes.now _ c.group_in.ensures _ c.in_default.is

pub slice_bounds-entry_behind-count : goal.slice_bounds-entry_behind-count
slice_bounds-entry_behind-count c =
    let a = c.args in
    group-there a.profile a.bytes.now _ c.group_in.ensures _ c.in-Ok.is

pub slice_bounds-entry_behind-start : goal.slice_bounds-entry_behind-start
slice_bounds-entry_behind-start c =
    let a = c.args in
    group-there a.profile a.bytes.now _ c.group_in.ensures _ c.in-Ok.is

pub returns : goal.returns
returns c =
    let a = c.args in
    group-is a.profile a.bytes.now _ c.group_in.ensures _ c.in-Ok.is _ c.entry_behind.ensures
