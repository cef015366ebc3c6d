-- `entries::read_entry` meets its contract: the number is that of a profile, or the refusal is that for one that is not.
-- Assumes nothing.
use Rattle.std.proofs.Common.{Err, ◌∙◌}
use Rattle.std.proofs.lemmas.Result.{err_from_is_err_and}
use Rattle.wire.specs.declared.Refusal.TheVariants.{OtherProfile}
use Rattle.entries.specs.Entries.{entry_at}
use Rattle.entries.proofs.Profiles.{by-known, by-other, other-is}
use Rattle.entries.proofs.one.read_entry.Goals as goal

pub returns-in_err-profile : goal.returns-in_err-profile
returns-in_err-profile c =
    let a = c.args in
    let p = err_from_is_err_and c.from_residual.result c.from_residual.ensures.1 in
    rw (p.1, p.2, other-is a.profile _ c.try_from.ensures _ c.in_err-profile.was) (by-other a.profile (Err OtherProfile) (λ p. entry_at p a.entries.now a.index) _ c.try_from.ensures _ c.in_err-profile.was)

pub returns : goal.returns
returns c =
    let a = c.args in
    c.entry_at.ensures ∙ by-known a.profile (Err OtherProfile) (λ p. entry_at p a.entries.now a.index) _ c.try_from.ensures _ c.in_ok-profile.was
