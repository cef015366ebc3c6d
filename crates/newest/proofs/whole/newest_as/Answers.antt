-- `newest::newest_as` meets its contract: each branch is one test of the definition, and what is lent to the search is the entries.
-- Assumes nothing.
use mathlib.Core.Path.{◌∙◌}
use native.Mathlib.Omega.{arith}
use Rattle.std.proofs.lemmas.Result.{err_from_is_err_and}
use Rattle.newest.proofs.Announcing.{refused-is, held-there, too_few, bytes-remain, search_is}
use Rattle.newest.proofs.whole.newest_as.Goals as goal

pub returns-in_err-head : goal.returns-in_err-head
returns-in_err-head c =
    let a = c.args in
    let f = c.read_head in
    let p = err_from_is_err_and c.from_residual.result c.from_residual.ensures.1 in
    rw (p.1, p.2) (refused-is a.profile a.s.now f.result f.ensures.0 _ c.in_err-head.was)

pub returns-then-rest-size : goal.returns-then-rest-size
returns-then-rest-size c =
    let a = c.args in
    let f = c.read_head in
    let z = c.record_size-size in
    too_few a.profile a.s.now f.result f.ensures.0 _ c.in_ok-head.was z.result z.ensures c.in_ok-head.ensures.1 c.if-rest-size.true

pub overflow_mul-size : goal.overflow_mul-size
overflow_mul-size c =
    let a = c.args in
    let f = c.read_head in
    let z = c.record_size-size in
    omega (arith, held-there a.profile a.s.now f.result f.ensures.0 _ c.in_ok-head.was z.result z.ensures c.in_ok-head.ensures.1 c.if-rest-size.false, c.well_formed)

pub returns-then-size-count : goal.returns-then-size-count
returns-then-size-count c =
    let a = c.args in
    let f = c.read_head in
    let z = c.record_size-size in
    bytes-remain a.profile a.s.now f.result f.ensures.0 _ c.in_ok-head.was z.result z.ensures c.in_ok-head.ensures.1 c.if-rest-size.false c.if-size-count.true

pub returns : goal.returns
returns c =
    let a = c.args in
    let f = c.read_head in
    let z = c.record_size-size in
    c.search.ensures
    ∙ search_is a.profile a.s.now f.result f.ensures.0 _ c.in_ok-head.was z.result z.ensures c.in_ok-head.ensures.1 c.if-rest-size.false c.if-size-count.false
