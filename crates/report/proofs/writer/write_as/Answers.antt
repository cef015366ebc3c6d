-- `report::write_as` meets its contract: the plan is the answer, and what it stores is the report.
-- Assumes nothing.
use mathlib.Core.Path.{◌≡◌, sym, ap, ◌∙◌, subst}
use Prim.Native.Nat.{ℕ, ◌+◌, ◌*◌, ◌≤◌, min}
use mathlib.Core.List.{List, [], ◌∷◌, ◌++◌}
use native.Mathlib.Omega.{arith}
use lib.ListN.{length, take, length-set}
use lib.Seq.{length-take-le}
use Rattle.std.specs.Prelude.{Result}
use Rattle.std.proofs.lemmas.Result.{err_from_is_err_and}
use Rattle.wire.specs.declared.Refusal.{Refusal}
use Rattle.entries.specs.Profiles.{record_size, most_metrics}
use Rattle.entries.specs.declared.Profile.{Profile}
use Rattle.report.specs.Limits.{metric_places}
use Rattle.report.specs.Header.{with_metrics, numbers_of}
use Rattle.report.specs.Writer.{done, planned, write_answer}
use Rattle.report.specs.declared.Header.{Header}
use Rattle.report.specs.declared.Written.{Written}
use Rattle.report.proofs.Sent.{numbers-first}
use Rattle.report.proofs.Planning.{Accepted, plan-accepted, kept-given, ready, stored-report, write-refused, write_done}
use borrow.Author.Rules.{rules}
use Rattle.report.proofs.writer.write_as.Goals as goal

-- the first numbers of the array are the header's
first : (p : Profile) (h : Header) (numbers : List ℕ) (m : ℕ) → (m ≡ min h.metrics (most_metrics p)) × (m ≤ metric_places) → numbers ≡ with_metrics h metric_places ++ (0 ∷ []) → take (8 + 2 * m) numbers ≡ numbers_of p h
first p h numbers m e t = rw t (numbers-first p h m e.0 e.1)

answered : (p : Profile) (h : Header) (entries : List ℕ) (maximum room : ℕ) (w : Result Written Refusal) (numbers : List ℕ) (n : ℕ) → take n numbers ≡ numbers_of p h → w ≡ planned p (take n numbers) entries maximum room → w ≡ write_answer p h entries maximum room
answered p h entries maximum room w numbers n t e = rw t at e

-- what the code knows once the plan is accepted
accepted : (p : Profile) (h : Header) (entries : List ℕ) (maximum room : ℕ) (numbers : List ℕ) (m : ℕ) (w : Result Written Refusal) (next kept : ℕ)
    → (m ≡ min h.metrics (most_metrics p)) × (m ≤ metric_places) → numbers ≡ with_metrics h metric_places ++ (0 ∷ []) → w ≡ planned p (take (8 + 2 * m) numbers) entries maximum room → w ≡ done next kept
    → Accepted p (numbers_of p h) entries maximum room next kept
accepted p h entries maximum room numbers m w next kept e t f d =
    plan-accepted p (numbers_of p h) entries maximum room next kept (sym d ∙ answered p h entries maximum room w numbers (8 + 2 * m) (first p h numbers m e t) f)

-- the kept records by the code's own size of a record
module _ (p : Profile) (size kept : ℕ) (e : size ≡ record_size p) where
  bytes : size * kept ≡ record_size p * kept
  bytes = ap (λ (x : ℕ). x * kept) e

  within : (n : ℕ) → record_size p * kept ≤ n → size * kept ≤ n
  within n h = subst (λ (x : ℕ). x ≤ n) (sym bytes) h

pub slice_bounds-plan-end : goal.slice_bounds-plan-end
slice_bounds-plan-end c =
    let l : length c.numbers_of-numbers.result ≡ 25 = search rules in
    sym (length-take-le _ _ (omega (arith, c.looked_at.ensures.1)))

pub plan-requires : goal.plan-requires
plan-requires c =
    let l : length c.numbers_of-numbers.result ≡ 25 = search rules in
    rw (length-take-le (8 + 2 * c.looked_at.result) c.numbers_of-numbers.result (omega (arith, c.looked_at.ensures.1))) (omega arith)

pub returns-in_err-next : goal.returns-in_err-next
returns-in_err-next c =
    let a = c.args in
    let m = c.looked_at in
    let n = c.numbers_of-numbers in
    let t = first a.profile a.header n.result m.result m.ensures n.ensures in
    let w = answered a.profile a.header a.entries.now a.maximum (length a.buf.now) c.plan.result n.result (8 + 2 * m.result) t c.plan.ensures in
    let p = err_from_is_err_and c.from_residual.result c.from_residual.ensures.1 in
    rw (p.1, p.2) (write-refused a.profile a.header a.entries.now a.maximum a.buf.now (sym c.in_err-next.was ∙ w))

pub overflow_mul-bytes : goal.overflow_mul-bytes
overflow_mul-bytes c =
    let a = c.args in
    let m = c.looked_at in
    let n = c.numbers_of-numbers in
    let q = accepted a.profile a.header a.entries.now a.maximum (length a.buf.now) _ _ _ _ _ m.ensures n.ensures c.plan.ensures c.in_ok-next.was in
    let z = c.record_size in
    omega (arith, within a.profile z.result _ z.ensures _ (kept-given q), c.well_formed)

pub overflow_sub-at : goal.overflow_sub-at
overflow_sub-at c =
    let a = c.args in
    let m = c.looked_at in
    let n = c.numbers_of-numbers in
    let q = accepted a.profile a.header a.entries.now a.maximum (length a.buf.now) _ _ _ _ _ m.ensures n.ensures c.plan.ensures c.in_ok-next.was in
    let z = c.record_size in
    within a.profile z.result _ z.ensures _ (omega (arith, q.size))

pub overflow_sub-start : goal.overflow_sub-start
overflow_sub-start c =
    let a = c.args in
    let m = c.looked_at in
    let n = c.numbers_of-numbers in
    let q = accepted a.profile a.header a.entries.now a.maximum (length a.buf.now) _ _ _ _ _ m.ensures n.ensures c.plan.ensures c.in_ok-next.was in
    let z = c.record_size in
    within a.profile z.result _ z.ensures _ (kept-given q)

pub overflow_add-end : goal.overflow_add-end
overflow_add-end c =
    let a = c.args in
    let m = c.looked_at in
    let n = c.numbers_of-numbers in
    let q = accepted a.profile a.header a.entries.now a.maximum (length a.buf.now) _ _ _ _ _ m.ensures n.ensures c.plan.ensures c.in_ok-next.was in
    let z = c.record_size in
    omega (arith, within a.profile z.result _ z.ensures _ (kept-given q), c.well_formed)

pub slice_bounds-numbers-end-2 : goal.slice_bounds-numbers-end-2
slice_bounds-numbers-end-2 c =
    let l : length c.numbers_of-numbers.result ≡ 25 = search rules in
    simp length-set (omega (arith, c.looked_at.ensures.1))

pub slice_bounds-store-end : goal.slice_bounds-store-end
slice_bounds-store-end c =
    let l : length c.numbers_of-numbers.result ≡ 25 = search rules in
    sym (length-take-le _ _ (simp length-set (omega (arith, c.looked_at.ensures.1))))

pub slice_bounds-store-end-2 : goal.slice_bounds-store-end-2
slice_bounds-store-end-2 c =
    let a = c.args in
    let m = c.looked_at in
    let n = c.numbers_of-numbers in
    let q = accepted a.profile a.header a.entries.now a.maximum (length a.buf.now) _ _ _ _ _ m.ensures n.ensures c.plan.ensures c.in_ok-next.was in
    let z = c.record_size in
    omega (arith, within a.profile z.result _ z.ensures _ (kept-given q))

pub store-requires : goal.store-requires
store-requires c =
    let a = c.args in
    let m = c.looked_at in
    let n = c.numbers_of-numbers in
    let q = accepted a.profile a.header a.entries.now a.maximum (length a.buf.now) _ _ _ _ _ m.ensures n.ensures c.plan.ensures c.in_ok-next.was in
    let z = c.record_size in
    let l : length c.numbers_of-numbers.result ≡ 25 = search rules in
    let t = first a.profile a.header n.result m.result m.ensures n.ensures in
    ready a.profile (numbers_of a.profile a.header) a.entries.now a.buf.now n.result a.maximum (8 + 2 * m.result) _ _ q (omega (arith, m.ensures.1)) t _ (bytes a.profile z.result _ z.ensures)

pub returns : goal.returns
returns c =
    let a = c.args in
    let m = c.looked_at in
    let n = c.numbers_of-numbers in
    let q = accepted a.profile a.header a.entries.now a.maximum (length a.buf.now) _ _ _ _ _ m.ensures n.ensures c.plan.ensures c.in_ok-next.was in
    let z = c.record_size in
    let l : length c.numbers_of-numbers.result ≡ 25 = search rules in
    let t = first a.profile a.header n.result m.result m.ensures n.ensures in
    let w = answered a.profile a.header a.entries.now a.maximum (length a.buf.now) c.plan.result n.result (8 + 2 * m.result) t c.plan.ensures in
    write_done a.profile a.header a.entries.now a.maximum a.buf.now _ _ _ (sym c.in_ok-next.was ∙ w)
    (stored-report a.profile (numbers_of a.profile a.header) a.entries.now a.buf.now n.result a.maximum (8 + 2 * m.result) _ _ q (omega (arith, m.ensures.1)) t _ (bytes a.profile z.result _ z.ensures) _ c.store.ensures)
