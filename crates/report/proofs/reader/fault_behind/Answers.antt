-- `report::fault_behind` meets its contract: each branch is one test of the definition, on the entries that the numbers announce.
-- Assumes nothing.
use mathlib.Core.Path.{◌≡◌, sym, ap, ◌∙◌, subst}
use mathlib.Core.Bool.{true, false}
use Prim.Native.Nat.{ℕ, ◌+◌, ◌-◌, ◌*◌, ◌/◌, ◌≤◌, ◌<◌}
use mathlib.Core.List.{List}
use native.Mathlib.Omega.{arith}
use borrow.Author.Tests.{le-leb, lt-leb, eq-eqb, ne_eqb}
use lib.ListN.{length, take, drop}
use Rattle.std.specs.Prelude.{Ok, Err}
use Rattle.wire.specs.declared.Refusal.TheVariants.{Ends, BrokenEntry, BytesRemain}
use Rattle.entries.specs.Profiles.{record_size}
use Rattle.entries.specs.Entries.{entries_good}
use Rattle.entries.specs.declared.Profile.{Profile}
use Rattle.entries.proofs.Profiles.{sized}
use Rattle.entries.proofs.Sizes.{held, not-held}
use Rattle.report.specs.Reader.{fault_behind}
use Rattle.report.proofs.reader.fault_behind.Goals as goal

-- the entries that are announced are there, or not; the code counts the records, and asks for the size of one
module _ (p : Profile) (at n k many : ℕ) (e : many ≡ (n - at) / record_size p) (l : at ≤ n) where
  few : many < k → n < at + record_size p * k
  few h = let m = not-held (record_size p) (sized p) (n - at) k (subst (λ (x : ℕ). x < k) e h) in omega arith

  there : k ≤ many → at + record_size p * k ≤ n
  there h = let m = held (record_size p) (sized p) (n - at) k (subst (λ (x : ℕ). k ≤ x) e h) in omega arith

  sized-there : (size : ℕ) → size ≡ record_size p → k ≤ many → at + size * k ≤ n
  sized-there size s h = subst (λ (x : ℕ). at + x * k ≤ n) (sym s) (there h)

-- the part that it lends is these
part : (p : Profile) (size : ℕ) → size ≡ record_size p → (s : List ℕ) (at k : ℕ) → entries_good p (take (at + size * k - at) (drop at s)) ≡ entries_good p (take (record_size p * k) (drop at s))
part p size e s at k =
    let m : at + size * k - at ≡ size * k = omega arith in
    ap (λ (x : ℕ). entries_good p (take x (drop at s))) (m ∙ ap (λ (x : ℕ). x * k) e)

-- what each test says
module _ (p : Profile) (s : List ℕ) (at k : ℕ) where
  too_few : length s < at + record_size p * k → Err Ends ≡ fault_behind p s at k
  too_few h = rw (lt-leb (at + record_size p * k) (length s) h)

  module _ (h : at + record_size p * k ≤ length s) where
    broken : false ≡ entries_good p (take (record_size p * k) (drop at s)) → Err BrokenEntry ≡ fault_behind p s at k
    broken g = rw (le-leb (at + record_size p * k) (length s) h, ← g)

    module _ (g : true ≡ entries_good p (take (record_size p * k) (drop at s))) where
      behind : at + record_size p * k < length s → Err BytesRemain ≡ fault_behind p s at k
      behind l = rw (le-leb (at + record_size p * k) (length s) h, ← g, ne_eqb (at + record_size p * k) (length s) (λ q. omega arith))

      none : length s ≤ at + record_size p * k → Ok tt ≡ fault_behind p s at k
      none l = rw (le-leb (at + record_size p * k) (length s) h, ← g, eq-eqb (at + record_size p * k) (length s) (omega arith))

pub returns-then-records_in-entries : goal.returns-then-records_in-entries
returns-then-records_in-entries c =
    let a = c.args in
    let r = c.records_in in
    too_few a.profile a.s.now a.at a.count (few a.profile a.at (length a.s.now) a.count r.result r.ensures c.requires c.if-records_in-entries.true)

pub overflow_mul-end : goal.overflow_mul-end
overflow_mul-end c =
    let a = c.args in
    let r = c.records_in in
    let z = c.record_size in
    omega (arith, sized-there a.profile a.at (length a.s.now) a.count r.result r.ensures c.requires z.result z.ensures c.if-records_in-entries.false, c.well_formed)

pub overflow_add-end : goal.overflow_add-end
overflow_add-end c =
    let a = c.args in
    let r = c.records_in in
    let z = c.record_size in
    omega (arith, sized-there a.profile a.at (length a.s.now) a.count r.result r.ensures c.requires z.result z.ensures c.if-records_in-entries.false, c.well_formed)

pub slice_bounds-entries_good-end : goal.slice_bounds-entries_good-end
slice_bounds-entries_good-end c =
    let a = c.args in
    let r = c.records_in in
    let z = c.record_size in
    omega (arith, sized-there a.profile a.at (length a.s.now) a.count r.result r.ensures c.requires z.result z.ensures c.if-records_in-entries.false)

pub returns-then-not-entries_good : goal.returns-then-not-entries_good
returns-then-not-entries_good c =
    let a = c.args in
    let r = c.records_in in
    let z = c.record_size in
    let h = there a.profile a.at (length a.s.now) a.count r.result r.ensures c.requires c.if-records_in-entries.false in
    let g = sym c.if-not-entries_good.true ∙ c.entries_good.ensures ∙ part a.profile z.result z.ensures a.s.now a.at a.count in
    broken a.profile a.s.now a.at a.count h g

pub returns-then-end-s : goal.returns-then-end-s
returns-then-end-s c =
    let a = c.args in
    let r = c.records_in in
    let z = c.record_size in
    let h = there a.profile a.at (length a.s.now) a.count r.result r.ensures c.requires c.if-records_in-entries.false in
    let g = sym c.if-not-entries_good.false ∙ c.entries_good.ensures ∙ part a.profile z.result z.ensures a.s.now a.at a.count in
    behind a.profile a.s.now a.at a.count h g (subst (λ (x : ℕ). a.at + x * a.count < length a.s.now) z.ensures c.if-end-s.true)

pub returns : goal.returns
returns c =
    let a = c.args in
    let r = c.records_in in
    let z = c.record_size in
    let h = there a.profile a.at (length a.s.now) a.count r.result r.ensures c.requires c.if-records_in-entries.false in
    let g = sym c.if-not-entries_good.false ∙ c.entries_good.ensures ∙ part a.profile z.result z.ensures a.s.now a.at a.count in
    none a.profile a.s.now a.at a.count h g (subst (λ (x : ℕ). length a.s.now ≤ a.at + x * a.count) z.ensures c.if-end-s.false)
