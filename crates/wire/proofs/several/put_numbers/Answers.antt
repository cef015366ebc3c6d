-- `wire::several::put_numbers` meets its contract: all numbers are judged, then the room, and then they are stored.
-- Assumes nothing.
use Prim.Native.Nat.{ℕ, ◌+◌, ◌≤◌, ◌<◌}
use mathlib.Core.Path.{◌≡◌, sym, ◌∙◌}
use mathlib.Core.List.{List}
use native.Mathlib.Omega.{arith}
use Rattle.std.proofs.lemmas.Result.{err_from_is_err_and}
use lib.ListN.{length}
use Rattle.wire.specs.Bytes.{splice}
use Rattle.wire.specs.Numbers.{encode_all, length_of, put_answer, put_bytes}
use Rattle.std.specs.Prelude.{Ok, Err}
use Rattle.wire.specs.declared.Refusal.TheVariants.{NoRoom}
use Rattle.wire.proofs.Writing.{length-bytes, put-refused, put_small, placed-no, placed-yes}
use Rattle.wire.proofs.several.put_numbers.Goals as goal
use Rattle.wire.proofs.several.put_numbers.Goals.{then-buf-at-via-then-buf-at, then-buf-at-via-else-buf-at+then-buf-at-2}

module _ (xs : List ℕ) (at : ℕ) (vs : List ℕ) (total : ℕ) (e : Ok total ≡ length_of vs) where
  no_room : length xs < at + total → (Err NoRoom ≡ put_answer xs at vs) × (xs ≡ put_bytes xs at vs)
  no_room h =
      let b = length-bytes vs total e in
      let p = placed-no xs at (encode_all vs) (omega arith) in
      let q = put_small xs at vs b.0 in
      (p.0 ∙ q.0, p.1 ∙ q.1)

  stored : {ys : List ℕ} → at + total ≤ length xs → ys ≡ splice xs at (encode_all vs) → (Ok (at + total) ≡ put_answer xs at vs) × (ys ≡ put_bytes xs at vs)
  stored h d =
      let b = length-bytes vs total e in
      let p = placed-yes xs at (encode_all vs) (omega arith) in
      let q = put_small xs at vs b.0 in
      (rw b.1 p.0 ∙ q.0, d ∙ p.1 ∙ q.1)

pub returns-in_err-total : goal.returns-in_err-total
returns-in_err-total c =
    let p = err_from_is_err_and c.from_residual.result c.from_residual.ensures.1 in
    rw (p.1, p.2) (put-refused _ _ _ (sym c.in_err-total.was ∙ c.length_of.ensures))

pub returns-then-buf-at : goal.returns-then-buf-at
returns-then-buf-at c =
    no_room _ _ _ c.in_ok-total.total (sym c.in_ok-total.was ∙ c.length_of.ensures)
    (elim c.then-buf-at.branch [ then-buf-at-via-then-buf-at w ↦ omega arith | then-buf-at-via-else-buf-at+then-buf-at-2 w ↦ omega arith ])

pub store_numbers-requires : goal.store_numbers-requires
store_numbers-requires c =
    let b = length-bytes _ c.in_ok-total.total (sym c.in_ok-total.was ∙ c.length_of.ensures) in
    (b.0, omega arith)

pub returns : goal.returns
returns c = stored _ _ _ c.in_ok-total.total (sym c.in_ok-total.was ∙ c.length_of.ensures) (omega arith) c.store_numbers.ensures
