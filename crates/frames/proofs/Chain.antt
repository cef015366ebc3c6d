-- n numbers in a row, after which a room is judged: the rows of their refusal.
-- Assumes nothing.
use Prim.Native.Nat.{ℕ, zero, suc, ◌≤◌, ◌<◌}
use mathlib.Core.Path.{◌≡◌, refl}
use mathlib.Core.List.{List}
use native.Mathlib.Omega.{arith}
use borrow.Author.Tests.{eqb-false, le-leb, lt-leb}
use lib.Dec.{leb}
use lib.ListN.{length}
use Rattle.wire.specs.Bytes.{pick}
use Rattle.wire.specs.Fields.{field}
use Rattle.wire.specs.Numbers.{read_number}
use Rattle.wire.proofs.Lengths.{split}
use Rattle.frames.proofs.Rows.{Rows, nothing, at_once, never, here, field-rows, rows-map}

-- the refusal of n numbers from at on, after which a room is judged
unfoldable pub chain : ℕ → ℕ → ℕ → List ℕ → ℕ → ℕ
chain need room zero s at = pick (leb need room) 0 9
chain need room (suc n) s at = field (read_number s at) 2 (λ v next. chain need room n s next)

pub chain-rows : (need room n : ℕ) (s : List ℕ) (at : ℕ)
    → Rows s at (chain need room n s at) (λ vs. length vs < n) (λ vs. ⊥) (λ vs. (length vs ≡ n) × (room < need)) (λ vs. (length vs ≡ n) × (need ≤ room))
unfolding chain
chain-rows need room zero s at =
    split need room
    (λ h.
    rw (le-leb need room h)
    (record {
      three = eqb-false 0 3 refl;
      two = never (eqb-false 0 2 refl) (nothing (λ vs next p. omega (arith, p.0)));
      fourteen = never (eqb-false 0 14 refl) (nothing (λ vs next p. p));
      nine = never (eqb-false 0 9 refl) (nothing (λ vs next p. omega (arith, p.1)));
      accepted = here (at_once (refl, h));
    }))
    (λ h.
    rw (lt-leb need room h)
    (record {
      three = eqb-false 9 3 refl;
      two = never (eqb-false 9 2 refl) (nothing (λ vs next p. omega (arith, p.0)));
      fourteen = never (eqb-false 9 14 refl) (nothing (λ vs next p. p));
      nine = here (at_once (refl, h));
      accepted = never (eqb-false 9 0 refl) (nothing (λ vs next p. omega (arith, p.1)));
    }))
chain-rows need room (suc n) s at =
    field-rows (omega arith) (λ p. p) (λ p. omega (arith, p.0)) (λ p. omega (arith, p.0))
    (λ v next.
    rows-map
    (λ vs. (λ p. omega arith, λ p. omega arith))
    (λ vs. (λ p. p, λ p. p))
    (λ vs. (λ p. (omega (arith, p.0), p.1), λ p. (omega (arith, p.0), p.1)))
    (λ vs. (λ p. (omega (arith, p.0), p.1), λ p. (omega (arith, p.0), p.1)))
    (chain-rows need room n s next))
