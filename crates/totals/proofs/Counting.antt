-- Records counted by their status, one after the other.
-- Assumes nothing.
use Prim.Native.Nat.{ℕ, suc, ◌+◌, ◌-◌, ◌*◌, ◌≤◌, ◌<◌}
use mathlib.Core.Path.{◌≡◌, refl}
use mathlib.Core.Bool.{Bool, true, false}
use mathlib.Core.List.{List}
use lib.Dec.{eqb}
use Rattle.wire.specs.Bytes.{pick}
use native.Mathlib.Nat.{zero-add}
use native.Mathlib.Omega.{arith}
use lib.ListN.{get_or, drop}
use lib.Seq.{drop-drop, get_or-drop}
use Rattle.totals.specs.Totals.{one, records_with}

-- the record at i, and those behind it
pub records-next : (status n i : ℕ) (s : List ℕ) → i < n
    → records_with status (n - i) (drop (16 * i) s) ≡ one status (get_or s (i * 16 + 8) 0) + records_with status (n - (i + 1)) (drop (16 * (i + 1)) s)
unfolding records_with
records-next status n i s h =
    let e : n - i ≡ suc (n - (i + 1)) = omega arith in
    let f : 16 * i + 16 ≡ 16 * (i + 1) = omega arith in
    let g : 16 * i + 8 ≡ i * 16 + 8 = omega arith in
    rw (e, records_with, get_or-drop (16 * i) s 8 0, drop-drop 16 (16 * i) s, f, g)

records-none : (status : ℕ) (s : List ℕ) → records_with status 0 s ≡ 0
unfolding records_with
records-none status s = refl

-- so many of the first i of n records have the status: with those to come they are all
pub record Counted (status : ℕ) (s : List ℕ) (n i count : ℕ) : Type 0 where
  pub few : count ≤ i
  pub all : count + records_with status (n - i) (drop (16 * i) s) ≡ records_with status n s

pub counted_none : (status : ℕ) (s : List ℕ) (n : ℕ) → Counted status s n 0 0
counted_none status s n = let e : n - 0 ≡ n = omega arith in record { few = omega arith; all = rw (e, zero-add) }

one-few : (status x : ℕ) → one status x ≤ 1
one-few status x = go (eqb x status)
  where
    go : (b : Bool) → pick b 1 0 ≤ 1
    go true = omega arith
    go false = omega arith

module _ (status : ℕ) (s : List ℕ) (n i count : ℕ) (k : Counted status s n i count) where
  -- more is what the code finds of record i
  module _ (more : ℕ) (e : more ≡ one status (get_or s (i * 16 + 8) 0)) where
    pub counted-few : count + more ≤ i + 1
    counted-few = omega (arith, one-few status (get_or s (i * 16 + 8) 0), k.few)

    pub counted_next : i < n → Counted status s n (i + 1) (count + more)
    counted_next h = record { few = counted-few; all = omega (arith, records-next status n i s h, k.all) }

  pub counted-all : n ≤ i → count ≡ records_with status n s
  counted-all h = let e : n - i ≡ 0 = omega arith in let f = rw (e, records-none) at k.all in omega arith
