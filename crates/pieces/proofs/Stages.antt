-- What the words say at each stage, and what each state answers.
-- Assumes nothing.
use Prim.Native.Nat.{ℕ, zero, suc}
use mathlib.Core.Path.{◌≡◌, refl}
use mathlib.Core.Bool.{Bool, true, false}
use mathlib.Core.List.{List}
use native.Mathlib.Omega.{arith}
use borrow.Author.Tests.{ne_eqb}
use lib.Dec.{eqb}
use Rattle.wire.specs.Bytes.{pick}
use Rattle.report.specs.Header.{header_of, empty_header}
use Rattle.uncut.specs.State.{Numbers, Records, Counting, Refused, Accepted, standing, header_at, whole_at, at_end}
use Rattle.pieces.specs.Record.{state_as}

module _ (stage left last above : ℕ) (ns held : List ℕ) where
  pub at-numbers : stage ≡ 0 → state_as stage left last above ns held ≡ Numbers ns held
  unfolding state_as
  at-numbers e = rw e

  pub at_records : stage ≡ 1 → state_as stage left last above ns held ≡ Records ns left last above held
  unfolding state_as
  at_records e = rw e

  pub at-counting : stage ≡ 2 → state_as stage left last above ns held ≡ Counting ns left
  unfolding state_as
  at-counting e = rw e

  pub at-refused : stage ≡ 3 → state_as stage left last above ns held ≡ Refused left
  unfolding state_as
  at-refused e = rw e

  pub at-accepted : (stage ≡ 0 → ⊥) → (stage ≡ 1 → ⊥) → (stage ≡ 2 → ⊥) → (stage ≡ 3 → ⊥) → state_as stage left last above ns held ≡ Accepted ns
  unfolding state_as
  at-accepted a b c d = rw (ne_eqb stage 0 a, ne_eqb stage 1 b, ne_eqb stage 2 c, ne_eqb stage 3 d)

  -- where records are coming, or the report was accepted
  module _ (a : stage ≡ 0 → ⊥) (c : stage ≡ 2 → ⊥) (d : stage ≡ 3 → ⊥) where
    other : (stage ≡ 1 → ⊥) → state_as stage left last above ns held ≡ Accepted ns
    other b = at-accepted a b c d

    pub whole-other : whole_at (state_as stage left last above ns held) ≡ 1
    unfolding state_as
    whole-other = rw (ne_eqb stage 0 a, ne_eqb stage 2 c, ne_eqb stage 3 d) (go (eqb stage 1))
      where
        go : (b : Bool) → whole_at (pick b (Records ns left last above held) (Accepted ns)) ≡ 1
        go true = refl
        go false = refl

  -- no bad record came, and no refusal stands
  pub standing-other : (stage ≡ 2 → ⊥) → (stage ≡ 3 → ⊥) → standing (state_as stage left last above ns held) ≡ 0
  unfolding state_as
  standing-other c d = rw (ne_eqb stage 2 c, ne_eqb stage 3 d) (go (eqb stage 0) (eqb stage 1))
    where
      go : (a b : Bool) → standing (pick a (Numbers ns held) (pick b (Records ns left last above held) (Accepted ns))) ≡ 0
      go true b = refl
      go false true = refl
      go false false = refl

-- the header is handed over where it is whole, and only there
pub header-whole : (stage left last above : ℕ) (ns held : List ℕ) → (whole_at (state_as stage left last above ns held) ≡ 0 → ⊥) → header_at (state_as stage left last above ns held) ≡ header_of ns
unfolding state_as
header-whole stage left last above ns held n = go left (eqb stage 0) (eqb stage 1) (eqb stage 2) (eqb stage 3) n
  where
    go : (k : ℕ) (a b c d : Bool) → (whole_at (pick a (Numbers ns held) (pick b (Records ns k last above held) (pick c (Counting ns k) (pick d (Refused k) (Accepted ns))))) ≡ 0 → ⊥)
        → header_at (pick a (Numbers ns held) (pick b (Records ns k last above held) (pick c (Counting ns k) (pick d (Refused k) (Accepted ns))))) ≡ header_of ns
    go k true b c d n = absurd (n refl)
    go k false true c d n = refl
    go zero false false true d n = absurd (n refl)
    go (suc k) false false true d n = refl
    go k false false false true n = absurd (n refl)
    go k false false false false n = refl

pub header-none : (stage left last above : ℕ) (ns held : List ℕ) → whole_at (state_as stage left last above ns held) ≡ 0 → header_at (state_as stage left last above ns held) ≡ empty_header
unfolding state_as
header-none stage left last above ns held e = go left (eqb stage 0) (eqb stage 1) (eqb stage 2) (eqb stage 3) e
  where
    one : {A : Type 0} → ◌≡◌ {A = ℕ} 1 0 → A
    one e = absurd (omega arith)

    go : (k : ℕ) (a b c d : Bool) → whole_at (pick a (Numbers ns held) (pick b (Records ns k last above held) (pick c (Counting ns k) (pick d (Refused k) (Accepted ns))))) ≡ 0
        → header_at (pick a (Numbers ns held) (pick b (Records ns k last above held) (pick c (Counting ns k) (pick d (Refused k) (Accepted ns))))) ≡ empty_header
    go k true b c d e = refl
    go k false true c d e = one e
    go zero false false true d e = refl
    go (suc k) false false true d e = one e
    go k false false false true e = refl
    go k false false false false e = one e

-- the bytes are counted on, or all have come
pub whole-counting : (ns : List ℕ) (left : ℕ) → (left ≡ 0 → ⊥) → whole_at (Counting ns left) ≡ 1
whole-counting ns zero h = absurd (h refl)
whole-counting ns (suc n) h = refl

pub stands-counting : (ns : List ℕ) (left : ℕ) → (left ≡ 0 → ⊥) → standing (Counting ns left) ≡ 0
stands-counting ns zero h = absurd (h refl)
stands-counting ns (suc n) h = refl

pub end-counting : (ns : List ℕ) (left : ℕ) → (left ≡ 0 → ⊥) → at_end (Counting ns left) ≡ Refused 2
unfolding at_end
end-counting ns zero h = absurd (h refl)
end-counting ns (suc n) h = refl

pub end-records : (ns : List ℕ) (left last above : ℕ) (held : List ℕ) → (left ≡ 0 → ⊥) → at_end (Records ns left last above held) ≡ Refused 2
unfolding at_end
end-records ns zero last above held h = absurd (h refl)
end-records ns (suc n) last above held h = refl
