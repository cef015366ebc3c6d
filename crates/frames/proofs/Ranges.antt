-- How a walk over ranges that are there follows its definition, and how two stores a turn make one splice.
-- Assumes nothing.
use Prim.Native.Nat.{ℕ, zero, suc, ◌+◌, ◌-◌, ◌≤◌, ◌<◌}
use mathlib.Core.Path.{◌≡◌, refl, sym, ap, ◌∙◌}
use mathlib.Core.Bool.{Bool}
use mathlib.Core.List.{List, ◌∷◌}
use native.Mathlib.Omega.{arith}
use borrow.Author.Tests.{le-leb}
use lib.ListN.{length, set, length-set}
use Rattle.std.specs.Prelude.{Result, Ok}
use Rattle.wire.specs.Bytes.{splice}
use Rattle.wire.specs.Fields.{found}
use Rattle.wire.specs.Numbers.{read_number}
use Rattle.wire.specs.declared.Number.{Number}
use Rattle.wire.specs.declared.Refusal.{Refusal}
use Rattle.wire.proofs.Bytes.{store, splice-none}
use Rattle.wire.proofs.Reading.{next, yes}
use Rattle.frames.specs.Ack.{Ranges, ended, before, range, below, ranges_from}

-- ---- the walk

-- what comes after a range: the end, or a gap and the ranges that are left
after : ℕ → List ℕ → ℕ → ℕ → Ranges
after zero s smallest at = ended (Ok at)
after (suc left) s smallest at = below s at smallest (λ lower next. ranges_from left s next lower)

-- the first range and the later ones are one rule
one-rule : (left : ℕ) (s : List ℕ) (at high : ℕ) → ranges_from left s at high ≡ range s at high (after left s)
unfolding ranges_from after
one-rule zero s at high = refl
one-rule (suc left) s at high = refl

-- a test says that some are left
pub some : {n : ℕ} → (n ≡ 0 → ⊥) → 0 < n
some h = omega arith

-- n is what reading the length answers
module _ (left : ℕ) (s : List ℕ) (at high : ℕ) {n : Result Number Refusal} (e : n ≡ read_number s at) where
  module _ {len mid : ℕ} {b : Bool} (t : n ≡ found len mid b) where
    -- r is what comes after the range
    length-in : (r : Ranges) → len ≤ high → r ≡ after left s (high - len) mid → before (high - len) high r ≡ ranges_from left s at high
    length-in r h g = rw one-rule (next _ _ t e (yes _ _ (le-leb len high h) (ap (before (high - len) high) g)))

    pub last : left ≡ 0 → len ≤ high → before (high - len) high (ended (Ok mid)) ≡ ranges_from left s at high
    unfolding after
    last z h = length-in (ended (Ok mid)) h (rw z refl)

    -- m is what reading the gap answers
    module _ {m : Result Number Refusal} (f : m ≡ read_number s mid) (some : 0 < left) (h : len ≤ high) where
      some_left : {x : Ranges} → x ≡ below s mid (high - len) (λ lower next. ranges_from (left - 1) s next lower) → x ≡ after left s (high - len) mid
      unfolding after
      some_left g = let k : left ≡ suc (left - 1) = omega arith in rw k g

      pub more : {gap to : ℕ} {short : Bool} → m ≡ found gap to short → gap + 2 ≤ high - len
          → before (high - len) high (ranges_from (left - 1) s to (high - len - gap - 2)) ≡ ranges_from left s at high
      more {gap} u l = length-in _ h (some_left (next _ _ u f (yes _ _ (le-leb (gap + 2) (high - len) l) refl)))

-- ---- the stores

-- a range's two stores
store_range : (xs ps : List ℕ) (i a b : ℕ) → i + 2 ≤ length xs → splice (set (set xs i a) (i + 1) b) (i + 2) ps ≡ splice xs i (a ∷ b ∷ ps)
store_range xs ps i a b h =
    store (set xs i a) ps (i + 1) (i + 2) b (omega arith) (simp length-set (omega arith)) ∙ store xs (b ∷ ps) i (i + 1) a refl (omega arith)

-- ys is the whole: xs with the ranges r, which are still to write, from i on
module _ (xs : List ℕ) (i : ℕ) {r : Ranges} {ys : List ℕ} (whole : splice xs i r.pairs ≡ ys) where
  pub wrote-range : {a b : ℕ} {q : Ranges} → before a b q ≡ r → i + 2 ≤ length xs → splice (set (set xs i a) (i + 1) b) (i + 2) q.pairs ≡ ys
  wrote-range {a} {b} {q} e h = store_range xs q.pairs i a b h ∙ ap (λ (q : Ranges). splice xs i q.pairs) e ∙ whole

  pub wrote-last : {a b : ℕ} {w : Result ℕ Refusal} → before a b (ended w) ≡ r → i + 2 ≤ length xs → set (set xs i a) (i + 1) b ≡ ys
  wrote-last {a} {b} e h = sym (splice-none (set (set xs i a) (i + 1) b) (i + 2)) ∙ wrote-range e h
