-- The tests of a record's parts, one by one, as the code makes them: what each leaves of the whole test.
-- Assumes nothing.
use Prim.Native.Nat.{ℕ, zero, suc, zero-le, suc-le-suc, ◌+◌, ◌-◌, ◌*◌, ◌≤◌, ◌<◌}
use mathlib.Core.Path.{◌≡◌, refl, sym}
use mathlib.Core.Bool.{Bool, true, false, ◌&&◌}
use mathlib.Core.List.{List, [], ◌∷◌}
use native.Mathlib.Omega.{arith}
use borrow.Author.Tests.{le-leb, lt-leb, lt-ltb, le-ltb, eq-eqb, ne_eqb, eqb-true}
use lib.Dec.{eqb, leb, ltb}
use lib.ListN.{length}
use Rattle.wire.specs.Numbers.{limit, all_small, read_number}
use Rattle.std.specs.Prelude.{Result, is_ok, is_err}
use Rattle.std.specs.Bool.{MatchBool}
use Rattle.std.specs.List.{AllWithin, HoldsAt}
use Rattle.wire.specs.Bytes.{pick}
use Rattle.wire.specs.declared.Number.{Number}
use Rattle.wire.specs.declared.Refusal.{Refusal}
use Rattle.report.proofs.Heeding.{good-is}
use Rattle.entries.specs.Limits.{most_entries}
use Rattle.entries.specs.Profiles.{record_size}
use Rattle.entries.specs.declared.Profile.{Profile}
use Rattle.entries.specs.declared.Profile.TheVariants.{One, Two}
use Rattle.report.specs.Header.{first_fault, wanted_of, count_of}
use Rattle.report.proofs.Forth.{count-few}
use Rattle.pieces.specs.Fitness.{numbers_fit, field_fit, is_whole, largest_group, place_fit, rows_fit, counted_fit}
use Rattle.pieces.proofs.Fits.{both}

-- ---- the numbers

-- none is above the limit, or one is
within-small : (ns : List ℕ) → AllWithin (λ v. v ≤ limit) ns 0 (length ns) → all_small ns ≡ true
unfolding all_small
within-small [] f = refl
within-small (v ∷ ns) f = rw (le-leb v limit (f 0 0 zero-le (suc-le-suc zero-le))) (within-small ns (λ k d l h. f (suc k) d zero-le (suc-le-suc h)))

above-large : (ns : List ℕ) (k : ℕ) → k < length ns → HoldsAt (λ v. limit < v) ns k → all_small ns ≡ false
unfolding all_small
above-large [] k h f = absurd (omega arith)
above-large (v ∷ ns) zero h f = rw (lt-leb v limit (f 0)) refl
above-large (v ∷ ns) (suc k) h f = go (leb v limit) (above-large ns k (omega arith) (λ d. f d))
  where
    go : (b : Bool) → all_small ns ≡ false → pick b (all_small ns) false ≡ false
    go true e = e
    go false e = refl

pub small-told : (r : Bool) (ns : List ℕ) → MatchBool r (AllWithin (λ v. v ≤ limit) ns 0 (length ns)) ((k : ℕ) × (k < length ns) × HoldsAt (λ v. limit < v) ns k) → r ≡ all_small ns
small-told true ns f = sym (within-small ns f)
small-told false ns f = sym (above-large ns f.0 f.1 f.2)

module _ (p : Profile) (ns : List ℕ) where
  pub numbers-large : all_small ns ≡ false → false ≡ numbers_fit p ns
  unfolding numbers_fit
  numbers-large e = rw e

  pub numbers-judged : all_small ns ≡ true → is_ok (first_fault p ns) ≡ numbers_fit p ns
  unfolding numbers_fit
  numbers-judged e = rw e

  -- numbers that pass, and are a whole header's, count no more entries than a report has
  pub count_fits : numbers_fit p ns ≡ true → is_whole p ns ≡ true → count_of ns ≤ most_entries
  unfolding numbers_fit
  count_fits e w = count-few p ns (good-is (first_fault p ns) (both (all_small ns) (is_ok (first_fault p ns)) e).1) (eqb-true (length ns) (wanted_of p ns) w)

-- ---- the field

module _ (p : Profile) (ns held : List ℕ) where
  pub field-whole : wanted_of p ns ≤ length ns → false ≡ field_fit p ns held
  unfolding field_fit
  field-whole h = rw (le-ltb (length ns) (wanted_of p ns) h)

  pub field-read : (q : Result Number Refusal) → read_number held 0 ≡ q → length ns < wanted_of p ns → is_err q ≡ field_fit p ns held
  unfolding field_fit
  field-read q e h = rw (lt-ltb (length ns) (wanted_of p ns) h, e)

-- ---- the records

-- a record has at most 24 bytes
pub bytes-few : (p : Profile) (n : ℕ) → n ≤ 200 → record_size p * n ≤ 4800
bytes-few One n h = omega arith
bytes-few Two n h = omega arith

module _ (p : Profile) (count left last above : ℕ) where
  module _ (e : left ≡ count) where
    pub place-first-no : (last ≡ 0 → ⊥) → false ≡ place_fit p count left last above
    unfolding place_fit
    place-first-no n = rw (eq-eqb left count e, ne_eqb last 0 n)

    pub place-first : last ≡ 0 → eqb above 0 ≡ place_fit p count left last above
    unfolding place_fit
    place-first z = rw (eq-eqb left count e, eq-eqb last 0 z)

  module _ (n : left ≡ count → ⊥) where
    pub place-group : largest_group p < last → false ≡ place_fit p count left last above
    unfolding place_fit
    place-group g = rw (ne_eqb left count n, lt-leb last (largest_group p) g)

    module _ (g : last ≤ largest_group p) where
      pub place_none : above ≡ 0 → false ≡ place_fit p count left last above
      unfolding place_fit
      place_none z = rw (ne_eqb left count n, le-leb last (largest_group p) g, z)

      pub place-last : (above ≡ 0 → ⊥) → leb above (limit + 1) ≡ place_fit p count left last above
      unfolding place_fit
      place-last z = let h : 0 < above = omega arith in rw (ne_eqb left count n, le-leb last (largest_group p) g, lt-ltb 0 above h)

module _ (p : Profile) (ns : List ℕ) where
  pub rows-part : (left last above carried : ℕ) → is_whole p ns ≡ false → false ≡ is_whole p ns && rows_fit p (count_of ns) left last above carried
  rows-part left last above carried e = rw e

  pub counted-part : (left : ℕ) → is_whole p ns ≡ false → false ≡ is_whole p ns && counted_fit p (count_of ns) left
  counted-part left e = rw e

  module _ (w : is_whole p ns ≡ true) (count : ℕ) (q : count ≡ count_of ns) where
    module _ (left last above carried : ℕ) where
      pub rows_more : count < left → false ≡ is_whole p ns && rows_fit p (count_of ns) left last above carried
      unfolding rows_fit
      rows_more h = rw (w, ← q, lt-leb left count h)

      module _ (h : left ≤ count) where
        pub rows-misplaced : place_fit p count left last above ≡ false → false ≡ is_whole p ns && rows_fit p (count_of ns) left last above carried
        unfolding rows_fit
        rows-misplaced e = rw (w, ← q, le-leb left count h, e)

        module _ (e : place_fit p count left last above ≡ true) where
          pub rows-over : left ≡ 0 → eqb carried 0 ≡ is_whole p ns && rows_fit p (count_of ns) left last above carried
          unfolding rows_fit
          rows-over z = rw (w, ← q, le-leb left count h, e, eq-eqb left 0 z)

          pub rows_last : (left ≡ 0 → ⊥) → (size : ℕ) → size ≡ record_size p → ltb carried size ≡ is_whole p ns && rows_fit p (count_of ns) left last above carried
          unfolding rows_fit
          rows_last z size f = rw (w, ← q, le-leb left count h, e, ne_eqb left 0 z, f)

    pub counted_none : (left : ℕ) → count ≡ 0 → false ≡ is_whole p ns && counted_fit p (count_of ns) left
    unfolding counted_fit
    counted_none left z = rw (w, ← q, z)

    pub counted-last : (left : ℕ) → (count ≡ 0 → ⊥) → (size : ℕ) → size ≡ record_size p → leb left (size * (count - 1)) ≡ is_whole p ns && counted_fit p (count_of ns) left
    unfolding counted_fit
    counted-last left z size f = let h : 0 < count = omega arith in rw (w, ← q, lt-ltb 0 count h, f)
