-- The test of a record's consistency is the fact that docs/ list.
-- Assumes nothing.
use Prim.Native.Nat.{ℕ, ◌+◌, ◌-◌, ◌*◌, ◌≤◌, ◌<◌}
use mathlib.Core.Path.{◌≡◌, refl, ◌∙◌}
use mathlib.Core.Logic.{inl, inr, ⊎_elim}
use mathlib.Core.Bool.{Bool, true, false, ◌&&◌}
use mathlib.Core.List.{List, [], ◌∷◌}
use native.Mathlib.Omega.{arith}
use borrow.Author.Tests.{le-leb, lt-ltb, eq-eqb, leb-true, ltb-true, eqb-true, eqb-false}
use lib.Dec.{eqb, leb, ltb}
use lib.ListN.{length, get_or}
use Rattle.std.specs.Prelude.{is_ok, is_err}
use Rattle.report.proofs.Heeding.{good-is}
use Rattle.wire.specs.Bytes.{pick}
use Rattle.wire.specs.Numbers.{limit, all_small, read_number}
use Rattle.wire.specs.Exactly.{OneOf}
use Rattle.wire.proofs.Small.{all_small_lem}
use Rattle.entries.specs.Profiles.{record_size}
use Rattle.entries.specs.declared.Profile.{Profile}
use Rattle.report.specs.Header.{first_fault, wanted_of, count_of}
use Rattle.uncut.specs.State.{State, Numbers, Records, Counting, Refused, Accepted}
use Rattle.pieces.specs.Record.{profile_in, stand_at, state_of}
use Rattle.pieces.specs.Fitness.{numbers_fit, can_stand, field_fit, is_whole, largest_group, place_fit, carried_fit, rows_fit, counted_fit, fit, stand_fit, consistent}
use Rattle.pieces.specs.Exactly.{NumbersObey, RowsObey, Fit, Consistent, ConsistentExactly}
use Rattle.pieces.proofs.Fits.{unfinished, both, carried-less, consistent-known, passed}

never : {A : Type 0} → false ≡ true → A
never e = let z : ◌≡◌ {A = ℕ} 0 1 = cc in absurd (omega arith)

module _ (p : Profile) where
  numbers-obey : (ns : List ℕ) → numbers_fit p ns ≡ true → NumbersObey p ns
  unfolding numbers_fit
  numbers-obey ns e = let a = both (all_small ns) (is_ok (first_fault p ns)) e in ((all_small_lem ns).0 a.0, good-is (first_fault p ns) a.1)

  obey-numbers : (ns : List ℕ) → NumbersObey p ns → numbers_fit p ns ≡ true
  unfolding numbers_fit
  obey-numbers ns h = rw ((all_small_lem ns).1 h.0, h.1) refl

  -- ---- the place of the record before, and what is carried

  placed : (count left last above : ℕ) → place_fit p count left last above ≡ true
      → (left ≡ count → (last ≡ 0) × (above ≡ 0)) × (left < count → (last ≤ largest_group p) × ((0 < above) × (above ≤ limit + 1)))
  unfolding place_fit
  placed count left last above e = go (eqb left count) refl e
    where
      go : (b : Bool) → eqb left count ≡ b → pick b (eqb last 0 && eqb above 0) (leb last (largest_group p) && (ltb 0 above && leb above (limit + 1))) ≡ true
          → (left ≡ count → (last ≡ 0) × (above ≡ 0)) × (left < count → (last ≤ largest_group p) × ((0 < above) × (above ≤ limit + 1)))
      go true t e = let a = both (eqb last 0) (eqb above 0) e in (λ q. (eqb-true last 0 a.0, eqb-true above 0 a.1), λ q. absurd (omega (arith, eqb-true left count t)))
      go false t e =
          let a = both (leb last (largest_group p)) (ltb 0 above && leb above (limit + 1)) e in
          let b = both (ltb 0 above) (leb above (limit + 1)) a.1 in
          (λ q. absurd (eqb-false left count t q), λ q. (leb-true last (largest_group p) a.0, (ltb-true 0 above b.0, leb-true above (limit + 1) b.1)))

  pub rows-obey : (count left last above carried : ℕ) → rows_fit p count left last above carried ≡ true → RowsObey p count left last above carried
  unfolding rows_fit
  rows-obey count left last above carried e =
      let a = both (leb left count) (place_fit p count left last above && carried_fit p left carried) e in
      let b = both (place_fit p count left last above) (carried_fit p left carried) a.1 in
      let q = placed count left last above b.0 in
      record { some = leb-true left count a.0; before = q.0; behind = q.1; unfinished = carried-less p left carried b.1; over = over b.1 }
    where
      over : carried_fit p left carried ≡ true → left ≡ 0 → carried ≡ 0
      over e z = eqb-true carried 0 (rw z at e)

  pub obey-rows : (count left last above carried : ℕ) → RowsObey p count left last above carried → rows_fit p count left last above carried ≡ true
  unfolding rows_fit place_fit
  obey-rows count left last above carried h = rw (le-leb left count h.some, place (eqb left count) refl, carry (eqb left 0) refl) refl
    where
      place : (b : Bool) → eqb left count ≡ b → pick b (eqb last 0 && eqb above 0) (leb last (largest_group p) && (ltb 0 above && leb above (limit + 1))) ≡ true
      place true t = let q = h.before (eqb-true left count t) in rw (q.0, q.1) refl
      place false t =
          let n : left ≡ count → ⊥ = eqb-false left count t in
          let q = h.behind (omega (arith, h.some)) in
          rw (le-leb last (largest_group p) q.0, lt-ltb 0 above q.1.0, le-leb above (limit + 1) q.1.1) refl

      carry : (b : Bool) → eqb left 0 ≡ b → pick b (eqb carried 0) (ltb carried (record_size p)) ≡ true
      carry true t = rw (h.over (eqb-true left 0 t)) refl
      carry false t = lt-ltb carried (record_size p) h.unfinished

  can-be : (n : ℕ) → can_stand n ≡ true → OneOf n (2 ∷ 10 ∷ 11 ∷ 12 ∷ 13 ∷ 15 ∷ [])
  can-be n e = go (eqb n 2) (eqb n 10) (eqb n 11) (eqb n 12) (eqb n 13) (eqb n 15) refl refl refl refl refl refl e
    where
      go : (a b c d f g : Bool) → eqb n 2 ≡ a → eqb n 10 ≡ b → eqb n 11 ≡ c → eqb n 12 ≡ d → eqb n 13 ≡ f → eqb n 15 ≡ g
          → pick a true (pick b true (pick c true (pick d true (pick f true g)))) ≡ true → OneOf n (2 ∷ 10 ∷ 11 ∷ 12 ∷ 13 ∷ 15 ∷ [])
      go true b c d f g i j k l m o e = inl (eqb-true n 2 i)
      go false true c d f g i j k l m o e = inr (inl (eqb-true n 10 j))
      go false false true d f g i j k l m o e = inr (inr (inl (eqb-true n 11 k)))
      go false false false true f g i j k l m o e = inr (inr (inr (inl (eqb-true n 12 l))))
      go false false false false true g i j k l m o e = inr (inr (inr (inr (inl (eqb-true n 13 m)))))
      go false false false false false true i j k l m o e = inr (inr (inr (inr (inr (inl (eqb-true n 15 o))))))
      go false false false false false false i j k l m o e = never e

  be-can : (n : ℕ) → OneOf n (2 ∷ 10 ∷ 11 ∷ 12 ∷ 13 ∷ 15 ∷ []) → can_stand n ≡ true
  be-can n h =
      ⊎_elim (λ e. rw e refl) (⊎_elim (λ e. rw e refl) (⊎_elim (λ e. rw e refl) (⊎_elim (λ e. rw e refl) (⊎_elim (λ e. rw e refl) (⊎_elim (λ e. rw e refl) (λ e. absurd e)))))) h

  pub fit-fact : (st : State) → fit p st ≡ true → Fit p st
  unfolding fit field_fit counted_fit
  fit-fact (Numbers ns held) e =
      let a = both (numbers_fit p ns) (field_fit p ns held) e in
      let c = both (ltb (length ns) (wanted_of p ns)) (is_err (read_number held 0)) a.1 in
      (numbers-obey ns a.0, (ltb-true (length ns) (wanted_of p ns) c.0, unfinished held c.1))
  fit-fact (Records ns n last above held) e =
      let a = both (numbers_fit p ns) (is_whole p ns && rows_fit p (count_of ns) n last above (length held)) e in
      let b = both (is_whole p ns) (rows_fit p (count_of ns) n last above (length held)) a.1 in
      ((numbers-obey ns a.0, eqb-true (length ns) (wanted_of p ns) b.0), rows-obey (count_of ns) n last above (length held) b.1)
  fit-fact (Counting ns n) e =
      let a = both (numbers_fit p ns) (is_whole p ns && counted_fit p (count_of ns) n) e in
      let b = both (is_whole p ns) (counted_fit p (count_of ns) n) a.1 in
      let c = both (ltb 0 (count_of ns)) (leb n (record_size p * (count_of ns - 1))) b.1 in
      ((numbers-obey ns a.0, eqb-true (length ns) (wanted_of p ns) b.0), (ltb-true 0 (count_of ns) c.0, leb-true n (record_size p * (count_of ns - 1)) c.1))
  fit-fact (Refused n) e = can-be n e
  fit-fact (Accepted ns) e = let a = both (numbers_fit p ns) (is_whole p ns) e in (numbers-obey ns a.0, eqb-true (length ns) (wanted_of p ns) a.1)

  pub fact-fit : (st : State) → Fit p st → fit p st ≡ true
  unfolding fit field_fit counted_fit
  fact-fit (Numbers ns held) h = rw (obey-numbers ns h.0, lt-ltb (length ns) (wanted_of p ns) h.1.0, h.1.1) refl
  fact-fit (Records ns n last above held) h = rw (obey-numbers ns h.0.0, eq-eqb (length ns) (wanted_of p ns) h.0.1, obey-rows (count_of ns) n last above (length held) h.1) refl
  fact-fit (Counting ns n) h = rw (obey-numbers ns h.0.0, eq-eqb (length ns) (wanted_of p ns) h.0.1, lt-ltb 0 (count_of ns) h.1.0, le-leb n (record_size p * (count_of ns - 1)) h.1.1) refl
  fact-fit (Refused n) h = be-can n h
  fact-fit (Accepted ns) h = rw (obey-numbers ns h.0, eq-eqb (length ns) (wanted_of p ns) h.1) refl

module _ (w : List ℕ) where
  passes : Consistent w → stand_fit (profile_in w) (stand_at w) ≡ true
  unfolding stand_fit
  passes h = rw (le-leb (get_or w 1 0) 4 h.stage, le-leb (get_or w 5 0) 25 h.count, le-leb (get_or w 6 0) 24 h.carried) (fact-fit (profile_in w) (state_of w) h.fits)

  to : consistent w ≡ true → Consistent w
  to e =
      let h = passed w e in
      record { profile = h.profile; stage = h.stage; count = h.count; carried = h.carried; fits = fit-fact (profile_in w) (state_of w) h.fits }

  from : Consistent w → consistent w ≡ true
  from h = consistent-known w (profile_in w) h.profile ∙ passes h

pub consistent-exactly : ConsistentExactly
consistent-exactly w = (to w, from w)
