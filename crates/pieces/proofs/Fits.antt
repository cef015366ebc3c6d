-- The tests of a record's fitness, and what a record that passes them has.
-- Assumes nothing.
use Prim.Native.Nat.{ℕ, zero, suc, ◌≤◌, ◌<◌, zero-le}
use mathlib.Core.Path.{◌≡◌, refl, sym, ap, ◌∙◌}
use mathlib.Core.Bool.{Bool, true, false, ◌&&◌}
use mathlib.Core.List.{List, []}
use native.Mathlib.Omega.{arith}
use borrow.Author.Tests.{le-leb, lt-leb, ne_eqb, leb-true, ltb-true, eqb-true}
use lib.Dec.{eqb, leb, ltb}
use lib.ListN.{length, get_or, take, drop, get_or-eq_default}
use lib.Seq.{length-take-le, split_at}
use Rattle.std.specs.Prelude.{Result, Ok, Err, is_ok, is_err}
use Rattle.report.proofs.Heeding.{good-is, number-refused}
use Rattle.wire.specs.Bytes.{pick}
use Rattle.wire.specs.Numbers.{all_small, read_number}
use Rattle.wire.specs.declared.Number.{Number}
use Rattle.wire.specs.declared.Refusal.{Refusal}
use Rattle.wire.specs.declared.Refusal.TheVariants.{Ends}
use Rattle.wire.proofs.Lengths.{split}
use Rattle.entries.specs.Limits.{most_entries}
use Rattle.entries.specs.Profiles.{record_size, most_metrics, number_of, Other}
use Rattle.entries.specs.declared.Profile.{Profile}
use Rattle.entries.specs.declared.Profile.TheVariants.{One, Two}
use Rattle.entries.proofs.Profiles.{Which, known, other, which, of-known, of_other}
use Rattle.report.specs.Layout.{at_metrics, fixed_numbers}
use Rattle.report.specs.Header.{first_fault, wanted_of, count_of}
use Rattle.report.proofs.Following.{fault-at}
use Rattle.report.proofs.Places.{metrics-small}
use Rattle.report.proofs.Forth.{count-few}
use Rattle.uncut.specs.State.{State, Numbers, Records, Counting, Refused, Accepted}
use Rattle.uncut.proofs.Rows.{size-pos}
use Rattle.pieces.specs.Record.{Stand, state_as, state_in, state_of, stand_at, profile_of, profile_in}
use Rattle.pieces.specs.Fitness.{numbers_fit, can_stand, field_fit, is_whole, place_fit, carried_fit, rows_fit, counted_fit, fit, stand_fit, consistent}
use Rattle.pieces.specs.Serving.{Ready, Sits}
use Rattle.pieces.proofs.Loading.{numbers-long, held-long}
use Rattle.pieces.proofs.Stages.{at-numbers, at_records, at-counting, at-refused, at-accepted}

never : {A : Type 0} → false ≡ true → A
never e = let z : ◌≡◌ {A = ℕ} 0 1 = cc in absurd (omega arith)

pub both : (a b : Bool) → a && b ≡ true → (a ≡ true) × (b ≡ true)
both true b e = (refl, e)
both false b e = never e

-- ---- the numbers

-- numbers that bring no fault count no more metrics than the profile has
pub metrics-few : (p : Profile) (ns : List ℕ) → first_fault p ns ≡ Ok tt → get_or ns at_metrics 0 ≤ most_metrics p
metrics-few p ns g =
    split fixed_numbers (length ns)
    (λ h.
    let l : length (take at_metrics ns) ≡ at_metrics = length-take-le at_metrics ns (omega arith) in
    metrics-small p (take at_metrics ns) (get_or ns at_metrics 0) (fault-at p [] (take at_metrics ns) (get_or ns at_metrics 0) (drop fixed_numbers ns) (rw (← split_at ns at_metrics 0 (omega arith)) g)) l)
    (λ h. let e : get_or ns at_metrics 0 ≡ 0 = get_or-eq_default ns 0 {n = at_metrics} (omega arith) in rw e zero-le)

-- ---- the words

and-false : (b : Bool) → false ≡ b && false
and-false true = refl
and-false false = refl

module _ (p : Profile) (s : Stand) where
  pub fit_count : 25 < s.count → false ≡ stand_fit p s
  unfolding stand_fit
  fit_count h = rw (lt-leb s.count 25 h) (and-false (leb s.stage 4))

  module _ (h : s.count ≤ 25) where
    pub fit-carried : 24 < s.carried → false ≡ stand_fit p s
    unfolding stand_fit
    fit-carried l = rw (le-leb s.count 25 h, lt-leb s.carried 24 l) (and-false (leb s.stage 4))

    module _ (l : s.carried ≤ 24) where
      staged : s.stage ≤ 4 → fit p (state_in s) ≡ stand_fit p s
      unfolding stand_fit
      staged k = rw (le-leb s.stage 4 k, le-leb s.count 25 h, le-leb s.carried 24 l)

      pub fit_none : (s.stage ≡ 0 → ⊥) → (s.stage ≡ 1 → ⊥) → (s.stage ≡ 2 → ⊥) → (s.stage ≡ 3 → ⊥) → (s.stage ≡ 4 → ⊥) → false ≡ stand_fit p s
      unfolding stand_fit
      fit_none a b c d e = rw (lt-leb s.stage 4 (above s.stage a b c d e))
        where
          above : (n : ℕ) → (n ≡ 0 → ⊥) → (n ≡ 1 → ⊥) → (n ≡ 2 → ⊥) → (n ≡ 3 → ⊥) → (n ≡ 4 → ⊥) → 4 < n
          above zero a b c d e = absurd (a refl)
          above (suc zero) a b c d e = absurd (b refl)
          above (suc (suc zero)) a b c d e = absurd (c refl)
          above (suc (suc (suc zero))) a b c d e = absurd (d refl)
          above (suc (suc (suc (suc zero)))) a b c d e = absurd (e refl)
          above (suc (suc (suc (suc (suc n))))) a b c d e = omega arith

      abbrev ns : List ℕ
      ns = take s.count s.numbers

      abbrev held : List ℕ
      held = take s.carried s.held

      pub fit_refused : s.stage ≡ 3 → can_stand s.left ≡ stand_fit p s
      unfolding fit
      fit_refused e = ap (fit p) (sym (at-refused s.stage s.left s.last s.above ns held e)) ∙ staged (omega arith)

      -- in every other stage the numbers are looked at
      faulty : (s.stage ≡ 3 → ⊥) → numbers_fit p ns ≡ false → fit p (state_in s) ≡ false
      unfolding state_as fit
      faulty n f = rw (ne_eqb s.stage 3 n) (go (eqb s.stage 0) (eqb s.stage 1) (eqb s.stage 2))
        where
          go : (a b c : Bool) → fit p (pick a (Numbers ns held) (pick b (Records ns s.left s.last s.above held) (pick c (Counting ns s.left) (Accepted ns)))) ≡ false
          go true b c = rw f refl
          go false true c = rw f refl
          go false false true = rw f refl
          go false false false = rw f refl

      pub fit-faulty : (s.stage ≡ 3 → ⊥) → numbers_fit p ns ≡ false → false ≡ stand_fit p s
      unfolding stand_fit
      fit-faulty n f = rw (le-leb s.count 25 h, le-leb s.carried 24 l, faulty n f) (and-false (leb s.stage 4))

      module _ (f : numbers_fit p ns ≡ true) where
        pub fit-numbers : s.stage ≡ 0 → field_fit p ns held ≡ stand_fit p s
        unfolding fit
        fit-numbers e =
            let q : fit p (Numbers ns held) ≡ stand_fit p s = ap (fit p) (sym (at-numbers s.stage s.left s.last s.above ns held e)) ∙ staged (omega arith) in
            rw (← q, f) refl

        pub fit-rows : length s.held ≡ 24 → s.stage ≡ 1 → is_whole p ns && rows_fit p (count_of ns) s.left s.last s.above s.carried ≡ stand_fit p s
        unfolding fit
        fit-rows g e =
            let k : length held ≡ s.carried = length-take-le s.carried s.held (omega arith) in
            let q : fit p (Records ns s.left s.last s.above held) ≡ stand_fit p s = ap (fit p) (sym (at_records s.stage s.left s.last s.above ns held e)) ∙ staged (omega arith) in
            rw (← q, f, k) refl

        pub fit-counting : s.stage ≡ 2 → is_whole p ns && counted_fit p (count_of ns) s.left ≡ stand_fit p s
        unfolding fit
        fit-counting e =
            let q : fit p (Counting ns s.left) ≡ stand_fit p s = ap (fit p) (sym (at-counting s.stage s.left s.last s.above ns held e)) ∙ staged (omega arith) in
            rw (← q, f) refl

        pub fit-accepted : s.stage ≡ 4 → is_whole p ns ≡ stand_fit p s
        unfolding fit
        fit-accepted e =
            let q : fit p (Accepted ns) ≡ stand_fit p s = ap (fit p) (sym (at-accepted s.stage s.left s.last s.above ns held (λ z. omega arith) (λ z. omega arith) (λ z. omega arith) (λ z. omega arith))) ∙ staged (omega arith) in
            rw (← q, f) refl

-- ---- the record

module _ (w : List ℕ) where
  pub consistent-known : (p : Profile) → get_or w 0 0 ≡ number_of p → consistent w ≡ stand_fit p (stand_at w)
  unfolding consistent
  consistent-known = of-known (get_or w 0 0) false (λ p. stand_fit p (stand_at w))

  pub consistent-other : Other (get_or w 0 0) → consistent w ≡ false
  unfolding consistent
  consistent-other = of_other (get_or w 0 0) false (λ p. stand_fit p (stand_at w))

  -- what a consistent record has, part by part
  pub record Passed : Type 0 where
    pub profile : get_or w 0 0 ≡ number_of (profile_in w)
    pub stage : get_or w 1 0 ≤ 4
    pub count : get_or w 5 0 ≤ 25
    pub carried : get_or w 6 0 ≤ 24
    pub fits : fit (profile_in w) (state_of w) ≡ true

  pub passed : consistent w ≡ true → Passed
  unfolding stand_fit
  passed e = go (which (get_or w 0 0))
    where
      named : (p : Profile) → profile_of (number_of p) ≡ p
      named One = refl
      named Two = refl

      go : Which (get_or w 0 0) → Passed
      go (known p k) =
          let q : profile_in w ≡ p = ap profile_of k ∙ named p in
          let a = both (leb (get_or w 1 0) 4) (leb (get_or w 5 0) 25 && (leb (get_or w 6 0) 24 && fit p (state_of w))) (sym (consistent-known p k) ∙ e) in
          let b = both (leb (get_or w 5 0) 25) (leb (get_or w 6 0) 24 && fit p (state_of w)) a.1 in
          let c = both (leb (get_or w 6 0) 24) (fit p (state_of w)) b.1 in
          record { profile = k ∙ ap number_of (sym q); stage = leb-true (get_or w 1 0) 4 a.0; count = leb-true (get_or w 5 0) 25 b.0; carried = leb-true (get_or w 6 0) 24 c.0; fits = rw q c.1 }
      go (other o) = never (sym (consistent-other o) ∙ e)

-- ---- a record that is served

-- a record that is carried is unfinished
pub carried-less : (p : Profile) (left carried : ℕ) → carried_fit p left carried ≡ true → carried < record_size p
carried-less p left carried e = go (eqb left 0) e
  where
    go : (b : Bool) → pick b (eqb carried 0) (ltb carried (record_size p)) ≡ true → carried < record_size p
    go true e = omega (arith, eqb-true carried 0 e, size-pos p)
    go false e = ltb-true carried (record_size p) e

-- and no more records are to come than a report has
pub rows_few : (p : Profile) (ns : List ℕ) (n : ℕ) → first_fault p ns ≡ Ok tt → length ns ≡ wanted_of p ns → n ≤ count_of ns → n ≤ most_entries
rows_few p ns n g w l = omega (arith, count-few p ns g w)

-- what is no whole field ends inside it
pub unfinished : (held : List ℕ) → is_err (read_number held 0) ≡ true → read_number held 0 ≡ Err Ends
unfinished held e = go (read_number held 0) refl e
  where
    go : (q : Result Number Refusal) → read_number held 0 ≡ q → is_err q ≡ true → read_number held 0 ≡ Err Ends
    go (Ok k) r e = never e
    go (Err refusal) r e = r ∙ ap Err (number-refused held 0 r)

pub ready-fit : (p : Profile) (st : State) → fit p st ≡ true → Ready p st
unfolding fit numbers_fit field_fit rows_fit
ready-fit p (Numbers ns held) e =
    let a = both (numbers_fit p ns) (field_fit p ns held) e in
    let b = both (all_small ns) (is_ok (first_fault p ns)) a.0 in
    let c = both (ltb (length ns) (wanted_of p ns)) (is_err (read_number held 0)) a.1 in
    ((ltb-true (length ns) (wanted_of p ns) c.0, unfinished held c.1), metrics-few p ns (good-is (first_fault p ns) b.1))
ready-fit p (Records ns n last above held) e =
    let a = both (numbers_fit p ns) (is_whole p ns && rows_fit p (count_of ns) n last above (length held)) e in
    let b = both (all_small ns) (is_ok (first_fault p ns)) a.0 in
    let c = both (is_whole p ns) (rows_fit p (count_of ns) n last above (length held)) a.1 in
    let d = both (leb n (count_of ns)) (place_fit p (count_of ns) n last above && carried_fit p n (length held)) c.1 in
    let f = both (place_fit p (count_of ns) n last above) (carried_fit p n (length held)) d.1 in
    (carried-less p n (length held) f.1, rows_few p ns n (good-is (first_fault p ns) b.1) (eqb-true (length ns) (wanted_of p ns) c.0) (leb-true n (count_of ns) d.0))
ready-fit p (Counting _ n) e = tt
ready-fit p (Refused n) e = tt
ready-fit p (Accepted _) e = tt

pub sits-consistent : (w : List ℕ) → consistent w ≡ true → Sits (profile_in w) (stand_at w)
sits-consistent w e =
    let h = passed w e in
    record { count = h.count; carried = h.carried; numbers = numbers-long w; held = held-long w; ready = ready-fit (profile_in w) (state_of w) h.fits }
