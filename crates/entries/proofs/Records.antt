-- Records in a row: the rule from one record to the next, and what an entry that was accepted tells.
-- Assumes nothing.
use Rattle.std.proofs.Common.{◌≡◌, ℕ, suc, ◌+◌, ◌-◌, ◌*◌, ◌/◌, ◌%◌, ◌<◌, ◌≤◌, Bool, true, List, Result, Ok, Err, length, drop, sym, ap, ◌∙◌, div-add-mod', zero-mul, div-mul-le_self, arith, drop-drop, eq-eqb, ne_eqb, le-leb}
use native.Mathlib.Nat.{mul-mod_left}
use borrow.Author.Tests.{lt-leb}
use Rattle.wire.specs.Bytes.{pick}
use Rattle.wire.specs.declared.Refusal.{Refusal}
use Rattle.wire.specs.declared.Refusal.TheVariants.{BrokenCount, BrokenEntry}
use Rattle.entries.specs.Limits.{most_given}
use Rattle.entries.specs.Profiles.{record_size}
use Rattle.entries.specs.Entries.{entry_at, follows, records_good, entries_good, entries_fault}
use Rattle.entries.specs.declared.Profile.{Profile}
use Rattle.entries.proofs.Sizes.{step}

-- ---- one record more

-- the records from the i-th on, behind one that leaves a group and an object number
abbrev pub rest : Profile → ℕ → ℕ → List ℕ → ℕ → ℕ → Bool
rest p n i s group above = records_good p (n - i) group above (drop (i * record_size p) s)

pub turn : (p : Profile) (n last above i : ℕ) (s : List ℕ) → i < n
    → rest p n i s last above ≡ follows last above (entry_at p s i) (rest p n (i + 1) s)
unfolding records_good
turn p n last above i s h =
    let e : n - i ≡ suc (n - (i + 1)) = omega arith in
    rw (e, drop-drop (record_size p) (i * record_size p) s, step (record_size p) i)

pub done : (p : Profile) (n last above i : ℕ) (s : List ℕ) → n ≤ i → rest p n i s last above ≡ true
unfolding records_good
done p n last above i s h = let e : n - i ≡ 0 = omega arith in rw e

-- n is what the code has for how many records there are
module _ (p : Profile) (s : List ℕ) (n : ℕ) (m : n ≡ length s / record_size p) where
  -- all records, nothing before them
  pub from_start : rest p n 0 s 0 0 ≡ entries_good p s
  from_start =
      let z : n - 0 ≡ n = omega arith in
      let d : drop (0 * record_size p) s ≡ s = ap (λ (k : ℕ). drop k s) (zero-mul (record_size p)) in
      rw (z, d, m)

  -- ---- the writer's judgement; size is what the code has for the record's size
  module _ (size : ℕ) (e : size ≡ record_size p) where
    pub no_more : n * size ≤ length s
    no_more = rw (e, m) (div-mul-le_self (length s) (record_size p))

    pub fault-ragged : (n * size ≡ length s → ⊥) → Err BrokenEntry ≡ entries_fault p s
    unfolding entries_fault
    fault-ragged h =
        let r : length s % record_size p ≡ 0 → ⊥ = λ z. h (rw (e, m) (omega (arith, div-add-mod' (length s) (record_size p)))) in
        rw (ne_eqb (length s % record_size p) 0 r)

    module _ (h : n * size ≡ length s) where
      even : length s % record_size p ≡ 0
      even = ap (λ (k : ℕ). k % record_size p) (sym h) ∙ rw e (mul-mod_left n (record_size p))

      pub fault-many : most_given < n → Err BrokenCount ≡ entries_fault p s
      unfolding entries_fault
      fault-many l = rw (eq-eqb (length s % record_size p) 0 even, ← m, lt-leb n most_given l)

      pub fault-records : n ≤ most_given → (g : Bool) → g ≡ entries_good p s → pick g (Ok tt) (Err BrokenEntry) ≡ entries_fault p s
      unfolding entries_fault
      fault-records l g f =
          let k : length s / record_size p ≤ most_given = rw m at l in
          ap (λ (b : Bool). pick {A = Result Unit Refusal} b (Ok tt) (Err BrokenEntry)) f ∙ rw (eq-eqb (length s % record_size p) 0 even, le-leb (length s / record_size p) most_given k)
