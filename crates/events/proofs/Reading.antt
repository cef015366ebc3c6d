-- What the fields of a record say of it.
-- Assumes nothing.
use Prim.Native.Nat.{ℕ, ◌+◌, ◌≤◌, ◌<◌}
use mathlib.Core.Path.{◌≡◌, refl, sym, ap, ◌∙◌}
use mathlib.Core.Bool.{Bool, true, false}
use mathlib.Core.List.{List}
use native.Mathlib.Omega.{arith}
use borrow.Author.Tests.{le-leb, lt-leb, leb-true, leb-false}
use lib.Dec.{leb}
use lib.ListN.{length, get_or, take, drop}
use Rattle.std.specs.Prelude.{Result, Ok, Err}
use Rattle.wire.specs.Bytes.{pick, be}
use Rattle.wire.specs.Fields.{read_fixed}
use Rattle.wire.specs.declared.Fixed.{Fixed}
use Rattle.wire.specs.declared.Refusal.{Refusal}
use Rattle.wire.specs.declared.Refusal.TheVariants.{Ends}
use Rattle.events.specs.Events.{read_event}

-- n is what a field's reader answered
module _ (len : ℕ) (s : List ℕ) (at : ℕ) {n : Result Fixed Refusal} (e : n ≡ read_fixed len s at) where
  pub field-ends : {r : Refusal} → n ≡ Err r → (length s < at + len) × (r ≡ Ends)
  unfolding read_fixed
  field-ends {r} t = go (leb (at + len) (length s)) refl (sym e ∙ t)
    where
      go : (b : Bool) → leb (at + len) (length s) ≡ b → pick {A = Result Fixed Refusal} b (Ok (record { value = be 0 (take len (drop at s)); next = at + len })) (Err Ends) ≡ Err r
          → (length s < at + len) × (r ≡ Ends)
      go true l t = let z : ◌≡◌ {A = ℕ} 0 1 = cc in absurd (omega arith)
      go false l t = (leb-false (at + len) (length s) l, cc)

  pub field_is : {f : Fixed} → n ≡ Ok f → (at + len ≤ length s) × (f.value ≡ be 0 (take len (drop at s)))
  unfolding read_fixed
  field_is {f} t = go (leb (at + len) (length s)) refl (sym e ∙ t)
    where
      go : (b : Bool) → leb (at + len) (length s) ≡ b → pick {A = Result Fixed Refusal} b (Ok (record { value = be 0 (take len (drop at s)); next = at + len })) (Err Ends) ≡ Ok f
          → (at + len ≤ length s) × (f.value ≡ be 0 (take len (drop at s)))
      go true l t = (leb-true (at + len) (length s) l, let g : ◌≡◌ {A = Fixed} (record { value = be 0 (take len (drop at s)); next = at + len }) f = cc in ap (λ (f : Fixed). f.value) (sym g))
      go false l t = let z : ◌≡◌ {A = ℕ} 0 1 = cc in absurd (omega arith)

module _ (s : List ℕ) where
  pub short : length s < 24 → Err Ends ≡ read_event s
  unfolding read_event
  short h = rw (lt-leb 24 (length s) h)

  pub whole : {number time : ℕ} → 24 ≤ length s → number ≡ be 0 (take 8 (drop 8 s)) → time ≡ be 0 (take 8 (drop 16 s))
      → Ok (record { kind = get_or s 0 0; flags = get_or s 1 0; number = number; time = record { 0 = time } }) ≡ read_event s
  unfolding read_event
  whole h n t = rw (le-leb 24 (length s) h, n, t)
