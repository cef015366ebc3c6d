-- The number that the caller passes is that of one profile, or of none.
-- Assumes nothing.
use Rattle.std.proofs.Common.{◌≡◌, ℕ, ◌<◌, ◌≤◌, Bool, true, false, Result, Ok, Err, eqb, sym, refl, ◌∙◌, arith, ne_eqb, eqb-true}
use borrow.Author.Tests.{eqb-false}
use Rattle.wire.specs.Bytes.{pick}
use Rattle.wire.specs.declared.Refusal.{Refusal}
use Rattle.wire.specs.declared.Refusal.TheVariants.{OtherProfile}
use Rattle.entries.specs.Profiles.{record_size, of_profile, profile_by, number_of, Other, In}
use Rattle.entries.specs.declared.Profile.{Profile}
use Rattle.entries.specs.declared.Profile.TheVariants.{One, Two}

pub data Which (n : ℕ) : Type 0 where
  known : (p : Profile) → n ≡ number_of p → Which n
  other : Other n → Which n

pub which : (n : ℕ) → Which n
which n = go (eqb n 1) (eqb n 2) refl refl
  where
    none : eqb n 1 ≡ false → eqb n 2 ≡ false → Other n
    none a b One e = eqb-false n 1 a e
    none a b Two e = eqb-false n 2 b e

    go : (a b : Bool) → eqb n 1 ≡ a → eqb n 2 ≡ b → Which n
    go true b e f = known One (eqb-true n 1 e)
    go false true e f = known Two (eqb-true n 2 f)
    go false false e f = other (none e f)

module _ {R : Type 0} (n : ℕ) (r : R) (f : Profile → R) where
  pub of-known : (p : Profile) → n ≡ number_of p → of_profile n r f ≡ f p
  of-known One e = rw e
  of-known Two e = rw e

  pub of_other : Other n → of_profile n r f ≡ r
  of_other o = rw (ne_eqb n 1 (o One), ne_eqb n 2 (o Two))

  -- x is what the code has of the profile
  module _ (x : Result Profile Refusal) (e : x ≡ profile_by n) where
    pub by-known : (p : Profile) → x ≡ Ok p → f p ≡ of_profile n r f
    by-known p t = go (eqb n 1) (eqb n 2) (sym e ∙ t)
      where
        go : (a b : Bool) → pick a (Ok One) (pick b (Ok Two) (Err OtherProfile)) ≡ Ok p → f p ≡ pick a (f One) (pick b (f Two) r)
        go true b q = let k : One ≡ p = cc in rw k
        go false true q = let k : Two ≡ p = cc in rw k
        go false false q = let z : ◌≡◌ {A = ℕ} 0 1 = cc in absurd (omega arith)

    pub by-other : (d : Refusal) → x ≡ Err d → r ≡ of_profile n r f
    by-other d t = go (eqb n 1) (eqb n 2) (sym e ∙ t)
      where
        go : (a b : Bool) → pick a (Ok One) (pick b (Ok Two) (Err OtherProfile)) ≡ Err d → r ≡ pick a (f One) (pick b (f Two) r)
        go true b q = let z : ◌≡◌ {A = ℕ} 0 1 = cc in absurd (omega arith)
        go false true q = let z : ◌≡◌ {A = ℕ} 0 1 = cc in absurd (omega arith)
        go false false q = refl

-- the refusal of a number that is no profile's
pub other-is : (n : ℕ) (x : Result Profile Refusal) → x ≡ profile_by n → (d : Refusal) → x ≡ Err d → d ≡ OtherProfile
other-is n x e d t = go (eqb n 1) (eqb n 2) (sym e ∙ t)
  where
    go : (a b : Bool) → pick a (Ok One) (pick b (Ok Two) (Err OtherProfile)) ≡ Err d → d ≡ OtherProfile
    go true b q = let z : ◌≡◌ {A = ℕ} 0 1 = cc in absurd (omega arith)
    go false true q = let z : ◌≡◌ {A = ℕ} 0 1 = cc in absurd (omega arith)
    go false false q = cc

-- what holds in the number's profile holds in this one, if the number is its own
pub in-this : (n : ℕ) (P : Profile → Type 0) (p : Profile) → n ≡ number_of p → In n P → P p
in-this n P p e i = go p i.profile (sym e ∙ i.number) i.holds
  where
    go : (p q : Profile) → number_of p ≡ number_of q → P q → P p
    go One One e h = h
    go Two Two e h = h
    go One Two e h = absurd (omega arith)
    go Two One e h = absurd (omega arith)

-- a record has a byte
pub sized : (p : Profile) → 0 < record_size p
sized p = omega arith

-- and not many
pub size-le : (p : Profile) → record_size p ≤ 24
size-le One = omega arith
size-le Two = omega arith
