-- What the answer to the caller's number says: the profile whose number it is, or that it is none's.
-- Assumes nothing.
use Prim.Native.Nat.{ℕ}
use mathlib.Core.Path.{◌≡◌, sym, ap, ◌∙◌}
use Rattle.std.specs.Prelude.{Ok, Err}
use Rattle.wire.specs.declared.Refusal.{Refusal}
use Rattle.wire.specs.declared.Refusal.TheVariants.{OtherProfile}
use Rattle.entries.specs.Profiles.{of_profile, profile_by}
use Rattle.entries.specs.declared.Profile.{Profile}
use Rattle.entries.proofs.Profiles.{Which, known, other as unknown, which, of-known, of_other}

module _ {R : Type 0} (n : ℕ) (x : R) (f : Profile → R) where
  pub asked-for : (p : Profile) → Ok p ≡ profile_by n → f p ≡ of_profile n x f
  asked-for p a = go (which n)
    where
      go : Which n → f p ≡ of_profile n x f
      go (known q e) =
          let b : Ok p ≡ Ok q = a ∙ of-known n (Err OtherProfile) (λ r. Ok r) q e in
          let s : p ≡ q = cc in
          ap f s ∙ sym (of-known n x f q e)
      go (unknown o) =
          let b : Ok p ≡ Err OtherProfile = a ∙ of_other n (Err OtherProfile) (λ r. Ok r) o in
          absurd (cc)

  -- no profile has the number
  pub asked-none : {refusal : Refusal} → Err refusal ≡ profile_by n → (refusal ≡ OtherProfile) × (x ≡ of_profile n x f)
  asked-none {refusal} a = go (which n)
    where
      go : Which n → (refusal ≡ OtherProfile) × (x ≡ of_profile n x f)
      go (known q e) =
          let b : Err refusal ≡ Ok q = a ∙ of-known n (Err OtherProfile) (λ r. Ok r) q e in
          absurd (cc)
      go (unknown o) =
          let b : Err refusal ≡ Err OtherProfile = a ∙ of_other n (Err OtherProfile) (λ r. Ok r) o in
          (cc, sym (of_other n x f o))
