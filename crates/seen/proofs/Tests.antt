-- What a test of a call's answer says of the definition that the answer equals.
-- Assumes nothing.
use mathlib.Core.Path.{◌≡◌, refl, sym, ◌∙◌}
use mathlib.Core.Bool.{Bool, true, false}

module _ {b s : Bool} (e : b ≡ s) where
  -- `if !answer` was taken
  pub failed : b ≡ false → s ≡ false
  failed t = sym e ∙ t

  -- and was not
  pub held : b ≡ true → s ≡ true
  held t = sym e ∙ t

  -- `if answer` was taken, and was not
  pub told : b ≡ true → s ≡ true
  told t = sym e ∙ t

  pub denied : b ≡ false → s ≡ false
  denied t = sym e ∙ t

-- a test holds or does not
pub by-test : {P : Type 0} (b : Bool) → (b ≡ true → P) → (b ≡ false → P) → P
by-test true f g = f refl
by-test false f g = g refl
