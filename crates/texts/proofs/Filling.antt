-- Forms: what stands behind a form goes along.
-- Assumes nothing.
use Prim.Native.Nat.{ℕ, ◌+◌}
use mathlib.Core.Path.{◌≡◌, refl, ap, ◌∙◌}
use mathlib.Core.Bool.{Bool, true, false}
use mathlib.Core.List.{List, [], ◌∷◌, ◌++◌, append_assoc}
use lib.Dec.{eqb}
use Rattle.wire.specs.Bytes.{pick}
use Rattle.texts.specs.Forms.{hash, holes, one, value_at, filled_from}

one-tail : (b : ℕ) (v xs tl : List ℕ) → one b v xs ++ tl ≡ one b v (xs ++ tl)
one-tail b v xs tl = go (eqb b hash)
  where
    go : (t : Bool) → pick t (v ++ xs) (b ∷ xs) ++ tl ≡ pick t (v ++ (xs ++ tl)) (b ∷ (xs ++ tl))
    go true = append_assoc v xs tl
    go false = refl

pub filled-tail : (form : List ℕ) (values : List (List ℕ)) (used : ℕ) (tl : List ℕ) → filled_from form values used [] ++ tl ≡ filled_from form values used tl
filled-tail [] values used tl = refl
filled-tail (b ∷ form) values used tl =
    one-tail b (value_at values used) (filled_from form values (used + holes b) []) tl
    ∙ ap (one b (value_at values used)) (filled-tail form values (used + holes b) tl)
