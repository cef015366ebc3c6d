-- P2 and P3 of document 01 and RFC 9000's published examples hold on the definitions: one list under one statement, which antt computes.
-- Assumes nothing.
use mathlib.Core.Path.{◌≡◌, refl}
use mathlib.Core.Bool.{true, false}
use mathlib.Core.List.{[], ◌∷◌}
use Rattle.std.specs.Prelude.{Err}
use Rattle.wire.specs.Fields.{read_fixed, found}
use Rattle.wire.specs.Numbers.{first_from, width_of, form, encode, read_form, read_number}
use Rattle.wire.specs.declared.Refusal.TheVariants.{Ends}

pub record Examples : Type 0 where
  pub P2 : width_of 63 ≡ 1
  pub P3 : width_of 64 ≡ 2
  pub eight : encode 151288809941952652 ≡ 0xc2 ∷ 0x19 ∷ 0x7c ∷ 0x5e ∷ 0xff ∷ 0x14 ∷ 0xe8 ∷ 0x8c ∷ []
  pub four : read_number (0x9d ∷ 0x7f ∷ 0x3e ∷ 0x7d ∷ []) 0 ≡ found 494878333 4 true
  pub two : read_number (0x7b ∷ 0xbd ∷ []) 0 ≡ found 15293 2 true
  pub longer : read_number (0x40 ∷ 0x25 ∷ []) 0 ≡ found 37 2 false
  pub cut : read_number (0x9d ∷ 0x7f ∷ 0x3e ∷ []) 0 ≡ Err Ends

pub examples : Examples
unfolding first_from width_of encode form read_number read_form read_fixed
examples = record { P2 = refl; P3 = refl; eight = refl; four = refl; two = refl; longer = refl; cut = refl }
