-- P1 of document 01 and its frames' other examples hold on the definitions: one list under one statement, which antt computes.
-- Assumes nothing.
use Prim.Native.Nat.{ℕ}
use mathlib.Core.Path.{◌≡◌, refl}
use mathlib.Core.List.{List, [], ◌∷◌, ◌++◌}
use lib.ListN.{take}
use Rattle.std.specs.Prelude.{Some, None}
use Rattle.wire.specs.Fields.{read_fixed}
use Rattle.wire.specs.Numbers.{first_from, width_of, read_form, read_number, encode, encode_all, form}
use Rattle.wire.specs.Refusals.{refusal_number}
use Rattle.wire.specs.declared.Refusal.TheVariants.{Ends, OtherType, NoRoom, BelowZero}
use Rattle.frames.specs.Frequency.{thresholds, read_frequency}
use Rattle.frames.specs.Immediate.{read_immediate}
use Rattle.frames.specs.Ack.{ranges_from, read_tail, read_ranges, ack, read_ack, refused, gaps_from, range_numbers, ack_numbers}

-- a frame whose range count is 2^62 - 1
abbrev pub far : List ℕ
far = 0x02 ∷ 0x05 ∷ 0x00 ∷ 0xff ∷ 0xff ∷ 0xff ∷ 0xff ∷ 0xff ∷ 0xff ∷ 0xff ∷ 0xff ∷ []

-- 0, 1, 3, 4, 5 received, no delay
abbrev pub said : List ℕ
said = 0x02 ∷ 0x05 ∷ 0x00 ∷ 0x01 ∷ 0x02 ∷ 0x00 ∷ 0x01 ∷ []

-- the same with 64 packets marked ECT(0), none ECT(1), in a longer form, and 16,384 CE
abbrev pub counted : List ℕ
counted = 0x03 ∷ 0x05 ∷ 0x00 ∷ 0x01 ∷ 0x02 ∷ 0x00 ∷ 0x01 ∷ 0x40 ∷ 0x40 ∷ 0x80 ∷ 0x00 ∷ 0x00 ∷ 0x00 ∷ 0x80 ∷ 0x00 ∷ 0x40 ∷ 0x00 ∷ []

pub record Examples : Type 0 where
  pub P1 : read_frequency (0x40 ∷ 0xaf ∷ 0x05 ∷ 0x0a ∷ 0x80 ∷ 0x00 ∷ 0x61 ∷ 0xa8 ∷ 0x03 ∷ []) ≡ thresholds 5 10 25000 3 9
  pub longer-fields : read_frequency (0x40 ∷ 0xaf ∷ 0x40 ∷ 0x05 ∷ 0x80 ∷ 0x00 ∷ 0x00 ∷ 0x0a ∷ 0x80 ∷ 0x00 ∷ 0x61 ∷ 0xa8 ∷ 0xc0 ∷ 0x00 ∷ 0x00 ∷ 0x00 ∷ 0x00 ∷ 0x00 ∷ 0x00 ∷ 0x03 ∷ []) ≡ thresholds 5 10 25000 3 20
  pub long-type : refusal_number (read_immediate (0x40 ∷ 0x1f ∷ [])) ≡ 3
  pub longer-type : refusal_number (read_frequency (0x80 ∷ 0x00 ∷ 0x00 ∷ 0xaf ∷ [])) ≡ 3
  pub long-ack : (xs : List ℕ) → read_ack (0x40 ∷ 0x02 ∷ []) xs ≡ refused OtherType xs
  pub empty : refusal_number (read_frequency []) ≡ 2
  pub cut-type : refusal_number (read_frequency (0xaf ∷ [])) ≡ 2
  pub gap_below : (xs : List ℕ) → read_ack (0x02 ∷ 0x05 ∷ 0x00 ∷ 0x01 ∷ 0x04 ∷ 0x02 ∷ []) xs ≡ refused BelowZero xs
  pub far-cut : (xs : List ℕ) → read_ack far xs ≡ refused Ends xs
  pub far-below : (xs : List ℕ) → read_ack (far ++ (0x00 ∷ 0x04 ∷ [])) xs ≡ refused BelowZero xs
  pub ranges : read_ack said (7 ∷ 7 ∷ 7 ∷ 7 ∷ 7 ∷ []) ≡ record { answer = ack 5 0 2 7 None; slice = 3 ∷ 5 ∷ 0 ∷ 1 ∷ 7 ∷ [] }
  pub no_room : read_ack said (7 ∷ 7 ∷ 7 ∷ []) ≡ refused NoRoom (7 ∷ 7 ∷ 7 ∷ [])
  pub numbers : encode_all (ack_numbers None 0 (3 ∷ 5 ∷ 0 ∷ 1 ∷ [])) ≡ said
  pub counts : read_ack counted (7 ∷ 7 ∷ 7 ∷ 7 ∷ 7 ∷ []) ≡ record { answer = ack 5 0 2 17 (Some (record { ect0 = 64; ect1 = 0; ce = 16384 })); slice = 3 ∷ 5 ∷ 0 ∷ 1 ∷ 7 ∷ [] }
  pub counts-no-room : read_ack counted (7 ∷ 7 ∷ 7 ∷ []) ≡ refused NoRoom (7 ∷ 7 ∷ 7 ∷ [])
  pub counts-cut : read_ack (take 16 counted) (7 ∷ 7 ∷ 7 ∷ []) ≡ refused Ends (7 ∷ 7 ∷ 7 ∷ [])
  pub long-counts : (xs : List ℕ) → read_ack (0x40 ∷ 0x03 ∷ []) xs ≡ refused OtherType xs
  pub counts-numbers : encode_all (ack_numbers (Some (record { ect0 = 64; ect1 = 5; ce = 16384 })) 0 (3 ∷ 5 ∷ 0 ∷ 1 ∷ [])) ≡ 0x03 ∷ 0x05 ∷ 0x00 ∷ 0x01 ∷ 0x02 ∷ 0x00 ∷ 0x01 ∷ 0x40 ∷ 0x40 ∷ 0x05 ∷ 0x80 ∷ 0x00 ∷ 0x40 ∷ 0x00 ∷ []

pub examples : Examples
unfolding first_from width_of encode encode_all form read_number read_form read_fixed ranges_from read_tail read_ranges gaps_from range_numbers
examples = record {
  P1 = refl;
  longer-fields = refl;
  long-type = refl;
  longer-type = refl;
  long-ack = λ xs. refl;
  empty = refl;
  cut-type = refl;
  gap_below = λ xs. refl;
  far-cut = λ xs. refl;
  far-below = λ xs. refl;
  ranges = refl;
  no_room = refl;
  numbers = refl;
  counts = refl;
  counts-no-room = refl;
  counts-cut = refl;
  long-counts = λ xs. refl;
  counts-numbers = refl;
}
