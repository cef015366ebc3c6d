-- A frame of type 02 with one range: one law for each end of its reader.
-- Assumes nothing.
use Prim.Native.Nat.{ℕ, ◌-◌, ◌≤◌, ◌<◌}
use mathlib.Core.Path.{◌≡◌, refl, sym, ap}
use mathlib.Core.Bool.{Bool, false}
use mathlib.Core.List.{List}
use lib.ListN.{length, set}
use Rattle.std.specs.Prelude.{None, Result, Ok, Err}
use Rattle.wire.specs.Fields.{found}
use Rattle.wire.specs.Numbers.{read_number}
use Rattle.wire.specs.declared.Number.{Number}
use Rattle.wire.specs.declared.Refusal.{Refusal}
use Rattle.wire.specs.declared.Refusal.TheVariants.{Ends, NoRoom, BelowZero}
use Rattle.frames.specs.Ack.{Ranges, ended, before, ranges_from, ack, refused, read_ranges}
use Rattle.frames.proofs.Ranges.{last, wrote-last}
use Rattle.frames.proofs.Steps.{length_cut, length-low, step_fault}
use Rattle.frames.proofs.Answers.{ended_so, no_room, accepted, tail_none}

-- n is what reading the range's length answers
module _ (s : List ℕ) (at largest delay : ℕ) (xs : List ℕ) {n : Result Number Refusal} (e : n ≡ read_number s at) where
  pub one-cut : {refusal : Refusal} → n ≡ Err refusal → refused Ends xs ≡ read_ranges s at largest delay 0 false xs
  one-cut t = ended_so s at largest delay 0 false xs (step_fault 0 s at largest refl (sym (length_cut 0 s at largest e t))) refl (Err Ends) refl

  module _ {len next : ℕ} {b : Bool} (t : n ≡ found len next b) where
    pub one-low : largest < len → refused BelowZero xs ≡ read_ranges s at largest delay 0 false xs
    one-low h = ended_so s at largest delay 0 false xs (step_fault 0 s at largest refl (sym (length-low 0 s at largest e t h))) refl (Err BelowZero) refl

    module _ (h : len ≤ largest) where
      one-range : before (largest - len) largest (ended (Ok next)) ≡ ranges_from 0 s at largest
      one-range = last 0 s at largest e t refl h

      one-walk : Ok next ≡ (ranges_from 0 s at largest).walk
      one-walk = ap (λ (r : Ranges). r.walk) one-range

      pub one-no-room : length xs < 2 → refused NoRoom xs ≡ read_ranges s at largest delay 0 false xs
      one-no-room l = no_room s at largest delay 0 false xs one-walk (tail_none s next refl) refl l

      pub one-accepted : 2 ≤ length xs
          → record { answer = ack largest delay 1 next None; slice = set (set xs 0 (largest - len)) 1 largest } ≡ read_ranges s at largest delay 0 false xs
      one-accepted l = accepted s at largest delay 0 false xs one-walk (tail_none s next refl) refl l (wrote-last xs 0 refl one-range l)
