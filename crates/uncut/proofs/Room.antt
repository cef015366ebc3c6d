-- What a call delivers fits the room that it was lent.
-- Assumes nothing.
use Prim.Native.Nat.{ℕ, zero, suc, ◌-◌, ◌≤◌, zero-le}
use mathlib.Core.Path.{◌≡◌, refl}
use mathlib.Core.Bool.{Bool, true, false}
use mathlib.Core.List.{List, [], ◌∷◌, ◌++◌}
use native.Mathlib.Omega.{arith}
use borrow.Author.Tests.{ltb-false}
use lib.Dec.{ltb}
use lib.ListN.{length, take, length-append}
use Rattle.wire.specs.Bytes.{pick}
use Rattle.entries.specs.Profiles.{record_size}
use Rattle.entries.specs.Entries.{records_good}
use Rattle.entries.specs.declared.Profile.{Profile}
use Rattle.uncut.specs.State.{State, Numbers, Records, Counting, Refused, Accepted}
use Rattle.uncut.specs.Step.{record_given, step, given, delivered}
use Rattle.uncut.specs.Cutting.{stops, taking}
use Rattle.uncut.proofs.Uncut.{Sound, sound-step, whole-size}

module _ (p : Profile) where
  given-fits : (room : ℕ) (st : State) (b : ℕ) → Sound p st → stops p room st ≡ false → length (given p st b) ≤ room
  unfolding given record_given
  given-fits room (Numbers ns held) b h e = zero-le
  given-fits room (Records ns zero last above held) b h e = zero-le
  given-fits room (Records ns (suc n) last above held) b h e = go (ltb (length r) (record_size p)) refl (records_good p 1 last above r)
    where
      r : List ℕ
      r = held ++ (b ∷ [])

      go : (c : Bool) → ltb (length r) (record_size p) ≡ c → (g : Bool) → length (pick c [] (pick g r [])) ≤ room
      go true t g = zero-le
      go false t true = omega (arith, whole-size p held b h t, ltb-false room (record_size p) e)
      go false t false = zero-le
  given-fits room (Counting ns n) b h e = zero-le
  given-fits room (Refused n) b h e = zero-le
  given-fits room (Accepted ns) b h e = zero-le

  pub taking-fits : (room : ℕ) (st : State) (part : List ℕ) → Sound p st → length (delivered p st (take (taking p room st part) part)) ≤ room
  unfolding taking delivered
  taking-fits room st [] h = zero-le
  taking-fits room st (b ∷ bs) h = go (stops p room st) refl (taking-fits (room - length (given p st b)) (step p st b) bs (sound-step p st b h))
    where
      go : (c : Bool) → stops p room st ≡ c
          → length (delivered p (step p st b) (take (taking p (room - length (given p st b)) (step p st b) bs) bs)) ≤ room - length (given p st b)
          → length (delivered p st (take (pick c 0 (suc (taking p (room - length (given p st b)) (step p st b) bs))) (b ∷ bs))) ≤ room
      go true t more = zero-le
      go false t more =
          let k : ℕ = taking p (room - length (given p st b)) (step p st b) bs in
          let l = length-append (given p st b) (delivered p (step p st b) (take (taking p (room - length (given p st b)) (step p st b) bs) bs)) in
          omega (arith, given-fits room st b h t)
