-- What an accepted number leaves: L's end is the larger of the old one and the number's, and the record's own floor stays.
-- Assumes nothing.
use Prim.Native.Nat.{ℕ, ◌+◌, ◌≤◌, ◌<◌, max}
use mathlib.Core.Path.{◌≡◌}
use native.Mathlib.Nat.{max-eq_left, max-eq_right}
use native.Mathlib.Omega.{arith}
use borrow.Author.Tests.{lt-ltb, le-ltb, le-leb}
use Rattle.wire.specs.Bytes.{pick}
use Rattle.wire.specs.Numbers.{limit}
use Rattle.wire.proofs.Lengths.{split}
use Rattle.seen.specs.declared.Micros.{Micros}
use Rattle.seen.specs.declared.Seen.{Seen}
use Rattle.seen.specs.Numbers.{small}
use Rattle.seen.specs.Received.{seen_after}

module _ (s : Seen) (n : ℕ) (time : Micros) where
  -- L's end is that of the larger of L and the number
  pub seen_end : (seen_after s n time).end ≡ max s.end (n + 1)
  unfolding seen_after
  seen_end =
      split s.end n
      (λ h. rw (le-ltb n s.end h, max-eq_right (le-add-one h)))
      (λ h. rw (lt-ltb n s.end h, max-eq_left (omega-le h)))
    where
      le-add-one : s.end ≤ n → s.end ≤ n + 1
      le-add-one h = omega arith

      omega-le : n < s.end → n + 1 ≤ s.end
      omega-le h = omega arith

  -- the record's own floor stays
  pub seen-confirmed : (seen_after s n time).confirmed ≡ s.confirmed
  unfolding seen_after
  seen-confirmed = split s.end n (λ h. rw (le-ltb n s.end h)) (λ h. rw (lt-ltb n s.end h))

  -- a number that obeys 5 is accepted
  pub with-small : n ≤ limit → pick (small n) (seen_after s n time) s ≡ seen_after s n time
  with-small h = rw (le-leb n limit h)
