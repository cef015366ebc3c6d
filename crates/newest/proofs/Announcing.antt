-- The answer for a whole report, by what the report's crate says of the header.
-- Assumes nothing.
use Prim.Native.Nat.{ℕ, ◌+◌, ◌-◌, ◌*◌, ◌/◌, ◌≤◌, ◌<◌}
use mathlib.Core.Path.{◌≡◌, refl, sym, ap, ◌∙◌, subst}
use mathlib.Core.List.{List}
use native.Mathlib.Omega.{arith}
use borrow.Author.Tests.{le-leb, lt-leb, eq-eqb, ne_eqb}
use lib.ListN.{length, take, drop}
use Rattle.std.specs.Prelude.{Result, Ok, Err}
use Rattle.wire.specs.declared.Refusal.{Refusal}
use Rattle.wire.specs.declared.Refusal.TheVariants.{Ends, BytesRemain}
use Rattle.entries.specs.Profiles.{record_size}
use Rattle.entries.specs.declared.Profile.{Profile}
use Rattle.entries.proofs.Profiles.{sized}
use Rattle.entries.proofs.Sizes.{held, not-held}
use Rattle.report.specs.Header.{count_of}
use Rattle.report.specs.Reader.{Reading, Whole, Stopped, read_numbers}
use Rattle.report.specs.Head.{announced}
use Rattle.report.specs.declared.Announced.{Announced}
use Rattle.newest.specs.Search.{newest_in}
use Rattle.newest.specs.Newest.{after_numbers, newest_lost}

module _ (p : Profile) (s : List ℕ) (f : Result Announced Refusal) (e : f ≡ announced (read_numbers p s)) where
  pub refused-is : (d : Refusal) → f ≡ Err d → Err d ≡ newest_lost p s
  unfolding announced after_numbers
  refused-is d t = go (read_numbers p s) (sym e ∙ t)
    where
      go : (r : Reading) → announced r ≡ Err d → Err d ≡ after_numbers p s r
      go (Whole ns at) q = absurd (cc)
      go (Stopped n) q = let k : d ≡ n = cc in rw k

  module _ (x : Announced) (t : f ≡ Ok x) where
    -- the numbers were read, and say as much
    record Told : Type 0 where
      ns : List ℕ
      numbers : read_numbers p s ≡ Whole ns x.next
      count : count_of ns ≡ x.entries

    told : Told
    unfolding announced
    told = go (read_numbers p s) refl (sym e ∙ t)
      where
        go : (r : Reading) → read_numbers p s ≡ r → announced r ≡ Ok x → Told
        go (Stopped n) w q = absurd (cc)
        go (Whole ns at) w q =
            let k : x ≡ record { next = at; entries = count_of ns } = cc in
            record {
              ns = ns;
              numbers = w ∙ ap (Whole ns) (sym (ap (λ (x : Announced). x.next) k));
              count = sym (ap (λ (x : Announced). x.entries) k);
            }

    -- size is what the code has for a record's size
    module _ (size : ℕ) (d : size ≡ record_size p) (l : x.next ≤ length s) where
      abbrev k : ℕ
      k = x.entries

      after : newest_lost p s ≡ after_numbers p s (Whole told.ns x.next)
      after = ap (after_numbers p s) told.numbers

      pos : 0 < size
      pos = subst (λ (m : ℕ). 0 < m) (sym d) (sized p)

      pub held-there : k ≤ (length s - x.next) / size → size * k ≤ length s - x.next
      held-there h = held size pos (length s - x.next) k h

      pub too_few : (length s - x.next) / size < k → Err Ends ≡ newest_lost p s
      unfolding after_numbers
      too_few h =
          let m : length s < x.next + record_size p * k = let g = not-held size pos (length s - x.next) k h in subst (λ (m : ℕ). length s < x.next + m * k) d (omega arith) in
          rw (after, told.count, lt-leb (x.next + record_size p * k) (length s) m)

      module _ (h : k ≤ (length s - x.next) / size) where
        there : x.next + record_size p * k ≤ length s
        there = let g = held-there h in subst (λ (m : ℕ). x.next + m * k ≤ length s) d (omega arith)

        pub bytes-remain : size * k < length s - x.next → Err BytesRemain ≡ newest_lost p s
        unfolding after_numbers
        bytes-remain r =
            let m : x.next + record_size p * k < length s = subst (λ (m : ℕ). x.next + m * k < length s) d (omega arith) in
            rw (after, told.count, le-leb (x.next + record_size p * k) (length s) there, ne_eqb (x.next + record_size p * k) (length s) (λ q. omega arith))

        pub search_is : length s - x.next ≤ size * k → newest_in p (take (length s - x.next) (drop x.next s)) k ≡ newest_lost p s
        unfolding after_numbers
        search_is r =
            let g = held-there h in
            let m : length s - x.next ≡ record_size p * k = subst (λ (m : ℕ). length s - x.next ≡ m * k) d (omega arith) in
            rw (after, told.count, le-leb (x.next + record_size p * k) (length s) there, eq-eqb (x.next + record_size p * k) (length s) (omega arith), m)
