-- The refusal table for numbers and fixed fields, proved: each test of a definition is one side of its row.
-- Assumes nothing.
use Prim.Native.Nat.{ℕ, ◌+◌, ◌/◌, ◌≤◌, ◌<◌}
use mathlib.Core.Path.{◌≡◌, refl, sym}
use mathlib.Core.Logic.{inl, inr}
use mathlib.Core.Bool.{Bool, true, false}
use mathlib.Core.List.{List, [], ◌∷◌}
use native.Mathlib.Omega.{arith}
use borrow.Author.Tests.{le-leb, lt-leb}
use lib.Dec.{leb}
use lib.ListN.{length, get_or}
use Rattle.std.specs.Prelude.{Result, Ok, Err}
use Rattle.wire.specs.Bytes.{pick}
use Rattle.wire.specs.Fields.{read_fixed, placed, after}
use Rattle.wire.specs.Numbers.{len_of, encode_all, all_small, read_form, read_number, length_of, put_answer, put_bytes}
use Rattle.wire.specs.Refusals.{refusal_number}
use Rattle.wire.specs.Exactly.{OneOf, Small, Reads, FixedReads, NumberReads, Writes, NumbersWrite, Places, BytesWrite, Measures, NumbersMeasured, NumbersUnchanged, BytesUnchanged}
use Rattle.wire.specs.declared.Refusal.{Refusal}
use Rattle.wire.specs.declared.Refusal.TheVariants.{TooLarge, NoRoom}
use Rattle.wire.proofs.Lengths.{split}
use Rattle.wire.proofs.Small.{all_small_lem, not-small}
use Rattle.wire.proofs.Writing.{put-large, put_small}

reads_short : (ends end : ℕ) → ends < end → Reads 2 ends end
reads_short ends end h = record {
  two = (λ e. h, λ l. refl);
  accepted = (λ e. absurd (omega arith), λ l. absurd (omega arith));
  others = inr (inl refl);
}

reads_whole : (ends end : ℕ) → end ≤ ends → Reads 0 ends end
reads_whole ends end h = record {
  two = (λ e. absurd (omega arith), λ l. absurd (omega arith));
  accepted = (λ e. h, λ l. refl);
  others = inl refl;
}

pub fixed_reads : FixedReads
unfolding read_fixed
fixed_reads len s at =
    split (at + len) (length s)
    (λ h. rw (le-leb (at + len) (length s) h) (reads_whole (length s) (at + len) h))
    (λ h. rw (lt-leb (at + len) (length s) h) (reads_short (length s) (at + len) h))

pub number-reads : NumberReads
unfolding read_number read_form read_fixed
number-reads s at =
    let end : ℕ = at + len_of (get_or s at 0 / 64) in
    split end (length s)
    (λ h. rw (le-leb end (length s) h) (reads_whole (length s) end h))
    (λ h. rw (lt-leb end (length s) h) (reads_short (length s) end h))

places-no : (room end : ℕ) → room < end → Places 9 room end
places-no room end h = record {
  nine = (λ e. h, λ l. refl);
  accepted = (λ e. absurd (omega arith), λ l. absurd (omega arith));
  others = inr (inl refl);
}

places-yes : (room end : ℕ) → end ≤ room → Places 0 room end
places-yes room end h = record {
  nine = (λ e. absurd (omega arith), λ l. absurd (omega arith));
  accepted = (λ e. h, λ l. refl);
  others = inl refl;
}

pub bytes-write : BytesWrite
unfolding placed
bytes-write xs at ys =
    split (at + length ys) (length xs)
    (λ h. rw (le-leb (at + length ys) (length xs) h) (places-yes (length xs) (at + length ys) h))
    (λ h. rw (lt-leb (at + length ys) (length xs) h) (places-no (length xs) (at + length ys) h))

placed-not-five : (xs : List ℕ) (at : ℕ) (ys : List ℕ) → refusal_number (placed xs at ys) ≡ 5 → ⊥
unfolding placed
placed-not-five xs at ys e = go (leb (at + length ys) (length xs)) e
  where
    go : (b : Bool) → refusal_number (pick b (Ok (at + length ys)) (Err NoRoom)) ≡ 5 → ⊥
    go true e = omega arith
    go false e = omega arith

-- the numbers of a writer's answers
placed-others : (xs : List ℕ) (at : ℕ) (ys : List ℕ) → OneOf (refusal_number (placed xs at ys)) (0 ∷ 5 ∷ 9 ∷ [])
unfolding placed
placed-others xs at ys = go (leb (at + length ys) (length xs))
  where
    go : (b : Bool) → OneOf (refusal_number (pick b (Ok (at + length ys)) (Err NoRoom))) (0 ∷ 5 ∷ 9 ∷ [])
    go true = inl refl
    go false = inr (inr (inl refl))

pub numbers-write : NumbersWrite
numbers-write xs at vs = go (all_small vs) refl
  where
    end : ℕ
    end = at + length (encode_all vs)

    go : (b : Bool) → all_small vs ≡ b → Writes (refusal_number (put_answer xs at vs)) (length xs) end vs
    go true t =
        let p = bytes-write xs at (encode_all vs) in
        let s : Small vs = (all_small_lem vs).0 t in
        let r : put_answer xs at vs ≡ placed xs at (encode_all vs) = sym (put_small xs at vs t).0 in
        rw r (record { five = (λ e. absurd (placed-not-five xs at (encode_all vs) e), λ n. absurd (n s)); nine = (λ e. (s, p.nine.0 e), λ l. p.nine.1 l.1); accepted = (λ e. (s, p.accepted.0 e), λ l. p.accepted.1 l.1); others = placed-others xs at (encode_all vs) })
    go false t =
        let n : Small vs → ⊥ = not-small vs t in
        rw (← (put-large xs at vs t).0) (record { five = (λ e. n, λ l. refl); nine = (λ e. absurd (omega arith), λ l. absurd (n l.0)); accepted = (λ e. absurd (omega arith), λ l. absurd (n l.0)); others = inr (inl refl) })

pub numbers-measured : NumbersMeasured
unfolding length_of
numbers-measured vs = go (all_small vs) refl
  where
    go : (b : Bool) → all_small vs ≡ b → Measures (refusal_number (pick b (Ok (length (encode_all vs))) (Err TooLarge))) vs
    go true t = let s : Small vs = (all_small_lem vs).0 t in record {
      five = (λ e. absurd (omega arith), λ n. absurd (n s));
      accepted = (λ e. s, λ l. refl);
      others = inl refl;
    }
    go false t = let n : Small vs → ⊥ = not-small vs t in record {
      five = (λ e. n, λ l. refl);
      accepted = (λ e. absurd (omega arith), λ s. absurd (n s));
      others = inr (inl refl);
    }

-- a refused write
unchanged : (a : Result ℕ Refusal) (xs : List ℕ) (at : ℕ) (ys : List ℕ) → (refusal_number a ≡ 0 → ⊥) → after a xs at ys ≡ xs
unfolding after
unchanged (Ok next) xs at ys f = absurd (f refl)
unchanged (Err refusal) xs at ys f = refl

pub numbers-unchanged : NumbersUnchanged
unfolding put_bytes
numbers-unchanged xs at vs f = unchanged (put_answer xs at vs) xs at (encode_all vs) f

pub bytes-unchanged : BytesUnchanged
bytes-unchanged xs at ys f = unchanged (placed xs at ys) xs at ys f
