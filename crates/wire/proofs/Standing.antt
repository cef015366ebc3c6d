-- Numbers that stand one after the other: those that were written do, in their shortest form, and those that stand so are what the writer writes.
-- Assumes nothing.
use Prim.Native.Nat.{ℕ, ◌+◌, ◌≤◌}
use mathlib.Core.Path.{◌≡◌, refl, sym, ap, ◌∙◌, subst}
use mathlib.Core.Bool.{Bool, true, false}
use mathlib.Core.List.{List, [], ◌∷◌, ◌++◌, append_assoc}
use native.Mathlib.Nat.{add-zero, zero-add}
use native.Mathlib.Omega.{arith}
use lib.Dec.{leb}
use lib.ListN.{length, take, drop, length-append, take-append-drop}
use lib.Seq.{take-add, drop-drop}
use Rattle.std.specs.Prelude.{Result, Ok, Err}
use Rattle.wire.specs.Bytes.{pick, splice, Octets}
use Rattle.wire.specs.Fields.{found, placed, after}
use Rattle.wire.specs.Numbers.{limit, width_of, encode, encode_all, all_small, read_number, put_answer, put_bytes}
use Rattle.wire.specs.Exactly.{Small}
use Rattle.wire.specs.Standing.{Stand, none, one, StandShortest, no_more, short}
use Rattle.wire.specs.declared.Refusal.{Refusal}
use Rattle.wire.specs.declared.Refusal.TheVariants.{TooLarge, NoRoom}
use Rattle.wire.proofs.Small.{all_small_lem}
use Rattle.wire.proofs.Writing.{length-encode}
use Rattle.wire.proofs.RoundTrip.{read-encoded}
use Rattle.wire.proofs.Accepted.{accepted-small, accepted-long, as-long-shortest, shortest-place, accepted-shortest}

-- ---- in two parts

pub stand-append : {s : List ℕ} {at mid next : ℕ} {us vs : List ℕ} → Stand s at us mid → Stand s mid vs next → Stand s at (us ++ vs) next
stand-append none t = t
stand-append (one e r) t = one e (stand-append r t)

-- one number more
pub short-last : {s : List ℕ} {at mid v next : ℕ} {vs : List ℕ} → StandShortest s at vs mid → read_number s mid ≡ found v next true → StandShortest s at (vs ++ (v ∷ [])) next
short-last no_more e = short e no_more
short-last (short r t) e = short r (short-last t e)

-- numbers in their shortest form stand
pub short-stands : {s : List ℕ} {at next : ℕ} {vs : List ℕ} → StandShortest s at vs next → Stand s at vs next
short-stands no_more = none
short-stands (short r t) = one r (short-stands t)

-- ---- written, so they stand

-- p is what stands before them, and tl what comes after
pub encoded-short : (vs s p tl : List ℕ) (at : ℕ) → Small vs → s ≡ p ++ (encode_all vs ++ tl) → length p ≡ at
    → StandShortest s at vs (at + length (encode_all vs))
unfolding encode_all
encoded-short [] s p tl at f e l = subst (StandShortest s at []) (sym (add-zero at)) no_more
encoded-short (v ∷ vs) s p tl at f e l =
    let w : length (encode v) ≡ width_of v = length-encode v f.0 in
    let n : at + width_of v + length (encode_all vs) ≡ at + length (encode v ++ encode_all vs) = simp length-append (omega arith) in
    let r = read-encoded s p (encode_all vs ++ tl) v at f.0 (e ∙ simp append_assoc) l in
    subst (StandShortest s at (v ∷ vs)) n
    (short (sym r) (encoded-short vs s (p ++ encode v) tl (at + width_of v) f.1 (e ∙ simp append_assoc) (simp length-append (omega arith))))

pub encoded-stand : (vs s p tl : List ℕ) (at : ℕ) → Small vs → s ≡ p ++ (encode_all vs ++ tl) → length p ≡ at → Stand s at vs (at + length (encode_all vs))
encoded-stand vs s p tl at f e l = short-stands (encoded-short vs s p tl at f e l)

-- the numbers that an accepted write wrote, and what it left
pub put-done : (xs : List ℕ) (at : ℕ) (vs : List ℕ) (next : ℕ) → put_answer xs at vs ≡ Ok next
    → Small vs × (next ≡ at + length (encode_all vs)) × (put_bytes xs at vs ≡ splice xs at (encode_all vs))
unfolding put_answer put_bytes placed after
put-done xs at vs next e = go (all_small vs) refl (leb (at + length (encode_all vs)) (length xs)) refl (all_small_lem vs).0 e
  where
    go : (a : Bool) → all_small vs ≡ a → (b : Bool) → leb (at + length (encode_all vs)) (length xs) ≡ b → (all_small vs ≡ true → Small vs)
        → pick a (pick b (Ok (at + length (encode_all vs))) (Err NoRoom)) (Err TooLarge) ≡ Ok next
        → Small vs × (next ≡ at + length (encode_all vs)) × (put_bytes xs at vs ≡ splice xs at (encode_all vs))
    go true s true l fit e = (fit s, cc, rw (s, l))
    go true s false l fit e = absurd (cc)
    go false s b l fit e = absurd (cc)

-- ---- in shortest form, so they are written so

module _ (s : List ℕ) (o : Octets s) where
  -- numbers that stand are ones that can be written
  pub stand-small : {at next : ℕ} {vs : List ℕ} → Stand s at vs next → Small vs
  stand-small none = tt
  stand-small (one {at = at} {v = v} {mid = mid} r t) = (accepted-small s at v mid o r, stand-small t)

  -- they take no fewer bytes than the writer would
  pub stand-long : {at next : ℕ} {vs : List ℕ} → Stand s at vs next → at + length (encode_all vs) ≤ next
  unfolding encode_all
  stand-long none = omega arith
  stand-long (one {at = at} {v = v} {mid = mid} {vs = vs} r t) =
      let w : length (encode v) ≡ width_of v = length-encode v (accepted-small s at v mid o r) in
      simp length-append (omega (arith, accepted-long s at v mid o r, stand-long t))

  -- where they take as many, each stands in its shortest form
  pub as-long-short : {at next : ℕ} {vs : List ℕ} → Stand s at vs next → next ≡ at + length (encode_all vs) → StandShortest s at vs next
  unfolding encode_all
  as-long-short none e = no_more
  as-long-short (one {at = at} {v = v} {mid = mid} {vs = vs} r t) e =
      let w : length (encode v) ≡ width_of v = length-encode v (accepted-small s at v mid o r) in
      let n : length (encode v ++ encode_all vs) ≡ width_of v + length (encode_all vs) = simp length-append (omega arith) in
      let m : mid ≡ at + width_of v = omega (arith, accepted-long s at v mid o r, stand-long t) in
      short (rw (as-long-shortest s at v mid o r m) at r) (as-long-short t (omega arith))

  -- those that do take as many
  pub short-long : {at next : ℕ} {vs : List ℕ} → StandShortest s at vs next → next ≡ at + length (encode_all vs)
  unfolding encode_all
  short-long (no_more {at = at}) = sym (add-zero at)
  short-long (short {at = at} {v = v} {mid = mid} {vs = vs} r t) =
      let l : v ≤ limit = accepted-small s at v mid o r in
      simp length-append (omega (arith, length-encode v l, shortest-place s at v mid r l, short-long t))

  -- and are what the writer writes
  pub short-bytes : {at next : ℕ} {vs : List ℕ} → StandShortest s at vs next → take (length (encode_all vs)) (drop at s) ≡ encode_all vs
  unfolding encode_all
  short-bytes no_more = refl
  short-bytes (short {at = at} {v = v} {mid = mid} {vs = vs} r t) =
      let l : v ≤ limit = accepted-small s at v mid o r in
      let w : length (encode v) ≡ width_of v = length-encode v l in
      let n : length (encode v ++ encode_all vs) ≡ width_of v + length (encode_all vs) = simp length-append (omega arith) in
      rw (n, take-add, accepted-shortest s at v mid o r, drop-drop, ← shortest-place s at v mid r l, short-bytes t)

  -- and writing them there changes nothing
  pub stand-kept : {used : ℕ} {vs : List ℕ} → Stand s 0 vs used → used ≡ length (encode_all vs) → (take used s ≡ encode_all vs) × (put_bytes s 0 vs ≡ s)
  unfolding put_bytes after
  stand-kept {used} {vs} t e =
      let b : take used s ≡ encode_all vs = rw e (short-bytes (as-long-short t (e ∙ sym (zero-add (length (encode_all vs)))))) in (
        b,
        kept (put_answer s 0 vs) (ap (λ (l : List ℕ). l ++ drop (0 + length (encode_all vs)) s) (sym b)
            ∙ rw (e, zero-add) (take-append-drop (length (encode_all vs)) s)),
      )
    where
      kept : (a : Result ℕ Refusal) → splice s 0 (encode_all vs) ≡ s → after a s 0 (encode_all vs) ≡ s
      kept (Ok next) h = h
      kept (Err refusal) h = refl
