-- The words that say where a report stands say it back, and they pass where it is fit.
-- Assumes nothing.
use Prim.Native.Nat.{ℕ, zero, suc, ◌+◌, ◌-◌, ◌%◌, ◌≤◌, ◌<◌, zero-le}
use mathlib.Core.Path.{◌≡◌, refl, sym, ap, ap₂, ◌∙◌}
use mathlib.Core.Bool.{Bool, true, false}
use mathlib.Core.List.{List, [], ◌∷◌, ◌++◌, append_assoc}
use native.Mathlib.Nat.{mod-eq_of_lt, mod-lt}
use native.Mathlib.Omega.{arith}
use borrow.Author.Tests.{le-leb}
use lib.Dec.{eqb}
use lib.ListN.{length, get_or, take, replicate, length-append, get_or-append, get_or-eq_default}
use lib.Seq.{take_at, ext_get_or, get_or-append-add}
use Rattle.wire.specs.Bytes.{pick, Octets}
use Rattle.wire.proofs.Lengths.{split}
use Rattle.entries.specs.Profiles.{number_of}
use Rattle.entries.specs.declared.Profile.{Profile}
use Rattle.entries.specs.declared.Profile.TheVariants.{One, Two}
use Rattle.uncut.specs.State.{State, Numbers, Records, Counting, Refused, Accepted}
use Rattle.pieces.specs.Record.{profile_in, numbers_in, held_in, stand_at, state_as, state_of, padded, body_as, body_of, words_of}
use Rattle.pieces.specs.Fitness.{fit, stand_fit, consistent}
use Rattle.pieces.specs.Serving.{Ready}
use Rattle.pieces.specs.Kept.{numbers_at, held_at, Kept}
use Rattle.pieces.proofs.Fits.{ready-fit, consistent-known, passed}
use Rattle.pieces.proofs.Laying.{padded-long, zeros}
use Rattle.pieces.proofs.Loading.{numbers-long, held-long, number_at, byte_at}
use Rattle.pieces.proofs.Prefix.{ends-short}
use Rattle.pieces.proofs.Staying.{octets-none}
use Rattle.pieces.proofs.Steps.{size-most}

module _ (n stage left last above : ℕ) (ns held : List ℕ) (h : length ns ≤ 25) where
  abbrev front : List ℕ
  front = n ∷ stage ∷ left ∷ last ∷ above ∷ length ns ∷ length held ∷ []

  abbrev w : List ℕ
  w = n ∷ body_as stage left last above ns held

  parts : w ≡ front ++ (padded 25 ns ++ padded 24 held)
  unfolding body_as
  parts = refl

  pub numbers-back : numbers_in w ≡ padded 25 ns
  numbers-back =
      ext_get_or 0 (numbers_in w) (padded 25 ns) (numbers-long w ∙ sym (padded-long 25 ns h)) (λ i g.
      let k : i < 25 = omega (arith, numbers-long w) in
      number_at w i k ∙ ap (λ (x : List ℕ). get_or x (7 + i) 0) parts ∙ get_or-append-add front (padded 25 ns ++ padded 24 held) i 0
      ∙ get_or-append (padded 25 ns) (padded 24 held) 0 i (omega (arith, padded-long 25 ns h)))

  module _ (l : length held ≤ 24) (o : Octets held) where
    octet : (xs : List ℕ) (k i : ℕ) → Octets xs → get_or (xs ++ replicate k 0) i 0 < 256
    octet [] k i q = rw (zeros k i) (omega arith)
    octet (x ∷ xs) k zero q = q zero
    octet (x ∷ xs) k (suc i) q = octet xs k i (λ j. q (suc j))

    held_back : held_in w ≡ padded 24 held
    held_back =
        let f : length (front ++ padded 25 ns) ≡ 32 = length-append front (padded 25 ns) ∙ ap (λ (x : ℕ). 7 + x) (padded-long 25 ns h) in
        ext_get_or 0 (held_in w) (padded 24 held) (held-long w ∙ sym (padded-long 24 held l)) (λ i g.
        let k : i < 24 = omega (arith, held-long w) in
        let e : get_or w (32 + i) 0 ≡ get_or (padded 24 held) i 0 =
        ap (λ (x : List ℕ). get_or x (32 + i) 0) (parts ∙ sym (append_assoc front (padded 25 ns) (padded 24 held))) ∙ ap (λ (x : ℕ). get_or ((front ++ padded 25 ns) ++ padded 24 held) (x + i) 0) (sym f) ∙ get_or-append-add (front ++ padded 25 ns) (padded 24 held) i 0 in
        byte_at w i k ∙ ap (λ (x : ℕ). x % 256) e ∙ mod-eq_of_lt (octet held (24 - length held) i o))

    pub state-back : state_of w ≡ state_as stage left last above ns held
    unfolding body_as
    state-back =
        ap₂ (state_as stage left last above)
        (ap (take (length ns)) numbers-back ∙ take_at ns (replicate (25 - length ns) 0) (length ns) refl)
        (ap (take (length held)) held_back ∙ take_at held (replicate (24 - length held) 0) (length held) refl)

-- ---- states

held-few : (p : Profile) (st : State) → Kept p st → length (held_at st) ≤ 24
held-few p (Numbers ns held) h =
    let r : Ready p (Numbers ns held) = ready-fit p (Numbers ns held) h.fits in
    omega (arith, ends-short held (h.bytes 0) r.0.1)
held-few p (Records ns n last above held) h =
    let r : Ready p (Records ns n last above held) = ready-fit p (Records ns n last above held) h.fits in
    omega (arith, r.0, size-most p)
held-few p (Counting ns n) h = zero-le
held-few p (Refused n) h = zero-le
held-few p (Accepted ns) h = zero-le

pub words_back : (p : Profile) (st : State) → Kept p st → state_of (words_of p st) ≡ st
unfolding body_of state_as
words_back p (Numbers ns held) h = state-back (number_of p) 0 0 0 0 ns held h.few (held-few p (Numbers ns held) h) h.bytes
words_back p (Records ns n last above held) h = state-back (number_of p) 1 n last above ns held h.few (held-few p (Records ns n last above held) h) h.bytes
words_back p (Counting ns n) h = state-back (number_of p) 2 n 0 0 ns [] h.few zero-le octets-none
words_back p (Refused n) h = state-back (number_of p) 3 n 0 0 [] [] zero-le zero-le octets-none
words_back p (Accepted ns) h = state-back (number_of p) 4 0 0 0 ns [] h.few zero-le octets-none

pub profile-back : (p : Profile) (st : State) → profile_in (words_of p st) ≡ p
profile-back One st = refl
profile-back Two st = refl

-- ---- the words pass

passes : (p : Profile) (st : State) → Kept p st → stand_fit p (stand_at (words_of p st)) ≡ true
unfolding stand_fit body_of body_as
passes p st h =
    let f : fit p (state_of (words_of p st)) ≡ true = ap (fit p) (words_back p st h) ∙ h.fits in
    let a = places p st h in
    rw (le-leb (get_or (words_of p st) 1 0) 4 a.0, le-leb (get_or (words_of p st) 5 0) 25 a.1.0, le-leb (get_or (words_of p st) 6 0) 24 a.1.1) f
  where
    places : (p : Profile) (st : State) → Kept p st → (get_or (words_of p st) 1 0 ≤ 4) × ((get_or (words_of p st) 5 0 ≤ 25) × (get_or (words_of p st) 6 0 ≤ 24))
    places p (Numbers ns held) h = (omega arith, (h.few, held-few p (Numbers ns held) h))
    places p (Records ns n last above held) h = (omega arith, (h.few, held-few p (Records ns n last above held) h))
    places p (Counting ns n) h = (omega arith, (h.few, zero-le))
    places p (Refused n) h = (omega arith, (zero-le, zero-le))
    places p (Accepted ns) h = (omega arith, (h.few, zero-le))

pub words-pass : (p : Profile) (st : State) → Kept p st → consistent (words_of p st) ≡ true
words-pass p st h = consistent-known (words_of p st) p refl ∙ passes p st h

-- ---- and words that pass say a state that is kept

pub consistent-kept : (w : List ℕ) → consistent w ≡ true → Kept (profile_in w) (state_of w)
unfolding state_as
consistent-kept w e = record { fits = (passed w e).fits; few = few (eqb (get_or w 1 0) 0) (eqb (get_or w 1 0) 1) (eqb (get_or w 1 0) 2) (eqb (get_or w 1 0) 3); bytes = bytes (eqb (get_or w 1 0) 0) (eqb (get_or w 1 0) 1) (eqb (get_or w 1 0) 2) (eqb (get_or w 1 0) 3) }
  where
    ns : List ℕ
    ns = take (get_or w 5 0) (numbers_in w)

    held : List ℕ
    held = take (get_or w 6 0) (held_in w)

    taken : (k : ℕ) (xs : List ℕ) → length (take k xs) ≤ length xs
    taken zero xs = zero-le
    taken (suc k) [] = zero-le
    taken (suc k) (x ∷ xs) = omega (arith, taken k xs)

    short : length ns ≤ 25
    short = omega (arith, taken (get_or w 5 0) (numbers_in w), numbers-long w)

    octets-taken : (k : ℕ) (xs : List ℕ) → Octets xs → Octets (take k xs)
    octets-taken zero xs q i = omega arith
    octets-taken (suc k) [] q i = omega arith
    octets-taken (suc k) (x ∷ xs) q zero = q zero
    octets-taken (suc k) (x ∷ xs) q (suc i) = octets-taken k xs (λ j. q (suc j)) i

    low : Octets (held_in w)
    low i =
        split 24 i
        (λ g. let e : get_or (held_in w) i 0 ≡ 0 = get_or-eq_default (held_in w) 0 {n = i} (omega (arith, held-long w)) in rw e (omega arith))
        (λ g. rw (byte_at w i g) (omega (arith, mod-lt (get_or w (32 + i) 0) {m = 256} (omega arith))))

    few : (a b c d : Bool) → length (numbers_at (pick a (Numbers ns held) (pick b (Records ns (get_or w 2 0) (get_or w 3 0) (get_or w 4 0) held) (pick c (Counting ns (get_or w 2 0)) (pick d (Refused (get_or w 2 0)) (Accepted ns)))))) ≤ 25
    few true b c d = short
    few false true c d = short
    few false false true d = short
    few false false false true = zero-le
    few false false false false = short

    bytes : (a b c d : Bool) → Octets (held_at (pick a (Numbers ns held) (pick b (Records ns (get_or w 2 0) (get_or w 3 0) (get_or w 4 0) held) (pick c (Counting ns (get_or w 2 0)) (pick d (Refused (get_or w 2 0)) (Accepted ns))))))
    bytes true b c d = octets-taken (get_or w 6 0) (held_in w) low
    bytes false true c d = octets-taken (get_or w 6 0) (held_in w) low
    bytes false false true d = octets-none
    bytes false false false true = octets-none
    bytes false false false false = octets-none
