-- Adding reports one after the other comes to the totals of their list: what one report brings is what the sums grow by, and a sum
-- that stops at 2^64 - 1 stays there, whatever comes.
-- Assumes nothing.
use Prim.Native.Nat.{ℕ, zero, suc, ◌+◌, ◌-◌, ◌≤◌, ◌<◌}
use mathlib.Core.Path.{◌≡◌, refl, sym, ap, ◌∙◌}
use mathlib.Core.Bool.{Bool, true, false}
use mathlib.Core.List.{List, [], ◌∷◌, ◌++◌, append_assoc, append-nil}
use native.Mathlib.Nat.{lt_of_not-le}
use native.Mathlib.Decide.{dec_le}
use native.Mathlib.Omega.{arith}
use borrow.Author.Tests.{le-leb, lt-leb, eq-eqb, eqb-true}
use lib.Dec.{eqb, leb}
use lib.ListN.{length, get_or}
use Rattle.wire.specs.Bytes.{pick}
use Rattle.entries.specs.declared.Profile.TheVariants.{One}
use Rattle.report.specs.Reader.{read_report, entries_of}
use Rattle.totals.specs.declared.Brought.{Brought}
use Rattle.totals.specs.Totals.{longest, too_long, number_of, accepted, one, how_many, summed, status_count, places, part_in, sum_at, most, kept, mark, listed, totals_of}
use Rattle.totals.specs.Adding.{refused_brings, accepted_brings, brings, share, sum_with, mark_with, with, added}
use Rattle.totals.specs.Files.{start}
use Rattle.totals.specs.Sums.{added_all, AddsUp}
use Rattle.totals.proofs.Listed.{listed_same, get_or-listed}

-- ---- sums over a list with one report more

module _ (r : List ℕ) where
  many_more : (n : ℕ) (rs : List (List ℕ)) → how_many n (rs ++ (r ∷ [])) ≡ how_many n rs + one n (number_of r)
  unfolding how_many
  many_more n [] = omega arith
  many_more n (x ∷ rs) = omega (arith, many_more n rs)

  summed-more : (f : List ℕ → ℕ) (rs : List (List ℕ)) → summed f (accepted (rs ++ (r ∷ []))) ≡ summed f (accepted rs) + summed f (accepted (r ∷ []))
  unfolding accepted summed
  summed-more f [] = omega arith
  summed-more f (x ∷ rs) = go (eqb (number_of x) 0) (summed-more f rs)
    where
      go : (b : Bool) → summed f (accepted (rs ++ (r ∷ []))) ≡ summed f (accepted rs) + summed f (accepted (r ∷ []))
          → summed f (pick b (x ∷ accepted (rs ++ (r ∷ []))) (accepted (rs ++ (r ∷ [])))) ≡ summed f (pick b (x ∷ accepted rs) (accepted rs)) + summed f (accepted (r ∷ []))
      go true e = omega (arith, e)
      go false e = e

-- ---- what one report brings

four : (f : ℕ → ℕ) (k : ℕ) → k < 4 → get_or (f 0 ∷ f 1 ∷ f 2 ∷ f 3 ∷ []) k 0 ≡ f k
four f zero h = refl
four f (suc zero) h = refl
four f (suc (suc zero)) h = refl
four f (suc (suc (suc zero))) h = refl
four f (suc (suc (suc (suc k)))) h = absurd (omega arith)

module _ (place : ℕ) where
  -- of a refused report nothing but the number counts
  share-refused : (n : ℕ) → too_long < place → place < places → share (refused_brings n) place ≡ 0
  unfolding share refused_brings
  share-refused n h l =
      rw (lt-leb place too_long h, four (λ i. 0) (place - 25) (omega arith))
      (zeros (eqb place 21) (zeros (eqb place 22) (zeros (eqb place 23) (zeros (eqb place 24) refl))))
    where
      zeros : (b : Bool) {x : ℕ} → x ≡ 0 → pick b 0 x ≡ 0
      zeros true e = refl
      zeros false e = e

  share-accepted : (r : List ℕ) → too_long < place → place < places → share (accepted_brings (read_report One r).header (entries_of One r)) place ≡ part_in place r
  unfolding share accepted_brings part_in
  share-accepted r h l = rw (lt-leb place too_long h, four (λ k. status_count k (entries_of One r)) (place - 25) (omega arith))

  pub share-number : (b : Brought) → place ≤ too_long → share b place ≡ one place b.number
  unfolding share
  share-number b h = rw (le-leb place too_long h)

module _ (r : List ℕ) where
  pub number-long : longest < length r → number_of r ≡ too_long
  unfolding number_of
  number-long h = rw (lt-leb (length r) longest h)

  pub number_read : length r ≤ longest → number_of r ≡ (read_report One r).refusal
  unfolding number_of
  number_read h = rw (le-leb (length r) longest h)

  pub brings-long : longest < length r → brings r ≡ refused_brings too_long
  unfolding brings
  brings-long h = rw (lt-leb (length r) longest h)

  brings-refused : length r ≤ longest → eqb (read_report One r).refusal 0 ≡ false → brings r ≡ refused_brings (read_report One r).refusal
  unfolding brings
  brings-refused h e = rw (le-leb (length r) longest h, e)

  brings-accepted : length r ≤ longest → eqb (read_report One r).refusal 0 ≡ true → brings r ≡ accepted_brings (read_report One r).header (entries_of One r)
  unfolding brings
  brings-accepted h e = rw (le-leb (length r) longest h, e)

  accepted-none : (f : List ℕ → ℕ) → eqb (number_of r) 0 ≡ false → summed f (accepted (r ∷ [])) ≡ 0
  unfolding accepted summed
  accepted-none f e = rw e

  accepted-one : (f : List ℕ → ℕ) → eqb (number_of r) 0 ≡ true → summed f (accepted (r ∷ [])) ≡ f r
  unfolding accepted summed
  accepted-one f e = rw e (omega arith)

  -- either it is refused and brings its number alone, or it is accepted
  pub data Read : Type 0 where
    refused : eqb (number_of r) 0 ≡ false → brings r ≡ refused_brings (number_of r) → Read
    taken : number_of r ≡ 0 → brings r ≡ accepted_brings (read_report One r).header (entries_of One r) → Read

  reads : Read
  reads = elim (dec_le (length r) longest) [ yes h ↦ go h (eqb (read_report One r).refusal 0) refl | no h ↦ long (lt_of_not-le h) ]
    where
      long : longest < length r → Read
      long h = refused (rw (number-long h)) (brings-long h ∙ ap refused_brings (sym (number-long h)))

      go : length r ≤ longest → (b : Bool) → eqb (read_report One r).refusal 0 ≡ b → Read
      go h true e = taken (number_read h ∙ eqb-true (read_report One r).refusal 0 e) (brings-accepted h e)
      go h false e = refused (rw (number_read h) e) (brings-refused h e ∙ ap refused_brings (sym (number_read h)))

  number_more : Read → (brings r).number ≡ number_of r
  unfolding refused_brings accepted_brings
  number_more (refused e b) = ap (λ (x : Brought). x.number) b
  number_more (taken e b) = ap (λ (x : Brought). x.number) b ∙ sym e

  pub brings-number : (brings r).number ≡ number_of r
  brings-number = number_more reads

  module _ (place : ℕ) (l : place < places) where
    part-more : Read → too_long < place → summed (part_in place) (accepted (r ∷ [])) ≡ share (brings r) place
    part-more (refused e b) h = accepted-none (part_in place) e ∙ sym (rw b (share-refused place (number_of r) h l))
    part-more (taken e b) h = accepted-one (part_in place) (eq-eqb (number_of r) 0 e) ∙ sym (rw b (share-accepted place r h l))

    pub sum_more : (rs : List (List ℕ)) → sum_at place (rs ++ (r ∷ [])) ≡ sum_at place rs + share (brings r) place
    unfolding sum_at
    sum_more rs =
        elim (dec_le place too_long) [
          | yes h ↦ rw (le-leb place too_long h, share-number place (brings r) h, brings-number) (many_more r place rs)
          | no h ↦ let g = lt_of_not-le h in rw (lt-leb place too_long g) (summed-more r (part_in place) rs ∙ ap (λ (n : ℕ). summed (part_in place) (accepted rs) + n) (part-more reads g))
        ]

-- ---- where a sum stops

pub kept_more : (sum n : ℕ) → kept (kept sum + n) ≡ kept (sum + n)
kept_more sum n = omega arith

pub mark-more : (sum n : ℕ) → pick (leb (kept sum + n) most) (mark sum) 1 ≡ mark (sum + n)
mark-more sum n =
    elim (dec_le (sum + n) most) [
      | yes h ↦ let a : kept sum + n ≤ most = omega arith in let b : sum ≤ most = omega arith in rw (le-leb (kept sum + n) most a, le-leb sum most b, le-leb (sum + n) most h)
      | no h ↦
          let g : most < sum + n = lt_of_not-le h in
          elim (dec_le (kept sum + n) most) [
            | yes a ↦ let b : most < sum = omega arith in rw (le-leb (kept sum + n) most a, lt-leb sum most b, lt-leb (sum + n) most g)
            | no a ↦ rw (lt-leb (kept sum + n) most (lt_of_not-le a), lt-leb (sum + n) most g)
          ]
    ]

-- ---- the totals

pub added_more : (rs : List (List ℕ)) (r : List ℕ) → added (totals_of rs) r ≡ totals_of (rs ++ (r ∷ []))
unfolding with totals_of
added_more rs r = rw (listed_same places (sum_with (totals_of rs) (brings r)) (λ p. kept (sum_at p (rs ++ (r ∷ [])))) sums, listed_same places (mark_with (totals_of rs) (brings r)) (λ p. mark (sum_at p (rs ++ (r ∷ [])))) marks)
  where
    sums : (i : ℕ) → i < places → sum_with (totals_of rs) (brings r) i ≡ kept (sum_at i (rs ++ (r ∷ [])))
    sums i h = rw (get_or-listed places (λ p. kept (sum_at p rs)) i h, sum_more r i h rs) (kept_more (sum_at i rs) (share (brings r) i))

    marks : (i : ℕ) → i < places → mark_with (totals_of rs) (brings r) i ≡ mark (sum_at i (rs ++ (r ∷ [])))
    marks i h = rw (get_or-listed places (λ p. kept (sum_at p rs)) i h, get_or-listed places (λ p. mark (sum_at p rs)) i h, sum_more r i h rs) (mark-more (sum_at i rs) (share (brings r) i))

adds_on : (rs done : List (List ℕ)) → added_all (totals_of done) rs ≡ totals_of (done ++ rs)
adds_on [] done = rw append-nil
adds_on (r ∷ rs) done = rw (added_more done r) (adds_on rs (done ++ (r ∷ [])) ∙ rw append_assoc)

start-totals : start.totals ≡ totals_of []
unfolding start totals_of listed sum_at how_many summed accepted
start-totals = refl

pub adds-up : AddsUp
adds-up rs = rw start-totals (adds_on rs [])
