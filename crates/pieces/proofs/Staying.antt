-- What passes stays so: from a state that is fit every byte leads to one that is.
-- Assumes nothing.
use Prim.Native.Nat.{ℕ, zero, suc, ◌+◌, ◌-◌, ◌*◌, ◌≤◌, ◌<◌, zero-le}
use mathlib.Core.Path.{◌≡◌, refl, sym, ap, subst, ◌∙◌}
use mathlib.Core.Logic.{⊎_elim}
use mathlib.Core.Bool.{Bool, true, false}
use mathlib.Core.List.{List, [], ◌∷◌, ◌++◌}
use native.Mathlib.Omega.{arith}
use borrow.Author.Tests.{le-leb, leb-true, leb-false, ltb-true, ltb-false}
use lib.Dec.{leb, ltb}
use lib.ListN.{length, length-append}
use lib.Seq.{take_all}
use Rattle.std.specs.Prelude.{Result, Ok, Err}
use Rattle.wire.specs.Bytes.{pick, Octets}
use Rattle.wire.specs.Fields.{formed}
use Rattle.wire.specs.Numbers.{limit, all_small, read_number}
use Rattle.wire.specs.Exactly.{OneOf}
use Rattle.wire.specs.declared.Number.{Number}
use Rattle.wire.specs.Refusals.{number_of, refusal_number}
use Rattle.wire.specs.declared.Refusal.{Refusal}
use Rattle.wire.specs.declared.Refusal.TheVariants.{LongerForm}
use Rattle.wire.proofs.Reading.{number-ends}
use Rattle.wire.proofs.Accepted.{accepted-small}
use Rattle.wire.proofs.Small.{all_small_lem}
use Rattle.entries.specs.Profiles.{record_size}
use Rattle.entries.specs.Entries.{group_of, entry_of, follows, records_good}
use Rattle.entries.specs.declared.Profile.{Profile}
use Rattle.entries.specs.declared.Profile.TheVariants.{One, Two}
use Rattle.entries.specs.declared.Entry.{Entry}
use Rattle.entries.proofs.Verdicts.{Verdict, short, wrong, right, verdict}
use Rattle.report.specs.Header.{heeding, judge, judge_field, fault_after, wanted_of, count_of}
use Rattle.report.proofs.Following.{wanted-most, wanted-last, fault-last}
use Rattle.report.proofs.Heeding.{number-some, number-refused}
use Rattle.report.proofs.Places.{place-judged}
use Rattle.uncut.specs.State.{State, Numbers, Records, Counting, Refused, Accepted, start, at_end}
use Rattle.uncut.specs.Step.{group_in, above_in, after_bad, refused, with_number, field_grown, record_judged, record_grown, step, after}
use Rattle.pieces.specs.Fitness.{can_stand, largest_group, fit}
use Rattle.pieces.specs.Exactly.{NumbersObey, HeaderObeys, RowsObey}
use Rattle.pieces.specs.Kept.{Kept}
use Rattle.pieces.proofs.Passing.{fit-fact, fact-fit}
use Rattle.uncut.proofs.Rows.{size-pos}

no_true : {A : Type 0} → false ≡ true → A
no_true e = let z : ◌≡◌ {A = ℕ} 0 1 = cc in absurd (omega arith)

-- ---- numbers and bytes, one more

small-last : (ns : List ℕ) (v : ℕ) → all_small ns ≡ true → v ≤ limit → all_small (ns ++ (v ∷ [])) ≡ true
unfolding all_small
small-last [] v e h = rw (le-leb v limit h)
small-last (n ∷ ns) v e h = go (leb n limit) (small-last ns v) e
  where
    go : (b : Bool) → (all_small ns ≡ true → v ≤ limit → all_small (ns ++ (v ∷ [])) ≡ true) → pick b (all_small ns) false ≡ true → pick b (all_small (ns ++ (v ∷ []))) false ≡ true
    go true more e = more e h
    go false more e = e

pub octets-last : (held : List ℕ) (b : ℕ) → Octets held → b < 256 → Octets (held ++ (b ∷ []))
octets-last [] b o h zero = h
octets-last [] b o h (suc i) = omega arith
octets-last (x ∷ held) b o h zero = o zero
octets-last (x ∷ held) b o h (suc i) = octets-last held b (λ j. o (suc j)) h i

pub octets-none : Octets []
octets-none i = omega arith

module _ (p : Profile) where
  -- the refusal that a number brings can stand
  judged-stands : (ns : List ℕ) (v : ℕ) (c : Bool) (refusal : Refusal) → judge_field p ns v c ≡ Err refusal → can_stand (number_of refusal) ≡ true
  judged-stands ns v false refusal e = let q : LongerForm ≡ refusal = cc in subst (λ (r : Refusal). can_stand (number_of r) ≡ true) q refl
  judged-stands ns v true refusal e = go (number_of refusal) (number-some refusal) (subst (λ (n : ℕ). OneOf n (0 ∷ 10 ∷ 11 ∷ [])) (ap refusal_number e) (place-judged p ns v).others)
    where
      go : (j : ℕ) → (j ≡ 0 → ⊥) → OneOf j (0 ∷ 10 ∷ 11 ∷ []) → can_stand j ≡ true
      go j z o = ⊎_elim (λ e. absurd (z e)) (⊎_elim (λ e. rw e refl) (⊎_elim (λ e. rw e refl) (λ e. absurd e))) o

  -- ---- the header

  judged-good : (ns : List ℕ) (v : ℕ) (c : Bool) → judge_field p ns v c ≡ Ok tt → judge p ns v ≡ Ok tt
  judged-good ns v true e = e
  judged-good ns v false e = absurd (cc)

  kept-number : (ns : List ℕ) → NumbersObey p ns → length ns ≤ wanted_of p ns → Kept p (with_number p ns)
  unfolding with_number
  kept-number ns f l = go (leb (wanted_of p ns) (length ns)) refl
    where
      go : (b : Bool) → leb (wanted_of p ns) (length ns) ≡ b → Kept p (pick b (Records ns (count_of ns) 0 0 []) (Numbers ns []))
      go true e = record {
        fits = fact-fit p (Records ns (count_of ns) 0 0 []) (
          (f, omega (arith, leb-true (wanted_of p ns) (length ns) e)),
          record { some = omega arith; before = λ q. (refl, refl); behind = λ q. absurd (omega arith); unfinished = size-pos p; over = λ q. refl },
        );
        few = omega (arith, wanted-most p ns);
        bytes = octets-none;
      }
      go false e = record { fits = fact-fit p (Numbers ns []) (f, (leb-false (wanted_of p ns) (length ns) e, sym (number-ends [] 0 zero-le))); few = omega (arith, wanted-most p ns); bytes = octets-none }

  kept_field : (ns held : List ℕ) → NumbersObey p ns → length ns < wanted_of p ns → Octets held → Kept p (field_grown p ns held)
  unfolding field_grown fit
  kept_field ns held f w o = go (read_number held 0) refl
    where
      judged : (v : ℕ) (c : Bool) → v ≤ limit → (x : Result Unit Refusal) → judge_field p ns v c ≡ x → Kept p (heeding x refused (with_number p (ns ++ (v ∷ []))))
      judged v c h (Ok u) e =
          let j : judge p ns v ≡ Ok tt = judged-good ns v c e in
          let l : length (ns ++ (v ∷ [])) ≡ length ns + 1 = length-append ns (v ∷ []) in
          kept-number (ns ++ (v ∷ [])) ((all_small_lem (ns ++ (v ∷ []))).0 (small-last ns v ((all_small_lem ns).1 f.0) h), fault-last p [] ns v f.1 j) (omega (arith, wanted-last p ns v))
      judged v c h (Err refusal) e = record { fits = judged-stands ns v c refusal e; few = zero-le; bytes = octets-none }

      go : (q : Result Number Refusal) → read_number held 0 ≡ q
          → Kept p (formed q (Numbers ns held) (λ v next b. heeding (judge_field p ns v b) refused (with_number p (ns ++ (v ∷ [])))))
      go (Ok k) e = judged k.value k.shortest (accepted-small held 0 k.value k.next o e) (judge_field p ns k.value k.shortest) refl
      go (Err refusal) e = record { fits = fact-fit p (Numbers ns held) (f, (w, e ∙ ap Err (number-refused held 0 e))); few = omega (arith, wanted-most p ns); bytes = o }

  -- ---- the records

  -- the place that a good record leaves
  place-left : (last above : ℕ) (r : List ℕ) → length r ≡ record_size p → records_good p 1 last above r ≡ true
      → (group_in (entry_of p r) ≤ largest_group p) × ((0 < above_in (entry_of p r)) × (above_in (entry_of p r) ≤ limit + 1))
  unfolding records_good
  place-left last above r l e = go (entry_of p r) (verdict p r) (rw (take_all (record_size p) r (omega arith)) at e)
    where
      grouped : (q : Profile) → group_of q r ≤ limit → group_of q r ≤ largest_group q
      grouped One h = zero-le
      grouped Two h = h

      go : (x : Result Entry Refusal) → Verdict p r x → follows last above x (λ group next. true) ≡ true → (group_in x ≤ largest_group p) × ((0 < above_in x) × (above_in x ≤ limit + 1))
      go x (short h) e = no_true e
      go x (wrong h n) e = no_true e
      go x (right h y) e = (grouped p y.group, (omega arith, omega (arith, y.object)))

  fewer : (q : Profile) (n m : ℕ) → n ≤ m → record_size q * n ≤ record_size q * m
  fewer One n m h = omega arith
  fewer Two n m h = omega arith

  module _ (ns : List ℕ) (n last above : ℕ) (held : List ℕ) (f : HeaderObeys p ns) (few : length ns ≤ 25) (o : Octets held) (l : length held ≤ record_size p) where
    kept_record : (carried : ℕ) → RowsObey p (count_of ns) (suc n) last above carried → Kept p (record_grown p ns n last above held)
    unfolding record_grown record_judged
    kept_record carried h = go (ltb (length held) (record_size p)) refl (records_good p 1 last above held) refl
      where
        go : (c : Bool) → ltb (length held) (record_size p) ≡ c → (g : Bool) → records_good p 1 last above held ≡ g
            → Kept p (pick c (Records ns (suc n) last above held) (pick g (Records ns n (group_in (entry_of p held)) (above_in (entry_of p held)) []) (after_bad p ns n)))
        go true e g q = record {
          fits = fact-fit p (Records ns (suc n) last above held) (f, record { some = h.some; before = h.before; behind = h.behind; unfinished = ltb-true (length held) (record_size p) e; over = λ z. absurd (omega arith) });
          few = few;
          bytes = o;
        }
        go false e true q =
            let k = place-left last above held (omega (arith, ltb-false (length held) (record_size p) e)) q in
            record {
              fits = fact-fit p (Records ns n (group_in (entry_of p held)) (above_in (entry_of p held)) []) (f, record { some = omega (arith, h.some); before = λ z. absurd (omega (arith, h.some)); behind = λ z. k; unfinished = size-pos p; over = λ z. refl });
              few = few;
              bytes = octets-none;
            }
        go false e false q = record { fits = fact-fit p (after_bad p ns n) (f, (omega (arith, h.some), fewer p n (count_of ns - 1) (omega (arith, h.some)))); few = few; bytes = octets-none }

  -- ---- one byte more, and the end

  pub kept_step : (st : State) (b : ℕ) → Kept p st → b < 256 → Kept p (step p st b)
  unfolding step fit
  kept_step (Numbers ns held) b h o =
      let f = fit-fact p (Numbers ns held) h.fits in
      kept_field ns (held ++ (b ∷ [])) f.0 f.1.0 (octets-last held b h.bytes o)
  kept_step (Records ns zero last above held) b h o = record { fits = refl; few = zero-le; bytes = octets-none }
  kept_step (Records ns (suc n) last above held) b h o =
      let f = fit-fact p (Records ns (suc n) last above held) h.fits in
      let l : length (held ++ (b ∷ [])) ≡ length held + 1 = length-append held (b ∷ []) in
      kept_record ns n last above (held ++ (b ∷ [])) f.0 h.few (octets-last held b h.bytes o) (omega (arith, f.1.unfinished)) (length held) f.1
  kept_step (Counting ns zero) b h o = h
  kept_step (Counting ns (suc n)) b h o =
      let f = fit-fact p (Counting ns (suc n)) h.fits in
      record { fits = fact-fit p (Counting ns n) (f.0, (f.1.0, omega (arith, f.1.1))); few = h.few; bytes = octets-none }
  kept_step (Refused n) b h o = h
  kept_step (Accepted ns) b h o = h

  pub kept-after : (st : State) (s : List ℕ) → Kept p st → Octets s → Kept p (after p st s)
  unfolding after
  kept-after st [] h o = h
  kept-after st (b ∷ s) h o = kept-after (step p st b) s (kept_step st b h (o zero)) (λ i. o (suc i))

  pub kept-end : (st : State) → Kept p st → Kept p (at_end st)
  unfolding at_end fit
  kept-end (Numbers ns held) h = record { fits = refl; few = zero-le; bytes = octets-none }
  kept-end (Records ns zero last above held) h = record { fits = fact-fit p (Accepted ns) (fit-fact p (Records ns zero last above held) h.fits).0; few = h.few; bytes = octets-none }
  kept-end (Records ns (suc n) last above held) h = record { fits = refl; few = zero-le; bytes = octets-none }
  kept-end (Counting ns zero) h = record { fits = refl; few = zero-le; bytes = octets-none }
  kept-end (Counting ns (suc n)) h = record { fits = refl; few = zero-le; bytes = octets-none }
  kept-end (Refused n) h = h
  kept-end (Accepted ns) h = h

  pub kept-start : Kept p start
  unfolding all_small fault_after
  kept-start = record { fits = fact-fit p start (((all_small_lem []).0 refl, refl), (omega arith, sym (number-ends [] 0 zero-le))); few = zero-le; bytes = octets-none }
