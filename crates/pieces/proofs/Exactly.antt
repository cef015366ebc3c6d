-- The rows of the refusal table: from how a refusal comes to stand, and from what passes.
-- Assumes nothing.
use Prim.Native.Nat.{ℕ, zero, suc, ◌/◌, ◌≤◌, ◌<◌}
use mathlib.Core.Path.{◌≡◌, refl, sym, ap, ◌∙◌}
use mathlib.Core.Logic.{◌↔◌, ◌⊎◌, inl, inr, ⊎_elim}
use mathlib.Core.Bool.{Bool, true, false}
use mathlib.Core.List.{List, [], ◌∷◌}
use native.Mathlib.Omega.{arith}
use borrow.Author.Tests.{eqb-true, eqb-false, le-leb, lt-leb}
use lib.Dec.{eqb}
use lib.ListN.{length}
use Rattle.wire.specs.Bytes.{pick}
use Rattle.wire.specs.Refusals.{refusal_number}
use Rattle.wire.specs.Exactly.{OneOf}
use Rattle.wire.proofs.Lengths.{split}
use Rattle.entries.specs.Profiles.{record_size, Other}
use Rattle.entries.specs.declared.Profile.{Profile}
use Rattle.entries.specs.declared.Profile.TheVariants.{One, Two}
use Rattle.report.specs.Header.{judge_field}
use Rattle.report.proofs.Places.{place-judged}
use Rattle.uncut.specs.State.{State, Numbers, Records, Counting, Refused, Accepted, standing, report_at, at_end}
use Rattle.uncut.specs.Step.{after}
use Rattle.pieces.specs.Record.{profile_in, state_of}
use Rattle.pieces.specs.Fitness.{fit, consistent}
use Rattle.uncut.proofs.Cuts.{closed_after}
use Rattle.uncut.proofs.All.{stands-at-the-end, stands-closed}
use Rattle.pieces.specs.Calls.{unless_refused, refused_report, open_refusal, take_refusal, taken_of, state_after, given_of, answer_of, refused_as, take_answer, end_refusal, end_answer}
use Rattle.pieces.specs.Exactly.{Consistent, OpenRows, Faulty, TooMany, AllCame, TakeRows, Missing, EndRows, Exactly}
use Rattle.pieces.proofs.Coming.{came, stood, faulty, too_many}
use Rattle.pieces.proofs.Passing.{fit-fact, consistent-exactly}
use Rattle.pieces.proofs.Staying.{kept-end}
use Rattle.pieces.proofs.Back.{consistent-kept}

no_true : {A : Type 0} → false ≡ true → A
no_true e = let z : ◌≡◌ {A = ℕ} 0 1 = cc in absurd (omega arith)

-- ---- the refusals that a state has

record Inside (x : State) : Type 0 where
  ns : List ℕ
  is : x ≡ Counting ns 0

refused-is : (x : State) (n : ℕ) → (n ≡ 0 → ⊥) → standing x ≡ n → (x ≡ Refused n) ⊎ ((n ≡ 12) × Inside x)
refused-is (Numbers ns held) n z e = absurd (z (sym e))
refused-is (Records ns k last above held) n z e = absurd (z (sym e))
refused-is (Counting ns zero) n z e = inr (sym e, record { ns = ns; is = refl })
refused-is (Counting ns (suc k)) n z e = absurd (z (sym e))
refused-is (Refused k) n z e = inl (ap Refused e)
refused-is (Accepted ns) n z e = absurd (z (sym e))

-- what passes has one of these
standing-one : (p : Profile) (x : State) → fit p x ≡ true → OneOf (standing x) (0 ∷ 2 ∷ 10 ∷ 11 ∷ 12 ∷ 13 ∷ 15 ∷ [])
standing-one p (Numbers ns held) h = inl refl
standing-one p (Records ns k last above held) h = inl refl
standing-one p (Counting ns zero) h = inr (inr (inr (inr (inl refl))))
standing-one p (Counting ns (suc k)) h = inl refl
standing-one p (Refused k) h = inr (fit-fact p (Refused k) h)
standing-one p (Accepted ns) h = inl refl

-- what a field can bring
judge-one : (p : Profile) (ns : List ℕ) (v : ℕ) (c : Bool) → OneOf (refusal_number (judge_field p ns v c)) (0 ∷ 10 ∷ 11 ∷ 15 ∷ [])
judge-one p ns v false = inr (inr (inr (inl refl)))
judge-one p ns v true = ⊎_elim (λ e. inl e) (⊎_elim (λ e. inr (inl e)) (⊎_elim (λ e. inr (inr (inl e))) (λ e. absurd e))) (place-judged p ns v).others

module _ (p : Profile) (st : State) (s : List ℕ) where
  -- a number that no field brings
  not-brought : (n : ℕ) → (n ≡ 0 → ⊥) → (n ≡ 10 → ⊥) → (n ≡ 11 → ⊥) → (n ≡ 15 → ⊥) → Faulty p st s n → ⊥
  not-brought n a b c d f =
      ⊎_elim (λ e. a (sym f.brings ∙ e)) (⊎_elim (λ e. b (sym f.brings ∙ e)) (⊎_elim (λ e. c (sym f.brings ∙ e)) (⊎_elim (λ e. d (sym f.brings ∙ e)) (λ e. e)))) (judge-one p f.ns f.v f.shortest)

  by_field : (n : ℕ) → (n ≡ 0 → ⊥) → (n ≡ 12 → ⊥) → (n ≡ 13 → ⊥) → standing (after p st s) ≡ n ↔ ((st ≡ Refused n) ⊎ Faulty p st s n)
  by_field n z a b = (
    λ e. ⊎_elim (λ r. ⊎_elim (λ k. inl k) (⊎_elim (λ k. inr k) (λ k. absurd (b k.1))) (came p st s n r)) (λ r. absurd (a r.0)) (refused-is (after p st s) n z e),
    λ h. ap standing (⊎_elim (λ k. stood p st s n k) (λ k. faulty p st s n z k) h),
  )

  by_end : standing (after p st s) ≡ 2 ↔ (st ≡ Refused 2)
  by_end = (
    λ e. ⊎_elim (λ r. ⊎_elim (λ k. k) (⊎_elim (λ k. absurd (not-brought 2 (λ q. omega arith) (λ q. omega arith) (λ q. omega arith) (λ q. omega arith) k)) (λ k. absurd (two-not k.1))) (came p st s 2 r)) (λ r. absurd (twelve-not r.0)) (refused-is (after p st s) 2 (λ q. omega arith) e),
    λ k. ap standing (stood p st s 2 k),
  )
    where
      two-not : ◌≡◌ {A = ℕ} 2 13 → ⊥
      two-not e = omega arith

      twelve-not : ◌≡◌ {A = ℕ} 2 12 → ⊥
      twelve-not e = omega arith

  by_count : standing (after p st s) ≡ 12 ↔ ((st ≡ Refused 12) ⊎ AllCame p st s)
  by_count = (
    λ e. ⊎_elim (λ r. ⊎_elim (λ k. inl k) (⊎_elim (λ k. absurd (not-brought 12 (λ q. omega arith) (λ q. omega arith) (λ q. omega arith) (λ q. omega arith) k)) (λ k. absurd (not-thirteen k.1))) (came p st s 12 r)) (λ r. inr (record { ns = r.1.ns; counted = r.1.is })) (refused-is (after p st s) 12 (λ q. omega arith) e),
    λ h. ⊎_elim (λ k. ap standing (stood p st s 12 k)) (λ k. ap standing k.counted) h,
  )
    where
      not-thirteen : ◌≡◌ {A = ℕ} 12 13 → ⊥
      not-thirteen e = omega arith

  by-behind : standing (after p st s) ≡ 13 ↔ ((st ≡ Refused 13) ⊎ TooMany p st s)
  by-behind = (
    λ e. ⊎_elim (λ r. ⊎_elim (λ k. inl k) (⊎_elim (λ k. absurd (not-brought 13 (λ q. omega arith) (λ q. omega arith) (λ q. omega arith) (λ q. omega arith) k)) (λ k. inr k.0)) (came p st s 13 r)) (λ r. absurd (not-twelve r.0)) (refused-is (after p st s) 13 (λ q. omega arith) e),
    λ h. ap standing (⊎_elim (λ k. stood p st s 13 k) (λ k. too_many p st s k) h),
  )
    where
      not-twelve : ◌≡◌ {A = ℕ} 13 12 → ⊥
      not-twelve e = omega arith

-- ---- a part

-- P holds besides what holds anyway
beside : {A B C : Type 0} → C → A ↔ B → A ↔ (C × B)
beside c i = (λ a. (c, i.0 a), λ h. i.1 h.1)

module _ (w part : List ℕ) (room : ℕ) where
  at_one : (Consistent w → ⊥) → TakeRows w part room 1
  at_one wrong = record {
    one = (λ e. wrong, λ e. refl);
    nine = (λ e. absurd (omega arith), λ h. absurd (wrong h.0));
    two = (λ e. absurd (omega arith), λ h. absurd (wrong h.0.0));
    ten = (λ e. absurd (omega arith), λ h. absurd (wrong h.0.0));
    eleven = (λ e. absurd (omega arith), λ h. absurd (wrong h.0.0));
    twelve = (λ e. absurd (omega arith), λ h. absurd (wrong h.0.0));
    thirteen = (λ e. absurd (omega arith), λ h. absurd (wrong h.0.0));
    fifteen = (λ e. absurd (omega arith), λ h. absurd (wrong h.0.0));
    others = inr (inl refl);
  }

  at-nine : Consistent w → room < record_size (profile_in w) → TakeRows w part room 9
  at-nine c l = record {
    one = (λ e. absurd (omega arith), λ h. absurd (h c));
    nine = (λ e. (c, l), λ h. refl);
    two = (λ e. absurd (omega arith), λ h. absurd (omega (arith, h.0.1)));
    ten = (λ e. absurd (omega arith), λ h. absurd (omega (arith, h.0.1)));
    eleven = (λ e. absurd (omega arith), λ h. absurd (omega (arith, h.0.1)));
    twelve = (λ e. absurd (omega arith), λ h. absurd (omega (arith, h.0.1)));
    thirteen = (λ e. absurd (omega arith), λ h. absurd (omega (arith, h.0.1)));
    fifteen = (λ e. absurd (omega arith), λ h. absurd (omega (arith, h.0.1)));
    others = inr (inr (inr (inl refl)));
  }

  at-served : Consistent w → record_size (profile_in w) ≤ room → OneOf (standing (state_after w part room)) (0 ∷ 2 ∷ 10 ∷ 11 ∷ 12 ∷ 13 ∷ 15 ∷ []) → TakeRows w part room (standing (state_after w part room))
  at-served c l o =
      let p : Profile = profile_in w in
      record {
        one = (λ e. absurd (none 1 o e (λ q. omega arith) (λ q. omega arith) (λ q. omega arith) (λ q. omega arith) (λ q. omega arith) (λ q. omega arith) (λ q. omega arith)), λ h. absurd (h c));
        nine = (λ e. absurd (none 9 o e (λ q. omega arith) (λ q. omega arith) (λ q. omega arith) (λ q. omega arith) (λ q. omega arith) (λ q. omega arith) (λ q. omega arith)), λ h. absurd (omega (arith, h.1)));
        two = beside (c, l) (by_end (profile_in w) (state_of w) (taken_of w part room));
        ten = beside (c, l) (by_field (profile_in w) (state_of w) (taken_of w part room) 10 (λ q. omega arith) (λ q. omega arith) (λ q. omega arith));
        eleven = beside (c, l) (by_field (profile_in w) (state_of w) (taken_of w part room) 11 (λ q. omega arith) (λ q. omega arith) (λ q. omega arith));
        twelve = beside (c, l) (by_count (profile_in w) (state_of w) (taken_of w part room));
        thirteen = beside (c, l) (by-behind (profile_in w) (state_of w) (taken_of w part room));
        fifteen = beside (c, l) (by_field (profile_in w) (state_of w) (taken_of w part room) 15 (λ q. omega arith) (λ q. omega arith) (λ q. omega arith));
        others = ⊎_elim (λ e. inl e) (⊎_elim (λ e. inr (inr (inl e))) (λ e. inr (inr (inr (inr e))))) o;
      }
    where
      none : (n : ℕ) {r : ℕ} → OneOf r (0 ∷ 2 ∷ 10 ∷ 11 ∷ 12 ∷ 13 ∷ 15 ∷ []) → r ≡ n → (n ≡ 0 → ⊥) → (n ≡ 2 → ⊥) → (n ≡ 10 → ⊥) → (n ≡ 11 → ⊥) → (n ≡ 12 → ⊥) → (n ≡ 13 → ⊥) → (n ≡ 15 → ⊥) → ⊥
      none n o e a b c d f g h =
          ⊎_elim (λ q. a (sym e ∙ q)) (⊎_elim (λ q. b (sym e ∙ q)) (⊎_elim (λ q. c (sym e ∙ q)) (⊎_elim (λ q. d (sym e ∙ q)) (⊎_elim (λ q. f (sym e ∙ q)) (⊎_elim (λ q. g (sym e ∙ q)) (⊎_elim (λ q. h (sym e ∙ q)) (λ q. q))))))) o

  -- whatever bytes come, a refusal that they bring is one of these
  after_one : Consistent w → OneOf (standing (state_after w part room)) (0 ∷ 2 ∷ 10 ∷ 11 ∷ 12 ∷ 13 ∷ 15 ∷ [])
  after_one c = go (state_after w part room) refl
    where
      from_field : (n j : ℕ) → j ≡ n → OneOf j (0 ∷ 10 ∷ 11 ∷ 15 ∷ []) → OneOf n (0 ∷ 2 ∷ 10 ∷ 11 ∷ 12 ∷ 13 ∷ 15 ∷ [])
      from_field n j e o =
          ⊎_elim (λ q. inl (sym e ∙ q)) (⊎_elim (λ q. inr (inr (inl (sym e ∙ q)))) (⊎_elim (λ q. inr (inr (inr (inl (sym e ∙ q))))) (⊎_elim (λ q. inr (inr (inr (inr (inr (inr (inl (sym e ∙ q)))))))) (λ q. absurd q)))) o

      here : (k : ℕ) → state_of w ≡ Refused k → OneOf k (0 ∷ 2 ∷ 10 ∷ 11 ∷ 12 ∷ 13 ∷ 15 ∷ [])
      here k q = inr (rw q at c.fits)

      go : (x : State) → state_after w part room ≡ x → OneOf (standing x) (0 ∷ 2 ∷ 10 ∷ 11 ∷ 12 ∷ 13 ∷ 15 ∷ [])
      go (Numbers ns held) e = inl refl
      go (Records ns k last above held) e = inl refl
      go (Counting ns zero) e = inr (inr (inr (inr (inl refl))))
      go (Counting ns (suc k)) e = inl refl
      go (Refused k) e =
          ⊎_elim (λ q. here k q) (⊎_elim (λ q. from_field k (refusal_number (judge_field (profile_in w) q.ns q.v q.shortest)) q.brings (judge-one (profile_in w) q.ns q.v q.shortest)) (λ q. inr (inr (inr (inr (inr (inl q.1))))))) (came (profile_in w) (state_of w) (taken_of w part room) k e)
      go (Accepted ns) e = inl refl

  -- a refusal that stands is what the bytes come to: they change nothing
  brought : (n : ℕ) → standing (state_of w) ≡ n
      → (unless_refused n (answer_of (state_after w part room) (length (taken_of w part room)) (length (given_of w part room) / record_size (profile_in w))) (refused_as n)).result ≡ standing (state_after w part room)
  brought zero q = refl
  brought (suc n) q = sym (ap standing (closed_after (profile_in w) (state_of w) (taken_of w part room) (stands-closed (state_of w) (λ z. omega arith))).0 ∙ q)

  part-rows : TakeRows w part room (take_answer w part room).result
  unfolding take_answer take_refusal
  part-rows = go (consistent w) refl
    where
      right : consistent w ≡ true → Consistent w
      right e = (consistent-exactly w).0 e

      go : (b : Bool) → consistent w ≡ b → TakeRows w part room (take_answer w part room).result
      go false e = rw e (at_one (λ h. no_true (sym e ∙ (consistent-exactly w).1 h)))
      go true e =
          split (record_size (profile_in w)) room
          (λ l. rw (e, le-leb (record_size (profile_in w)) room l, brought (standing (state_of w)) refl) (at-served (right e) l (after_one (right e))))
          (λ l. rw (e, lt-leb (record_size (profile_in w)) room l) (at-nine (right e) l))

-- ---- the end

module _ (w : List ℕ) where
  end-wrong : (Consistent w → ⊥) → EndRows w 1
  end-wrong wrong = record {
    one = (λ e. wrong, λ e. refl);
    two = (λ e. absurd (omega arith), λ h. absurd (wrong h.0));
    stands = λ n a b c. (λ e. absurd (b (sym e)), λ h. absurd (wrong h.0));
    others = inr (inl refl);
  }

  missing : (st : State) → standing (at_end st) ≡ 2 ↔ Missing st
  unfolding at_end
  missing (Numbers ns held) = (λ e. tt, λ h. refl)
  missing (Records ns zero last above held) = (λ e. omega arith, λ h. absurd h)
  missing (Records ns (suc n) last above held) = (λ e. tt, λ h. refl)
  missing (Counting ns zero) = (λ e. omega arith, λ h. absurd h)
  missing (Counting ns (suc n)) = (λ e. tt, λ h. refl)
  missing (Refused n) = (λ e. e, λ h. h)
  missing (Accepted ns) = (λ e. omega arith, λ h. absurd h)

  stands_on : (st : State) (n : ℕ) → (n ≡ 0 → ⊥) → (n ≡ 2 → ⊥) → standing (at_end st) ≡ n ↔ (standing st ≡ n)
  unfolding at_end
  stands_on (Numbers ns held) n a b = (λ e. absurd (b (sym e)), λ e. absurd (a (sym e)))
  stands_on (Records ns zero last above held) n a b = (λ e. e, λ e. e)
  stands_on (Records ns (suc k) last above held) n a b = (λ e. absurd (b (sym e)), λ e. absurd (a (sym e)))
  stands_on (Counting ns zero) n a b = (λ e. e, λ e. e)
  stands_on (Counting ns (suc k)) n a b = (λ e. absurd (b (sym e)), λ e. absurd (a (sym e)))
  stands_on (Refused k) n a b = (λ e. e, λ e. e)
  stands_on (Accepted ns) n a b = (λ e. e, λ e. e)

  ends-one : (st : State) → fit (profile_in w) st ≡ true → OneOf (standing (at_end st)) (0 ∷ 1 ∷ 2 ∷ 10 ∷ 11 ∷ 12 ∷ 13 ∷ 15 ∷ [])
  unfolding at_end
  ends-one (Numbers ns held) h = inr (inr (inl refl))
  ends-one (Records ns zero last above held) h = inl refl
  ends-one (Records ns (suc k) last above held) h = inr (inr (inl refl))
  ends-one (Counting ns zero) h = inr (inr (inr (inr (inr (inl refl)))))
  ends-one (Counting ns (suc k)) h = inr (inr (inl refl))
  ends-one (Refused k) h = inr (inr (fit-fact (profile_in w) (Refused k) h))
  ends-one (Accepted ns) h = inl refl

  never-one : (n : ℕ) → OneOf n (0 ∷ 2 ∷ 10 ∷ 11 ∷ 12 ∷ 13 ∷ 15 ∷ []) → n ≡ 1 → ⊥
  never-one n o e = ⊎_elim (λ q. omega arith) (⊎_elim (λ q. omega arith) (⊎_elim (λ q. omega arith) (⊎_elim (λ q. omega arith) (⊎_elim (λ q. omega arith) (⊎_elim (λ q. omega arith) (⊎_elim (λ q. omega arith) (λ q. q))))))) o

  end-right : Consistent w → fit (profile_in w) (state_of w) ≡ true → fit (profile_in w) (at_end (state_of w)) ≡ true → EndRows w (standing (at_end (state_of w)))
  end-right c f g = record {
    one = (λ e. absurd (never-one (standing (at_end (state_of w))) (standing-one (profile_in w) (at_end (state_of w)) g) e), λ h. absurd (h c));
    two = beside c (missing (state_of w));
    stands = λ n a b d. beside c (stands_on (state_of w) n a d);
    others = ends-one (state_of w) f;
  }

  said : (n : ℕ) → standing (state_of w) ≡ n → (unless_refused n (report_at (at_end (state_of w))) (refused_report n)).refusal ≡ standing (at_end (state_of w))
  said zero q = refl
  said (suc n) q = sym (stands-at-the-end (state_of w) (λ z. omega arith) ∙ q)

  end-rows : EndRows w (end_answer w).refusal
  unfolding end_answer end_refusal
  end-rows = go (consistent w) refl
    where
      go : (b : Bool) → consistent w ≡ b → EndRows w (end_answer w).refusal
      go false e = rw e (end-wrong (λ h. no_true (sym e ∙ (consistent-exactly w).1 h)))
      go true e = let k = consistent-kept w e in rw (e, said (standing (state_of w)) refl) (end-right ((consistent-exactly w).0 e) k.fits (kept-end (profile_in w) (state_of w) k).fits)

-- ---- opening

other-number : (profile : ℕ) → eqb profile 1 ≡ false → eqb profile 2 ≡ false → Other profile
other-number profile e f One x = eqb-false profile 1 e x
other-number profile e f Two x = eqb-false profile 2 f x

open-rows : (profile : ℕ) → OpenRows profile (open_refusal profile)
open-rows profile = go (eqb profile 1) (eqb profile 2) refl refl
  where
    go : (a b : Bool) → eqb profile 1 ≡ a → eqb profile 2 ≡ b → OpenRows profile (pick a 0 (pick b 0 18))
    go true b e f = record { eighteen = (λ q. absurd (omega arith), λ o. absurd (o One (eqb-true profile 1 e))); others = inl refl }
    go false true e f = record { eighteen = (λ q. absurd (omega arith), λ o. absurd (o Two (eqb-true profile 2 f))); others = inl refl }
    go false false e f = record { eighteen = (λ q. other-number profile e f, λ o. refl); others = inr (inl refl) }

pub exactly : Exactly
exactly = record { opening = open-rows; part = part-rows; end = end-rows }
