-- The refusal table for entries, proved: each test of a definition is one side of its row.
-- Assumes nothing.
use Rattle.std.proofs.Common.{◌≡◌, ℕ, zero, suc, ◌+◌, ◌/◌, ◌%◌, ◌<◌, ◌≤◌, Bool, true, false, eqb, leb, List, Result, Ok, Err, length, sym, refl, ◌∙◌, subst, inl, inr, ⊎_elim, zero-le, zero-add, add-one, arith, length-drop, length-take, eqb-true, leb-false, leb-true}
use borrow.Author.Tests.{eqb-false}
use Rattle.wire.specs.Bytes.{pick}
use Rattle.wire.proofs.Lengths.{split}
use Rattle.wire.specs.Refusals.{refusal_number}
use Rattle.wire.specs.declared.Refusal.{Refusal}
use Rattle.wire.specs.declared.Refusal.TheVariants.{BrokenCount, BrokenEntry, OtherProfile}
use Rattle.entries.specs.Limits.{entry_size, most_given}
use Rattle.entries.specs.Profiles.{record_size, number_of, Other}
use Rattle.entries.specs.Entries.{group_of, behind, object_of, record_at, entry, entry_at, entry_by, at_or_above, follows, entries_good, entries_fault}
use Rattle.entries.specs.Exactly.{Right, EndsBefore, There, EntryRows, EntryReads, Below, Obeys, EntriesJudged, FaultRows, FaultJudged}
use Rattle.entries.specs.declared.Profile.{Profile}
use Rattle.entries.specs.declared.Status.{Status}
use Rattle.entries.specs.declared.Entry.{Entry}
use Rattle.entries.proofs.Sizes.{step}
use Rattle.entries.proofs.Profiles.{Which, known, other as unknown, which, of-known, of_other, in-this}
use Rattle.entries.proofs.Order.{below, above-below, first_above}
use Rattle.entries.proofs.Records.{rest, turn, done, from_start}
use Rattle.entries.proofs.Verdicts.{Verdict, short, wrong, right, verdict, key-is}

-- two different numerals are not equal
other : {A : Type 0} (m n : ℕ) → eqb m n ≡ false → m ≡ n → A
other m n t e = absurd (eqb-false m n t e)

never : {A : Type 0} → false ≡ true → A
never e = let z : ◌≡◌ {A = ℕ} 0 1 = cc in absurd (omega arith)

-- ---- one entry

module _ (profile : ℕ) (s : List ℕ) (i : ℕ) where
  module _ (p : Profile) (k : profile ≡ number_of p) where
    -- the bytes behind the group are too few exactly where the record is
    inside : length (behind p (record_at p s i)) < entry_size → EndsBefore p s i
    inside h = let e = step (record_size p) i in omega (arith, simp (length-take, length-drop) at h)

    there : entry_size ≤ length (behind p (record_at p s i)) → There p s i
    there h = let e = step (record_size p) i in omega (arith, simp (length-take, length-drop) at h)

    rows : (e : Result Entry Refusal) → Verdict p (record_at p s i) e → EntryRows profile s i (refusal_number e)
    rows e (short h) =
        let l = inside h in
        record {
          eighteen = (other 2 18 refl, λ o. absurd (o p k));
          two = (λ q. record { profile = p; number = k; holds = l }, λ q. refl);
          twelve = (other 2 12 refl, λ q. absurd (omega (arith, (in-this profile (λ p. There p s i × (Right p (record_at p s i) → ⊥)) p k q).0)));
          accepted = (other 2 0 refl, λ q. absurd (omega (arith, (in-this profile (λ p. There p s i × Right p (record_at p s i)) p k q).0)));
          others = inr (inl refl);
        }
    rows e (wrong h n) =
        let l = there h in
        record {
          eighteen = (other 12 18 refl, λ o. absurd (o p k));
          two = (other 12 2 refl, λ q. absurd (omega (arith, in-this profile (λ p. EndsBefore p s i) p k q)));
          twelve = (λ q. record { profile = p; number = k; holds = (l, n) }, λ q. refl);
          accepted = (other 12 0 refl, λ q. absurd (n (in-this profile (λ p. There p s i × Right p (record_at p s i)) p k q).1));
          others = inr (inr (inl refl));
        }
    rows e (right h r) =
        let l = there h in
        record {
          eighteen = (other 0 18 refl, λ o. absurd (o p k));
          two = (other 0 2 refl, λ q. absurd (omega (arith, in-this profile (λ p. EndsBefore p s i) p k q)));
          twelve = (other 0 12 refl, λ q. absurd ((in-this profile (λ p. There p s i × (Right p (record_at p s i) → ⊥)) p k q).1 r));
          accepted = (λ q. record { profile = p; number = k; holds = (l, r) }, λ q. refl);
          others = inl refl;
        }

  no_rows : Other profile → EntryRows profile s i 18
  no_rows o = record {
    eighteen = (λ q. o, λ q. refl);
    two = (other 18 2 refl, λ q. absurd (o q.profile q.number));
    twelve = (other 18 12 refl, λ q. absurd (o q.profile q.number));
    accepted = (other 18 0 refl, λ q. absurd (o q.profile q.number));
    others = inr (inr (inr (inl refl)));
  }

  by-profile : Which profile → EntryRows profile s i (refusal_number (entry_by profile s i))
  by-profile (known p k) = rw (of-known profile (Err OtherProfile) (λ p. entry_at p s i) p k) (rows p k (entry_at p s i) (verdict p (record_at p s i)))
  by-profile (unknown o) = rw (of_other profile (Err OtherProfile) (λ p. entry_at p s i) o) (no_rows o)

pub entry-reads : EntryReads
entry-reads profile s i = by-profile profile s i (which profile)

-- ---- records in a row

-- what the record before record i leaves: its group, and one past its object number
group_before : Profile → List ℕ → ℕ → ℕ
group_before p s zero = 0
group_before p s (suc j) = group_of p (record_at p s j)

object_before : Profile → List ℕ → ℕ → ℕ
object_before p s zero = 0
object_before p s (suc j) = suc (object_of (behind p (record_at p s j)))

abbrev Rises : Profile → List ℕ → ℕ → ℕ → ℕ → Type 0
Rises p s i group object = (j : ℕ) → suc j ≡ i → Below (group_of p (record_at p s j)) (object_of (behind p (record_at p s j))) group object

risen : (p : Profile) (s : List ℕ) (i group object : ℕ) → at_or_above (group_before p s i) (object_before p s i) group object ≡ true → Rises p s i group object
unfolding group_before object_before
risen p s i group object h j e = below (group_of p (record_at p s j)) (object_of (behind p (record_at p s j))) group object (rw (sym e) at h)

rises-from : (p : Profile) (s : List ℕ) (i group object : ℕ) → Rises p s i group object → at_or_above (group_before p s i) (object_before p s i) group object ≡ true
unfolding group_before object_before
rises-from p s zero group object f = first_above group object
rises-from p s (suc j) group object f = above-below (group_of p (record_at p s j)) (object_of (behind p (record_at p s j))) group object (f j refl)

-- what a record that is followed tells
record Met (e : Result Entry Refusal) (last above : ℕ) (f : ℕ → ℕ → Bool) : Type 0 where
  group : ℕ
  object : ℕ
  status : Status
  age : ℕ
  entry : e ≡ entry group object status age
  rises : at_or_above last above group object ≡ true
  rest : f group (suc object) ≡ true

met : (e : Result Entry Refusal) (last above : ℕ) (f : ℕ → ℕ → Bool) → follows last above e f ≡ true → Met e last above f
met (Ok e) last above f t = go (at_or_above last above e.group e.object) refl t
  where
    go : (b : Bool) → at_or_above last above e.group e.object ≡ b → pick b (f e.group (suc e.object)) false ≡ true → Met (Ok e) last above f
    go true p t = record { group = e.group; object = e.object; status = e.status; age = e.age; entry = refl; rises = p; rest = t }
    go false p t = never t
met (Err refusal) last above f t = never t

module _ (p : Profile) (s : List ℕ) (n : ℕ) where
  -- what record i leaves, which is an entry
  next-group : (i group object : ℕ) (status : Status) (age : ℕ) → entry_at p s i ≡ entry group object status age → group ≡ group_before p s (i + 1)
  unfolding group_before
  next-group i group object status age e = let k = key-is p (record_at p s i) (entry_at p s i) group object status age e refl in rw (add-one, k.group)

  next-object : (i group object : ℕ) (status : Status) (age : ℕ) → entry_at p s i ≡ entry group object status age → suc object ≡ object_before p s (i + 1)
  unfolding object_before
  next-object i group object status age e = let k = key-is p (record_at p s i) (entry_at p s i) group object status age e refl in rw (add-one, k.object)

  all-good : (k i last above : ℕ) → i + k ≡ n → last ≡ group_before p s i → above ≡ object_before p s i → rest p n i s last above ≡ true → (j : ℕ) → i ≤ j → j < n → Obeys p s j
  all-good zero i last above l b a g j x y = absurd (omega arith)
  all-good (suc k) i last above l b a g j x y =
      let m = met (entry_at p s i) last above (rest p n (i + 1) s) (sym (turn p n last above i s (omega arith)) ∙ g) in
      let r : at_or_above (group_before p s i) (object_before p s i) m.group m.object ≡ true = rw (sym b, sym a) m.rises in
      split (i + 1) j
      (λ h. all-good k (i + 1) m.group (suc m.object) (omega arith) (next-group i m.group m.object m.status m.age m.entry) (next-object i m.group m.object m.status m.age m.entry) m.rest j h y)
      (λ h. let e : i ≡ j = omega arith in
      subst (Obeys p s) e (record { group = m.group; object = m.object; status = m.status; age = m.age; entry = m.entry; rises = risen p s i m.group m.object r }))

  obey-good : (k i last above : ℕ) → i + k ≡ n → last ≡ group_before p s i → above ≡ object_before p s i → ((j : ℕ) → j < n → Obeys p s j) → rest p n i s last above ≡ true
  obey-good zero i last above l b a f = done p n last above i s (omega arith)
  obey-good (suc k) i last above l b a f =
      let x = f i (omega arith) in
      let h : at_or_above last above x.group x.object ≡ true = rw (b, a) (rises-from p s i x.group x.object x.rises) in
      turn p n last above i s (omega arith)
      ∙ rw (x.entry, h) (obey-good k (i + 1) x.group (suc x.object) (omega arith) (next-group i x.group x.object x.status x.age x.entry) (next-object i x.group x.object x.status x.age x.entry) f)

pub entries-judged : EntriesJudged
unfolding group_before object_before
entries-judged p s =
    let n : ℕ = length s / record_size p in
    let w = from_start p s n refl in
    (λ g. λ i h. all-good p s n n 0 0 0 (zero-add n) refl refl (w ∙ g) i zero-le h, λ f. sym w ∙ obey-good p s n n 0 0 0 (zero-add n) refl refl f)

-- ---- the records handed to a writer

-- the judgement by its three tests
abbrev fault : Bool → Bool → Bool → Result Unit Refusal
fault a b c = pick a (pick b (pick c (Ok tt) (Err BrokenEntry)) (Err BrokenCount)) (Err BrokenEntry)

pub fault-judged : FaultJudged
unfolding entries_fault
fault-judged p s = go (eqb (length s % record_size p) 0) (leb (length s / record_size p) most_given) (entries_good p s) refl refl refl
  where
    go : (a b c : Bool) → eqb (length s % record_size p) 0 ≡ a → leb (length s / record_size p) most_given ≡ b → entries_good p s ≡ c → FaultRows p s (refusal_number (fault a b c))
    go true true true o q r =
        let e = eqb-true (length s % record_size p) 0 o in
        let l = leb-true (length s / record_size p) most_given q in
        record {
          ten = (other 0 10 refl, λ x. absurd (omega (arith, x.many)));
          twelve = (other 0 12 refl, ⊎_elim (λ x. absurd (x e)) (λ x. never (sym x.bad ∙ r)));
          accepted = (λ x. record { even = e; few = l; good = r }, λ x. refl);
          others = inl refl;
        }
    go true true false o q r =
        let e = eqb-true (length s % record_size p) 0 o in
        let l = leb-true (length s / record_size p) most_given q in
        record {
          ten = (other 12 10 refl, λ x. absurd (omega (arith, x.many)));
          twelve = (λ x. inr (record { even = e; few = l; bad = r }), λ x. refl);
          accepted = (other 12 0 refl, λ x. never (sym r ∙ x.good));
          others = inr (inr (inl refl));
        }
    go true false c o q r =
        let e = eqb-true (length s % record_size p) 0 o in
        let l = leb-false (length s / record_size p) most_given q in
        record {
          ten = (λ x. record { even = e; many = l }, λ x. refl);
          twelve = (other 10 12 refl, ⊎_elim (λ x. absurd (x e)) (λ x. absurd (omega (arith, x.few))));
          accepted = (other 10 0 refl, λ x. absurd (omega (arith, x.few)));
          others = inr (inl refl);
        }
    go false b c o q r =
        let n = eqb-false (length s % record_size p) 0 o in
        record {
          ten = (other 12 10 refl, λ x. absurd (n x.even));
          twelve = (λ x. inl n, λ x. refl);
          accepted = (other 12 0 refl, λ x. absurd (n x.even));
          others = inr (inr (inl refl));
        }
