-- What one record comes to: too few bytes, a broken rule, or an entry with the object number and the age of its bytes.
-- Assumes nothing.
use Rattle.std.proofs.Common.{◌≡◌, ℕ, zero, suc, ◌<◌, ◌≤◌, Bool, true, false, eqb, leb, List, Option, Some, None, Result, Err, length, sym, refl, ap, ◌∙◌, arith, eq-eqb, eqb-true, le-leb, leb-false, leb-true}
use borrow.Author.Tests.{lt-leb, eqb-false}
use Rattle.wire.specs.Bytes.{pick}
use Rattle.wire.specs.Numbers.{limit}
use Rattle.wire.proofs.Lengths.{split}
use Rattle.wire.specs.declared.Refusal.{Refusal}
use Rattle.wire.specs.declared.Refusal.TheVariants.{Ends, BrokenEntry}
use Rattle.entries.specs.Limits.{entry_size}
use Rattle.entries.specs.Entries.{group_of, behind, object_of, status_of, zeros_of, age_of, entry, with_status, age_good, entry_from, entry_behind, entry_of}
use Rattle.entries.specs.Steps.{next_of}
use Rattle.entries.specs.Exactly.{Right}
use Rattle.entries.specs.declared.Profile.{Profile}
use Rattle.entries.specs.declared.Profile.TheVariants.{One}
use Rattle.entries.specs.declared.Status.{Status}
use Rattle.entries.specs.declared.Status.TheVariants.{Received, Late, NotReceived, Partial}
use Rattle.entries.specs.declared.Entry.{Entry}

pub data Verdict (p : Profile) (b : List ℕ) : Result Entry Refusal → Type 0 where
  short : length (behind p b) < entry_size → Verdict p b (Err Ends)
  wrong : entry_size ≤ length (behind p b) → (Right p b → ⊥) → Verdict p b (Err BrokenEntry)
  right : {status : Status} → entry_size ≤ length (behind p b) → Right p b → Verdict p b (entry (group_of p b) (object_of (behind p b)) status (age_of (behind p b)))

-- two entries that are the same have the same values
pub record Values (g o : ℕ) (x : Status) (a g' o' : ℕ) (x' : Status) (a' : ℕ) : Type 0 where
  pub group : g ≡ g'
  pub object : o ≡ o'
  pub status : x ≡ x'
  pub age : a ≡ a'

pub same-values : (g o : ℕ) (x : Status) (a g' o' : ℕ) (x' : Status) (a' : ℕ) → entry g o x a ≡ entry g' o' x' a' → Values g o x a g' o' x' a'
same-values g o x a g' o' x' a' e = record { group = ap (λ (r : Entry). r.group) k; object = ap (λ (r : Entry). r.object) k; status = ap (λ (r : Entry). r.status) k; age = ap (λ (r : Entry). r.age) k }
  where
    made : ℕ → ℕ → Status → ℕ → Entry
    made g o x a = record { group = g; object = o; status = x; age = a }

    k : made g o x a ≡ made g' o' x' a'
    k = cc

-- the test of the age is the rule
age-rule : (status age : ℕ) → age_good status age ≡ true → status ≡ 2 → age ≡ 0
age-rule status age g e = eqb-true age 0 (rw (eq-eqb status 2 e) at g)

age-broken : (status age : ℕ) → age_good status age ≡ false → (status ≡ 2 → age ≡ 0) → ⊥
age-broken status age g f = go (eqb status 2) refl g
  where
    go : (a : Bool) → eqb status 2 ≡ a → pick a (eqb age 0) true ≡ false → ⊥
    go true t e = eqb-false age 0 e (f (eqb-true status 2 t))
    go false t e = let z : ◌≡◌ {A = ℕ} 0 1 = cc in omega arith

none_of_four : (n : ℕ) → (n ≡ 0 → ⊥) → (n ≡ 1 → ⊥) → (n ≡ 2 → ⊥) → (n ≡ 3 → ⊥) → n ≤ 3 → ⊥
none_of_four zero a b c d h = a refl
none_of_four (suc zero) a b c d h = b refl
none_of_four (suc (suc zero)) a b c d h = c refl
none_of_four (suc (suc (suc zero))) a b c d h = d refl
none_of_four (suc (suc (suc (suc n)))) a b c d h = omega arith

module _ (p : Profile) (b : List ℕ) (h : entry_size ≤ length (behind p b)) where
  abbrev g : ℕ
  g = group_of p b

  abbrev c : List ℕ
  c = behind p b

  statuses : g ≤ limit → object_of c ≤ limit → zeros_of c ≡ 0 → age_good (status_of c) (age_of c) ≡ true → Verdict p b (with_status g (object_of c) (status_of c) (age_of c))
  statuses i o z a = go (eqb (status_of c) 0) (eqb (status_of c) 1) (eqb (status_of c) 2) (eqb (status_of c) 3) refl refl refl refl
    where
      fine : status_of c ≤ 3 → Right p b
      fine l = record { group = i; object = o; status = l; zeros = z; age = age-rule (status_of c) (age_of c) a }

      go : (x y r t : Bool) → eqb (status_of c) 0 ≡ x → eqb (status_of c) 1 ≡ y → eqb (status_of c) 2 ≡ r → eqb (status_of c) 3 ≡ t
          → Verdict p b (pick x (entry g (object_of c) Received (age_of c)) (pick y (entry g (object_of c) Late (age_of c)) (pick r (entry g (object_of c) NotReceived (age_of c)) (pick t (entry g (object_of c) Partial (age_of c)) (Err BrokenEntry)))))
      go true y r t e f k l = right h (fine (omega (arith, eqb-true (status_of c) 0 e)))
      go false true r t e f k l = right h (fine (omega (arith, eqb-true (status_of c) 1 f)))
      go false false true t e f k l = right h (fine (omega (arith, eqb-true (status_of c) 2 k)))
      go false false false true e f k l = right h (fine (omega (arith, eqb-true (status_of c) 3 l)))
      go false false false false e f k l =
          wrong h (λ x. none_of_four (status_of c) (eqb-false (status_of c) 0 e) (eqb-false (status_of c) 1 f) (eqb-false (status_of c) 2 k) (eqb-false (status_of c) 3 l) x.status)

  rules : Verdict p b (entry_from g (object_of c) (status_of c) (zeros_of c) (age_of c))
  unfolding entry_from
  rules = go (leb g limit) (leb (object_of c) limit) (eqb (zeros_of c) 0) (age_good (status_of c) (age_of c)) refl refl refl refl
    where
      go : (x y z r : Bool) → leb g limit ≡ x → leb (object_of c) limit ≡ y → eqb (zeros_of c) 0 ≡ z → age_good (status_of c) (age_of c) ≡ r
          → Verdict p b (pick x (pick y (pick z (pick r (with_status g (object_of c) (status_of c) (age_of c)) (Err BrokenEntry)) (Err BrokenEntry)) (Err BrokenEntry)) (Err BrokenEntry))
      go true true true true d e f a = statuses (leb-true g limit d) (leb-true (object_of c) limit e) (eqb-true (zeros_of c) 0 f) a
      go true true true false d e f a = wrong h (λ x. age-broken (status_of c) (age_of c) a x.age)
      go true true false r d e f a = wrong h (λ x. eqb-false (zeros_of c) 0 f x.zeros)
      go true false z r d e f a = wrong h (λ x. omega (arith, x.object, leb-false (object_of c) limit e))
      go false y z r d e f a = wrong h (λ x. omega (arith, x.group, leb-false g limit d))

pub verdict : (p : Profile) (b : List ℕ) → Verdict p b (entry_of p b)
unfolding entry_behind
verdict p b =
    split entry_size (length (behind p b))
    (λ h. rw (le-leb entry_size (length (behind p b)) h) (rules p b h))
    (λ h. rw (lt-leb entry_size (length (behind p b)) h) (short h))

-- an entry has the group and the object number of its bytes, which is not above the limit
pub record Known (p : Profile) (b : List ℕ) (g o : ℕ) : Type 0 where
  pub group : group_of p b ≡ g
  pub object : object_of (behind p b) ≡ o
  pub small : o ≤ limit

pub key-is : (p : Profile) (b : List ℕ) (e : Result Entry Refusal) (group object : ℕ) (status : Status) (age : ℕ) → e ≡ entry group object status age → e ≡ entry_of p b → Known p b group object
key-is p b e group object status age t f = go (entry_of p b) (verdict p b) (sym f ∙ t)
  where
    go : (x : Result Entry Refusal) → Verdict p b x → x ≡ entry group object status age → Known p b group object
    go x (short h) e = let z : ◌≡◌ {A = ℕ} 0 1 = cc in absurd (omega arith)
    go x (wrong h n) e = let z : ◌≡◌ {A = ℕ} 0 1 = cc in absurd (omega arith)
    go x (right h r) e =
        let v = same-values _ _ _ _ group object status age e in
        record { group = v.group; object = v.object; small = omega (arith, r.object, v.object) }

-- what an entry leaves to the next is not far above the limit
pub next_small : (floor : ℕ) (b : List ℕ) (x : Option ℕ) (m : ℕ) → x ≡ next_of floor (entry_behind 0 b) → x ≡ Some m → m ≤ suc limit
next_small floor b x m f t = go (entry_behind 0 b) (verdict One b) (sym f ∙ t)
  where
    go : (y : Result Entry Refusal) → Verdict One b y → next_of floor y ≡ Some m → m ≤ suc limit
    go y (short h) e = let z : ◌≡◌ {A = ℕ} 0 1 = cc in absurd (omega arith)
    go y (wrong h n) e = let z : ◌≡◌ {A = ℕ} 0 1 = cc in absurd (omega arith)
    go y (right h r) e = it (leb floor (object_of b)) e
      where
        it : (l : Bool) → pick l (Some (suc (object_of b))) None ≡ Some m → m ≤ suc limit
        it true q = let k : m ≡ suc (object_of b) = cc in omega (arith, r.object)
        it false q = let z : ◌≡◌ {A = ℕ} 0 1 = cc in absurd (omega arith)
