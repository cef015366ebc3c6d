-- One step over records in a row, as the code takes it: the fields of the bytes behind a group, what they leave to the next record, and that
-- this is the rule of the definitions, in either profile.
-- Assumes nothing.
use Rattle.std.proofs.Common.{◌≡◌, ℕ, zero, suc, ◌+◌, ◌-◌, ◌*◌, ◌%◌, ◌<◌, ◌≤◌, Bool, true, false, eqb, ltb, leb, List, Option, Some, None, Result, Err, length, take, drop, sym, refl, ap, ◌∙◌, zero-le, arith, length-drop, length-take-le, le-ltb, lt-ltb, ne_eqb, eqb-true, le-leb, leb-true}
use borrow.Author.Tests.{lt-leb, eqb-false}
use Rattle.wire.specs.Bytes.{pick, Octets}
use Rattle.wire.specs.Numbers.{limit}
use Rattle.wire.proofs.Bytes.{bound, octets-part}
use Rattle.wire.proofs.Lengths.{split}
use Rattle.entries.specs.Limits.{entry_size}
use Rattle.wire.specs.declared.Refusal.{Refusal}
use Rattle.wire.specs.declared.Refusal.TheVariants.{Ends, BrokenEntry}
use Rattle.entries.specs.Entries.{object_of, status_of, zeros_of, age_of, entry, with_status, age_good, entry_from, entry_behind, at_or_above, follows_or}
use Rattle.entries.specs.Steps.{parts_in, rest_good, inside, floor_of, next_of}
use Rattle.entries.specs.declared.Status.TheVariants.{Received, Late, NotReceived, Partial}
use Rattle.entries.specs.declared.Entry.{Entry}
use Rattle.entries.specs.declared.Parts.{Parts}

-- ---- the entry that the parts make

-- the parts of bytes that are enough
abbrev parts_of : List ℕ → Parts
parts_of b = record { object = object_of b; status = status_of b; zeros = zeros_of b; age = age_of b }

-- x is what the code has of the parts
module _ (b : List ℕ) (x : Option Parts) (e : x ≡ parts_in b) where
  pub parts-short : (group : ℕ) → x ≡ None → Err Ends ≡ entry_behind group b
  unfolding entry_behind
  parts-short group t = go (leb entry_size (length b)) (sym e ∙ t)
    where
      go : (l : Bool) → pick l (Some (parts_of b)) None ≡ None → Err Ends ≡ pick l (entry_from group (object_of b) (status_of b) (zeros_of b) (age_of b)) (Err Ends)
      go true q = let z : ◌≡◌ {A = ℕ} 0 1 = cc in absurd (omega arith)
      go false q = refl

  module _ (q : Parts) (t : x ≡ Some q) where
    pub parts-there : (group : ℕ) → entry_from group q.object q.status q.zeros q.age ≡ entry_behind group b
    unfolding entry_behind
    parts-there group = go (leb entry_size (length b)) (sym e ∙ t)
      where
        go : (l : Bool) → pick l (Some (parts_of b)) None ≡ Some q
            → entry_from group q.object q.status q.zeros q.age ≡ pick l (entry_from group (object_of b) (status_of b) (zeros_of b) (age_of b)) (Err Ends)
        go true i = let k : q ≡ parts_of b = cc in rw k
        go false i = let z : ◌≡◌ {A = ℕ} 0 1 = cc in absurd (omega arith)

    -- the age is one of four bytes
    pub parts-age : Octets b → q.age ≤ 4294967295
    parts-age o = go (leb entry_size (length b)) refl (sym e ∙ t)
      where
        go : (l : Bool) → leb entry_size (length b) ≡ l → pick l (Some (parts_of b)) None ≡ Some q → q.age ≤ 4294967295
        go true h i =
            let k : q ≡ parts_of b = cc in
            let m = leb-true entry_size (length b) h in
            let l : length (take 4 (drop 12 b)) ≡ 4 = length-take-le 4 (drop 12 b) (rw (length-drop) (omega arith)) in
            let u = bound (take 4 (drop 12 b)) 0 (octets-part b 12 4 o) in
            rw k (omega (arith, rw l at u))
        go false h i = let z : ◌≡◌ {A = ℕ} 0 1 = cc in absurd (omega arith)

module _ (group object status age : ℕ) where
  abbrev status_known : Result Entry Refusal
  status_known =
      pick (eqb status 0) (entry group object Received age)
      (pick (eqb status 1) (entry group object Late age)
      (pick (eqb status 2) (entry group object NotReceived age) (entry group object Partial age)))

  four : (n : ℕ) → n ≡ status → with_status group object status age ≡ pick (leb status 3) status_known (Err BrokenEntry)
  four zero e = rw (← e)
  four (suc zero) e = rw (← e)
  four (suc (suc zero)) e = rw (← e)
  four (suc (suc (suc zero))) e = rw (← e)
  four (suc (suc (suc (suc n)))) e =
      rw (lt-leb status 3 (omega arith), ne_eqb status 0 (λ q. omega arith), ne_eqb status 1 (λ q. omega arith), ne_eqb status 2 (λ q. omega arith), ne_eqb status 3 (λ q. omega arith))

  module _ (zeros : ℕ) (g : group ≤ limit) (o : object ≤ limit) where
    -- a group and an object number that are not too large leave the rest to be judged
    from_parts : entry_from group object status zeros age ≡ pick (rest_good status zeros age) status_known (Err BrokenEntry)
    unfolding entry_from
    from_parts = rw (le-leb group limit g, le-leb object limit o, four status refl) (go (eqb zeros 0) (leb status 3) (age_good status age))
      where
        go : (z l a : Bool) → pick z (pick a (pick l status_known (Err BrokenEntry)) (Err BrokenEntry)) (Err BrokenEntry) ≡ pick (pick z (pick l a false) false) status_known (Err BrokenEntry)
        go true true true = refl
        go true true false = refl
        go true false true = refl
        go true false false = refl
        go false l a = refl

pub inside-small : (floor n : ℕ) → inside floor n ≡ true → n ≤ limit
inside-small floor n t = go (leb n limit) refl t
  where
    go : (l : Bool) → leb n limit ≡ l → pick l (leb floor n) false ≡ true → n ≤ limit
    go true e t = leb-true n limit e
    go false e t = let z : ◌≡◌ {A = ℕ} 0 1 = cc in absurd (omega arith)

-- the oldest age of a status, as it is worked out, says the same as the test of the definition
pub oldest-age : (status age : ℕ) → status ≤ 3 → age ≤ 4294967295 → leb age ((status + 2) % 4 * 4294967295) ≡ age_good status age
oldest-age zero age h f = le-leb age 8589934590 (omega arith)
oldest-age (suc zero) age h f = le-leb age 12884901885 (omega arith)
oldest-age (suc (suc zero)) zero h f = refl
oldest-age (suc (suc zero)) (suc age) h f = lt-leb (suc age) 0 (omega arith) ∙ sym (ne_eqb (suc age) 0 (λ e. omega arith))
oldest-age (suc (suc (suc zero))) age h f = le-leb age 4294967295 f
oldest-age (suc (suc (suc (suc n)))) age h f = absurd (omega arith)

pub floor-small : (last above group floor : ℕ) → above ≤ suc limit → floor ≡ floor_of last above group → floor ≤ suc limit
floor-small last above group floor h e = go (eqb group last) e
  where
    go : (b : Bool) → floor ≡ pick b above 0 → floor ≤ suc limit
    go true q = omega arith
    go false q = omega arith

-- w is the difference as it wraps: below what is left above the floor exactly where the number is inside
pub wraps-inside : (floor n w : ℕ) → floor ≤ suc limit → w < 18446744073709551616 → (w + floor) % 18446744073709551616 ≡ n → ltb w (4611686018427387904 - floor) ≡ inside floor n
wraps-inside floor n w f b e =
    split (suc w) (4611686018427387904 - floor)
    (λ h. lt-ltb w (4611686018427387904 - floor) h ∙ sym (fits (omega arith) (omega arith)))
    (λ h. le-ltb w (4611686018427387904 - floor) (omega arith) ∙ sym (misses h))
  where
    fits : n ≤ limit → floor ≤ n → inside floor n ≡ true
    fits l m = rw (le-leb n limit l, le-leb floor n m)

    misses : 4611686018427387904 - floor < suc w → inside floor n ≡ false
    misses h =
        split n limit
        (λ l. rw (le-leb n limit l) (lt-leb floor n (omega arith)))
        (λ l. rw (lt-leb n limit l))

-- ---- what the parts leave to the next record

large : (object status zeros age : ℕ) → limit < object → entry_from 0 object status zeros age ≡ Err BrokenEntry
unfolding entry_from
large object status zeros age h = rw (le-leb 0 limit zero-le, lt-leb object limit h)

pick_same : {A : Type 0} (x : A) (b : Bool) → pick b x x ≡ x
pick_same x true = refl
pick_same x false = refl

next-parts : (floor object status zeros age : ℕ) → pick (inside floor object) (pick (rest_good status zeros age) (Some (suc object)) None) None ≡ next_of floor (entry_from 0 object status zeros age)
next-parts floor object status zeros age =
    split object limit
    (λ h. rw (from_parts 0 object status age zeros zero-le h, le-leb object limit h) (go (rest_good status zeros age) (eqb status 0) (eqb status 1) (eqb status 2)))
    (λ h. rw (large object status zeros age h, lt-leb object limit h))
  where
    go : (r s t u : Bool) → pick (leb floor object) (pick r (Some (suc object)) None) None
        ≡ next_of floor (pick r (pick s (entry 0 object Received age) (pick t (entry 0 object Late age) (pick u (entry 0 object NotReceived age) (entry 0 object Partial age)))) (Err BrokenEntry))
    go true true t u = refl
    go true false true u = refl
    go true false false true = refl
    go true false false false = refl
    go false s t u = pick_same None (leb floor object)

-- x is what the code has of the parts, i and r what it has of the tests
module _ (floor : ℕ) (b : List ℕ) (x : Option Parts) (e : x ≡ parts_in b) where
  pub next-short : x ≡ None → None ≡ next_of floor (entry_behind 0 b)
  next-short t = ap (next_of floor) (parts-short b x e 0 t)

  module _ (q : Parts) (t : x ≡ Some q) (i : Bool) (d : i ≡ inside floor q.object) where
    next-is : pick i (pick (rest_good q.status q.zeros q.age) (Some (suc q.object)) None) None ≡ next_of floor (entry_behind 0 b)
    next-is = rw d (next-parts floor q.object q.status q.zeros q.age ∙ ap (next_of floor) (parts-there b x e q t 0))

    pub next-outside : i ≡ false → None ≡ next_of floor (entry_behind 0 b)
    next-outside f = rw f at next-is

    module _ (r : Bool) (g : r ≡ rest_good q.status q.zeros q.age) where
      pub next-broken : r ≡ false → None ≡ next_of floor (entry_behind 0 b)
      next-broken f = sym (pick_same None i) ∙ (rw (← g, f) at next-is)

      pub next-good : i ≡ true → r ≡ true → Some (suc q.object) ≡ next_of floor (entry_behind 0 b)
      next-good f h = rw (f, ← g, h) at next-is

-- ---- the step is that of the definitions

-- what comes after a record
abbrev pub followed : {A : Type 0} → Option ℕ → (ℕ → A) → A → A
followed (Some n) f x = f n
followed None f x = x

-- the order by group, then object: the group is at or above the last one, and the object number at or above the floor
module _ {A : Type 0} (last above group object : ℕ) (k : ℕ → A) (x : A) where
  followed-pick : (b : Bool) → pick b (k (suc object)) x ≡ followed (pick b (Some (suc object)) None) k x
  followed-pick true = refl
  followed-pick false = refl

  in_order : pick (at_or_above last above group object) (k (suc object)) x ≡ pick (leb last group) (followed (pick (leb (floor_of last above group) object) (Some (suc object)) None) k x) x
  in_order = go (eqb group last) refl
    where
      rises : (group ≡ last → ⊥) → ltb last group ≡ leb last group
      rises n =
          split last group
          (λ h. lt-ltb last group (let m : group ≡ last → ⊥ = n in lt h m) ∙ sym (le-leb last group h))
          (λ h. le-ltb last group (omega arith) ∙ sym (lt-leb last group h))
        where
          lt : last ≤ group → (group ≡ last → ⊥) → last < group
          lt h m = omega (arith, m)

      go : (b : Bool) → eqb group last ≡ b → pick (pick b (leb above object) (ltb last group)) (k (suc object)) x ≡ pick (leb last group) (followed (pick (leb (pick b above 0) object) (Some (suc object)) None) k x) x
      go true e =
          let q = eqb-true group last e in
          rw (le-leb last group (omega arith)) (followed-pick (leb above object))
      go false e = rw (rises (eqb-false group last e), le-leb 0 object zero-le)

-- the entry that the tests of a record's bytes make; x is that of its group
abbrev entry_by : List ℕ → ℕ → Bool → Bool → Bool → Bool → Bool → Bool → Bool → Bool → Bool → Result Entry Refusal
entry_by b group x l y z a s t u v =
    pick l
    (pick x
    (pick y
    (pick z
    (pick a
    (pick s (entry group (object_of b) Received (age_of b))
    (pick t (entry group (object_of b) Late (age_of b))
    (pick u (entry group (object_of b) NotReceived (age_of b))
    (pick v (entry group (object_of b) Partial (age_of b)) (Err BrokenEntry))))) (Err BrokenEntry)) (Err BrokenEntry)) (Err BrokenEntry)) (Err BrokenEntry)) (Err Ends)

pub step_is : {A : Type 0} (last above group : ℕ) (b : List ℕ) (f : ℕ → ℕ → A) (other : A)
    → follows_or last above (entry_behind group b) f other ≡ pick (inside last group) (followed (next_of (floor_of last above group) (entry_behind 0 b)) (f group) other) other
unfolding entry_behind entry_from
step_is last above group b f other =
    rw (le-leb 0 limit zero-le)
    (go (leb group limit) (leb entry_size (length b)) (leb (object_of b) limit) (eqb (zeros_of b) 0) (age_good (status_of b) (age_of b)) (eqb (status_of b) 0) (eqb (status_of b) 1) (eqb (status_of b) 2) (eqb (status_of b) 3))
  where
    one : pick (at_or_above last above group (object_of b)) (f group (suc (object_of b))) other
        ≡ pick (leb last group) (followed (pick (leb (floor_of last above group) (object_of b)) (Some (suc (object_of b))) None) (f group) other) other
    one = in_order last above group (object_of b) (f group) other

    go : (x l y z a s t u v : Bool) → follows_or last above (entry_by b group x l y z a s t u v) f other
        ≡ pick (pick x (leb last group) false) (followed (next_of (floor_of last above group) (entry_by b 0 true l y z a s t u v)) (f group) other) other
    go true true true true true true t u v = one
    go true true true true true false true u v = one
    go true true true true true false false true v = one
    go true true true true true false false false true = one
    go true true true true true false false false false = sym (pick_same other (leb last group))
    go true true true true false s t u v = sym (pick_same other (leb last group))
    go true true true false a s t u v = sym (pick_same other (leb last group))
    go true true false z a s t u v = sym (pick_same other (leb last group))
    go true false y z a s t u v = sym (pick_same other (leb last group))
    go false true y z a s t u v = refl
    go false false y z a s t u v = refl
