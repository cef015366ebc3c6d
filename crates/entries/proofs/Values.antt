-- A record that is an entry is known by its values: its bytes are those of its group, its object number, its status above three zero bytes, and its age.
-- Assumes nothing.
use Rattle.std.proofs.Common.{◌≡◌, ℕ, zero, suc, ◌+◌, ◌*◌, ◌<◌, ◌≤◌, Bool, true, false, eqb, leb, List, [], ◌++◌, Err, length, take, drop, sym, refl, ap, ◌∙◌, ap₂, zero-mul, arith, length-drop, take-append-drop, drop_of_length-le, length-take-le, get_or-drop, drop-drop, eqb-true}
use Rattle.wire.specs.Bytes.{pick, be, Octets}
use Rattle.wire.specs.Numbers.{limit}
use Rattle.wire.proofs.Bytes.{be-one, octets-part}
use Rattle.wire.specs.declared.Refusal.TheVariants.{Ends, BrokenEntry}
use Rattle.entries.specs.Limits.{entry_size}
use Rattle.entries.specs.Profiles.{group_bytes, record_size}
use Rattle.entries.specs.Entries.{group_of, behind, object_of, status_of, zeros_of, age_of, status_number, entry, with_status, age_good, entry_from, entry_behind, entry_of, record_at, entry_at}
use Rattle.entries.specs.Exactly.{Obeys}
use Rattle.entries.specs.declared.Profile.{Profile}
use Rattle.entries.specs.declared.Status.{Status}
use Rattle.entries.specs.declared.Status.TheVariants.{Received, Late, NotReceived, Partial}
use Rattle.entries.proofs.Sizes.{step, whole-many}
use Rattle.entries.proofs.Profiles.{sized}
use Rattle.entries.proofs.Fields.{record-long, mark-is}
use Rattle.entries.proofs.Verdicts.{same-values}

-- ---- what an entry tells of its bytes

-- fields that make an entry are its values
record Told (group object status zeros age g o : ℕ) (x : Status) (a : ℕ) : Type 0 where
  group-is : group ≡ g
  object-is : object ≡ o
  status-is : status ≡ status_number x
  zeros-are : zeros ≡ 0
  age-is : age ≡ a

module _ (group object status zeros age g o : ℕ) (x : Status) (a : ℕ) where
  one-status : (y : Status) → status ≡ status_number y → zeros ≡ 0 → entry group object y age ≡ entry g o x a → Told group object status zeros age g o x a
  one-status y s z e =
      let v = same-values group object y age g o x a e in
      record { group-is = v.group; object-is = v.object; status-is = s ∙ ap status_number v.status; zeros-are = z; age-is = v.age }

  broken : Err BrokenEntry ≡ entry g o x a → Told group object status zeros age g o x a
  broken e = let z : ◌≡◌ {A = ℕ} 0 1 = cc in absurd (omega arith)

  by-status : zeros ≡ 0 → with_status group object status age ≡ entry g o x a → Told group object status zeros age g o x a
  by-status z e = go (eqb status 0) (eqb status 1) (eqb status 2) (eqb status 3) refl refl refl refl e
    where
      go : (k l m n : Bool) → eqb status 0 ≡ k → eqb status 1 ≡ l → eqb status 2 ≡ m → eqb status 3 ≡ n
          → pick k (entry group object Received age) (pick l (entry group object Late age) (pick m (entry group object NotReceived age) (pick n (entry group object Partial age) (Err BrokenEntry)))) ≡ entry g o x a
          → Told group object status zeros age g o x a
      go true l m n t u v w e = one-status Received (eqb-true status 0 t) z e
      go false true m n t u v w e = one-status Late (eqb-true status 1 u) z e
      go false false true n t u v w e = one-status NotReceived (eqb-true status 2 v) z e
      go false false false true t u v w e = one-status Partial (eqb-true status 3 w) z e
      go false false false false t u v w e = broken e

  by-fields : entry_from group object status zeros age ≡ entry g o x a → Told group object status zeros age g o x a
  unfolding entry_from
  by-fields e = go (leb group limit) (leb object limit) (eqb zeros 0) (age_good status age) refl e
    where
      go : (k l m n : Bool) → eqb zeros 0 ≡ m → pick k (pick l (pick m (pick n (with_status group object status age) (Err BrokenEntry)) (Err BrokenEntry)) (Err BrokenEntry)) (Err BrokenEntry) ≡ entry g o x a
          → Told group object status zeros age g o x a
      go true true true true t e = by-status (eqb-true zeros 0 t) e
      go true true true false t e = broken e
      go true true false n t e = broken e
      go true false m n t e = broken e
      go false l m n t e = broken e

told : (p : Profile) (b : List ℕ) (g o : ℕ) (x : Status) (a : ℕ) → entry_of p b ≡ entry g o x a
    → Told (group_of p b) (object_of (behind p b)) (status_of (behind p b)) (zeros_of (behind p b)) (age_of (behind p b)) g o x a
unfolding entry_behind
told p b g o x a e = go (leb entry_size (length c)) e
  where
    c : List ℕ
    c = behind p b

    go : (k : Bool) → pick k (entry_from (group_of p b) (object_of c) (status_of c) (zeros_of c) (age_of c)) (Err Ends) ≡ entry g o x a
        → Told (group_of p b) (object_of c) (status_of c) (zeros_of c) (age_of c) g o x a
    go true e = by-fields (group_of p b) (object_of c) (status_of c) (zeros_of c) (age_of c) g o x a e
    go false e = let z : ◌≡◌ {A = ℕ} 0 1 = cc in absurd (omega arith)

-- ---- one record

-- bytes that begin alike and go on alike
joined : (n : ℕ) (b c : List ℕ) → take n b ≡ take n c → drop n b ≡ drop n c → b ≡ c
joined n b c e f = sym (take-append-drop n b) ∙ ap₂ ◌++◌ e f ∙ take-append-drop n c

-- a field with the same number has the same bytes
field-same : (b c : List ℕ) (at len : ℕ) → Octets b → Octets c → at + len ≤ length b → at + len ≤ length c
    → be 0 (take len (drop at b)) ≡ be 0 (take len (drop at c)) → take len (drop at b) ≡ take len (drop at c)
field-same b c at len o q h l e =
    let m : length (take len (drop at b)) ≡ len = length-take-le len (drop at b) (rw length-drop (omega arith)) in
    let n : length (take len (drop at c)) ≡ len = length-take-le len (drop at c) (rw length-drop (omega arith)) in
    (be-one (take len (drop at b)) (take len (drop at c)) 0 0 (octets-part b at len o) (octets-part c at len q) (m ∙ sym n) e).1

-- the bytes of a record behind its group
behind-same : (b c : List ℕ) → Octets b → Octets c → length b ≡ entry_size → length c ≡ entry_size → object_of b ≡ object_of c → status_of b ≡ status_of c → zeros_of b ≡ zeros_of c → age_of b ≡ age_of c → b ≡ c
behind-same b c o q h l i j k m =
    let mark : be 0 (take 4 (drop 8 b)) ≡ be 0 (take 4 (drop 8 c)) = mark-is b o (omega arith) ∙ ap₂ (λ (x y : ℕ). x * 16777216 + y) j k ∙ sym (mark-is c q (omega arith)) in
    let end : drop 16 b ≡ drop 16 c = drop_of_length-le b {i = 16} (omega arith) ∙ sym (drop_of_length-le c {i = 16} (omega arith)) in
    joined 8 b c (field-same b c 0 8 o q (omega arith) (omega arith) i)
    (joined 4 (drop 8 b) (drop 8 c) (field-same b c 8 4 o q (omega arith) (omega arith) mark)
    (rw (drop-drop 4 8 b, drop-drop 4 8 c)
    (joined 4 (drop 12 b) (drop 12 c) (field-same b c 12 4 o q (omega arith) (omega arith) m)
    (rw (drop-drop 4 12 b, drop-drop 4 12 c) end))))

-- as many bytes that are the same entry are the same bytes
record_same : (p : Profile) (b c : List ℕ) → Octets b → Octets c → length b ≡ record_size p → length c ≡ record_size p → (g o : ℕ) (x : Status) (a : ℕ)
    → entry_of p b ≡ entry g o x a → entry_of p c ≡ entry g o x a → b ≡ c
record_same p b c o q h l g n x a e f =
    let i = told p b g n x a e in
    let j = told p c g n x a f in
    joined (group_bytes p) b c
    (field-same b c 0 (group_bytes p) o q (omega arith) (omega arith) (i.group-is ∙ sym j.group-is))
    (behind-same (behind p b) (behind p c) (λ k. rw get_or-drop (o (group_bytes p + k))) (λ k. rw get_or-drop (q (group_bytes p + k))) (rw length-drop (omega arith)) (rw length-drop (omega arith))
    (i.object-is ∙ sym j.object-is) (i.status-is ∙ sym j.status-is) (i.zeros-are ∙ sym j.zeros-are) (i.age-is ∙ sym j.age-is))

-- ---- records in a row

-- record i of those behind the first is record i + 1
one_on : (p : Profile) (s : List ℕ) (i : ℕ) → record_at p (drop (record_size p) s) i ≡ record_at p s (suc i)
one_on p s i =
    let n : record_size p + i * record_size p ≡ suc i * record_size p = omega (arith, step (record_size p) i) in
    rw (drop-drop (i * record_size p) (record_size p) s, n)

parts_same : (p : Profile) (n : ℕ) (s t : List ℕ) → length s ≡ record_size p * n → length t ≡ record_size p * n → ((i : ℕ) → i < n → record_at p s i ≡ record_at p t i) → s ≡ t
parts_same p zero s t h l f = none s (omega arith) ∙ sym (none t (omega arith))
  where
    none : (s : List ℕ) → length s ≡ 0 → s ≡ []
    none s h = drop_of_length-le s {i = 0} (omega arith)
parts_same p (suc n) s t h l f =
    joined (record_size p) s t first (parts_same p n (drop (record_size p) s) (drop (record_size p) t) (rw length-drop (omega arith)) (rw length-drop (omega arith)) (λ i k. one_on p s i ∙ f (suc i) (omega arith) ∙ sym (one_on p t i)))
  where
    first : take (record_size p) s ≡ take (record_size p) t
    first = rw (zero-mul) at (f 0 (omega arith))

-- n records in a row that obey their rule and have the same values, one by one, are the same bytes
pub same-records : (p : Profile) (n : ℕ) (s t : List ℕ) → Octets s → Octets t → length s ≡ record_size p * n → length t ≡ record_size p * n
    → ((i : ℕ) → i < n → Obeys p s i) → ((i : ℕ) → i < n → entry_at p s i ≡ entry_at p t i) → s ≡ t
same-records p n s t o q h l good same =
    parts_same p n s t h l (λ i k.
    let e = good i k in
    record_same p (record_at p s i) (record_at p t i) (octets-part s (i * record_size p) (record_size p) o) (octets-part t (i * record_size p) (record_size p) q) (long s h i k) (long t l i k)
    e.group e.object e.status e.age e.entry (sym (same i k) ∙ e.entry))
  where
    long : (x : List ℕ) → length x ≡ record_size p * n → (i : ℕ) → i < n → length (record_at p x i) ≡ record_size p
    long x e i k = record-long p x i n (sym (whole-many (record_size p) (sized p) (length x) n e)) k
