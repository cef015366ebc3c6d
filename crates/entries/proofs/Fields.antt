-- One record: its fields as the code reads them, its status and its zero bytes as one field of four bytes.
-- Assumes nothing.
use Rattle.std.proofs.Common.{◌≡◌, ℕ, ◌+◌, ◌-◌, ◌*◌, ◌/◌, ◌%◌, ◌^◌, ◌<◌, ◌≤◌, List, [], ◌∷◌, Some, None, Result, Ok, Err, length, take, drop, sym, refl, ap, ◌∙◌, mul_assoc, add-mul, arith, length-drop, length-take, length-take-le, take_all, drop-cons, le-leb, take-append-drop, drop-drop, ◌++◌}
use native.Mathlib.Nat.{pow-succ'}
use borrow.Author.Tests.{lt-leb}
use Rattle.wire.specs.Bytes.{be, Octets}
use Rattle.wire.specs.Fields.{read_fixed}
use Rattle.wire.specs.declared.Fixed.{Fixed}
use Rattle.wire.specs.declared.Refusal.{Refusal}
use Rattle.wire.specs.declared.Refusal.TheVariants.{Ends}
use Rattle.wire.proofs.Bytes.{bound, octets-part}
use Rattle.wire.proofs.Lengths.{split}
use Rattle.entries.specs.Limits.{entry_size}
use Rattle.entries.specs.Profiles.{group_bytes, record_size}
use Rattle.entries.specs.Entries.{group_of, object_of, status_of, zeros_of, age_of, entry_behind, entry_of, record_at, entry_at}
use Rattle.entries.specs.Steps.{parts_in}
use Rattle.entries.specs.declared.Profile.{Profile}
use Rattle.entries.specs.declared.Profile.TheVariants.{Two}
use Rattle.entries.specs.declared.Entry.{Entry}
use Rattle.entries.proofs.Sizes.{step, there, not_there}
use Rattle.entries.proofs.Profiles.{sized}

pub too_short : (group : ℕ) (b : List ℕ) → length b < entry_size → Err Ends ≡ entry_behind group b
unfolding entry_behind
too_short group b h = rw (lt-leb entry_size (length b) h)

-- ---- the part that the code lends is the record; size is what the code has for its size, n for how many there are
module _ (p : Profile) (s : List ℕ) (i : ℕ) where
  pub record_is : (size : ℕ) → size ≡ record_size p → take (i * size + size - i * size) (drop (i * size) s) ≡ record_at p s i
  record_is size e = let l : i * size + size - i * size ≡ size = omega arith in rw (l, e)

  pub part-is : (size : ℕ) → size ≡ record_size p → entry_of p (take (i * size + size - i * size) (drop (i * size) s)) ≡ entry_at p s i
  part-is size e = ap (entry_of p) (record_is size e)

  module _ (n : ℕ) (m : n ≡ length s / record_size p) where
    pub part-there : (size : ℕ) → size ≡ record_size p → i < n → i * size + size ≤ length s
    part-there size e h = rw (e, step (record_size p) i) (there (record_size p) (sized p) (length s) i (rw m at h))

    pub record-long : i < n → length (record_at p s i) ≡ record_size p
    record-long h = let t = part-there (record_size p) refl h in length-take-le (record_size p) (drop (i * record_size p) s) (rw (length-drop) (omega arith))

    pub ends_at : n ≤ i → Err Ends ≡ entry_at p s i
    ends_at h =
        let l : length s < (i + 1) * record_size p = not_there (record_size p) (sized p) (length s) i (rw m at h) in
        let x = step (record_size p) i in
        too_short _ (drop (group_bytes p) (record_at p s i)) (simp (length-drop, length-take) (omega arith))

-- ---- a record's fields as the code reads them

-- a field that was read
abbrev pub found_fixed : ℕ → ℕ → Result Fixed Refusal
found_fixed v next = Ok (record { value = v; next = next })

fixed-there : (len : ℕ) (s : List ℕ) (at : ℕ) → at + len ≤ length s → read_fixed len s at ≡ found_fixed (be 0 (take len (drop at s))) (at + len)
unfolding read_fixed
fixed-there len s at h = rw (le-leb (at + len) (length s) h)

fixed-ends : (len : ℕ) (s : List ℕ) (at : ℕ) → length s < at + len → read_fixed len s at ≡ Err Ends
unfolding read_fixed
fixed-ends len s at h = rw (lt-leb (at + len) (length s) h)

-- a field within the bytes is there
pub never_ends : {A : Type 0} (len : ℕ) (s : List ℕ) (at : ℕ) (n : Result Fixed Refusal) (r : Refusal) → at + len ≤ length s → n ≡ Err r → n ≡ read_fixed len s at → A
never_ends len s at n r h t e =
    let f : found_fixed (be 0 (take len (drop at s))) (at + len) ≡ Err r = sym (fixed-there len s at h) ∙ sym e ∙ t in
    let z : ◌≡◌ {A = ℕ} 0 1 = cc in
    absurd (omega arith)

pub field_is : (len : ℕ) (s : List ℕ) (at : ℕ) (n : Result Fixed Refusal) (x : Fixed) → at + len ≤ length s → n ≡ Ok x → n ≡ read_fixed len s at → x.value ≡ be 0 (take len (drop at s))
field_is len s at n x h t e =
    let f : Ok x ≡ found_fixed (be 0 (take len (drop at s))) (at + len) = sym t ∙ e ∙ fixed-there len s at h in
    let k : x ≡ record { value = be 0 (take len (drop at s)); next = at + len } = cc in
    rw k

-- what comes behind the first bytes, as the code lends it
pub behind-is : (k : ℕ) (b : List ℕ) → take (length b - k) (drop k b) ≡ drop k b
behind-is k b = take_all (length b - k) (drop k b) (rw (length-drop) (omega arith))

be-more : (bs : List ℕ) (acc : ℕ) → be acc bs ≡ acc * 256 ^ length bs + be 0 bs
be-more [] acc = omega arith
be-more (b ∷ bs) acc =
    let p : ℕ = 256 ^ length bs in
    let l : be (acc * 256 + b) bs ≡ (acc * 256 + b) * p + be 0 bs = be-more bs (acc * 256 + b) in
    let r : be (0 * 256 + b) bs ≡ (0 * 256 + b) * p + be 0 bs = be-more bs (0 * 256 + b) in
    let d : (acc * 256 + b) * p ≡ acc * 256 * p + b * p = add-mul (acc * 256) b p in
    let z : (0 * 256 + b) * p ≡ b * p = ap (λ (n : ℕ). n * p) (omega arith) in
    rw (pow-succ', ← mul_assoc) (omega arith)

-- the field of four bytes at 8 is the status above the three zero bytes
module _ (b : List ℕ) (o : Octets b) (h : entry_size ≤ length b) where
  pub mark-is : be 0 (take 4 (drop 8 b)) ≡ status_of b * 16777216 + zeros_of b
  mark-is =
      let l : length (take 3 (drop 9 b)) ≡ 3 = length-take-le 3 (drop 9 b) (rw (length-drop) (omega arith)) in
      let e : take 4 (drop 8 b) ≡ status_of b ∷ take 3 (drop 9 b) = rw (drop-cons b 8 0 (omega arith)) in
      rw e (be-more (take 3 (drop 9 b)) (0 * 256 + status_of b) ∙ rw l (omega arith))

  zeros-small : zeros_of b < 16777216
  zeros-small =
      let l : length (take 3 (drop 9 b)) ≡ 3 = length-take-le 3 (drop 9 b) (rw (length-drop) (omega arith)) in
      let q = bound (take 3 (drop 9 b)) 0 (octets-part b 9 3 o) in
      omega (arith, rw l at q)

  pub mark-status : be 0 (take 4 (drop 8 b)) / 16777216 ≡ status_of b
  mark-status = omega (arith, mark-is, zeros-small)

  pub mark-zeros : be 0 (take 4 (drop 8 b)) % 16777216 ≡ zeros_of b
  mark-zeros = omega (arith, mark-is, zeros-small)

-- what the code read of the fields are the parts
pub parts_are : (b : List ℕ) (object mark age : ℕ) → Octets b → entry_size ≤ length b → object ≡ object_of b → mark ≡ be 0 (take 4 (drop 8 b)) → age ≡ age_of b
    → Some (record { object = object; status = mark / 16777216; zeros = mark % 16777216; age = age }) ≡ parts_in b
parts_are b object mark age o h p q t = rw (le-leb entry_size (length b) h, p, q, t, mark-status b o h, mark-zeros b o h)

pub parts-missing : (b : List ℕ) → length b < entry_size → None ≡ parts_in b
parts-missing b h = rw (lt-leb entry_size (length b) h)

-- ---- a record: its group, where the profile has one, then the rest

-- n is what the code read of the group
module _ (p : Profile) (b : List ℕ) (n : Result Fixed Refusal) (e : n ≡ read_fixed (group_bytes p) b 0) where
  pub group-ends : (r : Refusal) → n ≡ Err r → Err Ends ≡ entry_of p b
  group-ends r t =
      split (group_bytes p) (length b)
      (λ h. never_ends (group_bytes p) b 0 n r (omega arith) t e)
      (λ h. too_short _ (drop (group_bytes p) b) (rw (length-drop) (omega arith)))

  module _ (x : Fixed) (t : n ≡ Ok x) where
    group-fits : group_bytes p ≤ length b
    group-fits =
        split (group_bytes p) (length b)
        (λ h. h)
        (λ h. let f : Ok x ≡ Err Ends = sym t ∙ e ∙ fixed-ends (group_bytes p) b 0 (omega arith) in
        let z : ◌≡◌ {A = ℕ} 0 1 = cc in
        absurd (omega arith))

    next-is : x.next ≡ group_bytes p
    next-is =
        let f : Ok x ≡ found_fixed (be 0 (take (group_bytes p) (drop 0 b))) (0 + group_bytes p) = sym t ∙ e ∙ fixed-there (group_bytes p) b 0 (omega (arith, group-fits)) in
        let k : x ≡ record { value = be 0 (take (group_bytes p) (drop 0 b)); next = 0 + group_bytes p } = cc in
        rw k (omega arith)

    pub group-there : x.next ≤ length b
    group-there = omega (arith, next-is, group-fits)

    -- r is what the code makes of the rest
    pub group-is : (r : Result Entry Refusal) → r ≡ entry_behind x.value (take (length b - x.next) (drop x.next b)) → r ≡ entry_of p b
    group-is r f =
        let g : x.value ≡ group_of p b = field_is (group_bytes p) b 0 n x (omega (arith, group-fits)) t e in
        f ∙ rw (behind-is x.next b, g, next-is)

-- ---- a record of profile 2 as the loop over them has it
module _ (b : List ℕ) (l : length b ≡ record_size Two) where
  pub group-there-first : {A : Type 0} (x : Result Fixed Refusal) (r : Refusal) → x ≡ Err r → x ≡ read_fixed 8 b 0 → A
  group-there-first x r t e = never_ends 8 b 0 x r (omega arith) t e

  pub group-is-first : (x : Result Fixed Refusal) (f : Fixed) → x ≡ Ok f → x ≡ read_fixed 8 b 0 → f.value ≡ group_of Two b
  group-is-first x f t e = field_is 8 b 0 x f (omega arith) t e

-- record i, as the loop over places lends it, and what comes after it
module _ (s : List ℕ) (i n : ℕ) (m : n ≡ length s / record_size Two) (h : i < n) where
  abbrev lent : List ℕ
  lent = take (i * 24 + 24 - i * 24) (drop (i * 24) s)

  pub lent-long : length lent ≡ record_size Two
  lent-long = rw (record_is Two s i 24 refl) (record-long Two s i n m h)

  pub lent-parts : drop (i * 24) s ≡ lent ++ drop ((i + 1) * 24) s
  lent-parts =
      let k : i * 24 + 24 ≡ (i + 1) * 24 = omega arith in
      rw (record_is Two s i 24 refl) (sym (take-append-drop 24 (drop (i * 24) s)) ∙ ap (λ (x : List ℕ). record_at Two s i ++ x) (drop-drop 24 (i * 24) s ∙ ap (λ (j : ℕ). drop j s) k))
