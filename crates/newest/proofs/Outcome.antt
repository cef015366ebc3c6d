-- What a search comes to: the last record that is marked not received, none, or a bad record; and it was read down to there.
-- Assumes nothing.
use Prim.Native.Nat.{ℕ, zero, suc, ◌≤◌, ◌<◌, zero-le}
use mathlib.Core.Path.{◌≡◌, refl, sym, ap, ◌∙◌, subst}
use mathlib.Core.Bool.{Bool, true, false}
use mathlib.Core.Logic.{◌⊎◌, inl, inr}
use mathlib.Core.List.{List}
use native.Mathlib.Nat.{le_refl}
use native.Mathlib.Omega.{arith}
use Rattle.std.specs.Prelude.{Option, Result, Ok, Err}
use borrow.Author.Tests.{lt-ltb, ne_eqb}
use Rattle.wire.specs.Bytes.{pick}
use Rattle.wire.specs.Numbers.{limit}
use Rattle.wire.specs.Refusals.{refusal_number}
use Rattle.wire.specs.declared.Refusal.{Refusal}
use Rattle.wire.specs.declared.Refusal.TheVariants.{BrokenEntry}
use Rattle.wire.proofs.Lengths.{split}
use Rattle.entries.specs.Entries.{group_of, behind, object_of, record_at, entry, entry_of, entry_at, at_or_above}
use Rattle.entries.specs.Exactly.{Below}
use Rattle.entries.specs.declared.Profile.{Profile}
use Rattle.entries.specs.declared.Status.{Status}
use Rattle.entries.specs.declared.Status.TheVariants.{Received, Late, NotReceived, Partial}
use Rattle.entries.specs.declared.Entry.{Entry}
use Rattle.entries.proofs.Order.{below, above-below}
use Rattle.entries.proofs.Verdicts.{Verdict, short, wrong, right, verdict, key-is, same-values}
use Rattle.newest.specs.Search.{found, nothing, is_lost, judged, searched, newest_in}
use Rattle.newest.specs.Exactly.{Lost, Read, Stands, BadRead, Last, last, none}
use Rattle.newest.specs.declared.Lost.{Lost as LostObject}

never : {A : Type 0} → false ≡ true → A
never e = let z : ◌≡◌ {A = ℕ} 0 1 = cc in absurd (omega arith)

-- the group of an entry is not above the limit
group-small : (p : Profile) (b : List ℕ) (group object : ℕ) (status : Status) (age : ℕ) → entry_of p b ≡ entry group object status age → group ≤ limit
group-small p b group object status age f = go (entry_of p b) (verdict p b) f
  where
    go : (x : Result Entry Refusal) → Verdict p b x → x ≡ entry group object status age → group ≤ limit
    go x (short h) e = let z : ◌≡◌ {A = ℕ} 0 1 = cc in absurd (omega arith)
    go x (wrong h n) e = let z : ◌≡◌ {A = ℕ} 0 1 = cc in absurd (omega arith)
    go x (right h r) e = let v = same-values _ _ _ _ group object status age e in omega (arith, r.group, v.group)

lost-is : (status : Status) → is_lost status ≡ true → status ≡ NotReceived
lost-is Received t = never t
lost-is Late t = never t
lost-is NotReceived t = refl
lost-is Partial t = never t

module _ (p : Profile) (s : List ℕ) (n : ℕ) where
  -- top and next are the group and the object number of record k, or past all where there is none
  data After : ℕ → ℕ → ℕ → Type 0 where
    some : {k top next : ℕ} → top ≡ group_of p (record_at p s k) → next ≡ object_of (behind p (record_at p s k)) → k < n → After k top next
    past : {k top next : ℕ} → n ≤ k → top ≡ suc limit → After k top next

  pub data Outcome : Result (Option LostObject) Refusal → Type 0 where
    one : {i : ℕ} → (x : Lost p s i) → i < n → Read p s n i → ((j : ℕ) → i ≤ j → j < n → Stands p s n j) → Outcome (found x.group x.object)
    no_one : ((j : ℕ) → j < n → Lost p s j → ⊥) → ((j : ℕ) → j < n → Stands p s n j) → Outcome nothing
    bad : BadRead p s n → Outcome (Err BrokenEntry)

  abbrev Good : ℕ → Type 0
  Good k = (j : ℕ) → k ≤ j → j < n → Stands p s n j

  abbrev Passed : ℕ → Type 0
  Passed k = (j : ℕ) → k ≤ j → j < n → Lost p s j → ⊥

  -- record k, which is an entry
  module _ (k top next group object : ℕ) (status : Status) (age : ℕ) (e : entry_at p s k ≡ entry group object status age) where
    stands_here : After (suc k) top next → at_or_above group (suc object) top next ≡ true → Stands p s n k
    stands_here a t = record { group = group; object = object; status = status; age = age; entry = e; below = λ l. go a l }
      where
        go : After (suc k) top next → suc k < n → Below group object (group_of p (record_at p s (suc k))) (object_of (behind p (record_at p s (suc k))))
        go (some g o h) l = rw (g, o) at (below group object top next t)
        go (past h g) l = absurd (omega arith)

    not-below : After (suc k) top next → at_or_above group (suc object) top next ≡ false → Stands p s n k → ⊥
    not-below a t x = go a
      where
        r : entry group object status age ≡ entry x.group x.object x.status x.age
        r = sym e ∙ x.entry

        go : After (suc k) top next → ⊥
        go (some g o h) =
            let v = same-values group object status age x.group x.object x.status x.age r in
            let b : Below group object top next = rw (g, o, v.group, v.object) (x.below h) in
            never (sym t ∙ above-below group object top next b)
        go (past h g) =
            let w : group ≤ limit = group-small p (record_at p s k) group object status age e in
            never (sym t ∙ rw (g, ne_eqb (suc limit) group (λ z. omega arith)) (lt-ltb group (suc limit) (omega arith)))

    good-here : Good (suc k) → Stands p s n k → Good k
    good-here g x j l m = split (suc k) j (λ h. g j h m) (λ h. let q : k ≡ j = omega arith in subst (Stands p s n) q x)

    passed_here : Passed (suc k) → is_lost status ≡ false → Passed k
    passed_here f t j l m x = split (suc k) j (λ h. f j h m x) (λ h. let q : j ≡ k = omega arith in other (subst (Lost p s) q x))
      where
        other : Lost p s k → ⊥
        other y =
            let v = same-values y.group y.object NotReceived y.age group object status age (sym y.entry ∙ e) in
            never (sym t ∙ sym (ap is_lost v.status))

  told : (k top next : ℕ) → k ≤ n → After k top next → Good k → Passed k → Outcome (searched p s k top next)
  unfolding searched
  told zero top next l a g f = no_one (λ j m. f j zero-le m) (λ j m. g j zero-le m)
  told (suc k) top next l a g f = by (told k) (entry_at p s k) refl
    where
      broken : (refusal : Refusal) → entry_at p s k ≡ Err refusal → BadRead p s n
      broken refusal q = record { index = k; there = l; read = λ j m. f j m; bad = λ x. none_read x (sym q ∙ x.entry) }
        where
          none_read : (x : Stands p s n k) → Err refusal ≡ entry x.group x.object x.status x.age → ⊥
          none_read x i = let z : ◌≡◌ {A = ℕ} 0 1 = cc in omega arith

      by : ((top next : ℕ) → k ≤ n → After k top next → Good k → Passed k → Outcome (searched p s k top next)) → (e : Result Entry Refusal) → entry_at p s k ≡ e
          → Outcome (judged top next e (searched p s k))
      by more (Ok r) e = order (at_or_above r.group (suc r.object) top next) refl
        where
          mark : (x : Stands p s n k) (b : Bool) → is_lost r.status ≡ b → Outcome (pick b (found r.group r.object) (searched p s k r.group r.object))
          mark x true t =
              one (record { group = r.group; object = r.object; age = r.age; entry = e ∙ ap (λ (m : Status). entry r.group r.object m r.age) (lost-is r.status t) }) l (λ j m. f j m)
              (good-here k top next r.group r.object r.status r.age e g x)
          mark x false t =
              let y = key-is p (record_at p s k) (entry_at p s k) r.group r.object r.status r.age e refl in
              more r.group r.object (omega arith) (some (sym y.group) (sym y.object) l) (good-here k top next r.group r.object r.status r.age e g x) (passed_here k top next r.group r.object r.status r.age e f t)

          order : (b : Bool) → at_or_above r.group (suc r.object) top next ≡ b → Outcome (pick b (pick (is_lost r.status) (found r.group r.object) (searched p s k r.group r.object)) (Err BrokenEntry))
          order true t = mark (stands_here k top next r.group r.object r.status r.age e a t) (is_lost r.status) refl
          order false t = bad (record { index = k; there = l; read = λ j m. f j m; bad = not-below k top next r.group r.object r.status r.age e a t })
      by more (Err refusal) e = bad (broken refusal e)

  pub outcome : Outcome (newest_in p s n)
  outcome = told n (suc limit) 0 (le_refl n) (past (le_refl n) refl) (λ j a b. absurd (omega arith)) (λ j a b. absurd (omega arith))

  -- records that all stand
  pub all-stand : ((j : ℕ) → j < n → Stands p s n j) → BadRead p s n → ⊥
  all-stand f b = b.bad (f b.index b.there)

  -- an answer that is no refusal has read no bad record
  found-good : (i : ℕ) → i < n → Lost p s i → ((j : ℕ) → i ≤ j → j < n → Stands p s n j) → BadRead p s n → ⊥
  found-good i l x g b = split i b.index (λ h. b.bad (g b.index h b.there)) (λ h. b.read i h l x)

  pub bad-refused : BadRead p s n → newest_in p s n ≡ Err BrokenEntry
  bad-refused b = go (newest_in p s n) outcome
    where
      go : (r : Result (Option LostObject) Refusal) → Outcome r → r ≡ Err BrokenEntry
      go r (one {i = i} x l rd g) = absurd (found-good i l x g b)
      go r (no_one f g) = absurd (all-stand g b)
      go r (bad y) = refl

  pub good-last : (BadRead p s n → ⊥) → Last p s n (newest_in p s n)
  good-last f = go (newest_in p s n) outcome
    where
      go : (r : Result (Option LostObject) Refusal) → Outcome r → Last p s n r
      go r (one x l rd g) = last x l rd
      go r (no_one h g) = none h
      go r (bad y) = absurd (f y)

  -- 12 and a bad record, or 0 and none
  pub twelve-or : ((refusal_number (newest_in p s n) ≡ 12) × BadRead p s n) ⊎ ((refusal_number (newest_in p s n) ≡ 0) × (BadRead p s n → ⊥))
  twelve-or = go (newest_in p s n) outcome
    where
      go : (r : Result (Option LostObject) Refusal) → Outcome r → ((refusal_number r ≡ 12) × BadRead p s n) ⊎ ((refusal_number r ≡ 0) × (BadRead p s n → ⊥))
      go r (one {i = i} x l rd g) = inr (refl, found-good i l x g)
      go r (no_one f g) = inr (refl, all-stand g)
      go r (bad y) = inl (refl, y)
