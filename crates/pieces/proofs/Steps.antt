-- The steps of a call over records: the one that is carried is made whole, then those that lie whole in the part.
-- Assumes nothing.
use Prim.Native.Nat.{ℕ, zero, suc, ◌+◌, ◌-◌, ◌*◌, ◌≤◌, ◌<◌, zero-le}
use mathlib.Core.Path.{◌≡◌, refl, sym, ap, ap₂, ◌∙◌}
use mathlib.Core.Logic.{inl, inr}
use mathlib.Core.Bool.{Bool, true, false}
use mathlib.Core.List.{List, [], ◌∷◌, ◌++◌}
use native.Mathlib.Nat.{mul-zero}
use native.Mathlib.Omega.{arith}
use borrow.Author.Tests.{eqb-true, eqb-false, leb-true, leb-false}
use lib.Dec.{eqb, leb}
use lib.ListN.{length, take, drop, length-append}
use lib.Seq.{length-take-le}
use Rattle.wire.specs.Bytes.{pick, splice}
use Rattle.entries.specs.Profiles.{record_size}
use Rattle.entries.specs.declared.Profile.{Profile}
use Rattle.entries.specs.declared.Profile.TheVariants.{One, Two}
use Rattle.uncut.specs.State.{State, Numbers, Records, Counting, Refused, Accepted}
use Rattle.uncut.specs.Step.{after_bad, delivered}
use Rattle.uncut.specs.Cutting.{taking}
use Rattle.pieces.specs.Record.{Stand, Moved, state_as, state_in}
use Rattle.pieces.specs.Reading.{Key, Good, Bad, key_of, counted_on, completes_of}
use Rattle.pieces.specs.Serving.{Ready, Sits, Served, Past, Begun}
use Rattle.pieces.proofs.Going.{went-chunk}
use Rattle.pieces.proofs.Keeping.{ready-after}
use Rattle.pieces.proofs.Filling.{Rowed, keyed, key_given, rowed-whole}
use Rattle.pieces.proofs.Stages.{at_records, at-counting}

pub size-most : (p : Profile) → record_size p ≤ 24
size-most One = omega arith
size-most Two = omega arith

module _ (p : Profile) where
  -- bytes that bring records are a step of a call
  pub served-rowed : (st : State) (part out : List ℕ) (m : Moved) (out' d : List ℕ) → m.taken ≤ length part → Rowed p (length out) st (take m.taken part) (state_in m.now) d
      → out' ≡ splice out 0 d → record_size p * m.records ≡ length d → record_size p * m.records ≤ length out → Ready p st
      → (m.now.count ≤ 25) → (m.now.carried ≤ 24) → (length m.now.numbers ≡ 25) → (length m.now.held ≡ 24) → Served p st part out m out'
  served-rowed st part out m out' d h r o n f y a b c e =
      let l : length (take m.taken part) ≡ m.taken = length-take-le m.taken part h in
      let w = went-chunk p (length out) st part m.taken h (r.takes ∙ l) in
      record {
        went = record { within = h; comes = r.comes; goes = w.goes ∙ ap (λ (x : State). m.taken + taking p (length out - length (delivered p st (take m.taken part))) x (drop m.taken part)) r.comes };
        bytes = o ∙ ap (splice out 0) (sym r.gives);
        many = n ∙ ap length (sym r.gives);
        fits = f;
        sits = record { count = a; carried = b; numbers = c; held = e; ready = rw r.comes at (ready-after p st (take m.taken part) y) };
      }

  -- ---- the record that is carried

  pub begun-still : (s : Stand) (part : List ℕ) → Sits p s → Past (state_in s) part → completes_of s.stage s.left s.carried (record_size p) (length part) ≡ false → Begun p (state_in s) part
  unfolding state_as
  begun-still s part h q e =
      let k : length (take s.carried s.held) ≡ s.carried = length-take-le s.carried s.held (omega (arith, h.carried, h.held)) in
      go (eqb s.stage 0) (eqb s.stage 1) (eqb s.stage 2) (eqb s.stage 3) k q e
    where
      ns : List ℕ
      ns = take s.count s.numbers

      held : List ℕ
      held = take s.carried s.held

      empty : (xs : List ℕ) → length xs ≡ 0 → xs ≡ []
      empty [] e = refl
      empty (x ∷ xs) e = absurd (omega arith)

      rows : (left : ℕ) (a b : Bool) → length held ≡ s.carried → eqb left 0 ≡ a → eqb s.carried 0 ≡ b
          → pick a false (pick b false (leb (record_size p) (s.carried + length part))) ≡ false → Begun p (Records ns left s.last s.above held) part
      rows zero a b k f g e = tt
      rows (suc n) true b k f g e = absurd (omega (arith, eqb-true (suc n) 0 f))
      rows (suc n) false true k f g e = inl (empty held (k ∙ eqb-true s.carried 0 g))
      rows (suc n) false false k f g e = inr (omega (arith, leb-false (record_size p) (s.carried + length part) e))

      go : (a b c d : Bool) → length held ≡ s.carried
          → Past (pick a (Numbers ns held) (pick b (Records ns s.left s.last s.above held) (pick c (Counting ns s.left) (pick d (Refused s.left) (Accepted ns))))) part
          → pick b (pick (eqb s.left 0) false (pick (eqb s.carried 0) false (leb (record_size p) (s.carried + length part)))) false ≡ false
          → Begun p (pick a (Numbers ns held) (pick b (Records ns s.left s.last s.above held) (pick c (Counting ns s.left) (pick d (Refused s.left) (Accepted ns))))) part
      go true b c d k q e = q
      go false true c d k q e = rows s.left (eqb s.left 0) (eqb s.carried 0) k refl refl e
      go false false true d k q e = tt
      go false false false true k q e = tt
      go false false false false k q e = tt

  pub record Completes (s : Stand) (part : List ℕ) : Type 0 where
    pub stage : s.stage ≡ 1
    pub left : s.left ≡ 0 → ⊥
    pub carried : s.carried ≡ 0 → ⊥
    pub there : record_size p ≤ s.carried + length part

  pub completes-true : (s : Stand) (part : List ℕ) → completes_of s.stage s.left s.carried (record_size p) (length part) ≡ true → Completes s part
  completes-true s part e = go (eqb s.stage 1) (eqb s.left 0) (eqb s.carried 0) refl refl refl e
    where
      never : {A : Type 0} → false ≡ true → A
      never e = let z : ◌≡◌ {A = ℕ} 0 1 = cc in absurd (omega arith)

      go : (a b c : Bool) → eqb s.stage 1 ≡ a → eqb s.left 0 ≡ b → eqb s.carried 0 ≡ c
          → pick a (pick b false (pick c false (leb (record_size p) (s.carried + length part)))) false ≡ true → Completes s part
      go true true c f g h e = never e
      go true false true f g h e = never e
      go true false false f g h e = record { stage = eqb-true s.stage 1 f; left = eqb-false s.left 0 g; carried = eqb-false s.carried 0 h; there = leb-true (record_size p) (s.carried + length part) e }
      go false b c f g h e = never e

  module _ (s : Stand) (part out : List ℕ) (h : Sits p s) (c : Completes s part) (f : record_size p ≤ length out) where
    abbrev ns : List ℕ
    ns = take s.count s.numbers

    abbrev held : List ℕ
    held = take s.carried s.held

    abbrev need : ℕ
    need = record_size p - s.carried

    at_rows : state_in s ≡ Records ns s.left s.last s.above held
    at_rows = at_records s.stage s.left s.last s.above ns held c.stage

    held-is : length held ≡ s.carried
    held-is = length-take-le s.carried s.held (omega (arith, h.carried, h.held))

    rows-ready : Ready p (Records ns s.left s.last s.above held)
    rows-ready = rw at_rows at h.ready

    pub carried-below : s.carried < record_size p
    carried-below = omega (arith, rows-ready.0, held-is)

    pub left-within : s.left ≤ 200
    left-within = rows-ready.1

    pub left-pos : 0 < s.left
    left-pos = pos s.left c.left
      where
        pos : (n : ℕ) → (n ≡ 0 → ⊥) → 0 < n
        pos zero z = absurd (z refl)
        pos (suc n) z = omega arith

    pub need-there : need ≤ length part
    need-there = omega (arith, c.there)

    abbrev record' : List ℕ
    record' = held ++ take need part

    pub record-long : length record' ≡ record_size p
    record-long = length-append held (take need part) ∙ ap₂ ◌+◌ held-is (length-take-le need part need-there) ∙ omega (arith, carried-below)

    rowed : Rowed p (length out) (state_in s) (take need part) (keyed p ns (s.left - 1) (key_of p s.last s.above record')) (key_given p (key_of p s.last s.above record') record')
    rowed =
        let e : s.left ≡ suc (s.left - 1) = omega (arith, left-pos) in
        let l : length (take need part) ≡ need = length-take-le need part need-there in
        let q : state_in s ≡ Records ns (suc (s.left - 1)) s.last s.above held = at_rows ∙ ap (λ (x : ℕ). Records ns x s.last s.above held) e in
        rw q (rowed-whole p ns (s.left - 1) s.last s.above (length out) f held (take need part) (omega (arith, carried-below)) (omega (arith, held-is, carried-below)))

    pub served-good : (g o : ℕ) → key_of p s.last s.above record' ≡ Good g o → (out' : List ℕ) → out' ≡ record' ++ drop (record_size p) out
        → (m : Moved) → m ≡ record { now = record { stage = s.stage; left = s.left - 1; last = g; above = o; count = s.count; carried = 0; numbers = s.numbers; held = s.held }; taken = need; records = 1 }
        → (Served p (state_in s) part out m out') × Begun p (state_in m.now) (drop m.taken part)
    served-good g o e out' t m q =
        let r : Rowed p (length out) (state_in s) (take need part) (Records ns (s.left - 1) g o []) record' = rw e at rowed in
        let k : state_as s.stage (s.left - 1) g o ns [] ≡ Records ns (s.left - 1) g o [] = at_records s.stage (s.left - 1) g o ns [] c.stage in
        let z : 0 + length record' ≡ record_size p = omega (arith, record-long) in
        rw q (
          served-rowed (state_in s) part out (record { now = record { stage = s.stage; left = s.left - 1; last = g; above = o; count = s.count; carried = 0; numbers = s.numbers; held = s.held }; taken = need; records = 1 }) out' record' need-there
              (rw k r) (t ∙ ap (λ (x : ℕ). record' ++ drop x out) (sym z)) (omega (arith, record-long)) (omega arith) h.ready h.count zero-le h.numbers h.held,
          rw k (fresh (s.left - 1)),
        )
      where
        fresh : (n : ℕ) → Begun p (Records ns n g o []) (drop need part)
        fresh zero = tt
        fresh (suc n) = inl refl

    pub served-bad : key_of p s.last s.above record' ≡ Bad → (m : Moved) → m ≡ counted_on s (record_size p * (s.left - 1)) need 0
        → (Served p (state_in s) part out m out) × Begun p (state_in m.now) (drop m.taken part)
    served-bad e m q =
        let r : Rowed p (length out) (state_in s) (take need part) (after_bad p ns (s.left - 1)) [] = rw e at rowed in
        let k : state_as 2 (record_size p * (s.left - 1)) s.last s.above ns held ≡ Counting ns (record_size p * (s.left - 1)) = at-counting 2 (record_size p * (s.left - 1)) s.last s.above ns held refl in
        rw q
        (served-rowed (state_in s) part out (counted_on s (record_size p * (s.left - 1)) need 0) out [] need-there (rw k r) refl (mul-zero (record_size p)) (omega (arith, mul-zero (record_size p))) h.ready h.count h.carried h.numbers h.held, rw k tt)

    -- the same, by the size that the code has
    module _ (size : ℕ) (e : size ≡ record_size p) where
      pub need-below : s.carried ≤ size
      need-below = omega (arith, carried-below)

      pub need-long : size - s.carried ≡ length (take (size - s.carried) part)
      need-long = rw e (sym (length-take-le need part need-there))

      pub joined-fits : s.carried + length (take (size - s.carried) part) ≤ 24
      joined-fits = omega (arith, need-long, carried-below, size-most p)

      pub joined_is : (r : List ℕ) → take (s.carried + length (take (size - s.carried) part)) r ≡ held ++ take (size - s.carried) part → take size r ≡ record'
      joined_is r j =
          let k : s.carried + length (take (size - s.carried) part) ≡ size = omega (arith, need-long, carried-below) in
          ap (λ (n : ℕ). take n r) (sym k) ∙ j ∙ ap (λ (n : ℕ). held ++ take (n - s.carried) part) e

      pub bad-done : (r : List ℕ) (q : Key) → take (s.carried + length (take (size - s.carried) part)) r ≡ held ++ take (size - s.carried) part
          → q ≡ key_of p s.last s.above (take size r) → q ≡ Bad → (m : Moved) → m ≡ counted_on s (record_size p * (s.left - 1)) (size - s.carried) 0
          → (Served p (state_in s) part out m out) × Begun p (state_in m.now) (drop m.taken part)
      bad-done r q j k b m g = served-bad (ap (key_of p s.last s.above) (sym (joined_is r j)) ∙ sym k ∙ b) m (g ∙ ap (λ (n : ℕ). counted_on s (record_size p * (s.left - 1)) (n - s.carried) 0) e)

      pub good-done : (r copied : List ℕ) (q : Key) (g o : ℕ) → take (s.carried + length (take (size - s.carried) part)) r ≡ held ++ take (size - s.carried) part
          → q ≡ key_of p s.last s.above (take size r) → q ≡ Good g o → copied ≡ take size r
          → (m : Moved) → m ≡ record { now = record { stage = s.stage; left = s.left - 1; last = g; above = o; count = s.count; carried = 0; numbers = s.numbers; held = s.held }; taken = size - s.carried; records = 1 }
          → (Served p (state_in s) part out m (copied ++ drop size out)) × Begun p (state_in m.now) (drop m.taken part)
      good-done r copied q g o j k b t m u =
          served-good g o (ap (key_of p s.last s.above) (sym (joined_is r j)) ∙ sym k ∙ b) (copied ++ drop size out) (ap₂ (λ (x : List ℕ) (n : ℕ). x ++ drop n out) (t ∙ joined_is r j) e) m
          (u ∙ ap (λ (n : ℕ). record { now = record { stage = s.stage; left = s.left - 1; last = g; above = o; count = s.count; carried = 0; numbers = s.numbers; held = s.held }; taken = n - s.carried; records = 1 }) e)
