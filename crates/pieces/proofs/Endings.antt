-- The last step of a call: the start of the next record, the bytes after a bad one, a byte too many; then no further byte is taken.
-- Assumes nothing.
use Prim.Native.Nat.{ℕ, zero, suc, ◌+◌, ◌-◌, ◌≤◌, ◌<◌, min}
use mathlib.Core.Path.{◌≡◌, refl, sym, ap, ◌∙◌}
use mathlib.Core.Logic.{⊎_elim}
use mathlib.Core.Bool.{Bool, true, false}
use mathlib.Core.List.{List, [], ◌∷◌, ◌++◌}
use native.Mathlib.Omega.{arith}
use borrow.Author.Tests.{lt-ltb, ne_eqb}
use lib.Dec.{eqb}
use lib.ListN.{length, take, drop}
use lib.Seq.{length-take-le, take_all, drop-length}
use Rattle.wire.specs.Bytes.{pick}
use Rattle.entries.specs.Profiles.{record_size}
use Rattle.entries.specs.declared.Profile.{Profile}
use Rattle.entries.specs.declared.Profile.TheVariants.{One, Two}
use Rattle.uncut.specs.State.{State, Numbers, Records, Counting, Refused, Accepted}
use Rattle.uncut.specs.Step.{step, given, after, delivered}
use Rattle.uncut.specs.Cutting.{stops, taking}
use Rattle.pieces.specs.Record.{Stand, Moved, state_as, state_in}
use Rattle.pieces.specs.Reading.{still}
use Rattle.pieces.specs.Serving.{Sits, Served, Short}
use Rattle.pieces.proofs.Going.{served-chunk, served-still}
use Rattle.pieces.proofs.Keeping.{ready-after}
use Rattle.pieces.proofs.Filling.{Rowed, rowed-short}
use Rattle.pieces.proofs.Stages.{at_records, at-counting, at-refused}

empty : (xs : List ℕ) → length xs ≡ 0 → xs ≡ []
empty [] e = refl
empty (x ∷ xs) e = absurd (omega arith)

module _ (p : Profile) where
  none-taken : (room : ℕ) (st : State) (xs : List ℕ) → xs ≡ [] → taking p room st xs ≡ 0
  unfolding taking
  none-taken room st xs e = rw e

  stopped : (room : ℕ) (st : State) (xs : List ℕ) → stops p room st ≡ true → taking p room st xs ≡ 0
  unfolding taking
  stopped room st [] e = refl
  stopped room st (x ∷ xs) e = rw e

  -- bytes that bring no record, with the state that they lead to
  lead : (s : Stand) (part out : List ℕ) (m : Moved) → Sits p s → m.records ≡ 0 → m.taken ≤ length part → Rowed p (length out) (state_in s) (take m.taken part) (state_in m.now) []
      → (m.now.count ≤ 25) → (m.now.carried ≤ 24) → (length m.now.numbers ≡ 25) → (length m.now.held ≡ 24) → Served p (state_in s) part out m out
  lead s part out m h r l c a b d e =
      let n : length (take m.taken part) ≡ m.taken = length-take-le m.taken part l in
      served-chunk p (state_in s) part out m l (record { count = a; carried = b; numbers = d; held = e; ready = rw c.comes at (ready-after p (state_in s) (take m.taken part) h.ready) }) r c.comes c.gives (c.takes ∙ n)

  -- ---- no byte more is taken

  abbrev pub Ended : Stand → List ℕ → ℕ → Moved → Type 0
  Ended s part room m = (((out : List ℕ) → length out ≡ room → Served p (state_in s) part out m out) × (taking p room (state_in m.now) (drop m.taken part) ≡ 0)) × (m.records ≡ 0)

  pub ended-over : (s : Stand) (part : List ℕ) (room : ℕ) (m : Moved) → Sits p s → length part ≡ 0 → m ≡ still s → Ended s part room m
  ended-over s part room m h e q = rw q ((λ out f. served-still p s part out h, none-taken room (state_in s) part (empty part e)), refl)

  pub ended-full : (s : Stand) (part : List ℕ) (room : ℕ) (m : Moved) → Sits p s → s.stage ≡ 1 → (s.left ≡ 0 → ⊥) → room < record_size p → m ≡ still s → Ended s part room m
  ended-full s part room m h e l f q = rw q ((λ out g. served-still p s part out h, stopped room (state_in s) part (full s.left l)), refl)
    where
      rows : (n : ℕ) → (n ≡ 0 → ⊥) → stops p room (Records (take s.count s.numbers) n s.last s.above (take s.carried s.held)) ≡ true
      rows zero z = absurd (z refl)
      rows (suc n) z = lt-ltb room (record_size p) f

      full : (n : ℕ) → (s.left ≡ 0 → ⊥) → stops p room (state_in s) ≡ true
      full n z = ap (stops p room) (at_records s.stage s.left s.last s.above (take s.count s.numbers) (take s.carried s.held) e) ∙ rows s.left z

  -- the states that take nothing
  pub ended-still : (s : Stand) (part : List ℕ) (room : ℕ) (m : Moved) → Sits p s → Short p room (state_in s) part → (s.stage ≡ 1 → ⊥) → (s.stage ≡ 2 → ⊥) → m ≡ still s → Ended s part room m
  unfolding state_as
  ended-still s part room m h q a b e = rw e ((λ out g. served-still p s part out h, go (eqb s.stage 0) (eqb s.stage 3) (rw (ne_eqb s.stage 1 a, ne_eqb s.stage 2 b) at q)), refl)
    where
      ns : List ℕ
      ns = take s.count s.numbers

      held : List ℕ
      held = take s.carried s.held

      inner : (c d : Bool) → Short p room (pick c (Numbers ns held) (pick d (Refused s.left) (Accepted ns))) part → taking p room (pick c (Numbers ns held) (pick d (Refused s.left) (Accepted ns))) part ≡ 0
      inner true d q = none-taken room (Numbers ns held) part q
      inner false true q = stopped room (Refused s.left) part refl
      inner false false q = stopped room (Accepted ns) part refl

      go : (c d : Bool) → Short p room (pick (eqb s.stage 0) (Numbers ns held) (pick (eqb s.stage 3) (Refused s.left) (Accepted ns))) part → taking p room (state_as s.stage s.left s.last s.above ns held) part ≡ 0
      go c d q = rw (ne_eqb s.stage 1 a, ne_eqb s.stage 2 b) (inner (eqb s.stage 0) (eqb s.stage 3) q)

  -- ---- a byte too many

  pub ended-behind : (s : Stand) (part : List ℕ) (room : ℕ) (m : Moved) → Sits p s → s.stage ≡ 1 → s.left ≡ 0 → (length part ≡ 0 → ⊥)
      → m ≡ record { now = record { stage = 3; left = 13; last = s.last; above = s.above; count = s.count; carried = s.carried; numbers = s.numbers; held = s.held }; taken = 1; records = 0 } → Ended s part room m
  unfolding after delivered taking step given
  ended-behind s [] room m h e l n q = absurd (n refl)
  ended-behind s (b ∷ bs) room m h e l n q =
      let k : state_in s ≡ Records (take s.count s.numbers) 0 s.last s.above (take s.carried s.held) =
      at_records s.stage s.left s.last s.above (take s.count s.numbers) (take s.carried s.held) e ∙ ap (λ (x : ℕ). Records (take s.count s.numbers) x s.last s.above (take s.carried s.held)) l in
      let r : state_as 3 13 s.last s.above (take s.count s.numbers) (take s.carried s.held) ≡ Refused 13 = at-refused 3 13 s.last s.above (take s.count s.numbers) (take s.carried s.held) refl in
      let t : stops p room (Refused 13) ≡ true = refl in
      rw q (
        (
          λ out f. lead s (b ∷ bs) out (record { now = record { stage = 3; left = 13; last = s.last; above = s.above; count = s.count; carried = s.carried; numbers = s.numbers; held = s.held }; taken = 1; records = 0 }) h refl (omega arith)
              (rw (k, r) (record { comes = refl; gives = refl; takes = refl })) h.count h.carried h.numbers h.held,
          rw r (stopped room (Refused 13) bs refl),
        ),
        refl,
      )

  -- ---- the start of the next record

  pub ended-begun : (s : Stand) (part : List ℕ) (room : ℕ) (kept : List ℕ) (m : Moved) → Sits p s → s.stage ≡ 1 → (s.left ≡ 0 → ⊥) → record_size p ≤ room → s.carried + length part < record_size p
      → length kept ≡ 24 → take (s.carried + length part) kept ≡ take s.carried s.held ++ part
      → m ≡ record { now = record { stage = s.stage; left = s.left; last = s.last; above = s.above; count = s.count; carried = s.carried + length part; numbers = s.numbers; held = kept }; taken = length part; records = 0 } → Ended s part room m
  ended-begun s part room kept m h e l f g k t q =
      let i : length (take s.carried s.held) ≡ s.carried = length-take-le s.carried s.held (omega (arith, h.carried, h.held)) in
      let a : state_in s ≡ Records ns s.left s.last s.above held = at_records s.stage s.left s.last s.above ns held e in
      let b : state_as s.stage s.left s.last s.above ns (take (s.carried + length part) kept) ≡ Records ns s.left s.last s.above (held ++ part) =
      at_records s.stage s.left s.last s.above ns (take (s.carried + length part) kept) e ∙ ap (Records ns s.left s.last s.above) t in
      let w : take (length part) part ≡ part = take_all (length part) part (omega arith) in
      let c : s.carried + length part ≤ 24 = omega (arith, most p) in
      rw q (
        (
          λ out o. lead s part out (record { now = record { stage = s.stage; left = s.left; last = s.last; above = s.above; count = s.count; carried = s.carried + length part; numbers = s.numbers; held = kept }; taken = length part; records = 0 }) h refl (omega arith)
              (rw (a, b, w) (rows s.left l (length out) (omega arith) i)) h.count c h.numbers k,
          none-taken room (state_as s.stage s.left s.last s.above ns (take (s.carried + length part) kept)) (drop (length part) part) (drop-length part),
        ),
        refl,
      )
    where
      ns : List ℕ
      ns = take s.count s.numbers

      held : List ℕ
      held = take s.carried s.held

      most : (x : Profile) → record_size x ≤ 24
      most One = omega arith
      most Two = omega arith

      rows : (n : ℕ) → (n ≡ 0 → ⊥) → (r : ℕ) → record_size p ≤ r → length held ≡ s.carried → Rowed p r (Records ns n s.last s.above held) part (Records ns n s.last s.above (held ++ part)) []
      rows zero z r y i = absurd (z refl)
      rows (suc n) z r y i = rowed-short p ns n s.last s.above r y held part (omega arith)

  pub begin-short : (s : Stand) (part : List ℕ) (room : ℕ) → Sits p s → s.stage ≡ 1 → (s.left ≡ 0 → ⊥) → record_size p ≤ room → Short p room (state_in s) part → (s.carried + length part < record_size p) × (s.carried + length part ≤ 24)
  begin-short s part room h e l f q =
      let i : length (take s.carried s.held) ≡ s.carried = length-take-le s.carried s.held (omega (arith, h.carried, h.held)) in
      let g = rows s.left l i (rw (at_records s.stage s.left s.last s.above (take s.count s.numbers) (take s.carried s.held) e) at q) in
      (g, omega (arith, most p))
    where
      most : (x : Profile) → record_size x ≤ 24
      most One = omega arith
      most Two = omega arith

      rows : (n : ℕ) → (n ≡ 0 → ⊥) → length (take s.carried s.held) ≡ s.carried → Short p room (Records (take s.count s.numbers) n s.last s.above (take s.carried s.held)) part → s.carried + length part < record_size p
      rows zero z i q = absurd (z refl)
      rows (suc n) z i q = ⊎_elim (λ y. absurd (omega arith)) (λ y. omega arith) q

  -- ---- the bytes after a bad record

  counted : (ns : List ℕ) (n : ℕ) (room : ℕ) (part : List ℕ) (k : ℕ) → k ≤ n → k ≤ length part → Rowed p room (Counting ns n) (take k part) (Counting ns (n - k)) []
  unfolding after delivered taking step given
  counted ns n room part zero h l = let z : n - 0 ≡ n = omega arith in rw z (record { comes = refl; gives = refl; takes = refl })
  counted ns zero room part (suc k) h l = absurd (omega arith)
  counted ns (suc n) room [] (suc k) h l = absurd (omega arith)
  counted ns (suc n) room (b ∷ bs) (suc k) h l =
      let r = counted ns n room bs k (omega arith) (omega arith) in
      let z : room - 0 ≡ room = omega arith in
      let y : suc n - suc k ≡ n - k = omega arith in
      record { comes = r.comes ∙ ap (Counting ns) (sym y); gives = r.gives; takes = ap (λ (x : ℕ). suc (taking p x (Counting ns n) (take k bs))) z ∙ ap suc r.takes }

  pub ended-counting : (s : Stand) (part : List ℕ) (k : ℕ) (m : Moved) → Sits p s → s.stage ≡ 2 → k ≡ min s.left (length part)
      → m ≡ record { now = record { stage = s.stage; left = s.left - k; last = s.last; above = s.above; count = s.count; carried = s.carried; numbers = s.numbers; held = s.held }; taken = k; records = 0 }
      → (((out : List ℕ) → Served p (state_in s) part out m out) × ((room : ℕ) → taking p room (state_in m.now) (drop m.taken part) ≡ 0)) × (m.records ≡ 0)
  ended-counting s part k m h e w q =
      let a : state_in s ≡ Counting ns s.left = at-counting s.stage s.left s.last s.above ns held e in
      let b : state_as s.stage (s.left - k) s.last s.above ns held ≡ Counting ns (s.left - k) = at-counting s.stage (s.left - k) s.last s.above ns held e in
      rw q (
        (
          λ out. lead s part out (record { now = record { stage = s.stage; left = s.left - k; last = s.last; above = s.above; count = s.count; carried = s.carried; numbers = s.numbers; held = s.held }; taken = k; records = 0 }) h refl (omega arith)
              (rw (a, b) (counted ns s.left (length out) part k (omega arith) (omega arith))) h.count h.carried h.numbers h.held,
          λ room. rw b (over room (s.left - k) refl),
        ),
        refl,
      )
    where
      ns : List ℕ
      ns = take s.count s.numbers

      held : List ℕ
      held = take s.carried s.held

      over : (room j : ℕ) → s.left - k ≡ j → taking p room (Counting ns j) (drop k part) ≡ 0
      over room zero y = stopped room (Counting ns 0) (drop k part) refl
      over room (suc j) y =
          let n : k ≡ length part = omega arith in
          none-taken room (Counting ns (suc j)) (drop k part) (ap (λ (x : ℕ). drop x part) n ∙ drop-length part)
