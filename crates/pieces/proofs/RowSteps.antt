-- The records that lie whole in the part: as many as are to come and fit the buffer, up to the first bad one.
-- Assumes nothing.
use Prim.Native.Nat.{ℕ, zero, suc, ◌+◌, ◌-◌, ◌*◌, ◌/◌, ◌≤◌, ◌<◌, min}
use mathlib.Core.Path.{◌≡◌, refl, sym, ap, ap₂, ◌∙◌}
use mathlib.Core.Logic.{inl, inr, ⊎_elim}
use mathlib.Core.Bool.{Bool, true, false}
use mathlib.Core.List.{List, [], ◌∷◌, ◌++◌, append-nil}
use native.Mathlib.Nat.{mul-suc, mul_comm, div-mul-le_self, mul-div_cancel_left, mul-le-mul_left, lt-mul-div-succ}
use native.Mathlib.Omega.{arith}
use borrow.Author.Tests.{eqb-true, eqb-false}
use lib.Dec.{eqb}
use lib.ListN.{length, take, drop, length-drop}
use lib.Seq.{length-take-le, take-take, take-add}
use Rattle.wire.specs.Bytes.{pick}
use Rattle.wire.proofs.Lengths.{split}
use Rattle.entries.specs.Profiles.{record_size}
use Rattle.entries.specs.declared.Profile.{Profile}
use Rattle.uncut.specs.State.{Numbers, Records, Counting, Refused, Accepted}
use Rattle.uncut.specs.Step.{after_bad}
use Rattle.pieces.specs.Record.{Stand, Moved, state_as, state_in}
use Rattle.pieces.specs.Reading.{Bad, key_of, counted_on, row_here}
use Rattle.pieces.specs.Serving.{Ready, Sits, Served, Begun, Short}
use Rattle.entries.specs.Runs.{run_from}
use Rattle.entries.specs.declared.Run.{Run}
use Rattle.pieces.proofs.Filling.{Rowed, rowed-whole}
use Rattle.pieces.proofs.Rowing.{rowed-then, RowDone, Found, found}
use Rattle.uncut.proofs.Rows.{size-pos}
use Rattle.pieces.proofs.Stages.{at_records, at-counting}
use Rattle.pieces.proofs.Steps.{served-rowed}

-- a part of the front of a list
middle : (a b c : ℕ) (xs : List ℕ) → a + b ≤ c → take b (drop a (take c xs)) ≡ take b (drop a xs)
middle zero b c xs u = take-take b c xs (omega arith)
middle (suc a) b zero xs u = absurd (omega arith)
middle (suc a) b (suc c) [] u = refl
middle (suc a) b (suc c) (x ∷ xs) u = middle a b c xs (omega arith)

module _ (p : Profile) where
  -- how many records some bytes hold
  held-within : (n : ℕ) → record_size p * (n / record_size p) ≤ n
  held-within n = rw mul_comm (div-mul-le_self n (record_size p))

  held_next : (n : ℕ) → n < record_size p * (n / record_size p) + record_size p
  held_next n = omega (arith, lt-mul-div-succ n (size-pos p), mul-suc (record_size p) (n / record_size p))

  mono : {m n : ℕ} → m ≤ n → record_size p * m ≤ record_size p * n
  mono h = mul-le-mul_left (record_size p) h

  -- nothing to do here
  pub short_still : (s : Stand) (part : List ℕ) (room : ℕ) → Sits p s → Begun p (state_in s) part → row_here s.stage s.carried ≡ false → Short p room (state_in s) part
  unfolding state_as
  short_still s part room h q e =
      let k : length (take s.carried s.held) ≡ s.carried = length-take-le s.carried s.held (omega (arith, h.carried, h.held)) in
      go (eqb s.stage 0) (eqb s.stage 1) (eqb s.stage 2) (eqb s.stage 3) k q e
    where
      ns : List ℕ
      ns = take s.count s.numbers

      held : List ℕ
      held = take s.carried s.held

      rows : (left : ℕ) → length held ≡ s.carried → Begun p (Records ns left s.last s.above held) part → (s.carried ≡ 0 → ⊥) → Short p room (Records ns left s.last s.above held) part
      rows zero k q e = tt
      rows (suc n) k q e = ⊎_elim (λ z. absurd (e (sym k ∙ ap length z))) (λ z. inr z) q

      go : (a b c d : Bool) → length held ≡ s.carried
          → Begun p (pick a (Numbers ns held) (pick b (Records ns s.left s.last s.above held) (pick c (Counting ns s.left) (pick d (Refused s.left) (Accepted ns))))) part
          → pick b (eqb s.carried 0) false ≡ false
          → Short p room (pick a (Numbers ns held) (pick b (Records ns s.left s.last s.above held) (pick c (Counting ns s.left) (pick d (Refused s.left) (Accepted ns))))) part
      go true b c d k q e = q
      go false true c d k q e = rows s.left k q (eqb-false s.carried 0 e)
      go false false true d k q e = tt
      go false false false true k q e = tt
      go false false false false k q e = tt

  pub row_here_lem : (s : Stand) → row_here s.stage s.carried ≡ true → (s.stage ≡ 1) × (s.carried ≡ 0)
  row_here_lem s e = go (eqb s.stage 1) refl e
    where
      go : (a : Bool) → eqb s.stage 1 ≡ a → pick a (eqb s.carried 0) false ≡ true → (s.stage ≡ 1) × (s.carried ≡ 0)
      go true f e = (eqb-true s.stage 1 f, eqb-true s.carried 0 e)
      go false f e = let z : ◌≡◌ {A = ℕ} 0 1 = cc in absurd (omega arith)

  module _ (s : Stand) (part out : List ℕ) (h : Sits p s) (e : s.stage ≡ 1) (z : s.carried ≡ 0) (n : ℕ) (w : n ≡ min s.left (min (length part / record_size p) (length out / record_size p))) where
    abbrev ns : List ℕ
    ns = take s.count s.numbers

    at_rows : state_in s ≡ Records ns s.left s.last s.above []
    at_rows = at_records s.stage s.left s.last s.above ns (take s.carried s.held) e ∙ ap (λ (k : ℕ). Records ns s.left s.last s.above (take k s.held)) z

    pub row-left : n ≤ s.left
    row-left = omega (arith, w)

    pub row-few : s.left ≤ 200
    row-few = let y : Ready p (Records ns s.left s.last s.above []) = rw at_rows at h.ready in y.1

    pub row-there : record_size p * n ≤ length part
    row-there = let l : n ≤ length part / record_size p = omega (arith, w) in omega (arith, mono l, held-within (length part))

    pub row_fits : record_size p * n ≤ length out
    row_fits = let l : n ≤ length out / record_size p = omega (arith, w) in omega (arith, mono l, held-within (length out))

    -- r is what the walk over these records found
    module _ (r : Run) (f : r ≡ run_from p (length (take (record_size p * n) part) / record_size p) 0 s.last s.above (take (record_size p * n) part)) where
      long : length (take (record_size p * n) part) ≡ record_size p * n
      long = length-take-le (record_size p * n) part row-there

      many : length (take (record_size p * n) part) / record_size p ≡ n
      many = ap (λ (x : ℕ). x / record_size p) long ∙ mul-div_cancel_left n (size-pos p)

      walk : Found p ns n 0 s.last s.above (take (record_size p * n) part) r
      walk =
          let g : r ≡ run_from p n 0 s.last s.above (take (record_size p * n) part) = f ∙ ap (λ (x : ℕ). run_from p x 0 s.last s.above (take (record_size p * n) part)) many in
          rw g (found p ns n 0 s.last s.above (take (record_size p * n) part) (omega (arith, long)))

      good-is : r.good ≡ walk.k
      good-is = walk.counts ∙ omega arith

      pub good-within : r.good ≤ n
      good-within = omega (arith, good-is, walk.within)

      pub good-there : record_size p * r.good ≤ length part
      good-there = omega (arith, mono good-within, row-there)

      pub good-fits : record_size p * r.good ≤ length out
      good-fits = omega (arith, mono good-within, row_fits)

      front : take (record_size p * r.good) (take (record_size p * n) part) ≡ take (record_size p * r.good) part
      front = take-take (record_size p * r.good) (record_size p * n) part (mono good-within)

      done : Rowed p (length out) (state_in s) (take (record_size p * r.good) part) (Records ns (s.left - r.good) r.last r.above []) (take (record_size p * r.good) part)
      done =
          let a : RowDone p ns s.last s.above (take (record_size p * n) part) r.good r.last r.above = rw (← good-is) at walk.done in
          let l : r.good + (s.left - r.good) ≡ s.left = omega (arith, good-within, row-left) in
          let b = a (length out) (s.left - r.good) good-fits in
          rw at_rows (rw (l, front) at b)

      pub served-row : (r.good < n → ⊥) → (out' : List ℕ) → out' ≡ take (record_size p * r.good) part ++ drop (record_size p * r.good) out
          → (m : Moved) → m ≡ record { now = record { stage = s.stage; left = s.left - r.good; last = r.last; above = r.above; count = s.count; carried = s.carried; numbers = s.numbers; held = s.held }; taken = record_size p * r.good; records = r.good }
          → (Served p (state_in s) part out m out') × Short p (length out - record_size p * m.records) (state_in m.now) (drop m.taken part)
      served-row g out' t m q =
          let l : length (take (record_size p * r.good) part) ≡ record_size p * r.good = length-take-le (record_size p * r.good) part good-there in
          let k : state_as s.stage (s.left - r.good) r.last r.above ns (take s.carried s.held) ≡ Records ns (s.left - r.good) r.last r.above [] =
          at_records s.stage (s.left - r.good) r.last r.above ns (take s.carried s.held) e ∙ ap (λ (k : ℕ). Records ns (s.left - r.good) r.last r.above (take k s.held)) z in
          let x : 0 + length (take (record_size p * r.good) part) ≡ record_size p * r.good = omega arith in
          rw q (
            served-rowed p (state_in s) part out (record { now = record { stage = s.stage; left = s.left - r.good; last = r.last; above = r.above; count = s.count; carried = s.carried; numbers = s.numbers; held = s.held }; taken = record_size p * r.good; records = r.good }) out' (take (record_size p * r.good) part) good-there
                (rw k done) (t ∙ ap (λ (y : ℕ). take (record_size p * r.good) part ++ drop y out) (sym x)) (sym l) good-fits h.ready h.count h.carried h.numbers h.held,
            rw k (short (s.left - r.good) refl),
          )
        where
          all : r.good ≡ n
          all = split n r.good (λ y. omega (arith, good-within)) (λ y. absurd (g y))

          short : (j : ℕ) → s.left - r.good ≡ j → Short p (length out - record_size p * r.good) (Records ns j r.last r.above []) (drop (record_size p * r.good) part)
          short zero y = tt
          short (suc j) y =
              let d : length (drop (record_size p * r.good) part) ≡ length part - record_size p * r.good = length-drop (record_size p * r.good) part in
              split (length part / record_size p) (length out / record_size p)
              (λ u. let v : r.good ≡ length part / record_size p = omega (arith, all, w) in
              let x : record_size p * r.good ≡ record_size p * (length part / record_size p) = ap (λ (i : ℕ). record_size p * i) v in
              inr (omega (arith, held_next (length part))))
              (λ u. let v : r.good ≡ length out / record_size p = omega (arith, all, w) in
              let x : record_size p * r.good ≡ record_size p * (length out / record_size p) = ap (λ (i : ℕ). record_size p * i) v in
              inl (omega (arith, held_next (length out), size-pos p)))

      pub served-row-bad : r.good < n → (out' : List ℕ) → out' ≡ take (record_size p * r.good) part ++ drop (record_size p * r.good) out
          → (m : Moved) → m ≡ counted_on s (record_size p * (s.left - 1 - r.good)) (record_size p * r.good + record_size p) r.good
          → (Served p (state_in s) part out m out') × Short p (length out - record_size p * m.records) (state_in m.now) (drop m.taken part)
      served-row-bad g out' t m q =
          let l : length (take (record_size p * r.good) part) ≡ record_size p * r.good = length-take-le (record_size p * r.good) part good-there in
          let one : record_size p * suc r.good ≡ record_size p * r.good + record_size p = omega (arith, mul-suc (record_size p) r.good) in
          let next : record_size p * r.good + record_size p ≤ record_size p * n = omega (arith, one, mono g) in
          let there : record_size p * r.good + record_size p ≤ length part = omega (arith, next, row-there) in
          let d : length (drop (record_size p * r.good) part) ≡ length part - record_size p * r.good = length-drop (record_size p * r.good) part in
          let c : List ℕ = take (record_size p) (drop (record_size p * r.good) part) in
          let cl : length (take (record_size p) (drop (record_size p * r.good) part)) ≡ record_size p = length-take-le (record_size p) (drop (record_size p * r.good) part) (omega arith) in
          let bad : key_of p r.last r.above (take (record_size p) (drop (record_size p * r.good) part)) ≡ Bad =
          ap (key_of p r.last r.above) (sym (same next)) ∙ rw (← good-is) at (walk.bad (omega (arith, good-is))) in
          let fits : record_size p * r.good + record_size p ≤ length out = omega (arith, next, row_fits) in
          let lf : s.left - r.good ≡ suc (s.left - 1 - r.good) = omega (arith, row-left) in
          let one-bad : Rowed p (length out - length (take (record_size p * r.good) part)) (Records ns (suc (s.left - 1 - r.good)) r.last r.above []) (take (record_size p) (drop (record_size p * r.good) part)) (after_bad p ns (s.left - 1 - r.good)) [] =
          rw bad at (rowed-whole p ns (s.left - 1 - r.good) r.last r.above (length out - length (take (record_size p * r.good) part)) (omega arith) [] (take (record_size p) (drop (record_size p * r.good) part)) (omega (arith, size-pos p)) (omega arith)) in
          let two : Rowed p (length out) (state_in s) (take (record_size p * r.good) part ++ take (record_size p) (drop (record_size p * r.good) part)) (after_bad p ns (s.left - 1 - r.good)) (take (record_size p * r.good) part ++ []) =
          rowed-then p (length out) (state_in s) (Records ns (s.left - r.good) r.last r.above []) (after_bad p ns (s.left - 1 - r.good)) (take (record_size p * r.good) part) (take (record_size p) (drop (record_size p * r.good) part)) (take (record_size p * r.good) part) [] done (rw lf one-bad) in
          let all : Rowed p (length out) (state_in s) (take (record_size p * r.good + record_size p) part) (after_bad p ns (s.left - 1 - r.good)) (take (record_size p * r.good) part) =
          rw take-add (rw append-nil at two) in
          let k : state_as 2 (record_size p * (s.left - 1 - r.good)) s.last s.above ns (take s.carried s.held) ≡ Counting ns (record_size p * (s.left - 1 - r.good)) = at-counting 2 (record_size p * (s.left - 1 - r.good)) s.last s.above ns (take s.carried s.held) refl in
          let x : 0 + length (take (record_size p * r.good) part) ≡ record_size p * r.good = omega arith in
          rw q (
            served-rowed p (state_in s) part out (counted_on s (record_size p * (s.left - 1 - r.good)) (record_size p * r.good + record_size p) r.good) out' (take (record_size p * r.good) part) there
                (rw k all) (t ∙ ap (λ (y : ℕ). take (record_size p * r.good) part ++ drop y out) (sym x)) (sym l) good-fits h.ready h.count h.carried h.numbers h.held,
            rw k tt,
          )
        where
          -- the record behind the good ones, in the part and in its front
          same : record_size p * r.good + record_size p ≤ record_size p * n → take (record_size p) (drop (record_size p * r.good) (take (record_size p * n) part)) ≡ take (record_size p) (drop (record_size p * r.good) part)
          same u = middle (record_size p * r.good) (record_size p) (record_size p * n) part u

    -- the same, by the size that the code has
    module _ (size : ℕ) (g : size ≡ record_size p) where
      pub bytes-there : size * n ≤ length part
      bytes-there = rw g row-there

      module _ (r : Run) (f : r ≡ run_from p (length (take (size * n) part) / record_size p) 0 s.last s.above (take (size * n) part)) where
        f' : r ≡ run_from p (length (take (record_size p * n) part) / record_size p) 0 s.last s.above (take (record_size p * n) part)
        f' = f ∙ ap (λ (x : ℕ). run_from p (length (take (x * n) part) / record_size p) 0 s.last s.above (take (x * n) part)) g

        pub end-there : size * r.good ≤ length part
        end-there = rw g (good-there r f')

        pub end_fits : size * r.good ≤ length out
        end_fits = rw g (good-fits r f')

        pub end-left : r.good ≤ s.left
        end-left = omega (arith, good-within r f', row-left)

        pub next-there : r.good < n → size * r.good + size ≤ length part
        next-there h = rw g (let one : record_size p * suc r.good ≡ record_size p * r.good + record_size p = omega (arith, mul-suc (record_size p) r.good) in omega (arith, one, mono h, row-there))

        pub row_done : (r.good < n → ⊥) → (copied : List ℕ) → copied ≡ take (size * r.good) part
            → (m : Moved) → m ≡ record { now = record { stage = s.stage; left = s.left - r.good; last = r.last; above = r.above; count = s.count; carried = s.carried; numbers = s.numbers; held = s.held }; taken = size * r.good; records = r.good }
            → (Served p (state_in s) part out m (copied ++ drop (size * r.good) out)) × Short p (length out - record_size p * m.records) (state_in m.now) (drop m.taken part)
        row_done h copied t m q =
            served-row r f' h (copied ++ drop (size * r.good) out) (ap₂ (λ (x : List ℕ) (k : ℕ). x ++ drop (k * r.good) out) (t ∙ ap (λ (k : ℕ). take (k * r.good) part) g) g) m
            (q ∙ ap (λ (k : ℕ). record { now = record { stage = s.stage; left = s.left - r.good; last = r.last; above = r.above; count = s.count; carried = s.carried; numbers = s.numbers; held = s.held }; taken = k * r.good; records = r.good }) g)

        pub row-bad-done : r.good < n → (copied : List ℕ) → copied ≡ take (size * r.good) part
            → (m : Moved) → m ≡ counted_on s (record_size p * (s.left - 1 - r.good)) (size * r.good + size) r.good
            → (Served p (state_in s) part out m (copied ++ drop (size * r.good) out)) × Short p (length out - record_size p * m.records) (state_in m.now) (drop m.taken part)
        row-bad-done h copied t m q =
            served-row-bad r f' h (copied ++ drop (size * r.good) out) (ap₂ (λ (x : List ℕ) (k : ℕ). x ++ drop (k * r.good) out) (t ∙ ap (λ (k : ℕ). take (k * r.good) part) g) g) m
            (q ∙ ap (λ (k : ℕ). counted_on s (record_size p * (s.left - 1 - r.good)) (k * r.good + k) r.good) g)
