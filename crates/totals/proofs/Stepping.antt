-- One step and all steps of a piece: what each test comes to, how much is taken, and that steps enough are all steps.
-- Assumes nothing.
use Prim.Native.Nat.{ℕ, zero, suc, ◌+◌, ◌-◌, ◌≤◌, ◌<◌, min}
use mathlib.Core.Path.{◌≡◌, refl, ap, sym, ◌∙◌}
use mathlib.Core.List.{List}
use native.Mathlib.Nat.{lt_of_not-le}
use native.Mathlib.Decide.{dec_le}
use native.Mathlib.Omega.{arith}
use borrow.Author.Tests.{le-leb, lt-leb, lt-ltb, le-ltb, eq-eqb, ne_eqb}
use lib.ListN.{length, take, drop, length-drop}
use lib.Seq.{drop-drop, take_all}
use Rattle.std.specs.Prelude.{Result, Ok, Err}
use Rattle.wire.specs.Fields.{read_fixed}
use Rattle.wire.specs.declared.Fixed.{Fixed}
use Rattle.wire.specs.declared.Refusal.{Refusal}
use Rattle.totals.specs.declared.Totals.{Totals}
use Rattle.totals.specs.declared.Standing.{Standing}
use Rattle.totals.specs.declared.Taken.{Taken}
use Rattle.totals.specs.declared.Brought.{Brought}
use Rattle.totals.specs.Totals.{longest, too_long}
use Rattle.totals.specs.Adding.{refused_brings, brings, Held, with, added}
use Rattle.totals.specs.Files.{length_size, length_at, report_at, with_long, nothing, skipped, one_report, behind_length, step_of, taken_from, taken}
use Rattle.totals.proofs.Growing.{with-held}

module _ (st : Standing) (s : List ℕ) where
  pub step_skip : 0 < st.skip → step_of st s ≡ skipped st (min st.skip (length s))
  unfolding step_of
  step_skip h = rw (lt-ltb 0 st.skip h)

  module _ (z : st.skip ≤ 0) where
    pub step-ends : length s < length_size → step_of st s ≡ nothing st
    unfolding step_of read_fixed
    step-ends h = rw (le-ltb 0 st.skip z, lt-leb 4 (length s) h)

    module _ (h : length_size ≤ length s) where
      pub step-reads : step_of st s ≡ one_report st s (length_at s)
      unfolding step_of read_fixed
      step-reads = rw (le-ltb 0 st.skip z, le-leb 4 (length s) h)

      pub step-long : longest < length_at s → step_of st s ≡ record { next = record { totals = with_long st.totals; skip = length_at s }; used = length_size }
      step-long l = step-reads ∙ rw (lt-leb (length_at s) longest l)

      pub step_part : length_at s ≤ longest → length s < length_size + length_at s → step_of st s ≡ nothing st
      step_part l k = step-reads ∙ rw (le-leb (length_at s) longest l, lt-leb (length_size + length_at s) (length s) k)

      pub step-whole : length_at s ≤ longest → length_size + length_at s ≤ length s
          → step_of st s ≡ record { next = record { totals = added st.totals (report_at s); skip = 0 }; used = length_size + length_at s }
      step-whole l k = step-reads ∙ rw (le-leb (length_at s) longest l, le-leb (length_size + length_at s) (length s) k)

  -- what holds of each of these holds of every step
  step_is : (P : Taken → Type 0) → P (skipped st (min st.skip (length s))) → P (nothing st)
      → (length_size ≤ length s → P (record { next = record { totals = with_long st.totals; skip = length_at s }; used = length_size }))
      → (length_size + length_at s ≤ length s → P (record { next = record { totals = added st.totals (report_at s); skip = 0 }; used = length_size + length_at s }))
      → P (step_of st s)
  step_is P skips stops longs wholes =
      elim (dec_le 1 st.skip) [
        | yes p ↦ rw (step_skip p) skips
        | no p ↦
            let z : st.skip ≤ 0 = omega (arith, lt_of_not-le p) in
            elim (dec_le length_size (length s)) [
              | no h ↦ rw (step-ends z (lt_of_not-le h)) stops
              | yes h ↦
                  elim (dec_le (length_at s) longest) [
                    | no l ↦ rw (step-long z h (lt_of_not-le l)) (longs h)
                    | yes l ↦
                        elim (dec_le (length_size + length_at s) (length s)) [
                          | yes k ↦ rw (step-whole z h l k) (wholes k)
                          | no k ↦ rw (step_part z h l (lt_of_not-le k)) stops
                        ]
                  ]
            ]
      ]

  pub step-within : (step_of st s).used ≤ length s
  step-within = step_is (λ k. k.used ≤ length s) (omega arith) (omega arith) (λ h. h) (λ h. h)

  -- a step that takes nothing changes nothing
  step-still : (step_of st s).used ≡ 0 → (step_of st s).next ≡ st
  step-still = step_is (λ k. k.used ≡ 0 → k.next ≡ st) (λ e. rw e (let z : st.skip - 0 ≡ st.skip = omega arith in rw z)) (λ e. refl) (λ h e. absurd (omega arith)) (λ h e. absurd (omega arith))

  -- what a step leaves can be lent to the next one
  pub step-held : Held st.totals → Held (step_of st s).next.totals
  unfolding with_long
  step-held h = step_is (λ k. Held k.next.totals) h h (λ l. with-held st.totals (refused_brings too_long)) (λ l. with-held st.totals (brings (report_at s)))

-- ---- as the code tests: n is what the reader of the length answered

module _ (st : Standing) (s : List ℕ) (z : st.skip ≤ 0) {n : Result Fixed Refusal} (e : n ≡ read_fixed length_size s 0) where
  pub told-ends : {refusal : Refusal} → n ≡ Err refusal → nothing st ≡ step_of st s
  unfolding step_of
  told-ends t = rw (le-ltb 0 st.skip z) (ap (λ (m : Result Fixed Refusal). behind_length m st s) (sym t ∙ e))

  module _ {x : Fixed} (t : n ≡ Ok x) where
    abbrev v : ℕ
    v = x.value

    told : {k : Taken} → k ≡ one_report st s v → k ≡ step_of st s
    unfolding step_of
    told g = rw (le-ltb 0 st.skip z) (g ∙ ap (λ (m : Result Fixed Refusal). behind_length m st s) (sym t ∙ e))

    pub told-long : {more : Totals} → longest < v → more ≡ with_long st.totals
        → record { next = record { totals = more; skip = v }; used = length_size } ≡ step_of st s
    told-long l g = told (rw (lt-leb v longest l, g))

    pub told_part : v ≤ longest → length s < length_size + v → nothing st ≡ step_of st s
    told_part l k = told (rw (le-leb v longest l, lt-leb (length_size + v) (length s) k))

    -- the code lends the report's part of s
    pub told-whole : {more : Totals} → v ≤ longest → length_size + v ≤ length s → more ≡ added st.totals (take (length_size + v - length_size) (drop length_size s))
        → record { next = record { totals = more; skip = 0 }; used = length_size + v } ≡ step_of st s
    told-whole l k g =
        let m : length_size + v - length_size ≡ v = omega arith in
        told (rw (le-leb v longest l, le-leb (length_size + v) (length s) k, g, m))

-- b is what a report that is too long brings
pub long-added : (t : Totals) {more : Totals} {b : Brought} → b ≡ refused_brings too_long → more ≡ with t b → more ≡ with_long t
unfolding with_long
long-added t e g = g ∙ ap (with t) e

pub refused-low : (n : ℕ) → n ≤ too_long → (refused_brings n).number ≤ too_long
unfolding refused_brings
refused-low n h = h

-- nothing is taken from no bytes
pub step-empty : (st : Standing) (s : List ℕ) → length s ≡ 0 → (step_of st s).used ≡ 0
step-empty st s e = omega (arith, step-within st s)

-- ---- all steps

module _ (n : ℕ) (st : Standing) (s : List ℕ) (at : ℕ) where
  pub taken-stop : (step_of st s).used ≡ 0 → taken_from n st s at ≡ record { next = st; used = at }
  unfolding taken_from
  taken-stop h = go n
    where
      go : (n : ℕ) → taken_from n st s at ≡ record { next = st; used = at }
      go zero = refl
      go (suc n) = rw (eq-eqb (step_of st s).used 0 h)

  pub taken_more : ((step_of st s).used ≡ 0 → ⊥)
      → taken_from (suc n) st s at ≡ taken_from n (step_of st s).next (drop (step_of st s).used s) (at + (step_of st s).used)
  unfolding taken_from
  taken_more h = rw (taken_from, ne_eqb (step_of st s).used 0 h)

-- steps enough are all steps
pub steps-enough : (n m : ℕ) (st : Standing) (s : List ℕ) (at : ℕ) → length s ≤ n → length s ≤ m → taken_from n st s at ≡ taken_from m st s at
steps-enough zero m st s at h k =
    let e = step-empty st s (omega arith) in
    taken-stop zero st s at e ∙ sym (taken-stop m st s at e)
steps-enough (suc n) zero st s at h k =
    let e = step-empty st s (omega arith) in
    taken-stop (suc n) st s at e ∙ sym (taken-stop zero st s at e)
steps-enough (suc n) (suc m) st s at h k =
    elim (dec_le 1 (step_of st s).used) [
      | no g ↦ let e : (step_of st s).used ≡ 0 = omega (arith, lt_of_not-le g) in taken-stop (suc n) st s at e ∙ sym (taken-stop (suc m) st s at e)
      | yes g ↦
          let f : ((step_of st s).used ≡ 0 → ⊥) = λ e. omega arith in
          let l : length (drop (step_of st s).used s) ≤ n = simp length-drop (omega arith) in
          let r : length (drop (step_of st s).used s) ≤ m = simp length-drop (omega arith) in
          taken_more n st s at f
          ∙ steps-enough n m (step_of st s).next (drop (step_of st s).used s) (at + (step_of st s).used) l r
          ∙ sym (taken_more m st s at f)
    ]

nonzero : (n : ℕ) → (n ≡ 0 → ⊥) → 0 < n
nonzero zero f = absurd (f refl)
nonzero (suc n) f = omega arith

-- ---- how the code goes through a piece: current and at are where it stands after some steps, the work left gives the whole

pub record Going (st : Standing) (s : List ℕ) (current : Standing) (at : ℕ) : Type 0 where
  pub within : at ≤ length s
  pub left : taken_from (length s - at) current (drop at s) at ≡ taken st s

module _ (st : Standing) (s : List ℕ) where
  pub going-begun : Going st s st 0
  going-begun = record { within = omega arith; left = let e : length s - 0 ≡ length s = omega arith in rw e }

  module _ {current : Standing} {at : ℕ} (p : Going st s current at) where
    -- the code lends what is left of s
    lent : take (length s - at) (drop at s) ≡ drop at s
    lent = let l : length (drop at s) ≤ length s - at = simp length-drop (omega arith) in take_all (length s - at) (drop at s) l

    -- k is what the step answered
    module _ (k : Taken) (e : k ≡ step_of current (take (length s - at) (drop at s))) where
      step-told : k ≡ step_of current (drop at s)
      step-told = e ∙ ap (step_of current) lent

      pub going-within : at + k.used ≤ length s
      going-within = let l = step-within current (drop at s) in rw step-told (omega (arith, length-drop at s, p.within))

      pub going-stop : k.used ≡ 0 → record { next = k.next; used = at } ≡ taken st s
      going-stop z =
          let u : (step_of current (drop at s)).used ≡ 0 = rw step-told at z in
          let n : k.next ≡ current = rw step-told (step-still current (drop at s) u) in
          rw n (sym (taken-stop (length s - at) current (drop at s) at u) ∙ p.left)

      pub going-held : Held current.totals → Held k.next.totals
      going-held h = rw step-told (step-held current (drop at s) h)

      pub going_on : (k.used ≡ 0 → ⊥) → Going st s k.next (at + k.used)
      going_on f =
          let w = going-within in
          let z : length s - at ≡ suc (length s - at - 1) = omega (arith, nonzero k.used f) in
          let l : length (drop (at + k.used) s) ≤ length s - at - 1 = simp length-drop (omega (arith, nonzero k.used f)) in
          let m : length (drop (at + k.used) s) ≤ length s - (at + k.used) = simp length-drop (omega arith) in
          record {
            within = w;
            left =
                steps-enough (length s - (at + k.used)) (length s - at - 1) k.next (drop (at + k.used) s) (at + k.used) m l
                ∙ rw (← drop-drop k.used at s) (sym (rw step-told (taken_more (length s - at - 1) current (drop at s) at (λ q. f (rw step-told q)))) ∙ rw z at p.left);
          }

    pub going_end : length s ≤ at → record { next = current; used = at } ≡ taken st s
    going_end h =
        let l : length (drop at s) ≡ 0 = simp length-drop (omega arith) in
        sym (taken-stop (length s - at) current (drop at s) at (step-empty current (drop at s) l)) ∙ p.left
