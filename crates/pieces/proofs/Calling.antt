-- The calls: 1, 9 and the refusal that stands come first, and what the bytes of a part do is what the call answers and leaves.
-- Assumes nothing.
use Prim.Native.Nat.{ℕ, zero, suc, ◌/◌, ◌≤◌, ◌<◌}
use mathlib.Core.Path.{◌≡◌, refl, sym, ap, ap₂, ◌∙◌}
use mathlib.Core.Bool.{true, false}
use mathlib.Core.List.{List}
use native.Mathlib.Nat.{mul-div_cancel_left}
use borrow.Author.Tests.{le-leb, lt-leb}
use lib.ListN.{length, take}
use lib.Seq.{length-take-le}
use Rattle.wire.specs.Bytes.{splice}
use Rattle.entries.specs.Profiles.{record_size}
use Rattle.entries.specs.declared.Profile.{Profile}
use Rattle.report.specs.declared.Report.{Report}
use Rattle.uncut.specs.State.{State, standing, report_at, at_end}
use Rattle.uncut.specs.Step.{after, delivered}
use Rattle.uncut.specs.Cutting.{taking}
use Rattle.pieces.specs.Record.{Moved, profile_in, marks_at, stand_in, state_in, state_of, words_of}
use Rattle.pieces.specs.declared.Marks.{Marks}
use Rattle.pieces.specs.Fitness.{consistent}
use Rattle.pieces.specs.Serving.{Sits, Served}
use Rattle.pieces.specs.Calls.{refused_report, refused_as, answer_of, take_refusal, taken_of, state_after, given_of, take_answer, take_after, take_bytes, end_refusal, end_answer, end_after}
use Rattle.pieces.specs.declared.Taken.{Taken}
use Rattle.pieces.proofs.Fits.{sits-consistent}
use Rattle.uncut.proofs.Rows.{size-pos}

-- what a call of take comes to
abbrev pub Took : List ℕ → List ℕ → List ℕ → Taken → List ℕ → List ℕ → Type 0
Took w part xs a w' xs' = (a ≡ take_answer w part (length xs)) × ((w' ≡ take_after w part (length xs)) × (xs' ≡ take_bytes w part xs))

abbrev pub Said : List ℕ → Report → List ℕ → Type 0
Said w a w' = (a ≡ end_answer w) × (w' ≡ end_after w)

module _ (w : List ℕ) where
  module _ (e : consistent w ≡ false) where
    one : (room : ℕ) → take_refusal w room ≡ 1
    unfolding take_refusal
    one room = rw e

    pub take-one : (part xs : List ℕ) (a : Taken) → a ≡ refused_as 1 → Took w part xs a w xs
    unfolding take_answer take_after take_bytes
    take-one part xs a f = rw (one (length xs), f) (refl, (refl, refl))

    pub end-one : (a : Report) → a ≡ refused_report 1 → Said w a w
    unfolding end_refusal end_answer end_after
    end-one a f = rw (e, f) (refl, refl)

  module _ (e : consistent w ≡ true) where
    pub end-stands : (n : ℕ) → n ≡ standing (state_of w) → (n ≡ 0 → ⊥) → (a : Report) → a ≡ refused_report n → Said w a w
    unfolding end_refusal end_answer end_after
    end-stands zero f z a g = absurd (z refl)
    end-stands (suc n) f z a g = rw (e, ← f, g) (refl, refl)

    pub end-said : (n : ℕ) → n ≡ standing (state_of w) → n ≡ 0 → (st : State) (a : Report) (w' : List ℕ) → st ≡ at_end (state_of w) → a ≡ report_at st → w' ≡ words_of (profile_in w) st → Said w a w'
    unfolding end_refusal end_answer end_after
    end-said n q z st a w' f g h = rw (e, ← q, z) (g ∙ ap report_at f, h ∙ ap (words_of (profile_in w)) f)

    nine : (room : ℕ) → room < record_size (profile_in w) → take_refusal w room ≡ 9
    unfolding take_refusal
    nine room h = rw (e, lt-leb (record_size (profile_in w)) room h)

    pub take-nine : (part xs : List ℕ) → length xs < record_size (profile_in w) → (a : Taken) → a ≡ refused_as 9 → Took w part xs a w xs
    unfolding take_answer take_after take_bytes
    take-nine part xs h a f = rw (nine (length xs) h, f) (refl, (refl, refl))

    stands : (room : ℕ) → record_size (profile_in w) ≤ room → take_refusal w room ≡ standing (state_of w)
    unfolding take_refusal
    stands room h = rw (e, le-leb (record_size (profile_in w)) room h)

    pub take-stands : (part xs : List ℕ) → record_size (profile_in w) ≤ length xs → (n : ℕ) → n ≡ standing (state_of w) → (n ≡ 0 → ⊥) → (a : Taken) → a ≡ refused_as n → Took w part xs a w xs
    unfolding take_answer take_after take_bytes
    take-stands part xs h zero f z a g = absurd (z refl)
    take-stands part xs h (suc n) f z a g = rw (stands (length xs) h, ← f, g) (refl, (refl, refl))

    pub take-served : (part xs : List ℕ) → record_size (profile_in w) ≤ length xs → (n : ℕ) → n ≡ standing (state_of w) → n ≡ 0 → (m : Moved) (xs' w' : List ℕ) (a : Taken) → Served (profile_in w) (state_of w) part xs m xs'
        → m.taken ≡ taking (profile_in w) (length xs) (state_of w) part → w' ≡ words_of (profile_in w) (state_in m.now) → a ≡ answer_of (state_in m.now) m.taken m.records → Took w part xs a w' xs'
    unfolding take_answer take_after take_bytes
    take-served part xs h o q z m xs' w' a s t f g =
        let k : taken_of w part (length xs) ≡ take m.taken part = ap (λ (n : ℕ). take n part) (sym t) in
        let b : state_after w part (length xs) ≡ state_in m.now = ap (after (profile_in w) (state_of w)) k ∙ s.went.comes in
        let d : given_of w part (length xs) ≡ delivered (profile_in w) (state_of w) (take m.taken part) = ap (delivered (profile_in w) (state_of w)) k in
        let l : length (taken_of w part (length xs)) ≡ m.taken = ap length k ∙ length-take-le m.taken part s.went.within in
        let n : length (given_of w part (length xs)) / record_size (profile_in w) ≡ m.records = ap (λ (x : List ℕ). length x / record_size (profile_in w)) d ∙ ap (λ (x : ℕ). x / record_size (profile_in w)) (sym s.many) ∙ mul-div_cancel_left m.records (size-pos (profile_in w)) in
        rw (stands (length xs) h, ← q, z) (
          g ∙ ap₂ (λ (x : State) (y : ℕ). answer_of x y m.records) (sym b) (sym l) ∙ ap (answer_of (state_after w part (length xs)) (length (taken_of w part (length xs)))) (sym n),
          (f ∙ ap (words_of (profile_in w)) (sym b), s.bytes ∙ ap (splice xs 0) (sym d)),
        )

  pub sits-loaded : (from : Marks) (p : Profile) → from ≡ marks_at w → p ≡ profile_in w → consistent w ≡ true → Sits p (stand_in from w)
  sits-loaded from p e f g = rw (e, f) (sits-consistent w g)
