-- Cutting does not matter: a fold over an append is two folds; and of an accepted report all entries are delivered.
-- Assumes nothing.
use Prim.Native.Nat.{ℕ, zero, suc}
use mathlib.Core.Path.{◌≡◌, refl, sym, ap, ap₂, ◌∙◌}
use mathlib.Core.Bool.{true, false}
use mathlib.Core.List.{List, [], ◌∷◌, ◌++◌, append_assoc}
use native.Mathlib.Omega.{arith}
use lib.ListN.{take, drop, take-append-drop}
use Rattle.entries.specs.declared.Profile.{Profile}
use Rattle.uncut.specs.State.{State, Numbers, Records, Counting, Refused, Accepted, report_at, at_end}
use Rattle.uncut.specs.Step.{step, given, after, delivered}
use Rattle.uncut.specs.Cutting.{closed, taking, Fed, over, shut, call, CutAnyhow}
use Rattle.uncut.proofs.Uncut.{same_answer, good-delivered}

module _ (p : Profile) where
  pub after-append : (st : State) (s t : List ℕ) → after p st (s ++ t) ≡ after p (after p st s) t
  unfolding after
  after-append st [] t = refl
  after-append st (b ∷ s) t = after-append (step p st b) s t

  pub delivered-append : (st : State) (s t : List ℕ) → delivered p st (s ++ t) ≡ delivered p st s ++ delivered p (after p st s) t
  unfolding after delivered
  delivered-append st [] t = refl
  delivered-append st (b ∷ s) t =
      ap (λ (l : List ℕ). given p st b ++ l) (delivered-append (step p st b) s t)
      ∙ sym (append_assoc (given p st b) (delivered p (step p st b) s) (delivered p (after p (step p st b) s) t))

  never : {A : Type 0} → false ≡ true → A
  never e = let z : ◌≡◌ {A = ℕ} 0 1 = cc in absurd (omega arith)

  closed-step : (st : State) (b : ℕ) → closed st ≡ true → (step p st b ≡ st) × (given p st b ≡ [])
  unfolding step given
  closed-step (Numbers ns held) b e = never e
  closed-step (Records ns n last above held) b e = never e
  closed-step (Counting ns zero) b e = (refl, refl)
  closed-step (Counting ns (suc n)) b e = never e
  closed-step (Refused n) b e = (refl, refl)
  closed-step (Accepted ns) b e = (refl, refl)

  pub closed_after : (st : State) (s : List ℕ) → closed st ≡ true → (after p st s ≡ st) × (delivered p st s ≡ [])
  unfolding after delivered
  closed_after st [] e = (refl, refl)
  closed_after st (b ∷ s) e =
      let c = closed-step st b e in
      let d = closed_after st s e in
      (ap (λ (x : State). after p x s) c.0 ∙ d.0, ap₂ (λ (l : List ℕ) (x : State). l ++ delivered p x s) c.1 c.0 ∙ d.1)

  pub fed : {st st' : State} {s out : List ℕ} → Fed p st s st' out → (after p st s ≡ st') × (delivered p st s ≡ out)
  unfolding after delivered
  fed over = (refl, refl)
  fed {st} {s = s} (shut e) = closed_after st s e
  fed {st} (call part rest room h f) =
      let k : ℕ = taking p room st part in
      let r = fed f in
      let a : take (taking p room st part) part ++ (drop (taking p room st part) part ++ rest) ≡ part ++ rest =
      sym (append_assoc (take (taking p room st part) part) (drop (taking p room st part) part) rest)
      ∙ ap (λ (l : List ℕ). l ++ rest) (take-append-drop (taking p room st part) part) in
      let one : List ℕ = take (taking p room st part) part in
      let two : List ℕ = drop (taking p room st part) part ++ rest in (
        ap (after p st) (sym a) ∙ after-append st (take (taking p room st part) part) (drop (taking p room st part) part ++ rest) ∙ r.0,
        ap (delivered p st) (sym a) ∙ delivered-append st (take (taking p room st part) part) (drop (taking p room st part) part ++ rest)
            ∙ ap (λ (l : List ℕ). delivered p st (take (taking p room st part) part) ++ l) r.1,
      )

pub cut-anyhow : CutAnyhow
cut-anyhow p s st out f =
    let r = fed p f in
    (ap (λ (x : State). report_at (at_end x)) (sym r.0) ∙ same_answer p s, sym r.1 ∙ good-delivered p s)
