-- Two steps of a call are one, and take all that the call takes.
-- Assumes nothing.
use Prim.Native.Nat.{ℕ, zero, suc, ◌+◌, ◌-◌, ◌*◌, ◌≤◌}
use mathlib.Core.Path.{◌≡◌, refl, sym, ap, ap₂, ◌∙◌}
use mathlib.Core.List.{List, [], ◌∷◌, ◌++◌, append-nil}
use native.Mathlib.Nat.{mul-zero, mul-suc}
use native.Mathlib.Omega.{arith}
use lib.ListN.{length, take, drop, length-append, length-drop, take-append-drop}
use lib.Seq.{take_all, drop-nil}
use Rattle.entries.specs.Profiles.{record_size}
use Rattle.entries.specs.declared.Profile.{Profile}
use Rattle.uncut.specs.State.{State}
use Rattle.uncut.specs.Step.{delivered}
use Rattle.uncut.specs.Cutting.{taking}
use Rattle.pieces.specs.Record.{Moved, state_in}
use Rattle.pieces.specs.Serving.{Served, Past, Begun, Short}
use Rattle.pieces.proofs.Going.{served-then, taken-both, taken-last}
use Rattle.uncut.proofs.Rows.{size-pos}

-- what is lent from a place on is all that stands there
pub rest-is : (xs : List ℕ) (k : ℕ) → take (length xs - k) (drop k xs) ≡ drop k xs
rest-is xs k = take_all (length xs - k) (drop k xs) (rw length-drop (omega arith))

none_left : (xs : List ℕ) (n : ℕ) → length xs ≤ n → drop n xs ≡ []
none_left [] n l = drop-nil n
none_left (x ∷ xs) zero l = absurd (omega arith)
none_left (x ∷ xs) (suc n) l = none_left xs n (omega arith)

pub begun-lent : (p : Profile) (x : State) (part : List ℕ) (k : ℕ) → Begun p x (drop k part) → Begun p x (take (length part - k) (drop k part))
begun-lent p x part k h = rw (rest-is part k) h

pub past-lent : (x : State) (part : List ℕ) (k : ℕ) → Past x (drop k part) → Past x (take (length part - k) (drop k part))
past-lent x part k h = rw (rest-is part k) h

module _ (p : Profile) (st : State) (part out : List ℕ) (m : Moved) (out' : List ℕ) (s : Served p st part out m out') where
  -- the buffer keeps its length
  pub same-room : length out' ≡ length out
  same-room =
      let d : List ℕ = delivered p st (take m.taken part) in
      let l : length (delivered p st (take m.taken part)) ≤ length out = omega (arith, s.many, s.fits) in
      ap length s.bytes ∙ length-append (delivered p st (take m.taken part)) (drop (0 + length (delivered p st (take m.taken part))) out) ∙ rw length-drop (omega arith)

  pub few-records : m.records ≤ length out
  few-records = go m.records s.fits
    where
      go : (n : ℕ) → record_size p * n ≤ length out → n ≤ length out
      go zero h = omega arith
      go (suc n) h = omega (arith, mul-suc (record_size p) n, more n)
        where
          more : (n : ℕ) → n ≤ record_size p * n
          more zero = omega arith
          more (suc n) = omega (arith, mul-suc (record_size p) n, more n, size-pos p)

  -- what is short of the rest is short of what is lent of it
  pub short-lent : (size : ℕ) → size ≡ record_size p → (x : State) → Short p (length out - record_size p * m.records) x (drop m.taken part)
      → Short p (length out' - size * m.records) x (take (length part - m.taken) (drop m.taken part))
  short-lent size g x h =
      let a : length out' - size * m.records ≡ length out - record_size p * m.records = ap₂ (λ (x y : ℕ). x - y * m.records) same-room g in
      rw (a, rest-is part m.taken) h

  pub filled-fits : (size : ℕ) → size ≡ record_size p → size * m.records ≤ length out'
  filled-fits size g = rw (g, same-room) s.fits

  abbrev Both : Moved → List ℕ → Type 0
  Both o end = (Served p st part out o end) × (o.taken ≡ taking p (length out) st part)

  -- the last step brings no record
  pub both-finished : (size : ℕ) → size ≡ record_size p → (room : ℕ) → room ≡ length out' - size * m.records → (n : Moved)
      → (((o : List ℕ) → length o ≡ room → Served p (state_in m.now) (take (length part - m.taken) (drop m.taken part)) o n o)
      × (taking p room (state_in n.now) (drop n.taken (take (length part - m.taken) (drop m.taken part))) ≡ 0)) × (n.records ≡ 0)
      → (o : Moved) → o ≡ record { now = n.now; taken = m.taken + n.taken; records = m.records } → Both o out'
  both-finished size g room e n f o q =
      let a : room ≡ length out - record_size p * m.records = e ∙ ap₂ (λ (x y : ℕ). x - y * m.records) same-room g in
      let b : length (drop (record_size p * m.records) out') ≡ room = length-drop (record_size p * m.records) out' ∙ ap (λ (x : ℕ). x - record_size p * m.records) same-room ∙ sym a in
      let t = f.0.0 (drop (record_size p * m.records) out') b in
      let z : m.records + n.records ≡ m.records = omega (arith, f.1) in
      let k : n.taken ≡ taking p room (state_in m.now) (take (length part - m.taken) (drop m.taken part)) =
      taken-last p (state_in m.now) (take (length part - m.taken) (drop m.taken part)) (drop (record_size p * m.records) out') n t f.1 (rw b f.0.1) ∙ ap (λ (x : ℕ). taking p x (state_in m.now) (take (length part - m.taken) (drop m.taken part))) b in
      rw q (
        served-then p st part out m n out' (take (length part - m.taken) (drop m.taken part)) (drop (record_size p * m.records) out') (drop (record_size p * m.records) out') out' s (rest-is part m.taken) refl t
            (sym (take-append-drop (record_size p * m.records) out')) (record { now = n.now; taken = m.taken + n.taken; records = m.records }) (ap (λ (x : ℕ). record { now = n.now; taken = m.taken + n.taken; records = x }) (sym z)),
        taken-both p st part out m out' s room n.taken a (k ∙ ap (taking p room (state_in m.now)) (rest-is part m.taken)),
      )

  -- the second step has the rest of the buffer
  pub both-rows : (size : ℕ) → size ≡ record_size p → (n : Moved) (out₃ : List ℕ)
      → (Served p (state_in m.now) (take (length part - m.taken) (drop m.taken part)) (take (length out' - size * m.records) (drop (size * m.records) out')) n out₃)
      × (n.taken ≡ taking p (length (take (length out' - size * m.records) (drop (size * m.records) out'))) (state_in m.now) (take (length part - m.taken) (drop m.taken part)))
      → (o : Moved) → o ≡ record { now = n.now; taken = m.taken + n.taken; records = m.records + n.records }
      → Both o (take (size * m.records) out' ++ (out₃ ++ drop (length out' - size * m.records) (drop (size * m.records) out')))
  both-rows size g n out₃ f o q =
      let w : take (length out' - size * m.records) (drop (size * m.records) out') ≡ drop (record_size p * m.records) out' = rest-is out' (size * m.records) ∙ ap (λ (x : ℕ). drop (x * m.records) out') g in
      let b : length (drop (record_size p * m.records) out') ≡ length out - record_size p * m.records = length-drop (record_size p * m.records) out' ∙ ap (λ (x : ℕ). x - record_size p * m.records) same-room in
      let u : drop (length out' - size * m.records) (drop (size * m.records) out') ≡ [] = none_left (drop (size * m.records) out') (length out' - size * m.records) (rw length-drop (omega arith)) in
      let e : take (size * m.records) out' ++ (out₃ ++ drop (length out' - size * m.records) (drop (size * m.records) out')) ≡ take (record_size p * m.records) out' ++ out₃ =
      ap₂ (λ (x : ℕ) (y : List ℕ). take (x * m.records) out' ++ (out₃ ++ y)) g u ∙ ap (λ (x : List ℕ). take (record_size p * m.records) out' ++ x) (append-nil out₃) in
      let k : n.taken ≡ taking p (length out - record_size p * m.records) (state_in m.now) (drop m.taken part) =
      f.1 ∙ ap₂ (λ (x y : List ℕ). taking p (length x) (state_in m.now) y) w (rest-is part m.taken) ∙ ap (λ (x : ℕ). taking p x (state_in m.now) (drop m.taken part)) b in
      rw q (
        served-then p st part out m n out' (take (length part - m.taken) (drop m.taken part)) (take (length out' - size * m.records) (drop (size * m.records) out')) out₃ (take (size * m.records) out' ++ (out₃ ++ drop (length out' - size * m.records) (drop (size * m.records) out'))) s (rest-is part m.taken) w f.0
            e (record { now = n.now; taken = m.taken + n.taken; records = m.records + n.records }) refl,
        taken-both p st part out m out' s (length out - record_size p * m.records) n.taken refl k,
      )

-- the first step brings no record, whatever the buffer
pub both-headed : (p : Profile) (st : State) (part out : List ℕ) (m : Moved) → ((o : List ℕ) → Served p st part o m o) → (n : Moved) (out' : List ℕ)
    → (Served p (state_in m.now) (take (length part - m.taken) (drop m.taken part)) out n out')
    × (n.taken ≡ taking p (length out) (state_in m.now) (take (length part - m.taken) (drop m.taken part)))
    → (o : Moved) → o ≡ record { now = n.now; taken = m.taken + n.taken; records = n.records } → (Served p st part out o out') × (o.taken ≡ taking p (length out) st part)
both-headed p st part out m s n out' f o q =
    let z : m.records ≡ 0 = omega (arith, few-records p st part [] m [] (s [])) in
    let y : record_size p * m.records ≡ 0 = ap (λ (x : ℕ). record_size p * x) z ∙ mul-zero (record_size p) in
    let x : m.records + n.records ≡ n.records = omega arith in
    let d : drop (record_size p * m.records) out ≡ out = ap (λ (k : ℕ). drop k out) y in
    let t : take (record_size p * m.records) out ++ out' ≡ out' = ap (λ (k : ℕ). take k out ++ out') y in
    rw q (
      served-then p st part out m n out (take (length part - m.taken) (drop m.taken part)) out out' out' (s out) (rest-is part m.taken) (sym d) f.0 (sym t)
          (record { now = n.now; taken = m.taken + n.taken; records = n.records }) (ap (λ (k : ℕ). record { now = n.now; taken = m.taken + n.taken; records = k }) (sym x)),
      taken-both p st part out m out (s out) (length out) n.taken (omega (arith, y)) (f.1 ∙ ap (taking p (length out) (state_in m.now)) (rest-is part m.taken)),
    )
