-- A call goes on behind bytes that it took: bytes that are taken whole, one step after the other, and the records that they bring.
-- Assumes nothing.
use Prim.Native.Nat.{ℕ, suc, ◌+◌, ◌-◌, ◌*◌, ◌≤◌, zero-le}
use mathlib.Core.Path.{◌≡◌, refl, sym, ap, ap₂, ◌∙◌}
use mathlib.Core.Bool.{Bool, true, false}
use mathlib.Core.List.{List, [], ◌∷◌, ◌++◌, append_assoc}
use native.Mathlib.Nat.{mul-add, mul-zero}
use native.Mathlib.Omega.{arith}
use lib.ListN.{length, take, drop, length-append, length-drop, take-append-drop}
use lib.Seq.{length-take-le, take-add, drop-drop, take_at, drop_at}
use Rattle.wire.specs.Bytes.{pick, splice}
use Rattle.entries.specs.Profiles.{record_size}
use Rattle.entries.specs.declared.Profile.{Profile}
use Rattle.uncut.specs.State.{State}
use Rattle.uncut.specs.Step.{step, given, after, delivered}
use Rattle.uncut.specs.Cutting.{stops, taking}
use Rattle.pieces.specs.Record.{Stand, Moved, state_in}
use Rattle.pieces.specs.Serving.{Sits, Went, Served}
use Rattle.pieces.specs.Reading.{still}
use Rattle.uncut.proofs.Cuts.{after-append, delivered-append}

module _ (p : Profile) where
  -- ---- bytes that are taken whole

  pub taking-append : (room : ℕ) (st : State) (s t : List ℕ) → taking p room st s ≡ length s
      → taking p room st (s ++ t) ≡ length s + taking p (room - length (delivered p st s)) (after p st s) t
  unfolding taking after delivered
  taking-append room st [] t e = let z : room - 0 ≡ room = omega arith in ap (λ (r : ℕ). taking p r st t) (sym z) ∙ omega arith
  taking-append room st (b ∷ s) t e = go (stops p room st) refl (taking-append (room - length (given p st b)) (step p st b) s t) e
    where
      go : (c : Bool) → stops p room st ≡ c
          → (taking p (room - length (given p st b)) (step p st b) s ≡ length s
          → taking p (room - length (given p st b)) (step p st b) (s ++ t) ≡ length s + taking p (room - length (given p st b) - length (delivered p (step p st b) s)) (after p (step p st b) s) t)
          → pick c 0 (suc (taking p (room - length (given p st b)) (step p st b) s)) ≡ suc (length s)
          → pick c 0 (suc (taking p (room - length (given p st b)) (step p st b) (s ++ t))) ≡ suc (length s) + taking p (room - length (given p st b ++ delivered p (step p st b) s)) (after p (step p st b) s) t
      go true u more e = absurd (omega arith)
      go false u more e =
          let l : length (given p st b ++ delivered p (step p st b) s) ≡ length (given p st b) + length (delivered p (step p st b) s) = length-append (given p st b) (delivered p (step p st b) s) in
          let m : room - length (given p st b) - length (delivered p (step p st b) s) ≡ room - length (given p st b ++ delivered p (step p st b) s) = omega arith in
          let f : taking p (room - length (given p st b)) (step p st b) (s ++ t) ≡ length s + taking p (room - length (given p st b) - length (delivered p (step p st b) s)) (after p (step p st b) s) t = more (omega arith) in
          let h : taking p (room - length (given p st b)) (step p st b) (s ++ t) ≡ length s + taking p (room - length (given p st b ++ delivered p (step p st b) s)) (after p (step p st b) s) t = f ∙ ap (λ (r : ℕ). length s + taking p r (after p (step p st b) s) t) m in
          omega arith

  pub went-chunk : (room : ℕ) (st : State) (part : List ℕ) (k : ℕ) → k ≤ length part → taking p room st (take k part) ≡ k → Went p room st part k (after p st (take k part))
  went-chunk room st part k h e =
      let l : length (take k part) ≡ k = length-take-le k part h in
      let g = taking-append room st (take k part) (drop k part) (e ∙ sym l) in
      record {
        within = h;
        comes = refl;
        goes = ap (taking p room st) (sym (take-append-drop k part)) ∙ g ∙ ap (λ (n : ℕ). n + taking p (room - length (delivered p st (take k part))) (after p st (take k part)) (drop k part)) l;
      }

  pub went_then : (room : ℕ) (st st' st'' : State) (part : List ℕ) (k j : ℕ) → Went p room st part k st'
      → Went p (room - length (delivered p st (take k part))) st' (drop k part) j st'' → Went p room st part (k + j) st''
  went_then room st st' st'' part k j w v =
      let l : length (drop k part) ≡ length part - k = length-drop k part in
      let a : take (k + j) part ≡ take k part ++ take j (drop k part) = take-add k j part in
      let c : after p st (take (k + j) part) ≡ st'' = ap (after p st) a ∙ after-append p st (take k part) (take j (drop k part)) ∙ ap (λ (x : State). after p x (take j (drop k part))) w.comes ∙ v.comes in
      let d : delivered p st (take (k + j) part) ≡ delivered p st (take k part) ++ delivered p st' (take j (drop k part)) =
      ap (delivered p st) a ∙ delivered-append p st (take k part) (take j (drop k part)) ∙ ap (λ (x : State). delivered p st (take k part) ++ delivered p x (take j (drop k part))) w.comes in
      let n : length (delivered p st (take (k + j) part)) ≡ length (delivered p st (take k part)) + length (delivered p st' (take j (drop k part))) = ap length d ∙ length-append (delivered p st (take k part)) (delivered p st' (take j (drop k part))) in
      let r : room - length (delivered p st (take k part)) - length (delivered p st' (take j (drop k part))) ≡ room - length (delivered p st (take (k + j) part)) = omega arith in
      let g : taking p (room - length (delivered p st (take k part))) st' (drop k part) ≡ j + taking p (room - length (delivered p st (take (k + j) part))) st'' (drop (k + j) part) =
      v.goes ∙ ap₂ (λ (x : ℕ) (y : List ℕ). j + taking p x st'' y) r (drop-drop j k part) in
      record { within = omega (arith, w.within, v.within); comes = c; goes = w.goes ∙ ap (λ (x : ℕ). k + x) g ∙ omega arith }

  -- ---- bytes that bring no record

  pub record Chunk (st : State) (s : List ℕ) (st' : State) : Type 0 where
    pub comes : after p st s ≡ st'
    pub gives : delivered p st s ≡ []
    pub takes : (room : ℕ) → taking p room st s ≡ length s

  pub chunk-none : (st : State) → Chunk st [] st
  unfolding after delivered taking
  chunk-none st = record { comes = refl; gives = refl; takes = λ room. refl }

  pub chunk-then : (st st' st'' : State) (s t : List ℕ) → Chunk st s st' → Chunk st' t st'' → Chunk st (s ++ t) st''
  chunk-then st st' st'' s t c d = record {
    comes = after-append p st s t ∙ ap (λ (x : State). after p x t) c.comes ∙ d.comes;
    gives = delivered-append p st s t ∙ ap₂ (λ (x : List ℕ) (y : State). x ++ delivered p y t) c.gives c.comes ∙ d.gives;
    takes = λ room. taking-append room st s t (c.takes room) ∙ ap (λ (y : State). length s + taking p (room - length (delivered p st s)) y t) c.comes ∙ ap (λ (x : ℕ). length s + x) (d.takes (room - length (delivered p st s))) ∙ sym (length-append s t);
  }

  -- ---- what a step of a call does

  -- no record: the buffer stays
  pub served-chunk : (st : State) (part out : List ℕ) (m : Moved) → m.taken ≤ length part → Sits p m.now → m.records ≡ 0
      → (after p st (take m.taken part) ≡ state_in m.now) → (delivered p st (take m.taken part) ≡ []) → (taking p (length out) st (take m.taken part) ≡ m.taken)
      → Served p st part out m out
  served-chunk st part out m h s r c g t =
      let w = went-chunk (length out) st part m.taken h t in
      let n : record_size p * m.records ≡ 0 = ap (λ (x : ℕ). record_size p * x) r ∙ mul-zero (record_size p) in
      let l : length (delivered p st (take m.taken part)) ≡ 0 = ap length g in
      record {
        went = record { within = h; comes = c; goes = w.goes ∙ ap (λ (x : State). m.taken + taking p (length out - length (delivered p st (take m.taken part))) x (drop m.taken part)) c };
        bytes = sym (ap (splice out 0) g);
        many = n ∙ sym l;
        fits = omega arith;
        sits = s;
      }

  pub served-still : (s : Stand) (part out : List ℕ) → Sits p s → Served p (state_in s) part out (still s) out
  unfolding after delivered taking
  served-still s part out h = served-chunk (state_in s) part out (still s) zero-le h refl refl refl refl

  -- one step after the other
  pub served-then : (st : State) (part out : List ℕ) (m n : Moved) (out' part₂ out₂ out₃ end : List ℕ) → Served p st part out m out'
      → part₂ ≡ drop m.taken part → out₂ ≡ drop (record_size p * m.records) out' → Served p (state_in m.now) part₂ out₂ n out₃
      → end ≡ take (record_size p * m.records) out' ++ out₃
      → (o : Moved) → o ≡ record { now = n.now; taken = m.taken + n.taken; records = m.records + n.records } → Served p st part out o end
  served-then st part out m n out' part₂ out₂ out₃ end a e f b g o q =
      let d₁ : List ℕ = delivered p st (take m.taken part) in
      let d₂ : List ℕ = delivered p (state_in m.now) (take n.taken part₂) in
      let ld : length (delivered p st (take m.taken part)) ≤ length out = omega (arith, a.many, a.fits) in
      let lo : length out' ≡ length out = ap length a.bytes ∙ spliced (delivered p st (take m.taken part)) ld in
      let lr : length out₂ ≡ length out - length (delivered p st (take m.taken part)) = ap length f ∙ length-drop (record_size p * m.records) out' ∙ omega (arith, a.many) in
      let w₂ : Went p (length out - length (delivered p st (take m.taken part))) (state_in m.now) (drop m.taken part) n.taken (state_in n.now) = rw (lr, e) at b.went in
      let d : delivered p st (take (m.taken + n.taken) part) ≡ delivered p st (take m.taken part) ++ delivered p (state_in m.now) (take n.taken part₂) =
      ap (delivered p st) (take-add m.taken n.taken part) ∙ delivered-append p st (take m.taken part) (take n.taken (drop m.taken part))
      ∙ ap₂ (λ (x : State) (y : List ℕ). delivered p st (take m.taken part) ++ delivered p x (take n.taken y)) a.went.comes (sym e) in
      let s : record_size p * (m.records + n.records) ≡ record_size p * m.records + record_size p * n.records = mul-add (record_size p) m.records n.records in
      let many : record_size p * (m.records + n.records) ≡ length (delivered p st (take (m.taken + n.taken) part)) =
      s ∙ ap₂ ◌+◌ a.many b.many ∙ sym (length-append (delivered p st (take m.taken part)) (delivered p (state_in m.now) (take n.taken part₂))) ∙ ap length (sym d) in
      let t : take (record_size p * m.records) out' ≡ delivered p st (take m.taken part) = ap₂ take a.many a.bytes ∙ take_at (delivered p st (take m.taken part)) (drop (0 + length (delivered p st (take m.taken part))) out) (length (delivered p st (take m.taken part))) refl in
      let zl : 0 + length (delivered p st (take m.taken part)) ≡ length (delivered p st (take m.taken part)) = omega arith in
      let u : out₂ ≡ drop (length (delivered p st (take m.taken part))) out =
      f ∙ ap₂ drop a.many a.bytes ∙ drop_at (delivered p st (take m.taken part)) (drop (0 + length (delivered p st (take m.taken part))) out) (length (delivered p st (take m.taken part))) refl ∙ ap (λ (x : ℕ). drop x out) zl in
      let bytes : end ≡ splice out 0 (delivered p st (take (m.taken + n.taken) part)) =
      g ∙ ap₂ ◌++◌ t b.bytes ∙ ap (λ (x : List ℕ). delivered p st (take m.taken part) ++ splice x 0 (delivered p (state_in m.now) (take n.taken part₂))) u
      ∙ joined-splice (delivered p st (take m.taken part)) (delivered p (state_in m.now) (take n.taken part₂)) ∙ ap (splice out 0) (sym d) in
      rw q
      (record {
        went = went_then (length out) st (state_in m.now) (state_in n.now) part m.taken n.taken a.went w₂;
        bytes = bytes;
        many = many;
        fits = omega (arith, a.fits, b.fits, a.many, s);
        sits = b.sits;
      })
    where
      spliced : (d : List ℕ) → length d ≤ length out → length (splice out 0 d) ≡ length out
      spliced d h = length-append d (drop (0 + length d) out) ∙ rw length-drop (omega arith)

      joined-splice : (d₁ d₂ : List ℕ) → d₁ ++ splice (drop (length d₁) out) 0 d₂ ≡ splice out 0 (d₁ ++ d₂)
      joined-splice d₁ d₂ =
          let l : length (d₁ ++ d₂) ≡ length d₁ + length d₂ = length-append d₁ d₂ in
          let q : length d₁ + (0 + length d₂) ≡ 0 + length (d₁ ++ d₂) = omega arith in
          ap (λ (x : List ℕ). d₁ ++ (d₂ ++ x)) (drop-drop (0 + length d₂) (length d₁) out) ∙ sym (append_assoc d₁ d₂ (drop (length d₁ + (0 + length d₂)) out))
          ∙ ap (λ (x : ℕ). (d₁ ++ d₂) ++ drop x out) q

  -- ---- two steps of a call, where the second takes all that the call takes

  pub taken-both : (st : State) (part out : List ℕ) (m : Moved) (out' : List ℕ) → Served p st part out m out' → (room j : ℕ) → room ≡ length out - record_size p * m.records
      → j ≡ taking p room (state_in m.now) (drop m.taken part) → m.taken + j ≡ taking p (length out) st part
  taken-both st part out m out' s room j e f =
      let r : length out - length (delivered p st (take m.taken part)) ≡ room = omega (arith, s.many) in
      sym (s.went.goes ∙ ap (λ (x : ℕ). m.taken + taking p x (state_in m.now) (drop m.taken part)) r ∙ ap (λ (x : ℕ). m.taken + x) (sym f))

  -- the last step leaves nothing that could be taken
  pub taken-last : (st : State) (part out : List ℕ) (m : Moved) → Served p st part out m out → m.records ≡ 0 → taking p (length out) (state_in m.now) (drop m.taken part) ≡ 0 → m.taken ≡ taking p (length out) st part
  taken-last st part out m s z e =
      let n : record_size p * m.records ≡ 0 = ap (λ (x : ℕ). record_size p * x) z ∙ mul-zero (record_size p) in
      let r : length out - length (delivered p st (take m.taken part)) ≡ length out = omega (arith, s.many) in
      sym (s.went.goes ∙ ap (λ (x : ℕ). m.taken + taking p x (state_in m.now) (drop m.taken part)) r ∙ ap (λ (x : ℕ). m.taken + x) e ∙ omega arith)
