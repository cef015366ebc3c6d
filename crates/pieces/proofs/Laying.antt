-- Words written where they stand, one after the other, and what the record says then.
-- Assumes nothing.
use Prim.Native.Nat.{ℕ, zero, suc, ◌+◌, ◌-◌, ◌%◌, ◌≤◌, ◌<◌}
use mathlib.Core.Path.{◌≡◌, refl, sym, ap, ap₂, ◌∙◌}
use mathlib.Core.List.{List, [], ◌∷◌, ◌++◌}
use native.Mathlib.Nat.{mod-eq_of_lt}
use native.Mathlib.Omega.{arith}
use lib.ListN.{length, get_or, take, drop, set, replicate, length-set, length-append, length-drop, length-replicate, get_or-append}
use lib.Seq.{length-take-le, ext_get_or, get_or-set_same, get_or-set_other, get_or-take, get_or-drop, get_or-append-add}
use Rattle.wire.proofs.Lengths.{split}
use Rattle.entries.specs.Profiles.{number_of}
use Rattle.entries.specs.declared.Profile.{Profile}
use Rattle.uncut.specs.State.{State}
use Rattle.pieces.specs.Record.{numbers_in, held_in, stand_in, padded, body_as, body_in, body_of, words_of, Laid}
use Rattle.pieces.specs.declared.Marks.{Marks}
use Rattle.pieces.proofs.Loading.{numbers-long, held-long, number_at, byte_at}

-- ---- one word more

module _ (f : ℕ → ℕ) (w : List ℕ) (from : ℕ) where
  pub laid_none : Laid f w from from w
  laid_none = record { long = refl; inside = λ j a b. absurd (omega arith); before = λ j a. refl; behind = λ j a. refl }

  pub laid_more : (i : ℕ) (x : List ℕ) (v : ℕ) → Laid f w from i x → from ≤ i → i < length w → v ≡ f i → Laid f w from (i + 1) (set x i v)
  laid_more i x v h l m e = record {
    long = length-set x i v ∙ h.long;
    inside = λ j a b. split i j (λ c. here j (omega arith)) (λ c. get_or-set_other x i j v 0 (λ z. absurd (omega arith)) ∙ h.inside j a c);
    before = λ j a. get_or-set_other x i j v 0 (λ z. absurd (omega arith)) ∙ h.before j a;
    behind = λ j a. get_or-set_other x i j v 0 (λ z. absurd (omega arith)) ∙ h.behind j (omega arith);
  }
    where
      here : (j : ℕ) → j ≡ i → get_or (set x i v) j 0 ≡ f j
      here j z = ap (λ (k : ℕ). get_or (set x i v) k 0) z ∙ get_or-set_same x i v 0 (omega (arith, h.long)) ∙ e ∙ ap f (sym z)

-- ---- the numbers that have come are a part of the words

pub part-come : (w : List ℕ) (count : ℕ) → length w ≡ 56 → count ≤ 25 → take count (drop 7 w) ≡ take count (numbers_in w)
part-come w count h l =
    let a : length (take count (drop 7 w)) ≡ count = length-take-le count (drop 7 w) (rw length-drop (omega arith)) in
    let b : length (take count (numbers_in w)) ≡ count = length-take-le count (numbers_in w) (omega (arith, numbers-long w)) in
    ext_get_or 0 (take count (drop 7 w)) (take count (numbers_in w)) (a ∙ sym b) (λ i g.
    let k : i < count = omega arith in
    get_or-take count (drop 7 w) i 0 k ∙ get_or-drop 7 w i 0 ∙ sym (get_or-take count (numbers_in w) i 0 k ∙ number_at w i (omega arith)))

-- ---- one number more

module _ (w : List ℕ) (count v : ℕ) (h : length w ≡ 56) (l : count < 25) where
  pub number-laid : numbers_in (set w (7 + count) v) ≡ set (numbers_in w) count v
  number-laid =
      ext_get_or 0 (numbers_in (set w (7 + count) v)) (set (numbers_in w) count v) (numbers-long (set w (7 + count) v) ∙ sym (length-set (numbers_in w) count v ∙ numbers-long w)) (λ i g.
      let k : i < 25 = omega (arith, numbers-long (set w (7 + count) v)) in
      number_at (set w (7 + count) v) i k ∙ at i k)
    where
      at : (i : ℕ) → i < 25 → get_or (set w (7 + count) v) (7 + i) 0 ≡ get_or (set (numbers_in w) count v) i 0
      at i k =
          split i count
          (λ a. split count i
          (λ b.
          let z : i ≡ count = omega arith in
          ap (λ (j : ℕ). get_or (set w (7 + count) v) (7 + j) 0) z ∙ get_or-set_same w (7 + count) v 0 (omega arith) ∙ sym (ap (λ (j : ℕ). get_or (set (numbers_in w) count v) j 0) z ∙ get_or-set_same (numbers_in w) count v 0 (omega (arith, numbers-long w))))
          (λ b. other i k (λ z. absurd (omega arith))))
          (λ a. other i k (λ z. absurd (omega arith)))
        where
          other : (i : ℕ) → i < 25 → (i ≡ count → ⊥) → get_or (set w (7 + count) v) (7 + i) 0 ≡ get_or (set (numbers_in w) count v) i 0
          other i k n = get_or-set_other w (7 + count) (7 + i) v 0 (λ z. n (omega arith)) ∙ sym (get_or-set_other (numbers_in w) count i v 0 n ∙ number_at w i k)

  pub bytes-stay : held_in (set w (7 + count) v) ≡ held_in w
  bytes-stay =
      ext_get_or 0 (held_in (set w (7 + count) v)) (held_in w) (held-long (set w (7 + count) v) ∙ sym (held-long w)) (λ i g.
      let k : i < 24 = omega (arith, held-long (set w (7 + count) v)) in
      byte_at (set w (7 + count) v) i k ∙ ap (λ (x : ℕ). x % 256) (get_or-set_other w (7 + count) (32 + i) v 0 (λ z. absurd (omega arith))) ∙ sym (byte_at w i k))

-- ---- more bytes are carried

module _ (w w' more : List ℕ) (carried : ℕ) (h : Laid (λ j. get_or more (j - (32 + carried)) 0) w (32 + carried) (32 + carried + length more) w') (l : carried + length more ≤ 24) (o : (i : ℕ) → get_or more i 0 < 256) where
  pub numbers_stay : numbers_in w' ≡ numbers_in w
  numbers_stay =
      ext_get_or 0 (numbers_in w') (numbers_in w) (numbers-long w' ∙ sym (numbers-long w)) (λ i g.
      let k : i < 25 = omega (arith, numbers-long w') in
      number_at w' i k ∙ h.before (7 + i) (omega arith) ∙ sym (number_at w i k))

  pub bytes-laid : take (carried + length more) (held_in w') ≡ take carried (held_in w) ++ more
  bytes-laid =
      let a : length (take (carried + length more) (held_in w')) ≡ carried + length more = length-take-le (carried + length more) (held_in w') (omega (arith, held-long w')) in
      let c : length (take carried (held_in w)) ≡ carried = length-take-le carried (held_in w) (omega (arith, held-long w)) in
      let b : length (take carried (held_in w) ++ more) ≡ carried + length more = length-append (take carried (held_in w)) more ∙ ap (λ (x : ℕ). x + length more) c in
      ext_get_or 0 (take (carried + length more) (held_in w')) (take carried (held_in w) ++ more) (a ∙ sym b) (λ i g.
      let k : i < carried + length more = omega arith in
      get_or-take (carried + length more) (held_in w') i 0 k ∙ byte_at w' i (omega arith) ∙ split carried i (λ m. late i (i - carried) (omega arith) (omega arith) c) (λ m. early i m c))
    where
      early : (i : ℕ) → i < carried → length (take carried (held_in w)) ≡ carried → get_or w' (32 + i) 0 % 256 ≡ get_or (take carried (held_in w) ++ more) i 0
      early i m c = ap (λ (x : ℕ). x % 256) (h.before (32 + i) (omega arith)) ∙ sym (get_or-append (take carried (held_in w)) more 0 i (omega arith) ∙ get_or-take carried (held_in w) i 0 m ∙ byte_at w i (omega arith))

      late : (i d : ℕ) → i ≡ carried + d → d < length more → length (take carried (held_in w)) ≡ carried → get_or w' (32 + i) 0 % 256 ≡ get_or (take carried (held_in w) ++ more) i 0
      late i d z m c =
          let e : 32 + i - (32 + carried) ≡ d = omega arith in
          let f : get_or w' (32 + i) 0 ≡ get_or more d 0 = h.inside (32 + i) (omega arith) (omega arith) ∙ ap (λ (x : ℕ). get_or more x 0) e in
          let g : i ≡ length (take carried (held_in w)) + d = omega arith in
          ap (λ (x : ℕ). x % 256) f ∙ mod-eq_of_lt (o d) ∙ sym (ap (λ (x : ℕ). get_or (take carried (held_in w) ++ more) x 0) g ∙ get_or-append-add (take carried (held_in w)) more d 0)

-- ---- all words

pub fronted : (x : List ℕ) (a b c d e f g : ℕ) → length x ≡ 56 → set (set (set (set (set (set (set x 0 a) 1 b) 2 c) 3 d) 4 e) 5 f) 6 g ≡ a ∷ b ∷ c ∷ d ∷ e ∷ f ∷ g ∷ drop 7 x
fronted [] a b c d e f g h = absurd (omega arith)
fronted (x0 ∷ []) a b c d e f g h = absurd (omega arith)
fronted (x0 ∷ x1 ∷ []) a b c d e f g h = absurd (omega arith)
fronted (x0 ∷ x1 ∷ x2 ∷ []) a b c d e f g h = absurd (omega arith)
fronted (x0 ∷ x1 ∷ x2 ∷ x3 ∷ []) a b c d e f g h = absurd (omega arith)
fronted (x0 ∷ x1 ∷ x2 ∷ x3 ∷ x4 ∷ []) a b c d e f g h = absurd (omega arith)
fronted (x0 ∷ x1 ∷ x2 ∷ x3 ∷ x4 ∷ x5 ∷ []) a b c d e f g h = absurd (omega arith)
fronted (x0 ∷ x1 ∷ x2 ∷ x3 ∷ x4 ∷ x5 ∷ x6 ∷ xs) a b c d e f g h = refl

pub padded-long : (k : ℕ) (xs : List ℕ) → length xs ≤ k → length (padded k xs) ≡ k
padded-long k xs h = length-append xs (replicate (k - length xs) 0) ∙ ap (λ (n : ℕ). length xs + n) (length-replicate (k - length xs) 0) ∙ omega arith

pub zeros : (k i : ℕ) → get_or {A = ℕ} (replicate k 0) i 0 ≡ 0
zeros zero i = refl
zeros (suc k) zero = refl
zeros (suc k) (suc i) = zeros k i

pub padded-at : (xs : List ℕ) (k i : ℕ) → get_or (xs ++ replicate k 0) i 0 ≡ get_or xs i 0
padded-at [] k i = zeros k i
padded-at (x ∷ xs) k zero = refl
padded-at (x ∷ xs) k (suc i) = padded-at xs k i

past : (xs : List ℕ) (i : ℕ) → length xs ≤ i → get_or xs i 0 ≡ 0
past [] i l = refl
past (x ∷ xs) zero l = absurd (omega arith)
past (x ∷ xs) (suc i) l = past xs i (omega arith)

module _ (w : List ℕ) (count carried : ℕ) (h : length w ≡ 56) (l : count ≤ 25) (m : carried ≤ 24) (x y z : List ℕ) where
  abbrev ns : List ℕ
  ns = take count (numbers_in w)

  abbrev held : List ℕ
  held = take carried (held_in w)

  pub behind-laid : Laid (λ j. get_or w j 0 % 256) w 32 (32 + carried) x → Laid (λ j. 0) x (7 + count) 32 y → Laid (λ j. 0) y (32 + carried) 56 z → drop 7 z ≡ padded 25 ns ++ padded 24 held
  behind-laid a b c =
      let n : length ns ≡ count = length-take-le count (numbers_in w) (omega (arith, numbers-long w)) in
      let k : length held ≡ carried = length-take-le carried (held_in w) (omega (arith, held-long w)) in
      let p : length (padded 25 ns) ≡ 25 = padded-long 25 ns (omega arith) in
      let q : length (padded 24 held) ≡ 24 = padded-long 24 held (omega arith) in
      let e : length (drop 7 z) ≡ 49 = length-drop 7 z ∙ omega (arith, a.long, b.long, c.long) in
      let f : length (padded 25 ns ++ padded 24 held) ≡ 49 = length-append (padded 25 ns) (padded 24 held) ∙ omega arith in
      ext_get_or 0 (drop 7 z) (padded 25 ns ++ padded 24 held) (e ∙ sym f) (λ i g.
      get_or-drop 7 z i 0 ∙ split 25 i (λ u. late i (i - 25) (omega arith) (omega arith) k p) (λ u. early i u n p))
    where
      early : (i : ℕ) → i < 25 → length ns ≡ count → length (padded 25 ns) ≡ 25 → get_or z (7 + i) 0 ≡ get_or (padded 25 ns ++ padded 24 held) i 0
      early i u n p =
          c.before (7 + i) (omega arith)
          ∙ split count i
          (λ v. b.inside (7 + i) (omega arith) (omega arith) ∙ sym (past ns i (omega arith)))
          (λ v. b.before (7 + i) (omega arith) ∙ a.before (7 + i) (omega arith) ∙ sym (get_or-take count (numbers_in w) i 0 v ∙ number_at w i u))
          ∙ sym (get_or-append (padded 25 ns) (padded 24 held) 0 i (omega arith) ∙ padded-at ns (25 - length ns) i)

      late : (i d : ℕ) → i ≡ 25 + d → d < 24 → length held ≡ carried → length (padded 25 ns) ≡ 25 → get_or z (7 + i) 0 ≡ get_or (padded 25 ns ++ padded 24 held) i 0
      late i d s u k p =
          let t : 7 + i ≡ 32 + d = omega arith in
          let r : i ≡ length (padded 25 ns) + d = omega arith in
          ap (λ (j : ℕ). get_or z j 0) t
          ∙ split carried d
          (λ v. c.inside (32 + d) (omega arith) (omega arith) ∙ sym (past held d (omega arith)))
          (λ v. c.before (32 + d) (omega arith) ∙ b.behind (32 + d) (omega arith) ∙ a.inside (32 + d) (omega arith) (omega arith) ∙ sym (get_or-take carried (held_in w) d 0 v ∙ byte_at w d u))
          ∙ sym (ap (λ (j : ℕ). get_or (padded 25 ns ++ padded 24 held) j 0) r ∙ get_or-append-add (padded 25 ns) (padded 24 held) d 0 ∙ padded-at held (24 - length held) d)

-- the first seven are set
pub stored : (p : Profile) (m : Marks) (st : State) (n : ℕ) (w z : List ℕ) → length w ≡ 56 → m.count ≤ 25 → m.carried ≤ 24 → length z ≡ 56
    → drop 7 z ≡ padded 25 (take m.count (numbers_in w)) ++ padded 24 (take m.carried (held_in w)) → n ≡ number_of p → body_in (stand_in m w) ≡ body_of st
    → set (set (set (set (set (set (set z 0 n) 1 m.stage) 2 m.left) 3 m.last) 4 m.above) 5 m.count) 6 m.carried ≡ words_of p st
unfolding body_as
stored p m st n w z h c d l e f g =
    let a : length (take m.count (numbers_in w)) ≡ m.count = length-take-le m.count (numbers_in w) (omega (arith, numbers-long w)) in
    let b : length (take m.carried (held_in w)) ≡ m.carried = length-take-le m.carried (held_in w) (omega (arith, held-long w)) in
    fronted z n m.stage m.left m.last m.above m.count m.carried l
    ∙ ap (λ (x : List ℕ). n ∷ m.stage ∷ m.left ∷ m.last ∷ m.above ∷ m.count ∷ m.carried ∷ x) e
    ∙ ap₂ (λ (x y : ℕ). n ∷ m.stage ∷ m.left ∷ m.last ∷ m.above ∷ x ∷ y ∷ (padded 25 (take m.count (numbers_in w)) ++ padded 24 (take m.carried (held_in w)))) (sym a) (sym b)
    ∙ ap₂ ◌∷◌ f g
