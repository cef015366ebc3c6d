-- Rows of the refusal table along a chain of fields: each row holds at a field if it holds at what comes after it.
-- Assumes nothing.
use Prim.Native.Nat.{ℕ}
use mathlib.Core.Path.{◌≡◌, refl, sym, subst, ◌∙◌}
use mathlib.Core.Logic.{◌↔◌, inl, inr, ⊎_elim}
use mathlib.Core.Bool.{Bool, true, false}
use mathlib.Core.List.{List, [], ◌∷◌}
use native.Mathlib.Omega.{arith}
use borrow.Author.Tests.{eqb-false}
use Rattle.std.specs.Prelude.{Result, Ok, Err}
use Rattle.wire.specs.Bytes.{pick}
use Rattle.wire.specs.Fields.{found, formed, field}
use Rattle.wire.specs.Numbers.{read_number}
use Rattle.wire.specs.Exactly.{OneOf}
use Rattle.wire.specs.Standing.{Stand, none, one}
use Rattle.wire.specs.declared.Number.{Number}
use Rattle.wire.specs.declared.Refusal.{Refusal}
use Rattle.wire.specs.declared.Refusal.TheVariants.{Ends}
use Rattle.wire.proofs.Reading.{found-same}
use Rattle.frames.specs.Types.{among, typed, typed_as}
use Rattle.frames.specs.Exactly.{From, After, AfterAs, OtherType, Cut}
use Rattle.frames.proofs.Types.{listed, unlisted, cut_only}

-- the rows of what is read from at on, by what the numbers read there are to be
pub record Rows (s : List ℕ) (at refusal : ℕ) (cut low short whole : List ℕ → Type 0) : Type 0 where
  pub three : refusal ≡ 3 → ⊥
  pub two : refusal ≡ 2 ↔ From s at (λ vs next. cut vs × (read_number s next ≡ Err Ends))
  pub fourteen : refusal ≡ 14 ↔ From s at (λ vs next. low vs)
  pub nine : refusal ≡ 9 ↔ From s at (λ vs next. short vs)
  pub accepted : refusal ≡ 0 ↔ From s at (λ vs next. whole vs)

-- ---- rows of a known refusal

-- numbers for which no list will do
pub nothing : {s : List ℕ} {at : ℕ} {P : List ℕ → ℕ → Type 0} → ((vs : List ℕ) (next : ℕ) → P vs next → ⊥) → From s at P → ⊥
nothing f r = f r.numbers r.next r.holds

-- nothing more is read
pub at_once : {s : List ℕ} {at : ℕ} {P : List ℕ → ℕ → Type 0} → P [] at → From s at P
at_once {at = at} p = record { numbers = []; next = at; stand = none; holds = p }

pub never : {A : Type 0} {m n : ℕ} → (m ≡ n → ⊥) → (A → ⊥) → (m ≡ n) ↔ A
never f g = (λ e. absurd (f e), λ a. absurd (g a))

pub here : {A : Type 0} {m : ℕ} → A → (m ≡ m) ↔ A
here a = (λ e. a, λ b. refl)

-- ---- a field

module _ {s : List ℕ} {at v mid : ℕ} {b : Bool} (e : read_number s at ≡ found v mid b) {P : List ℕ → ℕ → Type 0} where
  -- a number more, and one less
  longer : From s mid (λ vs next. P (v ∷ vs) next) → From s at P
  longer r = record { numbers = v ∷ r.numbers; next = r.next; stand = one e r.stand; holds = r.holds }

  shorter : (P [] at → ⊥) → From s at P → From s mid (λ vs next. P (v ∷ vs) next)
  shorter f r = go r.stand r.holds
    where
      go : {vs : List ℕ} {next : ℕ} → Stand s at vs next → P vs next → From s mid (λ vs next. P (v ∷ vs) next)
      go none p = absurd (f p)
      go (one {v = w} {mid = m} {next = next} {vs = vs} d t) p =
          let same = found-same (sym d ∙ e) in
          record { numbers = vs; next = next; stand = subst (λ (n : ℕ). Stand s n vs next) same.1 t; holds = subst (λ (x : ℕ). P (x ∷ vs) next) same.0 p }

-- where the bytes end, no number stands
stuck : {s : List ℕ} {at : ℕ} {P : List ℕ → ℕ → Type 0} → read_number s at ≡ Err Ends → (P [] at → ⊥) → From s at P → ⊥
stuck {s} {at} {P} e f r = go r.stand r.holds
  where
    go : {vs : List ℕ} {next : ℕ} → Stand s at vs next → P vs next → ⊥
    go none p = f p
    go (one d t) p = let z : ◌≡◌ {A = ℕ} 0 1 = cc in omega arith

no_value : {v n : ℕ} {b : Bool} {r : Result Number Refusal} → r ≡ found v n b → r ≡ Err Ends → ⊥
no_value e f = let z : ◌≡◌ {A = ℕ} 0 1 = cc in omega arith

pub field-rows : {s : List ℕ} {at : ℕ} {rest : ℕ → ℕ → ℕ} {cut low short whole : List ℕ → Type 0}
    → cut [] → (low [] → ⊥) → (short [] → ⊥) → (whole [] → ⊥)
    → ((v next : ℕ) → Rows s next (rest v next) (λ vs. cut (v ∷ vs)) (λ vs. low (v ∷ vs)) (λ vs. short (v ∷ vs)) (λ vs. whole (v ∷ vs)))
    → Rows s at (field (read_number s at) 2 rest) cut low short whole
field-rows {s} {at} {rest} {cut} {low} {short} {whole} c l h w rows = go (read_number s at) refl
  where
    go : (n : Result Number Refusal) → read_number s at ≡ n → Rows s at (field n 2 rest) cut low short whole
    go (Ok n) e =
        let r = rows n.value n.next in
        record {
          three = r.three;
          two = (λ q. longer e (r.two.0 q), λ f. r.two.1 (shorter e (λ p. no_value e p.1) f));
          fourteen = (λ q. longer e (r.fourteen.0 q), λ f. r.fourteen.1 (shorter e l f));
          nine = (λ q. longer e (r.nine.0 q), λ f. r.nine.1 (shorter e h f));
          accepted = (λ q. longer e (r.accepted.0 q), λ f. r.accepted.1 (shorter e w f));
        }
    go (Err refusal) t =
        let e = cut_only s at t in
        record {
          three = eqb-false 2 3 refl;
          two = here (at_once (c, e));
          fourteen = never (eqb-false 2 14 refl) (stuck e l);
          nine = never (eqb-false 2 9 refl) (stuck e h);
          accepted = never (eqb-false 2 0 refl) (stuck e w);
        }

-- ---- the same rows by other words

from-map : {s : List ℕ} {at : ℕ} {P Q : List ℕ → ℕ → Type 0} → ((vs : List ℕ) (next : ℕ) → P vs next → Q vs next) → From s at P → From s at Q
from-map f r = record { numbers = r.numbers; next = r.next; stand = r.stand; holds = f r.numbers r.next r.holds }

pub rows-map : {s : List ℕ} {at refusal : ℕ} {cut low short whole cut' low' short' whole' : List ℕ → Type 0}
    → ((vs : List ℕ) → cut vs ↔ cut' vs) → ((vs : List ℕ) → low vs ↔ low' vs)
    → ((vs : List ℕ) → short vs ↔ short' vs) → ((vs : List ℕ) → whole vs ↔ whole' vs)
    → Rows s at refusal cut low short whole → Rows s at refusal cut' low' short' whole'
rows-map c l h w r = record {
  three = r.three;
  two = (λ q. from-map (λ vs next p. ((c vs).0 p.0, p.1)) (r.two.0 q), λ f. r.two.1 (from-map (λ vs next p. ((c vs).1 p.0, p.1)) f));
  fourteen = (λ q. from-map (λ vs next p. (l vs).0 p) (r.fourteen.0 q), λ f. r.fourteen.1 (from-map (λ vs next p. (l vs).1 p) f));
  nine = (λ q. from-map (λ vs next p. (h vs).0 p) (r.nine.0 q), λ f. r.nine.1 (from-map (λ vs next p. (h vs).1 p) f));
  accepted = (λ q. from-map (λ vs next p. (w vs).0 p) (r.accepted.0 q), λ f. r.accepted.1 (from-map (λ vs next p. (w vs).1 p) f));
}

-- ---- the frame's type

-- the rows of a whole frame
pub record FrameRows (kinds s : List ℕ) (refusal : ℕ) (cut low short whole : ℕ → List ℕ → Type 0) : Type 0 where
  pub three : refusal ≡ 3 ↔ OtherType kinds s
  pub two : refusal ≡ 2 ↔ Cut kinds s cut
  pub fourteen : refusal ≡ 14 ↔ After kinds s (λ kind vs next. low kind vs)
  pub nine : refusal ≡ 9 ↔ After kinds s (λ kind vs next. short kind vs)
  pub accepted : refusal ≡ 0 ↔ After kinds s (λ kind vs next. whole kind vs)

typed-rows : {kinds s : List ℕ} (rest : ℕ → ℕ → ℕ) {cut low short whole : ℕ → List ℕ → Type 0}
    → ((kind at : ℕ) → Rows s at (rest kind at) (cut kind) (low kind) (short kind) (whole kind)) → FrameRows kinds s (typed kinds s 2 3 rest) cut low short whole
typed-rows {kinds} {s} rest {cut} {low} {short} {whole} rows = go (read_number s 0) refl
  where
    another : {v next : ℕ} {b : Bool} → read_number s 0 ≡ found v next b → (OneOf v kinds × (b ≡ true) → ⊥) → FrameRows kinds s 3 cut low short whole
    another {v} {next} {b} e f = record {
      three = here (record { value = v; next = next; shortest = b; whole = e; other = f });
      two = never (eqb-false 3 2 refl) (⊎_elim (no_value e) no);
      fourteen = never (eqb-false 3 14 refl) no;
      nine = never (eqb-false 3 9 refl) no;
      accepted = never (eqb-false 3 0 refl) no;
    }
      where
        no : {P : ℕ → List ℕ → ℕ → Type 0} → After kinds s P → ⊥
        no a = let t = found-same (sym a.type ∙ e) in f (subst (λ (k : ℕ). OneOf k kinds) t.0 a.right, sym t.2)

    right : (kind next : ℕ) → read_number s 0 ≡ found kind next true → OneOf kind kinds → FrameRows kinds s (rest kind next) cut low short whole
    right kind next e o =
        let r = rows kind next in
        record {
          three = (λ q. absurd (r.three q), λ p. absurd (p.other (same p.whole)));
          two = (λ q. inr (begun (r.two.0 q)), ⊎_elim (λ f. absurd (no_value e f)) (λ a. r.two.1 (there a)));
          fourteen = (λ q. begun (r.fourteen.0 q), λ a. r.fourteen.1 (there a));
          nine = (λ q. begun (r.nine.0 q), λ a. r.nine.1 (there a));
          accepted = (λ q. begun (r.accepted.0 q), λ a. r.accepted.1 (there a));
        }
      where
        same : {v n : ℕ} {b : Bool} → read_number s 0 ≡ found v n b → OneOf v kinds × (b ≡ true)
        same {v} t = let m = found-same (sym e ∙ t) in (subst (λ (k : ℕ). OneOf k kinds) m.0 o, sym m.2)

        begun : {P : ℕ → List ℕ → ℕ → Type 0} → From s next (P kind) → After kinds s P
        begun f = record { kind = kind; start = next; type = e; right = o; fields = f }

        there : {P : ℕ → List ℕ → ℕ → Type 0} → After kinds s P → From s next (P kind)
        there {P} a =
            let t = found-same (sym a.type ∙ e) in
            subst (λ (k : ℕ). From s next (P k)) t.0 (subst (λ (m : ℕ). From s m (P a.kind)) t.1 a.fields)

    judge : (v next : ℕ) (b : Bool) → read_number s 0 ≡ found v next b → (a : Bool) → among v kinds ≡ a
        → FrameRows kinds s (pick a (pick b (rest v next) 3) 3) cut low short whole
    judge v next true e true p = right v next e (listed v kinds p)
    judge v next false e true p = another e (λ m. let z : ◌≡◌ {A = ℕ} 0 1 = cc in omega arith)
    judge v next b e false p = another e (λ m. unlisted v kinds p m.0)

    go : (n : Result Number Refusal) → read_number s 0 ≡ n
        → FrameRows kinds s (formed n 2 (λ v next shortest. pick (among v kinds) (pick shortest (rest v next) 3) 3)) cut low short whole
    go (Ok n) e = judge n.value n.next n.shortest e (among n.value kinds) refl
    go (Err refusal) t =
        let e = cut_only s 0 t in
        record {
          three = never (eqb-false 2 3 refl) (λ o. no_value o.whole e);
          two = here (inl e);
          fourteen = never (eqb-false 2 14 refl) (λ a. no_value a.type e);
          nine = never (eqb-false 2 9 refl) (λ a. no_value a.type e);
          accepted = never (eqb-false 2 0 refl) (λ a. no_value a.type e);
        }

-- ---- the number of an answer goes through the chain that makes it

through-formed : {A : Type 0} (g : A → ℕ) (r : Result Number Refusal) {x : A} {y : ℕ} {f : ℕ → ℕ → Bool → A} {k : ℕ → ℕ → Bool → ℕ}
    → g x ≡ y → ((v n : ℕ) (b : Bool) → g (f v n b) ≡ k v n b) → g (formed r x f) ≡ formed r y k
through-formed g (Ok n) e h = h n.value n.next n.shortest
through-formed g (Err refusal) e h = e

pub through : {A : Type 0} (g : A → ℕ) (r : Result Number Refusal) {x : A} {y : ℕ} {f : ℕ → ℕ → A} {k : ℕ → ℕ → ℕ}
    → g x ≡ y → ((v n : ℕ) → g (f v n) ≡ k v n) → g (field r x f) ≡ field r y k
through g r e h = through-formed g r e (λ v n b. h v n)

-- the rows of a frame, by those of what comes after its type: g gives the number of an answer
pub frame-rows : {A : Type 0} (g : A → ℕ) (kinds s : List ℕ) (ends other : A) (f : ℕ → ℕ → A) {cut low short whole : ℕ → List ℕ → Type 0}
    → g ends ≡ 2 → g other ≡ 3
    → ((kind at : ℕ) → Rows s at (g (f kind at)) (cut kind) (low kind) (short kind) (whole kind)) → FrameRows kinds s (g (typed kinds s ends other f)) cut low short whole
frame-rows g kinds s ends other f {cut} {low} {short} {whole} e o r =
    subst (λ (n : ℕ). FrameRows kinds s n cut low short whole)
    (sym (through-formed g (read_number s 0) e (λ v n b. go (among v kinds) b (f v n))))
    (typed-rows (λ kind at. g (f kind at)) r)
  where
    go : (a b : Bool) (x : _) → g (pick a (pick b x other) other) ≡ pick a (pick b (g x) 3) 3
    go true true x = refl
    go true false x = o
    go false b x = o

-- ---- the bytes after a type that was read already

-- the rows of such a frame
pub record FrameRowsAs (kinds : List ℕ) (kind : ℕ) (s : List ℕ) (refusal : ℕ) (cut low short whole : List ℕ → Type 0) : Type 0 where
  pub three : refusal ≡ 3 ↔ (OneOf kind kinds → ⊥)
  pub two : refusal ≡ 2 ↔ AfterAs kinds kind s (λ vs next. cut vs × (read_number s next ≡ Err Ends))
  pub fourteen : refusal ≡ 14 ↔ AfterAs kinds kind s (λ vs next. low vs)
  pub nine : refusal ≡ 9 ↔ AfterAs kinds kind s (λ vs next. short vs)
  pub accepted : refusal ≡ 0 ↔ AfterAs kinds kind s (λ vs next. whole vs)

pub frame-rows-as : {A : Type 0} (g : A → ℕ) (kinds : List ℕ) (kind : ℕ) (s : List ℕ) (other x : A) {cut low short whole : List ℕ → Type 0}
    → g other ≡ 3 → Rows s 0 (g x) cut low short whole → FrameRowsAs kinds kind s (g (typed_as kinds kind other x)) cut low short whole
frame-rows-as g kinds kind s other x {cut} {low} {short} {whole} o r = go (among kind kinds) refl
  where
    go : (b : Bool) → among kind kinds ≡ b → FrameRowsAs kinds kind s (g (pick b x other)) cut low short whole
    go true p =
        let l = listed kind kinds p in
        record {
          three = (λ q. absurd (r.three q), λ f. absurd (f l));
          two = (λ q. (l, r.two.0 q), λ a. r.two.1 a.1);
          fourteen = (λ q. (l, r.fourteen.0 q), λ a. r.fourteen.1 a.1);
          nine = (λ q. (l, r.nine.0 q), λ a. r.nine.1 a.1);
          accepted = (λ q. (l, r.accepted.0 q), λ a. r.accepted.1 a.1);
        }
    go false p =
        let u = unlisted kind kinds p in
        rw o
        (record {
          three = here u;
          two = never (eqb-false 3 2 refl) (λ a. u a.0);
          fourteen = never (eqb-false 3 14 refl) (λ a. u a.0);
          nine = never (eqb-false 3 9 refl) (λ a. u a.0);
          accepted = never (eqb-false 3 0 refl) (λ a. u a.0);
        })
