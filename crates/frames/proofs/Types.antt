-- How a frame reader's proof follows the type's number: cut, another one, a longer form, or right.
-- Assumes nothing.
use Prim.Native.Nat.{ℕ, ◌+◌, ◌/◌}
use mathlib.Core.Path.{◌≡◌, refl, sym, ap, ◌∙◌}
use mathlib.Core.Bool.{Bool, true, false}
use mathlib.Core.List.{List, [], ◌∷◌}
use mathlib.Core.Logic.{inl, inr, ⊎_elim}
use native.Mathlib.Omega.{arith}
use borrow.Author.Tests.{eq-eqb, ne_eqb, eqb-true, eqb-false}
use lib.Dec.{leb, eqb}
use lib.ListN.{length, get_or, take, drop}
use Rattle.std.specs.Prelude.{Result, Ok, Err}
use Rattle.wire.specs.Bytes.{pick, be}
use Rattle.wire.specs.Exactly.{OneOf}
use Rattle.wire.specs.Fields.{read_fixed, found, formed}
use Rattle.wire.specs.Numbers.{len_of, in_form, read_form, read_number}
use Rattle.wire.specs.declared.Number.{Number}
use Rattle.wire.specs.declared.Refusal.{Refusal}
use Rattle.wire.specs.declared.Refusal.TheVariants.{Ends, OtherType}
use Rattle.wire.proofs.Reading.{next, yes}
use Rattle.frames.specs.Types.{among, typed, read_type, typed_as}
use Rattle.frames.specs.declared.Kind.{Kind}

-- ---- whether a type is one that the reader takes, and the row that says so

pub only : {v kind : ℕ} → v ≡ kind → among v (kind ∷ []) ≡ true
only {v} {kind} e = rw (eq-eqb v kind e)

pub another : {v kind : ℕ} → (v ≡ kind → ⊥) → among v (kind ∷ []) ≡ false
another {v} {kind} f = rw (ne_eqb v kind f)

pub listed : (v : ℕ) (kinds : List ℕ) → among v kinds ≡ true → OneOf v kinds
listed v [] e = let z : ◌≡◌ {A = ℕ} 0 1 = cc in omega arith
listed v (kind ∷ kinds) e = go (eqb v kind) refl e (listed v kinds)
  where
    go : (b : Bool) → eqb v kind ≡ b → pick b true (among v kinds) ≡ true → (among v kinds ≡ true → OneOf v kinds) → OneOf v (kind ∷ kinds)
    go true t h f = inl (eqb-true v kind t)
    go false t h f = inr (f h)

pub unlisted : (v : ℕ) (kinds : List ℕ) → among v kinds ≡ false → OneOf v kinds → ⊥
unlisted v [] e o = o
unlisted v (kind ∷ kinds) e o = go (eqb v kind) refl e (unlisted v kinds) o
  where
    go : (b : Bool) → eqb v kind ≡ b → pick b true (among v kinds) ≡ false → (among v kinds ≡ false → OneOf v kinds → ⊥) → OneOf v (kind ∷ kinds) → ⊥
    go true t h f p = let z : ◌≡◌ {A = ℕ} 0 1 = cc in omega arith
    go false t h f p = ⊎_elim (eqb-false v kind t) (f h) p

-- ---- a number is refused only where the bytes end in it

pub cut_only : (s : List ℕ) (at : ℕ) {refusal : Refusal} → read_number s at ≡ Err refusal → read_number s at ≡ Err Ends
unfolding read_number read_form read_fixed
cut_only s at {refusal} e = go (leb (at + len) (length s)) e
  where
    k : ℕ
    k = get_or s at 0 / 64

    len : ℕ
    len = len_of k

    go : (t : Bool) → in_form k (pick t (Ok (record { value = be 0 (take len (drop at s)); next = at + len })) (Err Ends)) ≡ Err refusal
        → in_form k (pick t (Ok (record { value = be 0 (take len (drop at s)); next = at + len })) (Err Ends)) ≡ Err Ends
    go true q = let z : ◌≡◌ {A = ℕ} 0 1 = cc in absurd (omega arith)
    go false q = refl

-- ---- the type is read, and then judged

-- what a type that was read leads to
abbrev by_type : {R : Type 0} → List ℕ → (ℕ → ℕ → Result R Refusal) → Result Kind Refusal → Result R Refusal
by_type kinds f (Err refusal) = Err refusal
by_type kinds f (Ok t) = typed_as kinds t.kind (Err OtherType) (f t.kind t.next)

type-first : {R : Type 0} (kinds s : List ℕ) (f : ℕ → ℕ → Result R Refusal) → by_type kinds f (read_type s) ≡ typed kinds s (Err Ends) (Err OtherType) f
type-first {R} kinds s f = go (read_number s 0)
  where
    judged : (a b : Bool) (v next : ℕ) → among v kinds ≡ a
        → by_type kinds f (pick b (Ok (record { kind = v; next = next })) (Err OtherType)) ≡ pick a (pick b (f v next) (Err OtherType)) (Err OtherType)
    judged true true v next e = rw e
    judged false true v next e = rw e
    judged true false v next e = refl
    judged false false v next e = refl

    go : (n : Result Number Refusal) → by_type kinds f (formed n (Err Ends) (λ v next shortest. pick shortest (Ok (record { kind = v; next = next })) (Err OtherType)))
        ≡ formed n (Err Ends) (λ v next shortest. pick (among v kinds) (pick shortest (f v next) (Err OtherType)) (Err OtherType))
    go (Ok n) = judged (among n.value kinds) n.shortest n.value n.next refl
    go (Err refusal) = refl

-- r is what reading the type answers, and v what is known of it
pub type_in : {R : Type 0} (kinds : List ℕ) (s : List ℕ) (f : ℕ → ℕ → Result R Refusal) {r v : Result Kind Refusal}
    → r ≡ read_type s → r ≡ v → by_type kinds f v ≡ typed kinds s (Err Ends) (Err OtherType) f
type_in kinds s f e t = ap (by_type kinds f) (sym t ∙ e) ∙ type-first kinds s f

-- ---- n is what reading the type answers

module _ {R : Type 0} (kinds s : List ℕ) (ends other : R) (f : ℕ → ℕ → R) {n : Result Number Refusal} (e : n ≡ read_number s 0) where
  module _ {v at : ℕ} {shortest : Bool} (t : n ≡ found v at shortest) where
    pub type-right : {y : R} → among v kinds ≡ true → shortest ≡ true → y ≡ f v at → y ≡ typed kinds s ends other f
    type-right h l g = next _ _ t e (yes _ _ h (yes _ _ l g))
