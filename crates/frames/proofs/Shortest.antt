-- An accepted frame in shortest form is what its writer writes: its numbers stand in the bytes, and as long as the writer's they are the writer's.
-- Assumes nothing.
use Prim.Native.Nat.{ℕ}
use mathlib.Core.Path.{◌≡◌, refl, ap, ◌∙◌}
use mathlib.Core.Bool.{Bool, true, false}
use mathlib.Core.Logic.{⊎_elim}
use mathlib.Core.List.{List, [], ◌∷◌}
use native.Mathlib.Omega.{arith}
use Rattle.std.specs.Prelude.{Result, Ok, Err}
use Rattle.wire.specs.Bytes.{pick, Octets}
use Rattle.wire.specs.Fields.{found, formed, field}
use Rattle.wire.specs.Numbers.{read_number}
use Rattle.wire.specs.Exactly.{OneOf}
use Rattle.wire.specs.Standing.{Stand, none, one}
use Rattle.wire.specs.declared.Number.{Number}
use Rattle.wire.specs.declared.Refusal.{Refusal}
use Rattle.wire.proofs.Standing.{stand-kept}
use Rattle.frames.specs.Types.{frequency_type, immediate_type, among, typed}
use Rattle.frames.specs.Frequency.{thresholds, read_frequency, frequency}
use Rattle.frames.specs.Immediate.{read_immediate, immediate}
use Rattle.frames.specs.EachWay.{Shortest, FrequencyReadWrite, ImmediateReadWrite}
use Rattle.frames.specs.declared.Frequency.{Frequency}
use Rattle.frames.proofs.Types.{listed}

-- ---- an answer that is no refusal tells what was read

pub formed-read : {R : Type 0} (r : Result Number Refusal) {x y : R} {f : ℕ → ℕ → Bool → R} → formed r x f ≡ y → (x ≡ y → ⊥)
    → (v : ℕ) × (n : ℕ) × (b : Bool) × (r ≡ found v n b) × (f v n b ≡ y)
formed-read (Ok n) e f = (n.value, n.next, n.shortest, refl, e)
formed-read (Err refusal) e f = absurd (f e)

pub field-read : {R : Type 0} (r : Result Number Refusal) {x y : R} {f : ℕ → ℕ → R} → field r x f ≡ y → (x ≡ y → ⊥)
    → (v : ℕ) × (n : ℕ) × (b : Bool) × (r ≡ found v n b) × (f v n ≡ y)
field-read r e f = formed-read r e f

pub test-held : {R : Type 0} (b : Bool) {x y z : R} → pick b x z ≡ y → (z ≡ y → ⊥) → (b ≡ true) × (x ≡ y)
test-held true e f = (refl, e)
test-held false e f = absurd (f e)

pub type-read : {R : Type 0} (kinds s : List ℕ) {ends other y : R} (f : ℕ → ℕ → R)
    → typed kinds s ends other f ≡ y → (ends ≡ y → ⊥) → (other ≡ y → ⊥)
    → (kind : ℕ) × (at : ℕ) × OneOf kind kinds × (read_number s 0 ≡ found kind at true) × (f kind at ≡ y)
type-read kinds s f e not-cut not-other =
    let r = formed-read (read_number s 0) e not-cut in
    let a = test-held (among r.0 kinds) r.4 not-other in
    let b = test-held r.2 a.1 not-other in
    let n : r.2 ≡ true = b.0 in
    (r.0, r.1, listed r.0 kinds a.0, r.3 ∙ rw n, b.1)

-- the type of a reader that takes one
pub the_type : {v kind at : ℕ} {n : Result Number Refusal} → OneOf v (kind ∷ []) → n ≡ found v at true → n ≡ found kind at true
the_type {at = at} o e = e ∙ ap (λ (v : ℕ). found v at true) (⊎_elim (λ q. q) (λ z. absurd z) o)

-- a refusal is no answer
pub no-refusal : {A : Type 0} {refusal : Refusal} {answer : A} → Err refusal ≡ Ok answer → ⊥
no-refusal h = let z : ◌≡◌ {A = ℕ} 0 1 = cc in omega arith

-- ---- ACK_FREQUENCY

module _ (s : List ℕ) (q t d r used : ℕ) (e : read_frequency s ≡ thresholds q t d r used) where
  pub frequency-read : Stand s 0 (frequency q t d r) used
  frequency-read =
      let k = type-read (frequency_type ∷ []) s _ e no-refusal no-refusal in
      let a = field-read (read_number s k.1) k.4 no-refusal in
      let b = field-read (read_number s a.1) a.4 no-refusal in
      let c = field-read (read_number s b.1) b.4 no-refusal in
      let f = field-read (read_number s c.1) c.4 no-refusal in
      same f.4 (one (the_type k.2 k.3) (one a.3 (one b.3 (one c.3 (one f.3 none)))))
    where
      same : {q' t' d' r' used' : ℕ} → thresholds q' t' d' r' used' ≡ thresholds q t d r used → Stand s 0 (frequency q' t' d' r') used'
          → Stand s 0 (frequency q t d r) used
      same {q'} {t'} {d'} {r'} {used'} h st =
          let f : ◌≡◌ {A = Frequency} (record { sequence = q'; threshold = t'; delay = d'; reordering = r'; used = used' }) (record { sequence = q; threshold = t; delay = d; reordering = r; used = used }) = cc in
          let h1 : q' ≡ q = ap (λ (x : Frequency). x.sequence) f in
          let h2 : t' ≡ t = ap (λ (x : Frequency). x.threshold) f in
          let h3 : d' ≡ d = ap (λ (x : Frequency). x.delay) f in
          let h4 : r' ≡ r = ap (λ (x : Frequency). x.reordering) f in
          let h5 : used' ≡ used = ap (λ (x : Frequency). x.used) f in
          rw (h1, h2, h3, h4, h5) at st

-- ---- IMMEDIATE_ACK

module _ (s : List ℕ) (used : ℕ) (e : read_immediate s ≡ Ok used) where
  pub immediate-read : Stand s 0 immediate used
  immediate-read =
      let k = type-read (immediate_type ∷ []) s (λ kind used. Ok used) e no-refusal no-refusal in
      same k.4 (one (the_type k.2 k.3) none)
    where
      same : {used' : ℕ} → ◌≡◌ {A = Result ℕ Refusal} (Ok used') (Ok used) → Stand s 0 immediate used' → Stand s 0 immediate used
      same {used'} h st = let h1 : used' ≡ used = cc in rw h1 at st

-- ---- "Writers use the shortest": such a frame is the writer's

pub encodes : {s vs : List ℕ} {used : ℕ} → Octets s → Stand s 0 vs used → Shortest s used vs
encodes {s} o t l = let k = stand-kept s o t l in record { bytes = k.0; same = k.1 }

pub frequency-read-write : FrequencyReadWrite
frequency-read-write s q t d r used o e = encodes o (frequency-read s q t d r used e)

pub immediate-read-write : ImmediateReadWrite
immediate-read-write s used o e = encodes o (immediate-read s used e)
