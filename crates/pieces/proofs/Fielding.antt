-- A field that is taken as one: bytes that leave it unfinished, and bytes that make it whole.
-- Assumes nothing.
use Prim.Native.Nat.{ℕ, suc, ◌+◌, ◌-◌}
use mathlib.Core.Path.{◌≡◌, refl, sym, ap, ◌∙◌}
use mathlib.Core.Bool.{Bool}
use mathlib.Core.List.{List, [], ◌∷◌, ◌++◌, append-nil}
use native.Mathlib.Omega.{arith}
use lib.ListN.{length, length-append}
use lib.Seq.{append_snoc}
use Rattle.std.specs.Prelude.{Result, Ok, Err}
use Rattle.wire.specs.Fields.{found}
use Rattle.wire.specs.Numbers.{read_number}
use Rattle.wire.specs.declared.Number.{Number}
use Rattle.wire.specs.declared.Refusal.{Refusal}
use Rattle.wire.specs.declared.Refusal.TheVariants.{Ends}
use Rattle.entries.specs.declared.Profile.{Profile}
use Rattle.report.specs.Header.{heeding, judge_field}
use Rattle.uncut.specs.State.{State, Numbers}
use Rattle.uncut.specs.Step.{refused, with_number, field_grown, step, given, after, delivered}
use Rattle.uncut.specs.Cutting.{taking}
use Rattle.wire.proofs.Reading.{found-same}
use Rattle.report.proofs.Heeding.{number-refused}
use Rattle.uncut.proofs.Grown.{never-value, still-there, last_byte}
use Rattle.pieces.proofs.Going.{Chunk, chunk-none}

-- what a whole field brings
abbrev pub judged : Profile → List ℕ → ℕ → Bool → State
judged p ns v shortest = heeding (judge_field p ns v shortest) refused (with_number p (ns ++ (v ∷ [])))

module _ (p : Profile) (ns : List ℕ) where
  grow : (held : List ℕ) (b : ℕ) (bs : List ℕ) (st : State) → Chunk p (field_grown p ns (held ++ (b ∷ []))) bs st → Chunk p (Numbers ns held) (b ∷ bs) st
  unfolding after delivered taking step given
  grow held b bs st c = record { comes = c.comes; gives = c.gives; takes = λ room. let z : room - 0 ≡ room = omega arith in ap (λ (r : ℕ). suc (taking p r (field_grown p ns (held ++ (b ∷ []))) bs)) z ∙ ap suc (c.takes room) }

  -- the field is still unfinished
  pub chunk-ends : (held chunk : List ℕ) → read_number (held ++ chunk) 0 ≡ Err Ends → Chunk p (Numbers ns held) chunk (Numbers ns (held ++ chunk))
  unfolding field_grown
  chunk-ends held [] e = rw append-nil (chunk-none p (Numbers ns held))
  chunk-ends held (b ∷ bs) e = grow held b bs (Numbers ns (held ++ (b ∷ bs))) (go (read_number (held ++ (b ∷ [])) 0) refl (chunk-ends (held ++ (b ∷ [])) bs))
    where
      e' : read_number ((held ++ (b ∷ [])) ++ bs) 0 ≡ Err Ends
      e' = ap (λ (x : List ℕ). read_number x 0) (append_snoc held b bs) ∙ e

      go : (q : Result Number Refusal) → read_number (held ++ (b ∷ [])) 0 ≡ q
          → (read_number ((held ++ (b ∷ [])) ++ bs) 0 ≡ Err Ends → Chunk p (Numbers ns (held ++ (b ∷ []))) bs (Numbers ns ((held ++ (b ∷ [])) ++ bs)))
          → Chunk p (field_grown p ns (held ++ (b ∷ []))) bs (Numbers ns (held ++ (b ∷ bs)))
      go (Ok k) r more = never-value (sym e' ∙ still-there (held ++ (b ∷ [])) bs r)
      go (Err refusal) r more = rw (r, ← (append_snoc held b bs)) (more e')

  -- the field becomes whole with the last byte
  pub chunk_whole : (held chunk : List ℕ) (v next : ℕ) (c : Bool) → read_number held 0 ≡ Err Ends → read_number (held ++ chunk) 0 ≡ found v next c
      → next ≡ length (held ++ chunk) → Chunk p (Numbers ns held) chunk (judged p ns v c)
  unfolding field_grown
  chunk_whole held [] v next c u e l = never-value (sym u ∙ ap (λ (x : List ℕ). read_number x 0) (sym (append-nil held)) ∙ e)
  chunk_whole held (b ∷ bs) v next c u e l = grow held b bs (judged p ns v c) (go (read_number (held ++ (b ∷ [])) 0) refl (λ w. chunk_whole (held ++ (b ∷ [])) bs v next c w e' l'))
    where
      e' : read_number ((held ++ (b ∷ [])) ++ bs) 0 ≡ found v next c
      e' = ap (λ (x : List ℕ). read_number x 0) (append_snoc held b bs) ∙ e

      l' : next ≡ length ((held ++ (b ∷ [])) ++ bs)
      l' = l ∙ ap length (sym (append_snoc held b bs))

      here : (v' next' : ℕ) (c' : Bool) (bs' : List ℕ) → v' ≡ v → c' ≡ c → length bs' ≡ 0 → Chunk p (judged p ns v' c') bs' (judged p ns v c)
      here v' next' c' [] f g n = rw (f, g) (chunk-none p (judged p ns v c))
      here v' next' c' (x ∷ xs) f g n = absurd (omega arith)

      go : (q : Result Number Refusal) → read_number (held ++ (b ∷ [])) 0 ≡ q → (read_number (held ++ (b ∷ [])) 0 ≡ Err Ends → Chunk p (Numbers ns (held ++ (b ∷ []))) bs (judged p ns v c))
          → Chunk p (field_grown p ns (held ++ (b ∷ []))) bs (judged p ns v c)
      go (Ok read) r more =
          let s = found-same (sym (still-there (held ++ (b ∷ [])) bs r) ∙ e') in
          let n : read.next ≡ length (held ++ (b ∷ [])) = last_byte held b u r in
          let f : read.value ≡ v = s.0 in
          let g : read.shortest ≡ c = s.2 in
          let m : read.next ≡ next = s.1 in
          let k : length ((held ++ (b ∷ [])) ++ bs) ≡ length (held ++ (b ∷ [])) + length bs = length-append (held ++ (b ∷ [])) bs in
          rw r (here read.value read.next read.shortest bs f g (omega (arith, l')))
      go (Err refusal) r more = rw r (more (r ∙ ap Err (number-refused (held ++ (b ∷ [])) 0 r)))
