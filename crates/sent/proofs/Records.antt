-- A record by the states of its numbers: 36 words whose marks are what the states say are the record of those states, and it says them.
-- Assumes nothing.
use Prim.Native.Nat.{ℕ, ◌+◌, ◌-◌, ◌/◌, ◌%◌, ◌^◌, ◌≤◌, ◌<◌}
use mathlib.Core.Path.{◌≡◌, refl, sym, ap, ap₂, ◌∙◌}
use mathlib.Core.List.{List, [], ◌∷◌, ◌++◌}
use native.Mathlib.Omega.{arith}
use lib.ListN.{length, get_or}
use Rattle.window.specs.Window.{is_set}
use Rattle.marks.specs.Marks.{each, bits_of, number_at, ring_of}
use Rattle.marks.proofs.Rings.{each-element, each-split, each-moved, get_d_after, ring-is, ring-says}
use Rattle.sent.specs.Record.{State, Outstanding, Acknowledged, Lost, is_acknowledged, is_lost, most_held, next_of, acked_before, lost_before, end_of, acked_at, lost_at, state_of, state_at, record_of}

-- ---- 36 words are the record of what they say

module _ (x : List ℕ) (f : ℕ → State) (next acked lost end : ℕ) (long : length x ≡ 36) (fits : (i : ℕ) → i < 32 → get_or x i 0 < 2 ^ 64) where
  word : ℕ → ℕ
  word j = get_or x j 0

  parts : x ≡ each word 16 0 ++ (each (λ j. word (16 + j)) 16 0 ++ each word 4 32)
  unfolding word
  parts =
      sym (each-element x 0 x (λ j. ap (λ (k : ℕ). get_or x k 0) (zero-plus j))) ∙ ap (λ (k : ℕ). each word k 0) long ∙ each-split word 16 20 0
      ∙ ap (λ (l : List ℕ). each word 16 0 ++ l) (each-split word 16 4 16 ∙ ap (λ (l : List ℕ). l ++ each word 4 32) (each-moved word 16 16 0))
    where
      zero-plus : (j : ℕ) → 0 + j ≡ j
      zero-plus j = omega arith

  pub record_is : ((n : ℕ) → next - most_held ≤ n → n < next - most_held + most_held → acked_at x n ≡ is_acknowledged (f n))
      → ((n : ℕ) → next - most_held ≤ n → n < next - most_held + most_held → lost_at x n ≡ is_lost (f n))
      → next_of x ≡ next → acked_before x ≡ acked → lost_before x ≡ lost → end_of x ≡ end → x ≡ record_of f next acked lost end
  unfolding record_of word each
  record_is a l e1 e2 e3 e4 =
      parts
      ∙ ap₂ ◌++◌ (ring-is word (λ n. is_acknowledged (f n)) (next - most_held) (λ i h. fits i (omega arith)) a)
      (ap₂ ◌++◌ (ring-is (λ j. word (16 + j)) (λ n. is_lost (f n)) (next - most_held) (λ i h. fits (16 + i) (omega arith)) l) four)
    where
      four : get_or x 32 0 ∷ get_or x 33 0 ∷ get_or x 34 0 ∷ get_or x 35 0 ∷ [] ≡ next ∷ acked ∷ lost ∷ end ∷ []
      four = rw (e1, e2, e3, e4) refl

-- ---- the record of states says them

module _ (f : ℕ → State) (next acked lost end : ℕ) where
  abbrev rest : List ℕ
  rest = next ∷ acked ∷ lost ∷ end ∷ []

  pub says-next : next_of (record_of f next acked lost end) ≡ next
  unfolding record_of each
  says-next = refl

  pub says-acked-before : acked_before (record_of f next acked lost end) ≡ acked
  unfolding record_of each
  says-acked-before = refl

  pub says-lost-before : lost_before (record_of f next acked lost end) ≡ lost
  unfolding record_of each
  says-lost-before = refl

  pub says-end : end_of (record_of f next acked lost end) ≡ end
  unfolding record_of each
  says-end = refl

  module _ (n : ℕ) (low : next - most_held ≤ n) (high : n < next - most_held + most_held) where
    pub says-acked : acked_at (record_of f next acked lost end) n ≡ is_acknowledged (f n)
    unfolding record_of
    says-acked = ring-says (λ m. is_acknowledged (f m)) (next - most_held) n (ring_of (λ m. is_lost (f m)) (next - most_held) ++ rest) low high

    pub says-lost : lost_at (record_of f next acked lost end) n ≡ is_lost (f n)
    unfolding record_of
    says-lost =
        ap (λ (w : ℕ). is_set w (n % 64))
        (get_d_after (λ i. bits_of (λ k. is_acknowledged (f (number_at (next - most_held) i k))) 64 0) 16 0 (n / 64 % 16) (ring_of (λ m. is_lost (f m)) (next - most_held) ++ rest))
        ∙ ring-says (λ m. is_lost (f m)) (next - most_held) n rest low high

    pub says-state : state_at (record_of f next acked lost end) n ≡ f n
    says-state = ap₂ state_of says-acked says-lost ∙ back (f n)
      where
        back : (s : State) → state_of (is_acknowledged s) (is_lost s) ≡ s
        back Outstanding = refl
        back Acknowledged = refl
        back Lost = refl
