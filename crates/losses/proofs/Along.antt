-- The record says exactly what the calls say, by induction over the calls: a send, then a frame.
-- Assumes nothing.
use Prim.Native.Nat.{ℕ, zero, suc, ◌+◌, ◌-◌, ◌/◌, ◌%◌, ◌^◌, ◌≤◌, ◌<◌}
use mathlib.Core.Path.{◌≡◌, refl, sym, ap, ap₂, ◌∙◌, subst}
use mathlib.Core.Bool.{Bool}
use mathlib.Core.List.{List, ◌++◌}
use native.Mathlib.Decide.{dec_le}
use native.Mathlib.Omega.{arith}
use lib.Dec.{eqb}
use lib.ListN.{length, get_or}
use Rattle.wire.specs.Bytes.{pick}
use Rattle.wire.specs.Numbers.{limit}
use Rattle.window.specs.Words.{bit}
use Rattle.window.proofs.Bits.{bit-lt}
use Rattle.marks.specs.Marks.{each, bits_of, number_at, ring_of}
use Rattle.marks.proofs.Listing.{listed_same}
use Rattle.marks.proofs.Rings.{get_or-each, get_d_after, bits-lt}
use Rattle.sent.specs.Record.{State, Outstanding, is_acknowledged, is_lost, most_held, next_of, acked_before, lost_before, acked_at, lost_at, is_due, record_of}
use Rattle.sent.specs.Calls.{acked_bit, lost_bit, with_sent}
use Rattle.sent.specs.Heard.{within, end_after, heard_state, state_after}
use Rattle.sent.specs.Exactly.{HasMarks, Consistent, IsFull}
use Rattle.sent.proofs.Records.{record_is, says-next, says-acked-before, says-lost-before, says-end, says-acked, says-lost, says-state}
use Rattle.losses.specs.Told.{count_of}
use Rattle.losses.proofs.Sending.{sent-long, sent-fits, sent-next, sent-acked-before, sent-lost-before, sent-end, new-acked, new-lost, old-acked, old-lost}
use Rattle.losses.proofs.Kept.{by-room, given-up}
use Rattle.losses.proofs.Counting.{count_next}

-- ---- records by states

-- the record that says the states f of k numbers, the end of the largest acknowledged among them
abbrev pub record_at : (ℕ → State) → ℕ → ℕ → List ℕ
record_at f k end = record_of f k (count_of is_acknowledged f (k - most_held)) (count_of is_lost f (k - most_held)) end

module _ (f : ℕ → State) (next acked lost end : ℕ) where
  pub record-long : length (record_of f next acked lost end) ≡ 36
  unfolding record_of each
  record-long = refl

  pub record-fits : (i : ℕ) → i < 32 → get_or (record_of f next acked lost end) i 0 < 2 ^ 64
  unfolding record_of
  record-fits i h = elim (dec_le 16 i) [
    | yes l ↦
        let e : 16 + (i - 16) ≡ i = omega arith in
        subst (λ (j : ℕ). get_or (record_of f next acked lost end) j 0 < 2 ^ 64) e
        (subst (λ (x : ℕ). x < 2 ^ 64)
        (sym (get_d_after a 16 0 (i - 16) (ring_of (λ n. is_lost (f n)) (next - most_held) ++ _) ∙ get_or-each b 16 0 (i - 16) _ (omega arith)))
        (bits-lt (λ k. is_lost (f (number_at (next - most_held) (0 + (i - 16)) k))) 64 0))
    | no l ↦ subst (λ (x : ℕ). x < 2 ^ 64) (sym (get_or-each a 16 0 i _ (omega arith))) (bits-lt (λ k. is_acknowledged (f (number_at (next - most_held) (0 + i) k))) 64 0)
  ]
    where
      a : ℕ → ℕ
      a i = bits_of (λ k. is_acknowledged (f (number_at (next - most_held) i k))) 64 0

      b : ℕ → ℕ
      b i = bits_of (λ k. is_lost (f (number_at (next - most_held) i k))) 64 0

-- only the states of the held numbers count
pub record_same : (f g : ℕ → State) (next acked lost end : ℕ) → ((n : ℕ) → next - most_held ≤ n → n < next - most_held + most_held → f n ≡ g n) → record_of f next acked lost end ≡ record_of g next acked lost end
record_same f g next acked lost end h =
    record_is (record_of f next acked lost end) g next acked lost end (record-long f next acked lost end) (record-fits f next acked lost end)
    (λ n lo hi. says-acked f next acked lost end n lo hi ∙ ap is_acknowledged (h n lo hi)) (λ n lo hi. says-lost f next acked lost end n lo hi ∙ ap is_lost (h n lo hi))
    (says-next f next acked lost end) (says-acked-before f next acked lost end) (says-lost-before f next acked lost end) (says-end f next acked lost end)

pub count_same : (is : State → Bool) (f g : ℕ → State) (k : ℕ) → ((n : ℕ) → n < k → f n ≡ g n) → count_of is f k ≡ count_of is g k
count_same is f g k h = ap length (listed_same (λ n. is (f n)) (λ n. is (g n)) k 0 (λ n l m. ap is (h n (omega arith))))

pub record-at-same : (f g : ℕ → State) (k end : ℕ) → ((n : ℕ) → f n ≡ g n) → record_at f k end ≡ record_at g k end
record-at-same f g k end h =
    record_same f g k (count_of is_acknowledged f (k - most_held)) (count_of is_lost f (k - most_held)) end (λ n lo hi. h n)
    ∙ ap₂ (λ (x y : ℕ). record_of g k x y end) (count_same is_acknowledged f g (k - most_held) (λ n l. h n)) (count_same is_lost f g (k - most_held) (λ n l. h n))

-- ---- a send

bit-as : (b : ℕ) → b < 2 → b ≡ pick (eqb b 1) 1 0
bit-as zero l = refl
bit-as (suc zero) l = refl
bit-as (suc (suc b)) l = absurd (omega arith)

module _ (f : ℕ → State) (k end : ℕ) (c : Consistent (record_at f k end)) (small : k ≤ limit) (room : IsFull (record_at f k end) → ⊥) (fresh : f k ≡ Outstanding) where
  abbrev r : List ℕ
  r = record_at f k end

  abbrev a0 : ℕ
  a0 = count_of is_acknowledged f (k - most_held)

  abbrev l0 : ℕ
  l0 = count_of is_lost f (k - most_held)

  is-k : next_of r ≡ k
  is-k = says-next f k a0 l0 end

  long : length r ≡ 36
  long = record-long f k a0 l0 end

  small' : next_of r ≤ limit
  small' = omega (arith, is-k)

  -- the forgotten number keeps its state in the totals
  kept-acked : a0 + acked_bit r (next_of r) ≡ count_of is_acknowledged f (k + 1 - most_held)
  kept-acked = elim (dec_le most_held k) [
    | yes h ↦
        let i : next_of r / 64 % 16 ≡ (k - most_held) / 64 % 16 = omega (arith, is-k) in
        let j : next_of r % 64 ≡ (k - most_held) % 64 = omega (arith, is-k) in
        let e : k + 1 - most_held ≡ k - most_held + 1 = omega arith in
        ap (λ (x : ℕ). a0 + x)
        (ap₂ (λ (x y : ℕ). bit (get_or r x 0) y) i j ∙ bit-as (bit (get_or r ((k - most_held) / 64 % 16) 0) ((k - most_held) % 64)) (bit-lt _ _)
        ∙ ap (λ (x : Bool). pick x 1 0) (says-acked f k a0 l0 end (k - most_held) (omega arith) (omega arith)))
        ∙ sym (ap (count_of is_acknowledged f) e ∙ count_next is_acknowledged f (k - most_held))
    | no h ↦
        let e : k + 1 - most_held ≡ k - most_held = omega arith in
        omega (arith, (given-up r long c small' room (omega (arith, is-k))).0, ap (count_of is_acknowledged f) e)
  ]

  kept-lost : l0 + lost_bit r (next_of r) ≡ count_of is_lost f (k + 1 - most_held)
  kept-lost = elim (dec_le most_held k) [
    | yes h ↦
        let i : next_of r / 64 % 16 ≡ (k - most_held) / 64 % 16 = omega (arith, is-k) in
        let j : next_of r % 64 ≡ (k - most_held) % 64 = omega (arith, is-k) in
        let e : k + 1 - most_held ≡ k - most_held + 1 = omega arith in
        ap (λ (x : ℕ). l0 + x)
        (ap₂ (λ (x y : ℕ). bit (get_or r (16 + x) 0) y) i j ∙ bit-as (bit (get_or r (16 + (k - most_held) / 64 % 16) 0) ((k - most_held) % 64)) (bit-lt _ _)
        ∙ ap (λ (x : Bool). pick x 1 0) (says-lost f k a0 l0 end (k - most_held) (omega arith) (omega arith)))
        ∙ sym (ap (count_of is_lost f) e ∙ count_next is_lost f (k - most_held))
    | no h ↦
        let e : k + 1 - most_held ≡ k - most_held = omega arith in
        omega (arith, (given-up r long c small' room (omega (arith, is-k))).1, ap (count_of is_lost f) e)
  ]

  has : (n : ℕ) → k + 1 - most_held ≤ n → n < k + 1 - most_held + most_held → HasMarks (with_sent r) n
  has n lo hi = let e = sent-next r long in (omega (arith, e, is-k), omega (arith, e, is-k))

  pub sent-record : with_sent (record_at f k end) ≡ record_at f (k + 1) end
  sent-record =
      record_is (with_sent r) f (k + 1) (count_of is_acknowledged f (k + 1 - most_held)) (count_of is_lost f (k + 1 - most_held)) end (sent-long r long) (sent-fits r long (record-fits f k a0 l0 end))
      (λ n lo hi.
      by-room r long c small' room n (has n lo hi)
      (λ e. ap (acked_at (with_sent r)) e ∙ new-acked r long ∙ sym (ap (λ (x : ℕ). is_acknowledged (f x)) (e ∙ is-k) ∙ ap is_acknowledged fresh))
      (λ m apart ne. old-acked r long n apart ∙ says-acked f k a0 l0 end n (omega (arith, is-k, m.0)) (omega (arith, is-k, m.1))))
      (λ n lo hi.
      by-room r long c small' room n (has n lo hi)
      (λ e. ap (lost_at (with_sent r)) e ∙ new-lost r long ∙ sym (ap (λ (x : ℕ). is_lost (f x)) (e ∙ is-k) ∙ ap is_lost fresh))
      (λ m apart ne. old-lost r long n apart ∙ says-lost f k a0 l0 end n (omega (arith, is-k, m.0)) (omega (arith, is-k, m.1))))
      (sent-next r long ∙ ap (λ (x : ℕ). x + 1) is-k)
      (sent-acked-before r long ∙ ap (λ (x : ℕ). x + acked_bit r (next_of r)) (says-acked-before f k a0 l0 end) ∙ kept-acked)
      (sent-lost-before r long ∙ ap (λ (x : ℕ). x + lost_bit r (next_of r)) (says-lost-before f k a0 l0 end) ∙ kept-lost)
      (sent-end r long ∙ says-end f k a0 l0 end)

-- ---- a frame: f' are the states after it

module _ (f f' : ℕ → State) (k end end' : ℕ) (pairs : List ℕ) (largest : ℕ) (later : end' ≡ end + (largest + 1 - end))
    (held : (n : ℕ) → k - most_held ≤ n → f' n ≡ heard_state (within pairs n) (is_due end' n) (f n)) (gone : (n : ℕ) → n < k - most_held → f' n ≡ f n) where
  abbrev q : List ℕ
  q = record_at f k end

  abbrev aq : ℕ
  aq = count_of is_acknowledged f (k - most_held)

  abbrev lq : ℕ
  lq = count_of is_lost f (k - most_held)

  pub same_end : end_after (record_at f k end) largest ≡ end'
  same_end = ap (λ (x : ℕ). x + (largest + 1 - x)) (says-end f k aq lq end) ∙ sym later

  pub same-state : (n : ℕ) → k - most_held ≤ n → n < k - most_held + most_held → state_after (record_at f k end) pairs (end_after (record_at f k end) largest) n ≡ f' n
  same-state n lo hi =
      ap₂ (λ (e : ℕ) (s : State). heard_state (within pairs n) (is_due e n) s) same_end (says-state f k aq lq end n lo hi) ∙ sym (held n lo)

  pub heard-record : record_of (state_after (record_at f k end) pairs (end_after (record_at f k end) largest)) (next_of (record_at f k end)) (acked_before (record_at f k end)) (lost_before (record_at f k end)) (end_after (record_at f k end) largest)
      ≡ record_at f' k end'
  heard-record =
      let s : ℕ → State = state_after q pairs (end_after q largest) in
      ap₂ (λ (x y : ℕ). record_of s x y (lost_before q) (end_after q largest)) (says-next f k aq lq end) (says-acked-before f k aq lq end)
      ∙ ap₂ (λ (x y : ℕ). record_of s k aq x y) (says-lost-before f k aq lq end) same_end
      ∙ record_same s f' k aq lq end' same-state
      ∙ ap₂ (λ (x y : ℕ). record_of f' k x y end') (count_same is_acknowledged f f' (k - most_held) (λ n l. sym (gone n l))) (count_same is_lost f f' (k - most_held) (λ n l. sym (gone n l)))
