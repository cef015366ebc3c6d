-- The header, read where its numbers stand: the words of a state have 0 behind them, so each place says what the list of numbers says.
-- Assumes nothing.
use Prim.Native.Nat.{ℕ, zero, suc, ◌+◌, ◌-◌, ◌≤◌, ◌<◌, min}
use mathlib.Core.Path.{◌≡◌, refl, sym, ap, ap₂, fun_ext, ◌∙◌}
use mathlib.Core.Bool.{Bool, true, false}
use mathlib.Core.List.{List, [], ◌∷◌}
use native.Mathlib.Nat.{add-zero, zero-add, add-suc, suc-add}
use native.Mathlib.Omega.{arith}
use borrow.Author.Tests.{lt-ltb, le-ltb}
use lib.Dec.{eqb, ltb}
use lib.ListN.{length, get_or, take, set, replicate, length-set}
use lib.Seq.{get_or-set_same, get_or-set_other, length-take-le, take_all}
use Rattle.wire.specs.Bytes.{pick}
use Rattle.wire.proofs.Lengths.{split}
use Rattle.entries.specs.Profiles.{number_of}
use Rattle.entries.specs.declared.Profile.{Profile}
use Rattle.report.specs.Layout.{at_timestamp, at_interval, at_total, at_received, at_late, at_lost, at_average, at_metrics, at_type, at_value}
use Rattle.report.specs.Limits.{metric_places, most_numbers}
use Rattle.report.specs.Average.{average_of}
use Rattle.report.specs.Header.{each, header_of}
use Rattle.report.specs.declared.Header.{Header}
use Rattle.uncut.specs.State.{Numbers, Records, Counting, Refused, Accepted, header_at, whole_at}
use Rattle.pieces.specs.Record.{numbers_in, held_in, stand_in, state_as, state_in, padded, body_of, words_of}
use Rattle.pieces.specs.declared.Marks.{Marks}
use Rattle.pieces.proofs.Loading.{numbers-long}
use Rattle.pieces.proofs.Laying.{zeros, padded-at}
use Rattle.pieces.proofs.Stages.{header-whole}
use Rattle.pieces.proofs.Back.{numbers-back}

-- ---- the places of a metric's type and of its value

abbrev pub kind_at : List ℕ → ℕ → ℕ
kind_at places i = get_or places (at_type i) 0

abbrev pub value_at : List ℕ → ℕ → ℕ
value_at places i = get_or places (at_value i) 0

-- ---- as many metrics were laid as i, each as f has it, and all places behind are 0

pub record Shown (f : ℕ → ℕ) (i : ℕ) (xs : List ℕ) : Type 0 where
  pub long : length xs ≡ metric_places
  pub laid : (j : ℕ) → j < i → get_or xs j 0 ≡ f j
  pub bare : (j : ℕ) → i ≤ j → get_or xs j 0 ≡ 0

each_of : (xs : List ℕ) (i : ℕ) (f : ℕ → ℕ) → ((j : ℕ) → j < length xs → get_or xs j 0 ≡ f (i + j)) → xs ≡ each (length xs) i f
each_of [] i f h = refl
each_of (x ∷ xs) i f h = ap₂ ◌∷◌ (h 0 (omega arith) ∙ ap f (add-zero i)) (each_of xs (suc i) f (λ j l. h (suc j) (omega arith) ∙ ap f (add-suc i j ∙ sym (suc-add i j))))

module _ (f : ℕ → ℕ) where
  pub none-shown : Shown f 0 (replicate metric_places 0)
  none-shown = record { long = refl; laid = λ j l. absurd (omega arith); bare = λ j l. zeros metric_places j }

  pub more-shown : (i : ℕ) (xs : List ℕ) → i < metric_places → Shown f i xs → Shown f (i + 1) (set xs i (f i))
  more-shown i xs m h = record {
    long = length-set xs i (f i) ∙ h.long;
    laid = λ j l. split i j (λ a. here j (omega arith)) (λ a. get_or-set_other xs i j (f i) 0 (λ z. absurd (omega arith)) ∙ h.laid j a);
    bare = λ j l. get_or-set_other xs i j (f i) 0 (λ z. absurd (omega arith)) ∙ h.bare j (omega arith);
  }
    where
      here : (j : ℕ) → j ≡ i → get_or (set xs i (f i)) j 0 ≡ f j
      here j z = ap (λ (k : ℕ). get_or (set xs i (f i)) k 0) z ∙ get_or-set_same xs i (f i) 0 (omega (arith, h.long)) ∙ ap f (sym z)

  pub all_shown : (i m : ℕ) (xs : List ℕ) → i ≡ min m metric_places → Shown f i xs → xs ≡ each metric_places 0 (λ j. pick (ltb j m) (f j) 0)
  all_shown i m xs e h =
      each_of xs 0 (λ j. pick (ltb j m) (f j) 0) (λ j l. split m j
      (λ a. h.bare j (omega arith) ∙ sym (off (0 + j) (omega arith)))
      (λ a. h.laid j (omega (arith, h.long)) ∙ sym (on (0 + j) (omega arith) ∙ ap f (zero-add j))))
      ∙ ap (λ (n : ℕ). each n 0 (λ j. pick (ltb j m) (f j) 0)) h.long
    where
      on : (j : ℕ) → j < m → pick (ltb j m) (f j) 0 ≡ f j
      on j l = rw (lt-ltb j m l) refl

      off : (j : ℕ) → m ≤ j → pick (ltb j m) (f j) 0 ≡ 0
      off j l = rw (le-ltb j m l) refl

-- ---- the header by what stands at each place, the last number being that of the entries

abbrev pub header_by : (ℕ → ℕ) → ℕ → Header
header_by at count = record {
  timestamp = at at_timestamp;
  interval = at at_interval;
  total = at at_total;
  received = at at_received;
  late = at at_late;
  lost = at at_lost;
  average = average_of (at at_average);
  metrics = at at_metrics;
  kinds = each metric_places 0 (λ i. pick (ltb i (at at_metrics)) (at (at_type i)) 0);
  values = each metric_places 0 (λ i. pick (ltb i (at at_metrics)) (at (at_value i)) 0);
  entries = at (count - 1);
}

pub header-stands : (ns : List ℕ) (count : ℕ) (places : List ℕ) → length ns ≡ count → places ≡ padded most_numbers ns → header_by (λ i. get_or places i 0) count ≡ header_of ns
unfolding header_of
header-stands ns count places l e =
    ap (header_by (λ i. get_or places i 0)) (sym l)
    ∙ ap (λ (at : ℕ → ℕ). header_by at (length ns)) (fun_ext (λ i. ap (λ (x : List ℕ). get_or x i 0) e ∙ padded-at ns (most_numbers - length ns) i))

-- ---- the words of a state whose header is whole

numbers-stand : (n stage left last above : ℕ) (ns held : List ℕ) → length ns ≤ most_numbers → (whole_at (state_as stage left last above ns held) ≡ 0 → ⊥)
    → numbers_in (n ∷ body_of (state_as stage left last above ns held)) ≡ padded most_numbers ns
unfolding state_as body_of
numbers-stand n stage left last above ns held h f = go left (eqb stage 0) (eqb stage 1) (eqb stage 2) (eqb stage 3) f
  where
    go : (k : ℕ) (a b c d : Bool) → (whole_at (pick a (Numbers ns held) (pick b (Records ns k last above held) (pick c (Counting ns k) (pick d (Refused k) (Accepted ns))))) ≡ 0 → ⊥)
        → numbers_in (n ∷ body_of (pick a (Numbers ns held) (pick b (Records ns k last above held) (pick c (Counting ns k) (pick d (Refused k) (Accepted ns)))))) ≡ padded most_numbers ns
    go k true b c d f = absurd (f refl)
    go k false true c d f = numbers-back n 1 k last above ns held h
    go zero false false true d f = absurd (f refl)
    go (suc k) false false true d f = numbers-back n 2 (suc k) 0 0 ns [] h
    go k false false false true f = absurd (f refl)
    go k false false false false f = numbers-back n 4 0 0 0 ns [] h

pub places-long : (w : List ℕ) → length (take most_numbers (numbers_in w)) ≡ most_numbers
places-long w = length-take-le most_numbers (numbers_in w) (omega (arith, numbers-long w))

-- what is read from the words of a state is its header
pub header-written : (p : Profile) (s : Marks) (w w' places : List ℕ) (r : Header) → s.count ≤ most_numbers → w' ≡ words_of p (state_in (stand_in s w)) → places ≡ take most_numbers (numbers_in w')
    → (whole_at (state_in (stand_in s w)) ≡ 0 → ⊥) → ((ns : List ℕ) → length ns ≡ s.count → places ≡ padded most_numbers ns → r ≡ header_of ns) → r ≡ header_at (state_in (stand_in s w))
header-written p s w w' places r l e f whole reads =
    let ns = take s.count (numbers_in w) in
    let held = take s.carried (held_in w) in
    let n : length ns ≡ s.count = length-take-le s.count (numbers_in w) (omega (arith, numbers-long w)) in
    let g : places ≡ padded most_numbers ns =
    f ∙ take_all most_numbers (numbers_in w') (omega (arith, numbers-long w')) ∙ ap numbers_in e ∙ numbers-stand (number_of p) s.stage s.left s.last s.above ns held (omega (arith, n)) whole in
    reads ns n g ∙ sym (header-whole s.stage s.left s.last s.above ns held whole)
