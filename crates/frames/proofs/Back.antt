-- Read back: what the writers wrote the readers read, and an ACK frame's numbers give the ranges that they say.
-- Assumes nothing.
use Prim.Native.Nat.{ℕ, suc, ◌+◌, ◌-◌, ◌*◌, ◌/◌, ◌≤◌}
use mathlib.Core.Path.{◌≡◌, refl, sym, ap, ◌∙◌, subst}
use mathlib.Core.Bool.{Bool, true}
use mathlib.Core.List.{List, [], ◌∷◌, ◌++◌, append_assoc}
use native.Mathlib.Nat.{zero-add}
use native.Mathlib.Omega.{arith}
use lib.Dec.{eqb, lit≤}
use lib.ListN.{length, drop, get_or}
use Rattle.std.specs.Prelude.{Option, Some, None, Ok}
use Rattle.wire.specs.Bytes.{splice}
use Rattle.wire.specs.Fields.{found}
use Rattle.wire.specs.Numbers.{limit, width_of, encode, encode_all, read_number}
use Rattle.wire.specs.Exactly.{Small}
use Rattle.wire.specs.Standing.{Stand, none, one}
use Rattle.wire.proofs.Reading.{found-same, next}
use Rattle.wire.proofs.Small.{small-append}
use Rattle.wire.proofs.RoundTrip.{read-encoded}
use Rattle.wire.proofs.Standing.{encoded-stand, put-done}
use Rattle.frames.specs.Types.{frequency_type, immediate_type, counts_type, ack_types, is_ack}
use Rattle.frames.specs.Frequency.{thresholds, read_frequency, frequency}
use Rattle.frames.specs.Immediate.{read_immediate, immediate}
use Rattle.frames.specs.Ack.{Ranges, ranges_from, ending, read_tail, ack, read_ack, gaps_from, range_numbers, type_of, counts_of, ack_numbers, RangesBelow, AckRanges}
use Rattle.frames.specs.EachWay.{FrequencyWriteRead, ImmediateWriteRead, AckWriteRead}
use Rattle.frames.specs.declared.Counts.{Counts}
use Rattle.frames.proofs.Types.{type-right}
use Rattle.frames.proofs.Ranges.{last, more}
use Rattle.frames.proofs.Answers.{accepted}

-- ---- ACK_FREQUENCY and IMMEDIATE_ACK

-- the numbers that stand there are those of the answer
pub frequency-stands : {s : List ℕ} {q t d r used at : ℕ} → Stand s 0 (frequency q t d r) used → read_number s 0 ≡ found frequency_type at true
    → read_frequency s ≡ thresholds q t d r used
frequency-stands {s} {at = at} (one {mid = m} k (one a (one b (one c (one e none))))) w =
    let n : m ≡ at = (found-same (sym k ∙ w)).1 in
    sym (type-right (frequency_type ∷ []) s _ _ _ refl w refl refl (next _ _ refl (rw n at (sym a)) (next _ _ refl (sym b) (next _ _ refl (sym c) (next _ _ refl (sym e) refl)))))

pub immediate-stands : {s : List ℕ} {used at : ℕ} → Stand s 0 immediate used → read_number s 0 ≡ found immediate_type at true → read_immediate s ≡ Ok used
immediate-stands {s} {at = at} (one {mid = m} k none) w = let n : m ≡ at = (found-same (sym k ∙ w)).1 in rw n (sym (type-right (immediate_type ∷ []) s _ _ _ refl w refl refl refl))

-- the frame's numbers vs, written at the start of s, stand there, and the type in its shortest form
module _ (kind : ℕ) (vs s tl : List ℕ) (f : Small (kind ∷ vs)) (e : s ≡ encode_all (kind ∷ vs) ++ tl) where
  written_stands : Stand s 0 (kind ∷ vs) (length (encode_all (kind ∷ vs)))
  written_stands = subst (Stand s 0 (kind ∷ vs)) (zero-add (length (encode_all (kind ∷ vs)))) (encoded-stand (kind ∷ vs) s [] tl 0 f e refl)

  written_type : read_number s 0 ≡ found kind (width_of kind) true
  unfolding encode_all
  written_type =
      subst (λ (n : ℕ). read_number s 0 ≡ found kind n true) (zero-add (width_of kind))
      (sym (read-encoded s [] (encode_all vs ++ tl) kind 0 f.0 (e ∙ append_assoc (encode kind) (encode_all vs) tl) refl))

-- an encoded frame reads as its numbers, whatever follows it
pub frequency-back : (q t d r : ℕ) (tl : List ℕ) → q ≤ limit → t ≤ limit → d ≤ limit → r ≤ limit
    → read_frequency (encode_all (frequency q t d r) ++ tl) ≡ thresholds q t d r (length (encode_all (frequency q t d r)))
frequency-back q t d r tl hq ht hd hr =
    let s : List ℕ = encode_all (frequency q t d r) ++ tl in
    let f : Small (frequency q t d r) = (lit≤ tt, (hq, (ht, (hd, (hr, tt))))) in
    frequency-stands (written_stands frequency_type (q ∷ t ∷ d ∷ r ∷ []) s tl f refl) (written_type frequency_type (q ∷ t ∷ d ∷ r ∷ []) s tl f refl)

pub immediate-back : (tl : List ℕ) → read_immediate (encode_all immediate ++ tl) ≡ Ok (length (encode_all immediate))
immediate-back tl =
    let s : List ℕ = encode_all immediate ++ tl in
    let f : Small immediate = (lit≤ tt, tt) in
    immediate-stands (written_stands immediate_type [] s tl f refl) (written_type immediate_type [] s tl f refl)

-- what `put_frequency` wrote, `read_frequency` reads
pub frequency-write-read : FrequencyWriteRead
frequency-write-read xs q t d r used e =
    let w = put-done xs 0 (frequency q t d r) used e in
    let f = w.0 in
    rw (w.2, w.1, zero-add)
    (frequency-back q t d r (drop (length (encode_all (frequency q t d r))) xs) f.1.0 f.1.1.0 f.1.1.1.0 f.1.1.1.1.0)

-- what `put_immediate` wrote, `read_immediate` reads
pub immediate-write-read : ImmediateWriteRead
immediate-write-read xs used e =
    let w = put-done xs 0 immediate used e in
    rw (w.2, w.1, zero-add) (immediate-back (drop (length (encode_all immediate)) xs))

-- ---- ACK

-- one range, and those after it
range-stands : (pairs s : List ℕ) (at mid to lo hi smallest largest end : ℕ) {a c : Bool} → lo ≤ hi → largest + 2 ≤ lo
    → read_number s at ≡ found (hi - lo) mid a → read_number s mid ≡ found (lo - largest - 2) to c
    → ranges_from (length pairs / 2) s to largest ≡ record { pairs = smallest ∷ largest ∷ pairs; walk = Ok end }
    → ranges_from (suc (suc (length pairs)) / 2) s at hi ≡ record { pairs = lo ∷ hi ∷ smallest ∷ largest ∷ pairs; walk = Ok end }
range-stands pairs s at mid to lo hi smallest largest end h b e g i =
    let z : hi - (hi - lo) ≡ lo = omega arith in
    let y : lo - (lo - largest - 2) - 2 ≡ largest = omega arith in
    let n : suc (suc (length pairs)) / 2 - 1 ≡ length pairs / 2 = omega arith in
    sym (rw (z, y, n, i) at (more (suc (suc (length pairs)) / 2) s at hi refl e refl (omega arith) (omega arith) g (omega arith)))

last-stands : (s : List ℕ) (at lo hi end : ℕ) {a : Bool} → lo ≤ hi → read_number s at ≡ found (hi - lo) end a → ranges_from 0 s at hi ≡ record { pairs = lo ∷ hi ∷ []; walk = Ok end }
last-stands s at lo hi end h e =
    let z : hi - (hi - lo) ≡ lo = omega arith in
    sym (rw z at (last 0 s at hi refl e refl (omega arith)))

-- the numbers after the range count give the ranges that they were made of
ranges-stand : (pairs s : List ℕ) (at lo hi end : ℕ) → lo ≤ hi → RangesBelow lo pairs → Stand s at ((hi - lo) ∷ gaps_from lo pairs) end
    → ranges_from (length pairs / 2) s at hi ≡ record { pairs = lo ∷ hi ∷ pairs; walk = Ok end }
unfolding gaps_from RangesBelow
ranges-stand [] s at lo hi end h b (one e none) = last-stands s at lo hi end h e
ranges-stand (smallest ∷ []) s at lo hi end h b t = absurd b
ranges-stand (smallest ∷ largest ∷ pairs) s at lo hi end h b (one {mid = mid} e (one {mid = to} g t)) =
    range-stands pairs s at mid to lo hi smallest largest end h b.1 e g (ranges-stand pairs s to smallest largest end b.0 b.2 t)

-- there are no more ranges than numbers below the first
few-ranges : (pairs : List ℕ) (lo : ℕ) → RangesBelow lo pairs → length pairs / 2 ≤ lo
unfolding RangesBelow
few-ranges [] lo b = omega arith
few-ranges (smallest ∷ []) lo b = absurd b
few-ranges (smallest ∷ largest ∷ pairs) lo b = omega (arith, b.0, b.1, few-ranges pairs smallest b.2)

-- no gap or length is above the limit
gaps-small : (pairs : List ℕ) (lo : ℕ) → lo ≤ limit → RangesBelow lo pairs → Small (gaps_from lo pairs)
unfolding RangesBelow gaps_from
gaps-small [] lo h b = tt
gaps-small (smallest ∷ []) lo h b = absurd b
gaps-small (smallest ∷ largest ∷ pairs) lo h b =
    (omega arith, (omega (arith, b.1), gaps-small pairs smallest (omega (arith, b.0, b.1)) b.2))

-- a list of ranges has two numbers for each
even : (pairs : List ℕ) (lo : ℕ) → RangesBelow lo pairs → 2 * (length pairs / 2) ≡ length pairs
unfolding RangesBelow
even [] lo b = refl
even (smallest ∷ []) lo b = absurd b
even (smallest ∷ largest ∷ pairs) lo b = omega (arith, even pairs smallest b.2)

-- ---- ACK: the counts

pub stand-split : {s : List ℕ} {at next : ℕ} (us vs : List ℕ) → Stand s at (us ++ vs) next → (mid : ℕ) × Stand s at us mid × Stand s mid vs next
stand-split {at = at} [] vs t = (at, none, t)
stand-split (u ∷ us) vs (one e t) = let r = stand-split us vs t in (r.0, one e r.1, r.2)

tail-stands : {s : List ℕ} {at used : ℕ} (tail : Option Counts) → Stand s at (counts_of tail) used → ending tail used ≡ read_tail (eqb (type_of tail) counts_type) s at
unfolding read_tail
tail-stands None none = refl
tail-stands (Some counts) (one a (one b (one c none))) = next _ _ refl (sym a) (next _ _ refl (sym b) (next _ _ refl (sym c) refl))

an-ack : (tail : Option Counts) → is_ack (type_of tail) ≡ true
an-ack None = refl
an-ack (Some counts) = refl

pub type-small : (tail : Option Counts) → type_of tail ≤ limit
type-small None = lit≤ tt
type-small (Some counts) = lit≤ tt

-- ---- ACK: the frame

-- with room for the ranges, the frame's numbers are the answer and the slice
ack-stands : (s xs pairs : List ℕ) (tail : Option Counts) (delay lo hi used start : ℕ) → lo ≤ hi → RangesBelow lo pairs → 2 * (length pairs / 2 + 1) ≤ length xs
    → read_number s 0 ≡ found (type_of tail) start true
    → Stand s 0 (type_of tail ∷ hi ∷ delay ∷ (length pairs / 2) ∷ (((hi - lo) ∷ gaps_from lo pairs) ++ counts_of tail)) used
    → read_ack s xs ≡ record { answer = ack hi delay (length pairs / 2 + 1) used tail; slice = splice xs 0 (lo ∷ hi ∷ pairs) }
ack-stands s xs pairs tail delay lo hi used start h b room w (one {mid = m} k (one {mid = m1} a (one {mid = m2} c (one {mid = at} n t)))) =
    let e : m ≡ start = (found-same (sym k ∙ w)).1 in
    let p = stand-split ((hi - lo) ∷ gaps_from lo pairs) (counts_of tail) t in
    let r = ranges-stand pairs s at lo hi p.0 h b p.1 in
    let walked : Ok p.0 ≡ (ranges_from (length pairs / 2) s at hi).walk = sym (ap (λ (x : Ranges). x.walk) r) in
    let wrote : splice xs 0 (lo ∷ hi ∷ pairs) ≡ splice xs 0 (ranges_from (length pairs / 2) s at hi).pairs = sym (ap (λ (x : Ranges). splice xs 0 x.pairs) r) in
    sym
    (type-right ack_types s _ _ _ refl w (an-ack tail) refl
    (next _ _ refl (rw e at (sym a)) (next _ _ refl (sym c) (next _ _ refl (sym n)
    (accepted s at hi delay (length pairs / 2) (eqb (type_of tail) counts_type) xs walked (tail-stands tail p.2) refl room wrote)))))

-- no number before the counts is above the limit
pub ranges-small : (kind delay : ℕ) (pairs : List ℕ) → kind ≤ limit → AckRanges pairs → delay ≤ limit → Small (range_numbers kind delay pairs)
unfolding AckRanges range_numbers
ranges-small kind delay [] k r d = absurd r
ranges-small kind delay (lo ∷ []) k r d = absurd r
ranges-small kind delay (lo ∷ hi ∷ pairs) k r d =
    let few : length pairs / 2 ≤ limit = omega (arith, few-ranges pairs lo r.2, r.0, r.1) in
    let gaps : Small (gaps_from lo pairs) = gaps-small pairs lo (omega (arith, r.0, r.1)) r.2 in
    (k, (r.1, (d, (few, (omega (arith, r.1), gaps)))))

-- so its writer answers 5 for a count only
pub ack-small : (tail : Option Counts) (delay : ℕ) (pairs : List ℕ) → AckRanges pairs → delay ≤ limit → Small (counts_of tail) → Small (ack_numbers tail delay pairs)
ack-small tail delay pairs r d f = (small-append (range_numbers (type_of tail) delay pairs) (counts_of tail)).1 (ranges-small (type_of tail) delay pairs (type-small tail) r d, f)

-- an ACK frame that says given ranges and counts is read as those
pub ack-back : (tail : Option Counts) (delay : ℕ) (pairs tl xs : List ℕ) → AckRanges pairs → delay ≤ limit → Small (counts_of tail) → length pairs ≤ length xs
    → read_ack (encode_all (ack_numbers tail delay pairs) ++ tl) xs
    ≡ record { answer = ack (get_or pairs 1 0) delay (length pairs / 2) (length (encode_all (ack_numbers tail delay pairs))) tail; slice = splice xs 0 pairs }
unfolding AckRanges range_numbers
ack-back tail delay [] tl xs r d f h = absurd r
ack-back tail delay (lo ∷ []) tl xs r d f h = absurd r
ack-back tail delay (lo ∷ hi ∷ pairs) tl xs r d f h =
    let vs : List ℕ = hi ∷ delay ∷ (length pairs / 2) ∷ (((hi - lo) ∷ gaps_from lo pairs) ++ counts_of tail) in
    let s : List ℕ = encode_all (type_of tail ∷ vs) ++ tl in
    let g : Small (type_of tail ∷ vs) = ack-small tail delay (lo ∷ hi ∷ pairs) r d f in
    let n : length pairs / 2 + 1 ≡ suc (suc (length pairs)) / 2 = omega arith in
    rw (← n)
    (ack-stands s xs pairs tail delay lo hi (length (encode_all (type_of tail ∷ vs))) (width_of (type_of tail)) r.0 r.2 (omega (arith, even pairs lo r.2))
    (written_type (type_of tail) vs s tl g refl) (written_stands (type_of tail) vs s tl g refl))

-- the same where it was written with `wire::put_numbers` at the start of a buffer
pub ack-write-read : AckWriteRead
ack-write-read buf xs pairs tail delay used r d h e =
    let vs : List ℕ = ack_numbers tail delay pairs in
    let w = put-done buf 0 vs used e in
    let f = ((small-append (range_numbers (type_of tail) delay pairs) (counts_of tail)).0 w.0).1 in
    rw (w.2, w.1, zero-add (length (encode_all vs))) (ack-back tail delay pairs (drop (length (encode_all vs)) buf) xs r d f h)
