-- What an accepted ACK tells: its ranges descend with a gap between, and in shortest form its bytes are the encoding of its numbers, since a whole walk's numbers stand in the bytes.
-- Assumes nothing.
use Prim.Native.Nat.{ℕ, zero, suc, ◌+◌, ◌-◌, ◌*◌, ◌/◌, ◌≤◌}
use mathlib.Core.Path.{◌≡◌, refl, sym, ap, ◌∙◌, subst}
use mathlib.Core.Bool.{Bool, true, false}
use mathlib.Core.List.{List, [], ◌∷◌}
use native.Mathlib.Omega.{arith}
use mathlib.Core.Logic.{⊎_elim}
use borrow.Author.Tests.{eqb-true, eqb-false, leb-true}
use lib.Dec.{leb, eqb}
use lib.ListN.{length, take, drop}
use lib.Seq.{take_at}
use Rattle.std.specs.Prelude.{Option, Some, None, Result, Ok, Err}
use Rattle.wire.specs.Bytes.{splice, Octets}
use Rattle.wire.specs.Fields.{found}
use Rattle.wire.specs.Numbers.{read_number}
use Rattle.wire.specs.Standing.{Stand, none, one}
use Rattle.wire.specs.declared.Refusal.{Refusal}
use Rattle.wire.specs.declared.Refusal.TheVariants.{Ends, OtherType, NoRoom}
use Rattle.wire.specs.Exactly.{OneOf}
use Rattle.wire.proofs.Accepted.{accepted-small}
use Rattle.wire.proofs.Standing.{stand-append}
use Rattle.frames.specs.Types.{counts_type, ack_types}
use Rattle.frames.specs.Ack.{Ranges, ended, before, range, below, ranges_from, ending, read_tail, read_rest, ack, AckRead, refused, after_rest, read_ranges, read_ack, gaps_from, range_numbers, type_of, counts_of, ack_numbers, RangesBelow, AckRanges}
use Rattle.frames.specs.EachWay.{AckTells, AckReadWrite}
use Rattle.frames.specs.declared.Counts.{Counts}
use Rattle.frames.specs.declared.Ending.{Ending}
use Rattle.frames.specs.declared.Ack.{Ack}
use Rattle.frames.proofs.Shortest.{no-refusal, field-read, test-held, type-read, encodes}

-- ---- a walk that comes to its end

-- what it found from at on: hi is the first range's largest, and count ranges come after it
record Walked (s : List ℕ) (count at hi used : ℕ) (pairs : List ℕ) : Type 0 where
  lo : ℕ
  rest : List ℕ
  made : pairs ≡ lo ∷ hi ∷ rest
  holds : lo ≤ hi
  descend : RangesBelow lo rest
  many : length rest ≡ 2 * count
  stand : Stand s at ((hi - lo) ∷ gaps_from lo rest) used

no_fault : {w : Result ℕ Refusal} {used : ℕ} {refusal : Refusal} → w ≡ Ok used → Err refusal ≡ w → ⊥
no_fault e h = no-refusal (h ∙ e)

walk_of : {x y : Ranges} → x ≡ y → x.walk ≡ y.walk
walk_of e = ap (λ (r : Ranges). r.walk) e

-- a number stands, given what it was read as
stands : (s : List ℕ) {at mid next v w : ℕ} {b : Bool} {vs : List ℕ} → v ≡ w → read_number s at ≡ found v mid b → Stand s mid vs next → Stand s at (w ∷ vs) next
stands s {mid = mid} {b = b} e r t = one (r ∙ ap (λ (x : ℕ). found x mid b) e) t

-- a range of a whole walk: its length was read, and the walk went on from its smallest
range-read : (s : List ℕ) (at hi used : ℕ) (f : ℕ → ℕ → Ranges) → (range s at hi f).walk ≡ Ok used
    → (len : ℕ) × (mid : ℕ) × (b : Bool) × (read_number s at ≡ found len mid b) × (len ≤ hi) × (before (hi - len) hi (f (hi - len) mid) ≡ range s at hi f)
range-read s at hi used f e =
    let r = field-read (read_number s at) {y = range s at hi f} refl (λ h. no_fault e (walk_of h)) in
    let t = test-held (leb r.0 hi) r.4 (λ h. no_fault e (walk_of h)) in
    (r.0, r.1, r.2, r.3, leb-true r.0 hi t.0, t.1)

-- a gap of a whole walk likewise
below-read : (s : List ℕ) (at lo used : ℕ) (f : ℕ → ℕ → Ranges) → (below s at lo f).walk ≡ Ok used
    → (gap : ℕ) × (next : ℕ) × (b : Bool) × (read_number s at ≡ found gap next b) × (gap + 2 ≤ lo) × (f (lo - gap - 2) next ≡ below s at lo f)
below-read s at lo used f e =
    let r = field-read (read_number s at) {y = below s at lo f} refl (λ h. no_fault e (walk_of h)) in
    let t = test-held (leb (r.0 + 2) lo) r.4 (λ h. no_fault e (walk_of h)) in
    (r.0, r.1, r.2, r.3, leb-true (r.0 + 2) lo t.0, t.1)

-- the last range
last-walked : (s : List ℕ) (at hi used len mid : ℕ) {b : Bool} (y : Ranges) → read_number s at ≡ found len mid b → len ≤ hi → before (hi - len) hi (ended (Ok mid)) ≡ y
    → y.walk ≡ Ok used → Walked s 0 at hi used y.pairs
unfolding RangesBelow gaps_from
last-walked s at hi used len mid y r l t e =
    let w : ◌≡◌ {A = Result ℕ Refusal} (Ok mid) (Ok used) = walk_of t ∙ e in
    let u : mid ≡ used = cc in
    record {
      lo = hi - len;
      rest = [];
      made = sym (ap (λ (x : Ranges). x.pairs) t);
      holds = omega arith;
      descend = tt;
      many = refl;
      stand = subst (Stand s at ((hi - (hi - len)) ∷ [])) u (stands s (omega arith) r none);
    }

-- a range before those of which it is known
more-walked : (s : List ℕ) (count at hi used len mid gap next : ℕ) {b c : Bool} (pairs later : List ℕ) → read_number s at ≡ found len mid b → len ≤ hi
    → read_number s mid ≡ found gap next c → gap + 2 ≤ hi - len → (hi - len) ∷ hi ∷ later ≡ pairs
    → Walked s count next (hi - len - gap - 2) used later → Walked s (suc count) at hi used pairs
unfolding RangesBelow gaps_from
more-walked s count at hi used len mid gap next pairs later r l g m p i = record {
  lo = hi - len;
  rest = i.lo ∷ (hi - len - gap - 2) ∷ i.rest;
  made = sym p ∙ ap (λ (ps : List ℕ). (hi - len) ∷ hi ∷ ps) i.made;
  holds = omega arith;
  descend = (i.holds, omega arith, i.descend);
  many = omega (arith, i.many);
  stand = stands s (omega arith) r (stands s (omega arith) g i.stand);
}

walked : (count : ℕ) (s : List ℕ) (at hi used : ℕ) → (ranges_from count s at hi).walk ≡ Ok used → Walked s count at hi used (ranges_from count s at hi).pairs
unfolding ranges_from
walked zero s at hi used e =
    let r = range-read s at hi used (λ smallest next. ended (Ok next)) e in
    last-walked s at hi used r.0 r.1 (ranges_from zero s at hi) r.3 r.4 r.5 e
walked (suc count) s at hi used e =
    let r = range-read s at hi used (λ smallest mid. below s mid smallest (λ lower next. ranges_from count s next lower)) e in
    let g = below-read s r.1 (hi - r.0) used (λ lower next. ranges_from count s next lower) (walk_of r.5 ∙ e) in
    more-walked s count at hi used r.0 r.1 g.0 g.1 (ranges_from (suc count) s at hi).pairs (ranges_from count s g.1 (hi - r.0 - g.0 - 2)).pairs
    r.3 r.4 g.3 g.4
    (ap (λ (x : Ranges). (hi - r.0) ∷ hi ∷ x.pairs) g.5 ∙ ap (λ (x : Ranges). x.pairs) r.5)
    (walked count s g.1 (hi - r.0 - g.0 - 2) used (walk_of g.5 ∙ (walk_of r.5 ∙ e)))

-- ---- the frame

-- the numbers before the ranges, and the walk over these, say what the answer tells
tells : (s xs pairs : List ℕ) (hi delay count end used at at1 at2 at3 : ℕ) (tail : Option Counts) {b0 b1 b2 b3 : Bool} → Octets s → read_number s 0 ≡ found (type_of tail) at b0
    → read_number s at ≡ found hi at1 b1 → read_number s at1 ≡ found delay at2 b2 → read_number s at2 ≡ found count at3 b3
    → Walked s count at3 hi end pairs → Stand s end (counts_of tail) used → AckTells s (take (2 * (count + 1)) (splice xs 0 pairs)) hi delay (count + 1) used tail
unfolding AckRanges range_numbers
tells s xs pairs hi delay count end used at at1 at2 at3 tail o k a b c r ct =
    let n : length pairs ≡ 2 * (count + 1) = omega (arith, ap length r.made, r.many) in
    let p : take (2 * (count + 1)) (splice xs 0 pairs) ≡ r.lo ∷ hi ∷ r.rest = take_at pairs (drop (0 + length pairs) xs) (2 * (count + 1)) n ∙ r.made in
    let h : count ≡ length r.rest / 2 = omega (arith, r.many) in
    let t : Stand s 0 (ack_numbers tail delay (r.lo ∷ hi ∷ r.rest)) used = stand-append (one k (one a (one b (stands s h c r.stand)))) ct in
    subst (λ (ps : List ℕ). AckTells s ps hi delay (count + 1) used tail) (sym p)
    (record {
      many = omega (arith, r.many);
      descend = (r.holds, accepted-small s at hi at1 o a, r.descend);
      first = refl;
      shortest = encodes o t;
    })

ended-same : {tail tl : Option Counts} {used n : ℕ} → ending tail used ≡ ending tl n → (tail ≡ tl) × (used ≡ n)
ended-same {tail} {tl} {used} {n} e =
    let r : ◌≡◌ {A = Ending} (record { tail = tail; used = used }) (record { tail = tl; used = n }) = cc in
    (ap (λ (x : Ending). x.tail) r, ap (λ (x : Ending). x.used) r)

-- the counts that were read stand after the ranges, and were asked for by the type
tail-read : (s : List ℕ) (counted : Bool) (at used : ℕ) (tail : Option Counts) → read_tail counted s at ≡ ending tail used
    → Stand s at (counts_of tail) used × (counted ≡ eqb (type_of tail) counts_type)
unfolding read_tail
tail-read s false at used None e = (subst (Stand s at []) (ended-same e).1 none, refl)
tail-read s false at used (Some c) e = let t : None ≡ Some c = (ended-same e).0 in let w : ◌≡◌ {A = ℕ} 0 1 = cc in absurd (omega arith)
tail-read s true at used tail e =
    let a = field-read (read_number s at) e no-refusal in
    let b = field-read (read_number s a.1) a.4 no-refusal in
    let c = field-read (read_number s b.1) b.4 no-refusal in
    same c.4 (one a.3 (one b.3 (one c.3 none)))
  where
    same : {x y z n : ℕ} → ending (Some (record { ect0 = x; ect1 = y; ce = z })) n ≡ ending tail used → Stand s at (x ∷ y ∷ z ∷ []) n → Stand s at (counts_of tail) used × (true ≡ eqb (type_of tail) counts_type)
    same {x} {y} {z} {n} h st =
        let p = ended-same h in
        subst (λ (k : Option Counts). Stand s at (counts_of k) used × (true ≡ eqb (type_of k) counts_type)) p.0 (subst (Stand s at (x ∷ y ∷ z ∷ [])) p.1 st, refl)

-- so the type is that of the tail
type-is : (kind : ℕ) (tail : Option Counts) → OneOf kind ack_types → eqb kind counts_type ≡ eqb (type_of tail) counts_type → kind ≡ type_of tail
type-is kind None o e = ⊎_elim (λ h. h) (⊎_elim (λ h. absurd (eqb-false kind counts_type e h)) (λ z. absurd z)) o
type-is kind (Some c) o e = eqb-true kind counts_type e

module _ (s xs : List ℕ) (y : AckRead) (ok : (refusal : Refusal) → Err refusal ≡ y.answer → ⊥) where
  -- the answer is no refusal
  not : (refusal : Refusal) → refused refusal xs ≡ y → ⊥
  not refusal h = ok refusal (ap (λ (r : AckRead). r.answer) h)

  -- so the walk came to its end, and there was room
  rested : (hi delay count : ℕ) (pairs : List ℕ) (w : Result Ending Refusal) → after_rest w hi delay count pairs xs ≡ y
      → (tail : Option Counts) × (used : ℕ) × (w ≡ ending tail used) × (record { answer = ack hi delay (count + 1) used tail; slice = splice xs 0 pairs } ≡ y)
  rested hi delay count pairs (Err refusal) h = absurd (not refusal h)
  rested hi delay count pairs (Ok e) h = (e.tail, e.used, refl, (test-held (leb (2 * (count + 1)) (length xs)) h (not NoRoom)).1)

  answered : (at hi delay count : ℕ) (counted : Bool) → read_ranges s at hi delay count counted xs ≡ y
      → (tail : Option Counts) × (end : ℕ) × (used : ℕ) × ((ranges_from count s at hi).walk ≡ Ok end) × (read_tail counted s end ≡ ending tail used)
      × (record { answer = ack hi delay (count + 1) used tail; slice = splice xs 0 (ranges_from count s at hi).pairs } ≡ y)
  unfolding read_ranges
  answered at hi delay count counted e = go (ranges_from count s at hi).walk refl e
    where
      go : (w : Result ℕ Refusal) → (ranges_from count s at hi).walk ≡ w → after_rest (read_rest counted s w) hi delay count (ranges_from count s at hi).pairs xs ≡ y
          → (tail : Option Counts) × (end : ℕ) × (used : ℕ) × ((ranges_from count s at hi).walk ≡ Ok end) × (read_tail counted s end ≡ ending tail used)
          × (record { answer = ack hi delay (count + 1) used tail; slice = splice xs 0 (ranges_from count s at hi).pairs } ≡ y)
      go (Err refusal) t h = absurd (not refusal h)
      go (Ok end) t h =
          let r = rested hi delay count (ranges_from count s at hi).pairs (read_tail counted s end) h in
          (r.0, end, r.1, t, r.2, r.3)

pub ack-read-write : AckReadWrite
ack-read-write s xs l d ranges used tail o e =
    let y : AckRead = read_ack s xs in
    let ok : (refusal : Refusal) → Err refusal ≡ y.answer → ⊥ = λ refusal h. no-refusal (h ∙ e) in
    let k = type-read ack_types s {y = y} _ refl (not s xs y ok Ends) (not s xs y ok OtherType) in
    let a = field-read (read_number s k.1) {y = y} k.4 (not s xs y ok Ends) in
    let b = field-read (read_number s a.1) {y = y} a.4 (not s xs y ok Ends) in
    let c = field-read (read_number s b.1) {y = y} b.4 (not s xs y ok Ends) in
    let w = answered s xs y ok c.1 a.0 b.0 c.0 (eqb k.0 counts_type) c.4 in
    let pairs : List ℕ = (ranges_from c.0 s c.1 a.0).pairs in
    let t = tail-read s (eqb k.0 counts_type) w.1 w.2 w.0 w.4 in
    let m : k.0 ≡ type_of w.0 = type-is k.0 w.0 k.2 t.1 in
    same {hi = a.0} {delay = b.0} {n = c.0 + 1} {end = w.2} {tl = w.0} {ys = splice xs 0 pairs} w.5
    (tells s xs pairs a.0 b.0 c.0 w.1 w.2 k.1 a.1 b.1 c.1 w.0 {b1 = a.2} {b2 = b.2} {b3 = c.2} o (rw m at k.3) a.3 b.3 c.3 (walked c.0 s c.1 a.0 w.1 w.3) t.0)
  where
    same : {hi delay n end : ℕ} {tl : Option Counts} {ys : List ℕ} → record { answer = ack hi delay n end tl; slice = ys } ≡ read_ack s xs
        → AckTells s (take (2 * n) ys) hi delay n end tl → AckTells s (take (2 * ranges) (read_ack s xs).slice) l d ranges used tail
    same {hi} {delay} {n} {end} {tl} {ys} q t =
        let f : ack hi delay n end tl ≡ ack l d ranges used tail = ap (λ (r : AckRead). r.answer) q ∙ e in
        let a : ◌≡◌ {A = Ack} (record { largest = hi; delay = delay; ranges = n; used = end; tail = tl }) (record { largest = l; delay = d; ranges = ranges; used = used; tail = tail }) = cc in
        let h1 : hi ≡ l = ap (λ (x : Ack). x.largest) a in
        let h2 : delay ≡ d = ap (λ (x : Ack). x.delay) a in
        let h3 : n ≡ ranges = ap (λ (x : Ack). x.ranges) a in
        let h4 : end ≡ used = ap (λ (x : Ack). x.used) a in
        let h6 : tl ≡ tail = ap (λ (x : Ack). x.tail) a in
        let h5 : ys ≡ (read_ack s xs).slice = ap (λ (r : AckRead). r.slice) q in
        rw (h1, h2, h3, h4, h6, h5) at t
