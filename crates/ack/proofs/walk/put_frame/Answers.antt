-- `ack::walk::put_frame` meets its contract: the parts that it puts are the frame, or are laid over later.
-- Assumes nothing.
use Prim.Native.Nat.{ℕ, ◌+◌, ◌-◌, ◌≤◌}
use mathlib.Core.Path.{◌≡◌, sym, ap, ◌∙◌, subst}
use mathlib.Core.Bool.{Bool, true, false}
use mathlib.Core.List.{List, [], ◌∷◌}
use native.Mathlib.Omega.{arith}
use lib.ListN.{length}
use Rattle.wire.specs.Bytes.{splice}
use Rattle.wire.specs.Numbers.{width_of, encode, encode_all}
use Rattle.frames.specs.Ack.{type_of}
use Rattle.seen.specs.declared.Seen.{Seen}
use Rattle.ack.specs.Walk.{marks_from}
use Rattle.ack.proofs.Ranges.{Begun, begun, size, low, first-is, fields}
use Rattle.ack.proofs.Fitting.{narrow, base, bytes_below, first-size}
use Rattle.ack.proofs.Walking.{Answer, first_ends}
use Rattle.ack.proofs.Framing.{type-byte, frame-first, head-fits, count-width, head_bytes, head-long, completed, passed_over}
use Rattle.ack.proofs.walk.put_frame.Goals as goal
use Rattle.ack.proofs.walk.put_frame.Goals.{Start}

-- what is reported
abbrev marks : Start → Seen
marks c = marks_from c.args.words.now c.args.told.end c.args.told.least

started : (c : Start) → Begun (marks c)
started c = begun (marks c) c.requires.0 c.requires.1

found : (c : Start) → c.args.first ≡ size (marks c) 1024
found c = first-is (started c) c.args.first c.requires.4

-- the bytes up to the range count
abbrev heading : Start → List ℕ
heading c = head_bytes (started c) c.requires.2 c.args.tail (found c)

long : (c : Start) → (length (heading c) + width_of (c.args.first - 1) ≡ base (marks c) c.args.told.delay) × (base (marks c) c.args.told.delay + width_of c.args.most ≤ c.args.told.room)
long c = ((head-long (started c) c.requires.2 c.args.tail (found c)).1, head-fits (started c) c.requires.2 c.requires.6 c.requires.5)

headed : (c : Start) {k n : ℕ} {ys : List ℕ} → k ≡ type_of c.args.tail
    → (n ≡ length (encode_all (k ∷ (c.args.told.end - 1) ∷ c.args.told.delay ∷ []))) × (ys ≡ splice c.args.buf.now 0 (encode_all (k ∷ (c.args.told.end - 1) ∷ c.args.told.delay ∷ [])))
    → (n ≡ length (heading c)) × (ys ≡ splice c.args.buf.now 0 (heading c))
headed c e h = rw e at h

-- the place after the first range
abbrev place_from : Start → ℕ
place_from c = length (heading c) + width_of c.args.most + width_of (c.args.first - 1)

-- the walk, below the place where the first range ends
walked : (c : Start) (from : ℕ) (xs : List ℕ) {end count : ℕ} {over : Bool} {ys : List ℕ}
    → Answer (marks c) c.args.told.delay c.args.told.room c.args.most from (1024 - c.args.first) xs ys end count over
    → Answer (marks c) c.args.told.delay c.args.told.room c.args.most from (low (marks c) 1024) xs ys end count over
walked c from xs {end} {count} {over} {ys} a =
    subst (λ (x : ℕ). Answer (marks c) c.args.told.delay c.args.told.room c.args.most from x xs ys end count over) (first_ends (started c) (ap (λ (x : ℕ). 1024 - x) c.requires.4)) a

-- what was put, by the head's length
placed : (c : Start) (xs : List ℕ) {n w : ℕ} {ys : List ℕ} → n ≡ length (heading c) → w ≡ width_of c.args.most
    → ys ≡ splice xs (n + w) (encode (c.args.first - 1)) → ys ≡ splice xs (length (heading c) + width_of c.args.most) (encode (c.args.first - 1))
placed c xs {n} {w} e f h =
    let g : n + w ≡ length (heading c) + width_of c.args.most = omega (arith, e, f) in
    h ∙ ap (λ (x : ℕ). splice xs x (encode (c.args.first - 1))) g

behind : (c : Start) (xs : List ℕ) {from end count : ℕ} {over : Bool} {ys : List ℕ} → from ≡ place_from c
    → Answer (marks c) c.args.told.delay c.args.told.room c.args.most from (low (marks c) 1024) xs ys end count over
    → (ys ≡ splice xs (place_from c) (encode_all (fields (marks c) count (low (marks c) 1024)))) × (end ≡ place_from c + bytes_below (marks c) count (low (marks c) 1024))
behind c xs {count = count} f w =
    (w.1 ∙ ap (λ (x : ℕ). splice xs x (encode_all (fields (marks c) count (low (marks c) 1024)))) f, omega (arith, w.0, f))

pub put_head-count_at-requires : goal.put_head-count_at-requires
put_head-count_at-requires c =
    let o = (goal.at.put_head-count_at-requires c).Start in
    rw c.type_of.ensures (type-byte c.args.tail, omega (arith, (started o).small), c.requires.2, omega (arith, long o, c.requires.3))

pub overflow_add-count_at : goal.overflow_add-count_at
overflow_add-count_at c =
    let o = (goal.at.overflow_add-count_at c).Start in
    let h = headed o c.type_of.ensures c.put_head-count_at.ensures in
    omega (arith, narrow _ c.width.ensures, h.0, long o, c.requires.3)

pub overflow_sub-first : goal.overflow_sub-first
overflow_sub-first c = let o = (goal.at.overflow_sub-first c).Start in omega (arith, first-size (started o), found o)

pub put_short-from-requires : goal.put_short-from-requires
put_short-from-requires c =
    let o = (goal.at.put_short-from-requires c).Start in
    let h = headed o c.type_of.ensures c.put_head-count_at.ensures in
    (omega (arith, first-size (started o), found o), omega (arith, c.width.ensures, h.0, long o, c.requires.3, c.put_head-count_at.auto.buf))

pub overflow_sub-first-2 : goal.overflow_sub-first-2
overflow_sub-first-2 c = let o = (goal.at.overflow_sub-first-2 c).Start in omega (arith, first-size (started o), found o)

pub put_ranges-walked-requires : goal.put_ranges-walked-requires
put_ranges-walked-requires c =
    let o = (goal.at.put_ranges-walked-requires c).Start in
    let h = headed o c.type_of.ensures c.put_head-count_at.ensures in
    let f : c.put_short-from.result ≡ place_from o = omega (arith, c.put_short-from.ensures.0, c.width.ensures, h.0) in (
      c.requires.0,
      c.requires.1,
      c.requires.2,
      omega (arith, c.requires.3, c.put_head-count_at.auto.buf, c.put_short-from.auto.buf),
      ap (λ (x : ℕ). 1024 - x) c.requires.4,
      omega (arith, f, long o, frame-first (started o) c.requires.2),
      omega (arith, f, long o),
      c.requires.6,
    )

pub returns-then-walked : goal.returns-then-walked
returns-then-walked c =
    let o = (goal.at.returns-then-walked c).Start in
    let h = headed o c.type_of.ensures c.put_head-count_at.ensures in
    let f : c.put_short-from.result ≡ place_from o = omega (arith, c.put_short-from.ensures.0, c.width.ensures, h.0) in
    let w = walked o c.put_short-from.result c.put_short-from.new.buf c.put_ranges-walked.ensures in
    let p = placed o c.put_head-count_at.new.buf h.0 c.width.ensures c.put_short-from.ensures.1 in
    let b = behind o c.put_short-from.new.buf f w in (
      λ f. absurd (let z : true ≡ false = sym c.if-walked.true ∙ f in let y : ◌≡◌ {A = ℕ} 0 1 = cc in omega arith),
      λ f.
          let g = w.6 f in (
            g.0,
            g.1,
            passed_over (started o) c.requires.2 c.args.tail (found o) c.requires.6 c.args.buf.now c.requires.3 c.put_ranges-walked.result.count
                h.1 c.put_head-count_at.auto.buf p c.put_short-from.auto.buf b.0 b.1 w.2 g.1 g.2,
          ),
    )

pub put_short-requires : goal.put_short-requires
put_short-requires c =
    let o = (goal.at.put_short-requires c).Start in
    let h = headed o c.type_of.ensures c.put_head-count_at.ensures in
    let w = walked o c.put_short-from.result c.put_short-from.new.buf c.put_ranges-walked.ensures in
    let g = count-width (started o) c.requires.2 c.requires.6 c.requires.5 w.4 (w.5 c.if-walked.false) in
    (g.1, omega (arith, g.0, h.0, long o, c.requires.3, c.put_head-count_at.auto.buf, c.put_short-from.auto.buf, c.put_ranges-walked.auto.buf))

pub returns : goal.returns
returns c =
    let o = (goal.at.returns c).Start in
    let h = headed o c.type_of.ensures c.put_head-count_at.ensures in
    let f : c.put_short-from.result ≡ place_from o = omega (arith, c.put_short-from.ensures.0, c.width.ensures, h.0) in
    let w = walked o c.put_short-from.result c.put_short-from.new.buf c.put_ranges-walked.ensures in
    let p = placed o c.put_head-count_at.new.buf h.0 c.width.ensures c.put_short-from.ensures.1 in
    let b = behind o c.put_short-from.new.buf f w in
    let g = count-width (started o) c.requires.2 c.requires.6 c.requires.5 w.4 (w.5 c.if-walked.false) in (
      λ f.
          completed (started o) c.requires.2 c.args.tail (found o) c.requires.6 c.args.buf.now c.requires.3 c.put_ranges-walked.result.count
          h.1 c.put_head-count_at.auto.buf p c.put_short-from.auto.buf b.0 b.1 w.2 (w.5 c.if-walked.false) g.0
          (c.put_short.ensures.1 ∙ ap (λ (x : ℕ). splice c.put_ranges-walked.new.buf x (encode c.put_ranges-walked.result.count)) h.0),
      λ f. absurd (let z : false ≡ true = sym c.if-walked.false ∙ f in let y : ◌≡◌ {A = ℕ} 0 1 = cc in omega arith),
    )
