-- Wherever the reads end, the lines are those of the input: what is answered and what is kept are together what has come, no piece
-- that is answered ends inside a record, and cutting between records changes nothing.
-- Assumes nothing.
use Prim.Native.Nat.{ℕ, zero, suc, ◌+◌, ◌-◌, ◌*◌, ◌%◌, ◌^◌, ◌≤◌, ◌<◌}
use mathlib.Core.Path.{◌≡◌, refl, sym, ap, ◌∙◌}
use mathlib.Core.List.{List, [], ◌∷◌, ◌++◌, append_assoc, append-nil}
use native.Mathlib.Omega.{arith}
use lib.ListN.{length, take, drop, length-append, length-drop, take-append-drop}
use lib.Seq.{length-take-le, take_at}
use Rattle.events.specs.Pieces.{Piece, input, HasRoom, WholeRecords, Uncut, none, last, more}
use Rattle.events.specs.Replay.{records_in, replay}
use Rattle.events.proofs.Cutting.{replay-in-pieces}
use Rattle.play.specs.Reads as reads
use Rattle.play.specs.Reads.{whole, answered, left, ended, Roomy, AtOnce, AtTheEnd}

-- the whole records of some bytes
module _ (s : List ℕ) where
  front : length (take (whole (length s)) s) ≡ whole (length s)
  front = length-take-le (whole (length s)) s (omega arith)

  rest : length (drop (whole (length s)) s) ≡ length s % 24
  rest = simp length-drop (omega arith)

  whole-records : length (take (whole (length s)) s) ≡ 24 * records_in (length (take (whole (length s)) s))
  whole-records = rw front (omega arith)

-- what is answered and what is kept are together what has come
joined : (kept : List ℕ) (ps : List Piece) → input (answered kept ps) ++ left kept ps ≡ kept ++ input ps
joined kept [] = sym (append-nil kept)
joined kept (p ∷ ps) =
    let s = kept ++ p.bytes in
    append_assoc (take (whole (length s)) s) (input (answered (drop (whole (length s)) s) ps)) (left (drop (whole (length s)) s) ps)
    ∙ ap (λ (l : List ℕ). take (whole (length s)) s ++ l) (joined (drop (whole (length s)) s) ps)
    ∙ sym (append_assoc (take (whole (length s)) s) (drop (whole (length s)) s) (input ps))
    ∙ ap (λ (l : List ℕ). l ++ input ps) (take-append-drop (whole (length s)) s)
    ∙ append_assoc kept p.bytes (input ps)

-- less than a record is kept
short : (kept : List ℕ) (ps : List Piece) → length kept < 24 → length (left kept ps) < 24
short kept [] h = h
short kept (p ∷ ps) h =
    let s = kept ++ p.bytes in
    short (drop (whole (length s)) s) ps (rw (rest s) (omega arith))

-- whole records are answered
even : (kept : List ℕ) (ps : List Piece) → length (input (answered kept ps)) % 24 ≡ 0
even kept [] = refl
even kept (p ∷ ps) =
    let s = kept ++ p.bytes in
    let later = input (answered (drop (whole (length s)) s) ps) in
    let e : length later % 24 ≡ 0 = even (drop (whole (length s)) s) ps in
    let l : length (take (whole (length s)) s ++ later) ≡ whole (length s) + length later = length-append (take (whole (length s)) s) later ∙ ap (λ (k : ℕ). k + length later) (front s) in
    rw l (omega (arith, e))

uncut : (kept : List ℕ) (ps : List Piece) → Roomy (answered kept ps) → Uncut (answered kept ps)
uncut kept [] reads.none = none
uncut kept (p ∷ ps) (reads.more h r) =
    let s = kept ++ p.bytes in
    more h (whole-records s) (uncut (drop (whole (length s)) s) ps r)

pub at_once : AtOnce
at_once ps r l =
    let now = input (answered [] ps) in
    let j : now ++ left [] ps ≡ input ps = joined [] ps in
    let n : length now + length (left [] ps) ≡ length (input ps) = sym (length-append now (left [] ps)) ∙ ap length j in
    let s : length (left [] ps) < 24 = short [] ps (omega arith) in
    let e : length now % 24 ≡ 0 = even [] ps in
    let w : length now ≡ whole (length (input ps)) = omega (arith, n, s, e) in
    let t : take (whole (length (input ps))) (input ps) ≡ now = sym (ap (take (whole (length (input ps)))) j) ∙ take_at now (left [] ps) _ w in
    replay-in-pieces (answered [] ps) (uncut [] ps r) (omega (arith, n, l)) ∙ ap replay (sym t)

-- ---- the end of the input: what is left is one more piece, and the last one

uncut-last : (kept : List ℕ) (ps : List Piece) (p : Piece) → Roomy (answered kept ps ++ (p ∷ [])) → Uncut (answered kept ps ++ (p ∷ []))
uncut-last kept [] p (reads.more h reads.none) = last h
uncut-last kept (q ∷ ps) p (reads.more h r) =
    let s = kept ++ q.bytes in
    more h (whole-records s) (uncut-last (drop (whole (length s)) s) ps p r)

input_last : (ps : List Piece) (p : Piece) → input (ps ++ (p ∷ [])) ≡ input ps ++ p.bytes
input_last [] p = append-nil p.bytes
input_last (q ∷ ps) p = ap (λ (l : List ℕ). q.bytes ++ l) (input_last ps p) ∙ sym (append_assoc q.bytes (input ps) p.bytes)

pub at-the-end : AtTheEnd
at-the-end ps lent r l =
    let e : input (ended ps lent) ≡ input ps = input_last (answered [] ps) _ ∙ joined [] ps in
    replay-in-pieces (ended ps lent) (uncut-last [] ps _ r) (rw e l) ∙ ap replay e
