-- However the input is cut, the pieces come to what the whole comes to: whole records do not look at what follows them, so the
-- lines of the two together are the lines of the first and then those of the second; and so on, piece after piece.
-- Assumes nothing.
use Prim.Native.Nat.{ℕ, zero, suc, ◌+◌, ◌*◌, ◌^◌, ◌≤◌, ◌<◌}
use mathlib.Core.Path.{◌≡◌, refl, ap, ◌∙◌}
use mathlib.Core.List.{List, [], ◌∷◌, ◌++◌, append_assoc, append-nil}
use native.Mathlib.Nat.{add-zero, zero-add, add_assoc}
use native.Mathlib.Omega.{arith}
use borrow.Author.Tests.{le-leb}
use lib.ListN.{length, drop, length-append, length-drop, get_or-append}
use lib.Seq.{take-append-le, take-append_seam, drop-append-le}
use Rattle.receiver.specs.declared.Receiver.{Receiver}
use Rattle.events.specs.Events.{read_event, record_call}
use Rattle.events.specs.Lines.{line_of}
use Rattle.events.specs.Replay.{records_in, lines_of, receiver_after, count_of, played, played_bytes}
use Rattle.events.specs.Pieces.{Piece, input, HasRoom, Uncut, none, last, more, Place, turn, turns, start, all_lines, all_after, Together, InPieces, ReplayInPieces}

-- what follows a whole record does not matter to it
record-alone : (p q : List ℕ) (r : Receiver) → 24 ≤ length p → record_call (p ++ q) r ≡ record_call p r
unfolding record_call read_event
record-alone p q r h =
    let l : 24 ≤ length (p ++ q) = simp length-append (omega arith) in
    let z : 0 < length p = omega arith in
    let o : 1 < length p = omega arith in
    let e : 8 ≤ length p = omega arith in
    let s : 16 ≤ length p = omega arith in
    let m : 8 ≤ length (drop 8 p) = simp length-drop (omega arith) in
    let n : 8 ≤ length (drop 16 p) = simp length-drop (omega arith) in
    rw (le-leb 24 (length (p ++ q)) l, le-leb 24 (length p) h, get_or-append p q 0 0 z, get_or-append p q 0 1 o, drop-append-le 8 p q e, drop-append-le 16 p q s, take-append-le 8 (drop 8 p) q m, take-append-le 8 (drop 16 p) q n)

lines-suc : (n : ℕ) (s : List ℕ) (r : Receiver) (index : ℕ)
    → lines_of (suc n) s r index ≡ line_of index (record_call s r) ++ lines_of n (drop 24 s) (record_call s r).next (index + 1)
unfolding lines_of
lines-suc n s r index = refl

after-suc : (n : ℕ) (s : List ℕ) (r : Receiver) → receiver_after (suc n) s r ≡ receiver_after n (drop 24 s) (record_call s r).next
unfolding receiver_after
after-suc n s r = refl

-- n whole records and then k
module _ (k : ℕ) (q : List ℕ) where
  lines_cut : (n : ℕ) (p : List ℕ) (r : Receiver) (index : ℕ) → length p ≡ 24 * n
      → lines_of (n + k) (p ++ q) r index ≡ lines_of n p r index ++ lines_of k q (receiver_after n p r) (index + n)
  unfolding lines_of receiver_after
  lines_cut zero [] r index h = rw (zero-add, add-zero)
  lines_cut zero (b ∷ p) r index h = absurd (omega arith)
  lines_cut (suc n) p r index h =
      let c : suc n + k ≡ suc (n + k) = omega arith in
      let l : 24 ≤ length p = omega arith in
      let i : index + 1 + n ≡ index + suc n = omega arith in
      let m : length (drop 24 p) ≡ 24 * n = simp length-drop (omega arith) in
      rw (c, lines-suc (n + k) (p ++ q) r index, record-alone p q r l, drop-append-le 24 p q l, lines_cut n (drop 24 p) (record_call p r).next (index + 1) m, i, append_assoc)

  after-cut : (n : ℕ) (p : List ℕ) (r : Receiver) → length p ≡ 24 * n → receiver_after (n + k) (p ++ q) r ≡ receiver_after k q (receiver_after n p r)
  unfolding receiver_after
  after-cut zero [] r h = rw zero-add
  after-cut zero (b ∷ p) r h = absurd (omega arith)
  after-cut (suc n) p r h =
      let c : suc n + k ≡ suc (n + k) = omega arith in
      let l : 24 ≤ length p = omega arith in
      let m : length (drop 24 p) ≡ 24 * n = simp length-drop (omega arith) in
      rw c (after-suc (n + k) (p ++ q) r ∙ rw (record-alone p q r l, drop-append-le 24 p q l) (after-cut n (drop 24 p) (record_call p r).next m))

-- all of p and then all of q
module _ (p q : List ℕ) (w : length p ≡ 24 * records_in (length p)) where
  both : records_in (length (p ++ q)) ≡ records_in (length p) + records_in (length q)
  both = simp length-append (omega arith)

  lines-follow : (r : Receiver) (index : ℕ) → all_lines (p ++ q) r index ≡ all_lines p r index ++ all_lines q (all_after p r) (index + records_in (length p))
  lines-follow r index = rw both (lines_cut (records_in (length q)) q (records_in (length p)) p r index w)

  after-follow : (r : Receiver) → all_after (p ++ q) r ≡ all_after q (all_after p r)
  after-follow r = rw both (after-cut (records_in (length q)) q (records_in (length p)) p r w)

-- ---- one turn

-- where the program stands when all the records of s are answered and their lines printed
abbrev beyond : Place → List ℕ → Place
beyond t s =
    record {
      receiver = all_after s t.receiver;
      index = t.index + records_in (length s);
      printed = t.printed ++ all_lines s t.receiver t.index;
    }

-- the room and the indices are enough for every record
turned : (t : Place) (p : Piece) → HasRoom p → t.index + records_in (length p.bytes) < 2 ^ 64 → turn t p ≡ beyond t p.bytes
unfolding played played_bytes
turned t p h l =
    let n : count_of (length p.bytes) t.index (length p.lent) ≡ records_in (length p.bytes) = omega arith in
    rw (n, take-append_seam)

-- ---- all turns

together : {t : Place} {ps : List Piece} → turns t ps ≡ beyond t (input ps) → Together t ps
together e = record { printed = ap (λ (x : Place). x.printed) e; receiver = ap (λ (x : Place). x.receiver) e; index = ap (λ (x : Place). x.index) e }

onward : (ps : List Piece) (t : Place) → Uncut ps → t.index + records_in (length (input ps)) < 2 ^ 64 → turns t ps ≡ beyond t (input ps)
unfolding lines_of receiver_after
onward [] t none l = rw (append-nil, add-zero)
onward (p ∷ []) t (last h) l = rw (append-nil p.bytes) (turned t p h (rw (append-nil p.bytes) at l))
onward (p ∷ ps) t (more h w u) l =
    let b = both p.bytes (input ps) w in
    let m : t.index + records_in (length p.bytes) + records_in (length (input ps)) < 2 ^ 64 = omega arith in
    ap (λ (x : Place). turns x ps) (turned t p h (omega arith))
    ∙ onward ps (beyond t p.bytes) u m
    ∙ rw (lines-follow p.bytes (input ps) w t.receiver t.index, after-follow p.bytes (input ps) w t.receiver, b, append_assoc, add_assoc)

pub in_pieces : InPieces
in_pieces ps t u l = together (onward ps t u l)

pub replay-in-pieces : ReplayInPieces
replay-in-pieces ps u l = (in_pieces ps start u (omega arith)).printed
