-- The records of a piece one after the other: what is known after i of them, and how it goes on.
-- Assumes nothing.
use Prim.Native.Nat.{ℕ, suc, ◌+◌, ◌-◌, ◌*◌, ◌^◌, ◌≤◌, ◌<◌}
use mathlib.Core.Path.{◌≡◌, refl, sym, ap, ◌∙◌}
use mathlib.Core.List.{List, ◌++◌}
use native.Mathlib.Nat.{add-zero, add_assoc}
use native.Mathlib.Omega.{arith}
use lib.ListN.{length, take, drop, length-append, length-drop, take-append-drop}
use lib.Seq.{drop-drop, take_all}
use Rattle.std.specs.Prelude.{Result, Ok}
use Rattle.wire.specs.Bytes.{splice}
use Rattle.wire.specs.Fields.{placed, written}
use Rattle.wire.specs.declared.Refusal.{Refusal}
use Rattle.wire.proofs.Bytes.{splice-splice}
use Rattle.wire.proofs.Writing.{placed-yes}
use Rattle.receiver.specs.declared.Receiver.{Receiver}
use Rattle.receiver.specs.declared.Answer.{Answer}
use Rattle.events.specs.Events.{record_call}
use Rattle.events.specs.Lines.{line_of}
use Rattle.events.specs.Replay.{lines_of, receiver_after, count_of, played, played_bytes}

-- ---- a line for which there is room

module _ (index : ℕ) (a : Answer) (xs : List ℕ) (at : ℕ) (l : length (line_of index a) ≤ 63) (h : at + 63 ≤ length xs) where
  pub laid_done : {p : Result ℕ Refusal} → p ≡ placed xs at (line_of index a) → p ≡ Ok (at + length (line_of index a))
  laid_done e = e ∙ sym (placed-yes xs at (line_of index a) (omega arith)).0

  pub laid-bytes : {ys : List ℕ} → ys ≡ written xs at (line_of index a) → ys ≡ splice xs at (line_of index a)
  laid-bytes e = e ∙ sym (placed-yes xs at (line_of index a) (omega arith)).1

-- ---- one record more

module _ (s : List ℕ) (r : Receiver) (index count i : ℕ) (h : i < count) where
  -- what stands behind record i
  behind : drop 24 (drop (24 * i) s) ≡ drop (24 * (i + 1)) s
  behind = let e : 24 * i + 24 ≡ 24 * (i + 1) = omega arith in drop-drop 24 (24 * i) s ∙ ap (λ (n : ℕ). drop n s) e

  left : count - i ≡ suc (count - (i + 1))
  left = omega arith

  lines_next : lines_of (count - i) (drop (24 * i) s) r (index + i)
      ≡ line_of (index + i) (record_call (drop (24 * i) s) r) ++ lines_of (count - (i + 1)) (drop (24 * (i + 1)) s) (record_call (drop (24 * i) s) r).next (index + (i + 1))
  unfolding lines_of
  lines_next = rw (left, behind, add_assoc index i 1)

  after_next : receiver_after (count - i) (drop (24 * i) s) r ≡ receiver_after (count - (i + 1)) (drop (24 * (i + 1)) s) (record_call (drop (24 * i) s) r).next
  unfolding receiver_after
  after_next = rw (left, ← behind)

-- after i of count records of s: ys is the buffer xs with their lines, which end at at, and q is the receiver
pub record Playing (s : List ℕ) (r : Receiver) (index count : ℕ) (xs ys : List ℕ) (q : Receiver) (at i : ℕ) : Type 0 where
  pub within : i ≤ count
  pub room : at ≤ 63 * i
  pub long : length ys ≡ length xs
  pub next : receiver_after (count - i) (drop (24 * i) s) q ≡ receiver_after count s r
  pub used : at + length (lines_of (count - i) (drop (24 * i) s) q (index + i)) ≡ length (lines_of count s r index)
  pub bytes : splice ys at (lines_of (count - i) (drop (24 * i) s) q (index + i)) ≡ splice xs 0 (lines_of count s r index)

module _ (s : List ℕ) (r : Receiver) (index count : ℕ) (xs : List ℕ) where
  pub begun : Playing s r index count xs xs r 0 0
  begun =
      let e : count - 0 ≡ count = omega arith in
      record {
        within = omega arith;
        room = omega arith;
        long = refl;
        next = rw e;
        used = rw (e, add-zero) (omega arith);
        bytes = rw (e, add-zero);
      }

  module _ {ys : List ℕ} {q : Receiver} {at i : ℕ} (p : Playing s r index count xs ys q at i) where
    onward : {zs : List ℕ} {t : Receiver} {to : ℕ} → i < count → at + 63 ≤ length ys → length zs ≡ length ys → to ≤ at + 63
        → t ≡ (record_call (drop (24 * i) s) q).next
        → to ≡ at + length (line_of (index + i) (record_call (drop (24 * i) s) q))
        → zs ≡ splice ys at (line_of (index + i) (record_call (drop (24 * i) s) q))
        → Playing s r index count xs zs t to (i + 1)
    onward {zs} {t} {to} h l k m e f g =
        let a : Answer = record_call (drop (24 * i) s) q in
        let n = lines_next s q index count i h in
        record {
          within = omega arith;
          room = omega (arith, p.room);
          long = k ∙ p.long;
          next = rw e (sym (after_next s q index count i h) ∙ p.next);
          used = rw (e, f) (omega (arith, p.used, ap length n, length-append (line_of (index + i) a) (lines_of (count - (i + 1)) (drop (24 * (i + 1)) s) a.next (index + (i + 1)))));
          bytes = rw (e, f, g) (splice-splice ys (line_of (index + i) a) (lines_of (count - (i + 1)) (drop (24 * (i + 1)) s) a.next (index + (i + 1))) at (omega arith) ∙ ap (splice ys at) (sym n) ∙ p.bytes);
        }

    -- the code lends what is left of s
    pub more : {zs : List ℕ} {t : Receiver} {to : ℕ} → i < count → at + 63 ≤ length ys → length zs ≡ length ys → to ≤ at + 63
        → t ≡ (record_call (take (length s - 24 * i) (drop (24 * i) s)) q).next
        → to ≡ at + length (line_of (index + i) (record_call (take (length s - 24 * i) (drop (24 * i) s)) q))
        → zs ≡ splice ys at (line_of (index + i) (record_call (take (length s - 24 * i) (drop (24 * i) s)) q))
        → Playing s r index count xs zs t to (i + 1)
    more h l k m e f g =
        let d : length (drop (24 * i) s) ≤ length s - 24 * i = simp length-drop (omega arith) in
        let w : take (length s - 24 * i) (drop (24 * i) s) ≡ drop (24 * i) s = take_all (length s - 24 * i) (drop (24 * i) s) d in
        onward h l k m (rw w at e) (rw w at f) (rw w at g)

    -- none is left
    module _ (h : count ≤ i) where
      ended-next : q ≡ receiver_after count s r
      unfolding receiver_after
      ended-next = let e : count - i ≡ 0 = omega arith in rw e at p.next

      ended-used : at ≡ length (lines_of count s r index)
      unfolding lines_of
      ended-used = let e : count - i ≡ 0 = omega arith in let f = rw e at p.used in omega arith

      ended-bytes : ys ≡ splice xs 0 (lines_of count s r index)
      unfolding lines_of
      ended-bytes = let e : count - i ≡ 0 = omega arith in sym (take-append-drop at ys) ∙ rw (e, add-zero) at p.bytes

      pub ended : count ≡ count_of (length s) index (length xs)
          → (record { count = count; length = at; next = q } ≡ played s r index (length xs)) × (ys ≡ played_bytes s r index xs)
      unfolding played played_bytes
      ended e = (rw (ended-used, ended-next, e), rw (← e) ended-bytes)

    -- what was written lies within the buffer
    pub inside : count ≡ count_of (length s) index (length xs) → at ≤ length xs
    inside e = omega (arith, p.room, p.within)

-- ---- how many records there are

module _ (bytes index room count i : ℕ) (e : count ≡ count_of bytes index room) (h : i < count) where
  pub has-bytes : 24 * i < bytes
  has-bytes = omega arith

  pub has_room : 63 * i + 63 ≤ room
  has_room = omega arith

  pub has-index : index + i < 2 ^ 64
  has-index = omega arith
