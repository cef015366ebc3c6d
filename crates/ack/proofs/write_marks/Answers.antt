-- `ack::write_marks` meets its contract: the frame that `put_body` and `put_counts` make of what is reported, or 9.
-- Assumes nothing.
use Prim.Native.Nat.{ℕ, ◌+◌, ◌-◌, ◌/◌, ◌≤◌}
use mathlib.Core.Path.{◌≡◌, refl, ap, ◌∙◌}
use mathlib.Core.Bool.{true}
use mathlib.Core.List.{List}
use native.Mathlib.Omega.{arith}
use borrow.Author.Rules.{rules}
use mir.Val.{Fits}
use mir.Syntax.{w64}
use lib.ListN.{length, get_or}
use Rattle.std.specs.Prelude.{None}
use Rattle.wire.specs.Bytes.{splice}
use Rattle.wire.specs.Numbers.{limit, width_of}
use Rattle.window.specs.Window.{value_of, run_below}
use Rattle.window.proofs.Sixteen.{Sixteen}
use Rattle.frames.specs.Ack.{type_of}
use Rattle.seen.specs.declared.Seen.{Seen}
use Rattle.seen.specs.Received.{seen_consistent, reported}
use Rattle.ack.specs.Ack.{frame, body, ranges_kept}
use Rattle.ack.specs.Walk.{marks_from}
use Rattle.ack.proofs.Ranges.{Begun, begun, first-is}
use Rattle.ack.proofs.Reporting.{bottom, place-left, floor-below, begun-reported, consistent-reported}
use Rattle.ack.proofs.Lent.{from-consistent, from_first, from-body}
use Rattle.ack.proofs.Fitting.{first-size}
use Rattle.ack.proofs.Framing.{first-is-room, first-kept, none_kept}
use Rattle.ack.proofs.Written.{small-delay, wrote_none, body-fits, wrote-frame}
use Rattle.ack.proofs.write_marks.Goals as goal
use Rattle.ack.proofs.write_marks.Goals.{After-first_size-first}

own : (c : After-first_size-first) → Sixteen c.args.seen.window.words
own c = record { long = search rules; words = λ i. let f : Fits w64 (get_or c.args.seen.window.words i 0) = search rules in f.fits }

-- what is reported is consistent
whole : (c : After-first_size-first) → seen_consistent (reported c.args.seen) ≡ true
whole c = consistent-reported c.args.seen c.requires.0 c.requires.1

some : (c : After-first_size-first) → Begun (reported c.args.seen)
some c = begun-reported c.args.seen c.requires.0 c.requires.1

small : (c : After-first_size-first) → c.minus_or_zero-delay.result / 8 ≤ limit
small c = let a = c.args in small-delay (reported a.seen) a.time a.tail a.buf.now (whole c) c.requires.2 c.requires.1 c.minus_or_zero-delay.ensures

from-floor : (c : After-first_size-first) → c.minus_or_zero-least.result ≡ bottom c.args.seen
from-floor c =
    let f = floor-below c.args.seen c.requires.0 c.requires.1 in
    place-left c.floor.ensures (omega (arith, f)) c.minus_or_zero-least.ensures

abbrev marks : After-first_size-first → Seen
marks c = marks_from c.args.seen.window.words c.args.seen.end c.minus_or_zero-least.result

consistent : (c : After-first_size-first) → seen_consistent (marks c) ≡ true
consistent c = from-consistent c.args.seen (own c) (from-floor c) c.requires.0 c.requires.1

firsts : (c : After-first_size-first)
    → (c.first_size-first.result ≡ run_below true 1024 (value_of (marks c).window)) × (c.first_size-first.result ≡ run_below true 1024 (value_of (reported c.args.seen).window))
firsts c = from_first c.args.seen (own c) (from-floor c) c.first_size-first.ensures

-- the room of the first range alone, by the lent words and by the record
rooms : (c : After-first_size-first) {m : ℕ}
    → m ≡ 2 + width_of (c.args.seen.end - 1) + width_of (c.minus_or_zero-delay.result / 8) + width_of (c.first_size-first.result - 1)
    → (m ≡ length (frame (marks c) None (c.minus_or_zero-delay.result / 8) 1)) × (m ≡ length (frame (reported c.args.seen) None (c.minus_or_zero-delay.result / 8) 1))
rooms c e =
    let b = begun (marks c) (consistent c) c.requires.1 in (
      e ∙ first-is-room b (small c) (first-is b _ (firsts c).0) refl refl refl,
      e ∙ first-is-room (some c) (small c) (first-is (some c) _ (firsts c).1) refl refl refl,
    )

-- the body, by the record
abbrev written : After-first_size-first → ℕ → List ℕ
written c room = body (reported c.args.seen) (type_of c.args.tail) (c.minus_or_zero-delay.result / 8) (ranges_kept (reported c.args.seen) None (c.minus_or_zero-delay.result / 8) room)

bodied : (c : After-first_size-first) (room : ℕ) {end : ℕ} {ys : List ℕ}
    → end ≡ length (body (marks c) (type_of c.args.tail) (c.minus_or_zero-delay.result / 8) (ranges_kept (marks c) None (c.minus_or_zero-delay.result / 8) room))
    → ys ≡ splice c.args.buf.now 0 (body (marks c) (type_of c.args.tail) (c.minus_or_zero-delay.result / 8) (ranges_kept (marks c) None (c.minus_or_zero-delay.result / 8) room))
    → (end ≡ length (written c room)) × (ys ≡ splice c.args.buf.now 0 (written c room))
bodied c room h k =
    let e = from-body c.args.seen (own c) (from-floor c) (type_of c.args.tail) (c.minus_or_zero-delay.result / 8) room in
    (h ∙ ap length e, k ∙ ap (splice c.args.buf.now 0) e)

kept : (c : After-first_size-first) (room : ℕ) {m : ℕ}
    → m ≡ 2 + width_of (c.args.seen.end - 1) + width_of (c.minus_or_zero-delay.result / 8) + width_of (c.first_size-first.result - 1) → m ≤ room
    → ranges_kept (reported c.args.seen) None (c.minus_or_zero-delay.result / 8) room ≡ 0 → ⊥
kept c room e l = first-kept (some c) (small c) (omega (arith, l, (rooms c e).1))

pub overflow_sub-seen : goal.overflow_sub-seen
overflow_sub-seen c = omega (arith, c.floor.ensures, floor-below c.args.seen c.requires.0 c.requires.1)

pub first_size-first-requires : goal.first_size-first-requires
first_size-first-requires c =
    let f = floor-below c.args.seen c.requires.0 c.requires.1 in
    omega (arith, c.floor.ensures, c.minus_or_zero-least.ensures, f)

pub room_before-room-requires : goal.room_before-room-requires
room_before-room-requires c = c.requires.3

pub overflow_sub-seen-2 : goal.overflow_sub-seen-2
overflow_sub-seen-2 c = omega (arith, c.requires.1)

pub first_room-requires : goal.first_room-requires
first_room-requires c =
    let f = (goal.at.first_room-requires c).After-first_size-first in
    omega (arith, first-size (some f), first-is (some f) _ (firsts f).1)

pub returns-then-room-first_room : goal.returns-then-room-first_room
returns-then-room-first_room c =
    let f = (goal.at.returns-then-room-first_room c).After-first_size-first in
    let a = c.args in
    let w = wrote_none (reported a.seen) a.time a.tail a.buf.now (whole f) c.requires.2 c.requires.1 c.minus_or_zero-delay.ensures c.room_before-room.ensures
    (none_kept (some f) (small f) (omega (arith, c.if-room-first_room.true, (rooms f c.first_room.ensures).1))) refl in
    w

pub put_body-end-requires : goal.put_body-end-requires
put_body-end-requires c =
    let f = (goal.at.put_body-end-requires c).After-first_size-first in
    (consistent f, c.requires.1, small f, omega (arith, c.room_before-room.ensures), (firsts f).0, omega (arith, c.if-room-first_room.false, (rooms f c.first_room.ensures).0))

pub put_counts-requires : goal.put_counts-requires
put_counts-requires c =
    let f = (goal.at.put_counts-requires c).After-first_size-first in
    let a = c.args in
    let k = kept f c.room_before-room.result c.first_room.ensures c.if-room-first_room.false in
    let b = body-fits (reported a.seen) a.time a.tail a.buf.now (whole f) c.requires.2 c.requires.1 c.minus_or_zero-delay.ensures c.room_before-room.ensures refl k in
    let l : length c.put_body-end.new.buf ≡ length a.buf.now = c.put_body-end.auto.buf in
    (c.requires.3, omega (arith, b, l, (bodied f c.room_before-room.result c.put_body-end.ensures.0 c.put_body-end.ensures.1).0))

pub returns : goal.returns
returns c =
    let f = (goal.at.returns c).After-first_size-first in
    let a = c.args in
    let k = kept f c.room_before-room.result c.first_room.ensures c.if-room-first_room.false in
    let b = bodied f c.room_before-room.result c.put_body-end.ensures.0 c.put_body-end.ensures.1 in
    wrote-frame (reported a.seen) a.time a.tail a.buf.now (whole f) c.requires.2 c.requires.1 c.minus_or_zero-delay.ensures c.room_before-room.ensures refl k b.0 b.1 c.put_counts.ensures.0 c.put_counts.ensures.1
