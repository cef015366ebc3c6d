-- Whether frame and line have room: what fits is laid, and what does not leaves the buffers as they were.
-- Assumes nothing.
use Prim.Native.Nat.{ℕ, ◌+◌, ◌≤◌, ◌<◌}
use mathlib.Core.Path.{◌≡◌, refl, sym, ap, ◌∙◌}
use mathlib.Core.Bool.{Bool, true, false}
use mathlib.Core.List.{List, []}
use native.Mathlib.Omega.{arith}
use borrow.Author.Tests.{le-leb, lt-leb}
use lib.Dec.{leb}
use lib.ListN.{length, take, drop}
use lib.Seq.{take-append_seam}
use Rattle.wire.specs.Bytes.{pick, splice}
use Rattle.seen.specs.declared.Micros.{Micros}
use Rattle.receiver.specs.declared.Receiver.{Receiver}
use Rattle.receiver.specs.declared.Verdict.{Verdict}
use Rattle.receiver.specs.declared.Verdict.TheVariants.{Refused}
use Rattle.call_log.specs.declared.Call.{Call}
use Rattle.call_log.specs.declared.Now.{Now}
use Rattle.call_log.specs.declared.Noted.{Noted}
use Rattle.call_log.specs.Calls.{step, frame_of}
use Rattle.call_log.specs.Line.{time_text, line_text, now_of, line_of}
use Rattle.call_log.specs.Laid.{Laid}
use Rattle.call_log.specs.Logged.{made, fitted, laid_if, is_one, has_room, without_line, logged_answer, frame_after, line_after}

-- ---- a text and its buffer

abbrev Fitted : List ℕ → List ℕ → ℕ → List ℕ → Type 0
Fitted line text end ys = (end ≡ fitted (length line) text) × (ys ≡ laid_if line text)

pub fits : (line text ys : List ℕ) (end : ℕ) → Laid line 0 text ys end → Fitted line text end ys
fits line text ys end h =
    let l : length text ≤ length line = omega (arith, h.place, h.fits) in
    rw (le-leb (length text) (length line) l) (omega (arith, h.place), h.buffer)

pub fits_not : (line text own ys : List ℕ) (end : ℕ) → Laid own 0 text ys end → length line < end → Fitted line text 0 line
fits_not line text own ys end h l =
    let m : length line < length text = omega (arith, h.place) in
    rw (lt-leb (length text) (length line) m) (refl, refl)

pub fits-copied : (line text own ys zs : List ℕ) (end last : ℕ) → Laid own 0 text ys end → Laid line 0 (take end ys) zs last → Fitted line text last zs
fits-copied line text own ys zs end last h g =
    let n : end ≡ length text = omega (arith, h.place) in
    let t : take end ys ≡ text = rw (h.buffer, n) (take-append_seam text (drop (0 + length text) own)) in
    let k : Laid line 0 text zs last = rw t at g in
    fits line text zs last k

-- ---- the logged call

abbrev Comes : Receiver → Micros → Call → List ℕ → List ℕ → Noted → List ℕ → List ℕ → Type 0
Comes r time call frame line answer ys zs =
    (answer ≡ logged_answer r time call (length frame) (length line)) × (ys ≡ frame_after r time call frame line) × (zs ≡ line_after r time call frame line)

line-some : (time : Micros) (call : Call) (verdict : Verdict) (frame : List ℕ) (now : Now) → 0 < length (line_text time call verdict frame now [])
unfolding time_text
line-some time call verdict frame now = omega arith

module _ (r : Receiver) (time : Micros) (call : Call) (frame line : List ℕ) (m : Noted) (one : Bool) (e : m ≡ made (step r time call) (length (frame_of r time call)))
    (o : one ≡ is_one m.verdict) where
  is_one_lem : one ≡ is_one (step r time call).verdict
  is_one_lem = o ∙ ap (λ (x : Noted). is_one x.verdict) e

  frame-length : m.frame ≡ length (frame_of r time call)
  frame-length = ap (λ (x : Noted). x.frame) e

  pub without-one : one ≡ true → (answer : Noted) → answer ≡ record { verdict = Refused 1; next = r; frame = 0; line = 0 } → Comes r time call frame line answer frame line
  unfolding logged_answer frame_after line_after without_line
  without-one t answer a = let y : is_one (step r time call).verdict ≡ true = sym is_one_lem ∙ t in rw (y, a) (refl, refl, refl)

  without-room : one ≡ false → has_room r time call (length frame) (length line) ≡ false → (answer : Noted) → answer ≡ record { verdict = Refused 9; next = r; frame = 0; line = 0 }
      → Comes r time call frame line answer frame line
  unfolding logged_answer frame_after line_after without_line
  without-room t h answer a = let y : is_one (step r time call).verdict ≡ false = sym is_one_lem ∙ t in rw (y, h, a) (refl, refl, refl)

  pub without-frame : one ≡ false → length frame < m.frame → (answer : Noted) → answer ≡ record { verdict = Refused 9; next = r; frame = 0; line = 0 }
      → Comes r time call frame line answer frame line
  unfolding has_room
  without-frame t l answer a =
      let n : length frame < length (frame_of r time call) = omega (arith, frame-length) in
      without-room t (rw (lt-leb (length (frame_of r time call)) (length frame) n)) answer a

  module _ (t : one ≡ false) (k : m.frame ≤ length frame) (own : List ℕ) (f : take m.frame own ≡ frame_of r time call) (now : Now) (v : now ≡ now_of m.next) (end : ℕ) (zs : List ℕ)
      (w : Fitted line (line_text time call m.verdict (take m.frame own) now []) end zs) where
    abbrev text : List ℕ
    text = line_of r time call []

    same : line_text time call m.verdict (take m.frame own) now [] ≡ text
    unfolding line_of
    same = rw (f, v, e)

    fitted-so : Fitted line text end zs
    fitted-so = rw same at w

    frame-fits : leb (length (frame_of r time call)) (length frame) ≡ true
    frame-fits = le-leb (length (frame_of r time call)) (length frame) (omega (arith, frame-length))

    text-some : 0 < length text
    unfolding line_of
    text-some = line-some time call (step r time call).verdict (frame_of r time call) (now_of (step r time call).next)

    with-room : leb (length text) (length line) ≡ true → has_room r time call (length frame) (length line) ≡ true
    unfolding has_room
    with-room x = rw (frame-fits, x)

    without-text-room : leb (length text) (length line) ≡ false → has_room r time call (length frame) (length line) ≡ false
    unfolding has_room
    without-text-room x = rw (frame-fits, x)

    stored : leb (length text) (length line) ≡ true → end ≡ length text → zs ≡ splice line 0 text → (ys : List ℕ) → ys ≡ splice frame 0 (take m.frame own)
        → Comes r time call frame line (record { verdict = m.verdict; next = m.next; frame = m.frame; line = end }) ys zs
    unfolding logged_answer frame_after line_after without_line
    stored x p q ys s =
        let y : is_one (step r time call).verdict ≡ false = sym is_one_lem ∙ t in
        let h = with-room x in
        rw (y, h, p, q, s, f, e) (refl, refl, refl)

    pub without-text : end ≡ 0 → (answer : Noted) → answer ≡ record { verdict = Refused 9; next = r; frame = 0; line = 0 } → Comes r time call frame line answer frame zs
    without-text z answer a = go (leb (length text) (length line)) refl fitted-so.0 fitted-so.1
      where
        go : (b : Bool) → leb (length text) (length line) ≡ b → end ≡ pick b (length text) 0 → zs ≡ pick b (splice line 0 text) line → Comes r time call frame line answer frame zs
        go true x p q = absurd (omega (arith, text-some))
        go false x p q = rw q (without-room t (without-text-room x) answer a)

    pub with-text : (end ≡ 0 → ⊥) → (ys : List ℕ) → ys ≡ splice frame 0 (take m.frame own)
        → Comes r time call frame line (record { verdict = m.verdict; next = m.next; frame = m.frame; line = end }) ys zs
    with-text z ys s = go (leb (length text) (length line)) refl fitted-so.0 fitted-so.1
      where
        go : (b : Bool) → leb (length text) (length line) ≡ b → end ≡ pick b (length text) 0 → zs ≡ pick b (splice line 0 text) line
            → Comes r time call frame line (record { verdict = m.verdict; next = m.next; frame = m.frame; line = end }) ys zs
        go true x p q = stored x p q ys s
        go false x p q = absurd (z p)
