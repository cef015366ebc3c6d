-- What is reported of lent words: the marks from place `least` up. Its frame is that of what was received, whenever L arrived. Assumes nothing.
use Prim.Native.Nat.{ℕ, zero, suc, ◌+◌, ◌-◌, ◌*◌, ◌/◌, ◌≤◌, ◌<◌}
use mathlib.Core.Path.{◌≡◌, refl, sym, ap, ap₂, ◌∙◌, subst}
use mathlib.Core.Bool.{Bool, true, false, ◌&&◌, ◌||◌}
use mathlib.Core.List.{List, ◌∷◌}
use native.Mathlib.Nat.{lt_of_le_of_lt}
use native.Mathlib.Omega.{arith}
use borrow.Author.Tests.{le-leb, ne_eqb}
use lib.Dec.{leb, eqb}
use lib.ListN.{length, take}
use Rattle.std.specs.Prelude.{Option, None}
use Rattle.wire.specs.Numbers.{limit, encode_all}
use Rattle.wire.proofs.Lengths.{split}
use Rattle.window.specs.Words.{words_in}
use Rattle.window.specs.Window.{places, value_of, lent_value, window_of, run_below, cleared_below}
use Rattle.window.proofs.Sixteen.{Sixteen, lent, lent-value, bounded}
use Rattle.window.proofs.Laws.{number-kept}
use Rattle.window.proofs.Cleared.{cleared-le}
use Rattle.frames.specs.declared.Counts.{Counts}
use Rattle.frames.specs.Ack.{range_numbers, ack_numbers}
use Rattle.seen.specs.declared.Seen.{Seen}
use Rattle.seen.specs.Received.{seen_consistent, reported}
use Rattle.ack.specs.Ack.{number_at, ranges_below, frame, body, largest_where, ranges_kept}
use Rattle.ack.specs.Walk.{marks_from}
use Rattle.ack.proofs.Ranges.{Begun, missing, top, size, low, none_left, some_left}
use Rattle.ack.proofs.Reporting.{bottom, begun-reported}
use Rattle.ack.proofs.Least.{gap-all}

module _ (xs : List ℕ) (end least : ℕ) where
  -- its number
  pub from-value : value_of (marks_from xs end least).window ≡ cleared_below least (lent_value xs)
  from-value = number-kept (cleared_below least (lent_value xs)) (lt_of_le_of_lt (cleared-le least (lent_value xs)) (bounded (words_in 16 xs) (lent xs)))

  -- one step down from a place, as the code finds it
  pub ranged : (p m z : ℕ)
      → (m ≡ run_below false p (cleared_below least (lent_value xs))) × (z ≡ run_below true (p - run_below false p (cleared_below least (lent_value xs))) (cleared_below least (lent_value xs)))
      → (m ≡ missing (marks_from xs end least) p) × (z ≡ size (marks_from xs end least) p)
  ranged p m z r = subst (λ (w : ℕ). (m ≡ run_below false p w) × (z ≡ run_below true (p - run_below false p w) w)) (sym from-value) r

  -- below `least` there is no range
  pub nothing-below : (p : ℕ) → p ≤ least → top (marks_from xs end least) p ≡ 0
  nothing-below p l =
      let g = gap-all least (lent_value xs) p (omega arith) in
      omega (arith, ap (run_below false p) from-value, g)

-- ---- what was received, without its arrival and its own floor

abbrev bare : Seen → Seen
bare s = record { window = s.window; end = s.end; arrived = record { 0 = 0 }; confirmed = 0 }

from-reported : (s : Seen) → Sixteen s.window.words → {least : ℕ} → least ≡ bottom s → marks_from s.window.words s.end least ≡ bare (reported s)
from-reported s h {least} e =
    ap₂ {C = Seen} (λ (n w : ℕ). record { window = window_of (cleared_below n w); end = s.end; arrived = record { 0 = 0 }; confirmed = 0 }) e (lent-value s.window.words h)

module _ (s : Seen) where
  same-below : (n p : ℕ) → ranges_below n (bare s) p ≡ ranges_below n s p
  unfolding ranges_below
  same-below zero p = refl
  same-below (suc n) p =
      split (top s p) 0
      (λ h. none_left (bare s) (suc n) p (omega arith) ∙ sym (none_left s (suc n) p (omega arith)))
      (λ h.
      some_left (bare s) n p h ∙ ap (λ (l : List ℕ). number_at s.end (low s p) ∷ number_at s.end (top s p - 1) ∷ l) (same-below n (low s p)) ∙ sym (some_left s n p h))

  same_body : (kind delay k : ℕ) → body (bare s) kind delay k ≡ body s kind delay k
  unfolding body
  same_body kind delay k = ap (λ (l : List ℕ). encode_all (range_numbers kind delay (take (2 * k) l))) (same-below places places)

  same_kept : (tail : Option Counts) (delay room : ℕ) → ranges_kept (bare s) tail delay room ≡ ranges_kept s tail delay room
  unfolding ranges_kept frame
  same_kept tail delay room =
      ap (λ (l : List ℕ). largest_where (λ (k : ℕ). leb (length (encode_all (ack_numbers tail delay (take (2 * k) l)))) room) (length l / 2)) (same-below places places)

-- it is consistent
consistent-bare : {s : Seen} → Begun s → seen_consistent (bare s) ≡ true
unfolding seen_consistent
consistent-bare {s} b =
    let n : eqb s.end 0 ≡ false = ne_eqb s.end 0 (λ z. omega (arith, b.some)) in
    let a : leb s.end (limit + 1) ≡ true = le-leb s.end (limit + 1) b.small in
    let f : leb 0 (s.end - 1) ≡ true = le-leb 0 (s.end - 1) (omega arith) in
    ap₂ (λ (x y : Bool). x && y) (ap₂ (λ (x y : Bool). x && (true && y)) a f)
    (ap₂ (λ (x y : Bool). x && (eqb s.end 0 || y)) b.none b.last ∙ ap (λ (x : Bool). x || true) n)

-- ---- what is reported of a record, by its own words from the place of its floor up

module _ (s : Seen) (h : Sixteen s.window.words) {least : ℕ} (e : least ≡ bottom s) where
  pub from-consistent : seen_consistent s ≡ true → 0 < s.end → seen_consistent (marks_from s.window.words s.end least) ≡ true
  from-consistent y n = ap seen_consistent (from-reported s h e) ∙ consistent-bare (begun-reported s y n)

  pub from_first : {n : ℕ} → n ≡ run_below true 1024 (cleared_below least (lent_value s.window.words))
      → (n ≡ run_below true 1024 (value_of (marks_from s.window.words s.end least).window)) × (n ≡ run_below true 1024 (value_of (reported s).window))
  from_first {n} f =
      let g : n ≡ run_below true 1024 (value_of (marks_from s.window.words s.end least).window) = f ∙ ap (run_below true 1024) (sym (from-value s.window.words s.end least)) in
      (g, g ∙ ap (λ (t : Seen). run_below true 1024 (value_of t.window)) (from-reported s h e))

  pub from-body : (kind delay room : ℕ)
      → body (marks_from s.window.words s.end least) kind delay (ranges_kept (marks_from s.window.words s.end least) None delay room) ≡ body (reported s) kind delay (ranges_kept (reported s) None delay room)
  from-body kind delay room =
      ap (λ (t : Seen). body t kind delay (ranges_kept t None delay room)) (from-reported s h e)
      ∙ ap (body (bare (reported s)) kind delay) (same_kept (reported s) None delay room) ∙ same_body (reported s) kind delay (ranges_kept (reported s) None delay room)
