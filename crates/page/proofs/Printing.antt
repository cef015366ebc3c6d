-- The lines of the places one after the other: what is known after i of them, and how it goes on.
-- Assumes nothing.
use Prim.Native.Nat.{ℕ, suc, ◌+◌, ◌-◌, ◌*◌, ◌≤◌, ◌<◌}
use mathlib.Core.Path.{◌≡◌, refl, sym, ap, ◌∙◌}
use mathlib.Core.Bool.{Bool, true, false}
use mathlib.Core.List.{List, [], ◌++◌}
use native.Mathlib.Nat.{add-zero}
use native.Mathlib.Omega.{arith}
use borrow.Author.Tests.{eq-eqb, ne_eqb, leb-true}
use lib.Dec.{leb}
use lib.ListN.{length, get_or, take, drop, length-append, take-append-drop}
use lib.Seq.{take_at}
use Rattle.std.specs.Prelude.{Result, Ok, Err}
use Rattle.wire.specs.Bytes.{pick, splice}
use Rattle.wire.specs.Fields.{placed}
use Rattle.wire.specs.declared.Refusal.{Refusal}
use Rattle.wire.specs.declared.Refusal.TheVariants.{NoRoom}
use Rattle.wire.proofs.Bytes.{splice-splice}
use Rattle.wire.proofs.Writing.{placed-no, placed-yes}
use Rattle.totals.specs.declared.Totals.{Totals}
use Rattle.totals.specs.declared.Standing.{Standing}
use Rattle.totals.specs.Totals.{places}
use Rattle.page.specs.Page.{line, is_shown, shown, lines_from, lines, early, printed, longest_line, longest_page, page_placed, page_written}

module _ (t : Totals) (i : ℕ) where
  lines_next : i < places → lines_from (places - i) i t ≡ shown t i ++ lines_from (places - (i + 1)) (i + 1) t
  unfolding lines_from
  lines_next h = let e : places - i ≡ suc (places - (i + 1)) = omega arith in rw e

  pub shown-line : is_shown i (get_or t.sums i 0) ≡ true → shown t i ≡ line i (get_or t.sums i 0) (get_or t.full i 0)
  unfolding shown
  shown-line e = rw e

  shown-none : is_shown i (get_or t.sums i 0) ≡ false → shown t i ≡ []
  unfolding shown
  shown-none e = rw e

-- after i places: ys is the buffer xs with their lines, which end at at
pub record Printing (t : Totals) (xs ys : List ℕ) (at i : ℕ) : Type 0 where
  pub within : i ≤ places
  pub room : at ≤ longest_line * i
  pub long : length ys ≡ length xs
  pub used : at + length (lines_from (places - i) i t) ≡ length (lines t)
  pub bytes : splice ys at (lines_from (places - i) i t) ≡ splice xs 0 (lines t)

module _ (t : Totals) (xs : List ℕ) where
  pub begun : Printing t xs xs 0 0
  begun = record { within = omega arith; room = omega arith; long = refl; used = omega arith; bytes = refl }

  module _ {ys : List ℕ} {at i : ℕ} (p : Printing t xs ys at i) (h : i < places) where
    -- a place that is not shown
    pub passed : is_shown i (get_or t.sums i 0) ≡ false → Printing t xs ys at (i + 1)
    passed e =
        let n = lines_next t i h in
        let f = shown-none t i e in
        record {
          within = omega arith;
          room = omega (arith, p.room);
          long = p.long;
          used = rw (n, f) at p.used;
          bytes = rw (n, f) at p.bytes;
        }

    -- a line, which ends at to and leaves the buffer as zs
    pub written_on : {zs : List ℕ} {to : ℕ} → is_shown i (get_or t.sums i 0) ≡ true → at + longest_line ≤ length ys → length zs ≡ length ys → to ≤ at + longest_line
        → to ≡ at + length (line i (get_or t.sums i 0) (get_or t.full i 0))
        → zs ≡ splice ys at (line i (get_or t.sums i 0) (get_or t.full i 0))
        → Printing t xs zs to (i + 1)
    written_on {zs} {to} e l k m f g =
        let s = line i (get_or t.sums i 0) (get_or t.full i 0) in
        let rest = lines_from (places - (i + 1)) (i + 1) t in
        let n : lines_from (places - i) i t ≡ s ++ rest = lines_next t i h ∙ rw (shown-line t i e) in
        record {
          within = omega arith;
          room = omega (arith, p.room);
          long = k ∙ p.long;
          used = omega (arith, p.used, ap length n, length-append s rest);
          bytes = rw (f, g) (splice-splice ys s rest at (omega arith) ∙ ap (splice ys at) (sym n) ∙ p.bytes);
        }

  -- no place is left
  module _ {ys : List ℕ} {at i : ℕ} (p : Printing t xs ys at i) (h : places ≤ i) where
    ended-lines : lines_from (places - i) i t ≡ []
    unfolding lines_from
    ended-lines = let e : places - i ≡ 0 = omega (arith, p.within) in rw e

    pub ended-used : at ≡ length (lines t)
    ended-used = let f = rw ended-lines at p.used in omega arith

    pub ended-bytes : ys ≡ splice xs 0 (lines t)
    ended-bytes = sym (take-append-drop at ys) ∙ rw (ended-lines, add-zero) at p.bytes

    pub ended-room : at ≤ longest_page
    ended-room = omega (arith, p.room, p.within)

-- ---- the page

-- what was laid out at the start of a buffer is its first bytes
pub laid_out : (us xs ys : List ℕ) (n : ℕ) → n ≡ length us → ys ≡ splice xs 0 us → take n ys ≡ us
laid_out us xs ys n e f = rw f (take_at us (drop (0 + length us) xs) n (sym e))

module _ (st : Standing) (left : ℕ) where
  pub printed-skipping : (st.skip ≡ 0 → ⊥) → printed st left ≡ early
  unfolding printed
  printed-skipping h = rw (ne_eqb (st.skip + left) 0 (λ e. h (omega arith)))

  pub printed-left : (left ≡ 0 → ⊥) → printed st left ≡ early
  unfolding printed
  printed-left h = rw (ne_eqb (st.skip + left) 0 (λ e. h (omega arith)))

  pub printed-whole : st.skip ≡ 0 → left ≡ 0 → printed st left ≡ lines st.totals
  unfolding printed
  printed-whole e f = rw (eq-eqb (st.skip + left) 0 (omega arith))

  module _ (xs : List ℕ) where
    pub page-no : length xs < length (printed st left) → (Err NoRoom ≡ page_placed st left xs) × (xs ≡ page_written st left xs)
    page-no h = placed-no xs 0 (printed st left) (omega arith)

    -- us is the page, and ys the buffer with it
    pub page-yes : (us : List ℕ) {ys : List ℕ} {next : ℕ} → us ≡ printed st left → length us ≤ length xs
        → next ≡ 0 + length us → ys ≡ splice xs 0 us → (Ok next ≡ page_placed st left xs) × (ys ≡ page_written st left xs)
    page-yes us e h n g =
        let y = placed-yes xs 0 us (omega arith) in
        (rw (n, sym e) y.0, rw (g, sym e) y.1)

    -- the page lies within the buffer
    pub page-within : {r : Result ℕ Refusal} {n : ℕ} → r ≡ page_placed st left xs → r ≡ Ok n → n ≤ length xs
    unfolding placed
    page-within {r} {n} e t = go (leb (0 + length us) (length xs)) refl (sym e ∙ t)
      where
        us : List ℕ
        us = printed st left

        go : (b : Bool) → leb (0 + length us) (length xs) ≡ b → pick b (Ok (0 + length us)) (Err NoRoom) ≡ Ok n → n ≤ length xs
        go true l q = let f : 0 + length us ≡ n = cc in omega (arith, leb-true (0 + length us) (length xs) l)
        go false l q = let z : ◌≡◌ {A = ℕ} 0 1 = cc in absurd (omega arith)
