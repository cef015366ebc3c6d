-- No page is longer than the longest: a name has at most 21 bytes, a word's digits are at most 20, and a line ends in at most 6.
-- Assumes nothing.
use Prim.Native.Nat.{ℕ, zero, suc, ◌+◌, ◌*◌, ◌^◌, ◌≤◌, ◌<◌}
use mathlib.Core.Path.{◌≡◌, sym, ap, ◌∙◌}
use mathlib.Core.Bool.{Bool, true, false}
use mathlib.Core.List.{List, [], ◌∷◌, ◌++◌}
use native.Mathlib.Omega.{arith}
use lib.Dec.{eqb}
use lib.ListN.{length, get_or, length-append}
use Rattle.wire.specs.Bytes.{pick, splice}
use Rattle.std.specs.Prelude.{Ok}
use Rattle.wire.proofs.Writing.{placed-yes}
use Rattle.decimal.specs.Decimal.{decimal}
use Rattle.decimal.proofs.Decimal.{length-decimal, word-places}
use Rattle.totals.specs.declared.Totals.{Totals}
use Rattle.totals.specs.declared.Standing.{Standing}
use Rattle.totals.specs.Totals.{places, at_total, at_received, at_late, at_lost}
use Rattle.totals.specs.Adding.{Held}
use Rattle.page.specs.Page.{accepted_text, refused_text, total_text, received_text, late_text, lost_text, entries_text, not_text, partial_text, full_text, line_end, name_of, end_of, line, is_shown, shown, lines_from, early, longest_line, longest_page, printed, page_placed, page_written, PageFits}
use Rattle.page.proofs.Laid.{length_three, place-digits}

-- at most n bytes
record Short (n : ℕ) (xs : List ℕ) : Type 0 where
  short : length xs ≤ n

-- whichever of two is picked
picked : {n : ℕ} {xs ys : List ℕ} (b : Bool) → Short n xs → Short n ys → Short n (pick b xs ys)
picked true h k = h
picked false h k = k

name-short : (place : ℕ) → place < places → Short 21 (name_of place)
unfolding name_of
name-short place h =
    picked (eqb place 0) (known accepted_text (omega arith))
    (picked (eqb place at_total) (known total_text (omega arith))
    (picked (eqb place at_received) (known received_text (omega arith))
    (picked (eqb place at_late) (known late_text (omega arith))
    (picked (eqb place at_lost) (known lost_text (omega arith))
    (picked (eqb place 25) (known (entries_text ++ received_text) (omega arith))
    (picked (eqb place 26) (known (entries_text ++ late_text) (omega arith))
    (picked (eqb place 27) (known (entries_text ++ (not_text ++ received_text)) (omega arith))
    (picked (eqb place 28) (known (entries_text ++ partial_text) (omega arith))
    (known (refused_text ++ (decimal place ++ (32 ∷ []))) (omega (arith, length_three refused_text (decimal place) (32 ∷ []), place-digits place h)))))))))))
  where
    known : (xs : List ℕ) → length xs ≤ 21 → Short 21 xs
    known xs l = record { short = l }

end_short : (full : ℕ) → Short 6 (end_of full)
end_short full = picked {xs = line_end ∷ []} {ys = full_text ++ (line_end ∷ [])} (eqb full 0) (record { short = omega arith }) (record { short = omega arith })

line-short : (place sum full : ℕ) → place < places → sum < 2 ^ 64 → Short longest_line (line place sum full)
unfolding line
line-short place sum full h w =
    record {
      short =
          omega
          (arith, length_three (name_of place) (decimal sum) (end_of full), (name-short place h).short, length-decimal sum, word-places sum w, (end_short full).short);
    }

module _ (t : Totals) (held : Held t) where
  shown-short : (place : ℕ) → place < places → Short longest_line (shown t place)
  unfolding shown
  shown-short place h = picked {ys = []} (is_shown place (get_or t.sums place 0)) (line-short place (get_or t.sums place 0) _ h (omega (arith, held.words place h))) (record { short = omega arith })

  lines-short : (n i : ℕ) → i + n ≤ places → Short (longest_line * n) (lines_from n i t)
  unfolding lines_from
  lines-short zero i h = record { short = omega arith }
  lines-short (suc n) i h =
      record {
        short = omega (arith, length-append (shown t i) (lines_from n (i + 1) t), (shown-short i (omega arith)).short, (lines-short n (i + 1) (omega arith)).short);
      }

printed-short : (st : Standing) (left : ℕ) → Held st.totals → Short longest_page (printed st left)
unfolding printed
printed-short st left held = picked {ys = early} (eqb (st.skip + left) 0) (lines-short st.totals held places 0 (omega arith)) (record { short = omega arith })

pub page-fits : PageFits
page-fits st left held = (printed-short st left held).short

-- so in that room it is always written
pub page-placed : (st : Standing) (left : ℕ) (xs : List ℕ) → Held st.totals → longest_page ≤ length xs
    → (page_placed st left xs ≡ Ok (length (printed st left))) × (page_written st left xs ≡ splice xs 0 (printed st left)) × (length (printed st left) ≤ length xs)
page-placed st left xs held h =
    let us = printed st left in
    let l : length us ≤ length xs = omega (arith, page-fits st left held) in
    let y = placed-yes xs 0 us (omega arith) in
    let n : 0 + length us ≡ length us = omega arith in
    (sym y.0 ∙ ap Ok n, sym y.1, l)
