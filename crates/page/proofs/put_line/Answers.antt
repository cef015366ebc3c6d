-- `totals::put_line` meets its contract: the name, the number and the line's end follow each other.
-- Assumes nothing.
use mathlib.Core.List.{[], ◌∷◌, ◌++◌}
use native.Mathlib.Omega.{arith}
use borrow.Author.Tests.{eq-eqb, ne_eqb}
use Rattle.decimal.specs.Decimal.{decimal}
use Rattle.page.specs.Page.{full_text, line_end, name_of, line}
use Rattle.page.proofs.Laid.{laid-three, length_three}
use Rattle.page.proofs.put_line.Goals as goal

pub put_number-last-requires : goal.put_number-last-requires
put_number-last-requires c =
    omega (arith, c.put_name-after.ensures.2 c.requires.0, c.put_name-after.auto.buf)

pub put_text-requires : goal.put_text-requires
put_text-requires c =
    omega (arith, c.put_number-last.ensures.2, c.put_number-last.auto.buf, c.put_name-after.ensures.2 c.requires.0, c.put_name-after.auto.buf)

pub put_text-requires-else-full-eq0 : goal.put_text-requires-else-full-eq0
put_text-requires-else-full-eq0 c =
    omega (arith, c.put_number-last.ensures.2, c.put_number-last.auto.buf, c.put_name-after.ensures.2 c.requires.0, c.put_name-after.auto.buf)

pub returns-then-full-eq0 : goal.returns-then-full-eq0
unfolding line
returns-then-full-eq0 c =
    let a = c.args in
    let f = c.put_name-after.ensures in
    let g = c.put_number-last.ensures in
    let h = c.put_text.ensures in
    let w = f.2 c.requires.0 in
    let l = length_three (name_of a.place) (decimal a.sum) (line_end ∷ []) in
    rw (eq-eqb a.full 0 c.if-full-eq0.true) (
      omega (arith, l, f.0, g.0, h.0),
      laid-three a.buf.now a.at (name_of a.place) (decimal a.sum) (line_end ∷ []) (omega (arith, f.0, g.0, g.2, w)) f.0 g.0 f.1 g.1 h.1,
      omega (arith, g.2, h.0, w),
    )

pub returns-else-full-eq0 : goal.returns-else-full-eq0
unfolding line
returns-else-full-eq0 c =
    let a = c.args in
    let f = c.put_name-after.ensures in
    let g = c.put_number-last.ensures in
    let h = c.put_text-else-full-eq0.ensures in
    let w = f.2 c.requires.0 in
    let l = length_three (name_of a.place) (decimal a.sum) (full_text ++ (line_end ∷ [])) in
    rw (ne_eqb a.full 0 c.if-full-eq0.false) (
      omega (arith, l, f.0, g.0, h.0),
      laid-three a.buf.now a.at (name_of a.place) (decimal a.sum) (full_text ++ (line_end ∷ [])) (omega (arith, f.0, g.0, g.2, w)) f.0 g.0 f.1 g.1 h.1,
      omega (arith, g.2, h.0, w),
    )
