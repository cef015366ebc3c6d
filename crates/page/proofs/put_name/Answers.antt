-- `totals::put_name` meets its contract: each arm's text is that of the definition.
-- Assumes nothing.
use mathlib.Core.List.{[], ◌∷◌}
use native.Mathlib.Omega.{arith}
use Rattle.decimal.specs.Decimal.{decimal}
use Rattle.page.specs.Page.{refused_text, name_of}
use Rattle.page.proofs.Laid.{laid-three, length_three, name-refused, place-digits}
use Rattle.page.proofs.put_name.Goals as goal

pub returns-in-0 : goal.returns-in-0
unfolding name_of
returns-in-0 c =
    let e = c.put_text.ensures in
    rw c.in-0.is (e.0, e.1, λ h. omega (arith, e.0))

pub returns-in-21 : goal.returns-in-21
unfolding name_of
returns-in-21 c =
    let e = c.put_text-in-21.ensures in
    rw c.in-21.is (e.0, e.1, λ h. omega (arith, e.0))

pub returns-in-22 : goal.returns-in-22
unfolding name_of
returns-in-22 c =
    let e = c.put_text-in-22.ensures in
    rw c.in-22.is (e.0, e.1, λ h. omega (arith, e.0))

pub returns-in-23 : goal.returns-in-23
unfolding name_of
returns-in-23 c =
    let e = c.put_text-in-23.ensures in
    rw c.in-23.is (e.0, e.1, λ h. omega (arith, e.0))

pub returns-in-24 : goal.returns-in-24
unfolding name_of
returns-in-24 c =
    let e = c.put_text-in-24.ensures in
    rw c.in-24.is (e.0, e.1, λ h. omega (arith, e.0))

pub returns-in-25 : goal.returns-in-25
unfolding name_of
returns-in-25 c =
    let e = c.put_text-in-25.ensures in
    rw c.in-25.is (e.0, e.1, λ h. omega (arith, e.0))

pub returns-in-26 : goal.returns-in-26
unfolding name_of
returns-in-26 c =
    let e = c.put_text-in-26.ensures in
    rw c.in-26.is (e.0, e.1, λ h. omega (arith, e.0))

pub returns-in-27 : goal.returns-in-27
unfolding name_of
returns-in-27 c =
    let e = c.put_text-in-27.ensures in
    rw c.in-27.is (e.0, e.1, λ h. omega (arith, e.0))

pub returns-in-28 : goal.returns-in-28
unfolding name_of
returns-in-28 c =
    let e = c.put_text-in-28.ensures in
    rw c.in-28.is (e.0, e.1, λ h. omega (arith, e.0))

pub returns-in_default : goal.returns-in_default
returns-in_default c =
    let a = c.args in
    let e = name-refused a.place (omega arith) (omega arith) (omega arith) (omega arith) (omega arith) (omega arith) (omega arith) (omega arith) (omega arith) in
    let l = length_three refused_text (decimal a.place) (32 ∷ []) in
    let f = c.put_text-after.ensures in
    let g = c.put_number-last.ensures in
    let h = c.put_text-in_default.ensures in
    rw e (
      omega (arith, l, f.0, g.0, h.0),
      laid-three a.buf.now a.at refused_text (decimal a.place) (32 ∷ []) (omega (arith, g.0, g.2)) f.0 g.0 f.1 g.1 h.1,
      λ w. omega (arith, f.0, g.0, h.0, place-digits a.place w),
    )
