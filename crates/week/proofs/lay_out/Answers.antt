-- `week::lay_out` meets its contract: there is room for every page.
use Rattle.std.proofs.Common.{rules, ◌≤◌, ◌≡◌, sym, ◌∙◌, arith, w64, Fits, length, get_or}
use lib.Seq.{length-take-le}
use Rattle.page.specs.Page.{printed}
use Rattle.page.proofs.Printing.{laid_out}
use Rattle.page.proofs.Fitting.{page-placed}
use Rattle.totals.specs.Adding.{Held}
use Rattle.week.proofs.lay_out.Goals as goal

pub returns-in_default : goal.returns-in_default
returns-in_default c =
    let p = c.args.place in
    let held : Held p.standing.totals = record { sums-long = search rules; marks-long = search rules; words = λ i h. let f : Fits w64 (get_or p.standing.totals.sums i 0) = search rules in omega (arith, f.fits) } in
    absurd (c.in_default.not-Ok (length (printed p.standing p.left)) (c.put_page.ensures.0 ∙ (page-placed p.standing p.left c.args.output.now held c.requires).0))

pub returns : goal.returns
returns c =
    let p = c.args.place in
    let held : Held p.standing.totals = record { sums-long = search rules; marks-long = search rules; words = λ i h. let f : Fits w64 (get_or p.standing.totals.sums i 0) = search rules in omega (arith, f.fits) } in
    let y = page-placed p.standing p.left c.args.output.now held c.requires in
    let n = c.in-Ok.next in
    let q = sym c.in-Ok.is ∙ c.put_page.ensures.0 ∙ y.0 in
    let e : n ≡ length (printed p.standing p.left) = cc in
    let w : n ≤ length c.put_page.new.buf = omega (arith, e, y.2, c.put_page.auto.buf) in
    let l = laid_out (printed p.standing p.left) c.args.output.now c.put_page.new.buf n e (c.put_page.ensures.1 ∙ y.1) in
    (rw (sym c.has_ended.ensures ∙ c.if-not-has_ended.false) l, (w, sym (length-take-le n c.put_page.new.buf w)))
