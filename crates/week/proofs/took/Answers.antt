-- `week::took` meets its contract: `piece` took what was left and what came, and `keep_rest` kept what it did not take.
use Rattle.std.proofs.Common.{ℕ, min, ◌+◌, ◌-◌, ◌≤◌, ◌≡◌, sym, ap, ◌∙◌, arith, length, take, drop, length-drop, length-take}
use Rattle.page.specs.Pieces as pieces
use Rattle.std.specs.Counts.{clamp_len}
use Rattle.week.specs.Turn.{more_of, ended_of, answer_of, standing}
use Rattle.week.proofs.Turning.{clamp-most, clamp-is, last-more, last-ended, turned-is}
use Rattle.week.proofs.took.Goals as goal

pub returns : goal.returns
returns c =
    let p = c.args.place in
    let xs = c.args.input.now in
    let came = c.args.came in
    let n = c.min.result in
    let k = c.piece-taken.result in
    let e : n ≡ clamp_len (answer_of came) (length xs - p.left) = c.min.ensures ∙ ap (λ (m : ℕ). min m (length xs - p.left)) c.unwrap_or.ensures ∙ clamp-is came (length xs - p.left) in
    let r : n ≤ length xs - p.left = rw e (clamp-most (answer_of came) (length xs - p.left)) in
    let h : p.left + n ≤ length xs = omega arith in
    let u : k.used ≤ p.left + n = let t = rw length-take at c.piece-taken.ensures.1 in omega arith in
    let d : n ≡ clamp_len (answer_of came) (length (drop p.left xs)) = e ∙ ap (clamp_len (answer_of came)) (sym (length-drop p.left xs)) in
    record {
      turned =
          turned-is p xs n h k c.keep_rest.new.buf c.piece-taken.ensures.0 u c.keep_rest.ensures
          ∙ ap (λ (many : ℕ). pieces.turn (standing p xs) (take many (drop p.left xs))) d;
      within = omega (arith, h, c.keep_rest.auto.buf);
      goes_on = ap more_of c.last_of.ensures ∙ last-more came;
      ends = ap ended_of c.last_of.ensures ∙ last-ended came;
    }
