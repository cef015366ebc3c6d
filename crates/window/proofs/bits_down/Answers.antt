-- `bits_down` meets its contract. The invariant: the words below `i` are those of the shifted number.
-- Assumes nothing.
use mathlib.Core.Path.{◌≡◌, sym, ap, ◌∙◌, subst}
use mathlib.Core.Logic.{⊎_elim}
use Prim.Native.Nat.{ℕ, ◌+◌, ◌-◌, ◌*◌, ◌/◌, ◌%◌, ◌^◌, ◌<◌}
use native.Mathlib.Nat.{le_of_suc-le-suc, eq-or-lt_of_le, mod-lt, div-one}
use native.Mathlib.Omega.{arith}
use borrow.Author.Count.{below_more}
use lib.ListN.{get_or, set, length-set}
use lib.Pow.{pow_pos}
use lib.Seq.{get_or-set_same, get_or-set_other}
use Rattle.window.specs.Words.{number_of, words_of}
use Rattle.window.proofs.Sixteen.{Sixteen, told, whole}
use Rattle.window.proofs.Shift.{word_at, word-by-word, shifted, shifted-last}
use Rattle.window.proofs.bits_down.Goals as goal
use Rattle.window.proofs.bits_down.Goals.{After-told_words, In-loop-i}

known : (c : After-told_words) → Sixteen c.args.words.now
known c = told _ c.told_words.ensures

pub returns-then-s-eq0 : goal.returns-then-s-eq0
returns-then-s-eq0 c =
    let a = c.args in
    let ws = a.words.now in
    sym (ap (λ (s : ℕ). words_of 16 (number_of ws / 2 ^ s)) c.if-s-eq0.true ∙ ap (words_of 16) (div-one (number_of ws)) ∙ whole ws (known (goal.at.returns-then-s-eq0 c).After-told_words))

-- the word that the code joins is the shifted number's
step : (c : In-loop-i)
    → let a = c.args in
    let ws = a.words.now in
    get_or ws c.loop-i.i 0 / 2 ^ a.s + (get_or ws (c.loop-i.i + 1) 0 * 2 ^ (64 - a.s)) % 2 ^ 64 ≡ word_at (number_of ws / 2 ^ a.s) c.loop-i.i
step c = let k = c in let s = k in shifted _ (known k.before.before.before) s.args.s s.requires c.loop-i.i

pub overflow_add-words-in-loop-i : goal.overflow_add-words-in-loop-i
overflow_add-words-in-loop-i c = record { fits = subst (λ (x : ℕ). x < 2 ^ 64) (sym (step c)) (mod-lt _ (pow_pos 64)) }

pub loop-i-preserved : goal.loop-i-preserved
loop-i-preserved c =
    let l = c.loop-i in (
      simp length-set l.invariant.0,
      below_more _ l.i
          (λ k h. get_or-set_other l.words l.i k _ 0 (λ e. omega arith) ∙ l.invariant.1 k h)
          (get_or-set_same l.words l.i _ 0 (omega arith) ∙ step (goal.at.loop-i-preserved c).In-loop-i),
    )

pub returns : goal.returns
returns c =
    let l = c.loop-i in
    let t = c in
    let s = t in
    let x = get_or s.args.words.now 15 0 / 2 ^ s.args.s in
    (word-by-word (set l.words 15 x) _ (length-set l.words 15 x ∙ l.invariant.0)
    (λ k h.
    ⊎_elim
    (λ e.
    ap (λ (j : ℕ). get_or (set l.words 15 x) j 0) e ∙ get_or-set_same l.words 15 x 0 (omega arith) ∙ shifted-last _ (known (goal.at.returns t).After-told_words) s.args.s s.requires
    ∙ ap (word_at (number_of s.args.words.now / 2 ^ s.args.s)) (sym e))
    (λ g. get_or-set_other l.words 15 k x 0 (λ e. omega arith) ∙ l.invariant.1 k (omega arith)) (eq-or-lt_of_le (le_of_suc-le-suc h))))
