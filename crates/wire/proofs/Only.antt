-- Only one: two results that meet the contract of a public call, as its source states it, are equal, and so are the lent buffers that they leave.
-- Assumes nothing.
use Prim.Native.Nat.{ℕ}
use mathlib.Core.Path.{◌≡◌, refl, sym, ◌∙◌}
use mathlib.Core.List.{List}
use borrow.Fn.Kinds.{Out, ParamKind, ResultKind, Dens, res_t, ended_of}
use contract.Lifetimes.{Lfts}
use denote.Triple.Clauses.{AtExit}
use denote.Param.Laws.{Laws}
use denote.RattleType.{RattleType}
use Rattle.wire.proofs.numbers.read_number.Reads as read_number
use Rattle.wire.proofs.numbers.read_number.Kinds as read-number-kinds
use Rattle.wire.proofs.numbers.width.Reads as width
use Rattle.wire.proofs.numbers.width.Kinds as width-kinds
use Rattle.wire.proofs.numbers.width_by_table.Reads as width-by-table
use Rattle.wire.proofs.numbers.width_by_table.Kinds as width-by-table-kinds
use Rattle.wire.proofs.fields.read_fixed4.Reads as read-fixed4
use Rattle.wire.proofs.fields.read_fixed4.Kinds as read-fixed4-kinds
use Rattle.wire.proofs.fields.read_fixed8.Reads as read-fixed8
use Rattle.wire.proofs.fields.read_fixed8.Kinds as read-fixed8-kinds
use Rattle.wire.proofs.several.length_of.Reads as length-of
use Rattle.wire.proofs.several.length_of.Kinds as length-of-kinds
use Rattle.wire.proofs.Refusal.number.Reads as refusal-number
use Rattle.wire.proofs.Refusal.number.Kinds as refusal-number-kinds
use Rattle.wire.proofs.refusals.refusal_number.Reads as answer-number
use Rattle.wire.proofs.refusals.refusal_number.Kinds as answer-number-kinds
use Rattle.wire.proofs.numbers.put_number.Reads as put-number
use Rattle.wire.proofs.numbers.put_number.Kinds as put-number-kinds
use Rattle.wire.proofs.several.put_numbers.Reads as put-numbers
use Rattle.wire.proofs.several.put_numbers.Kinds as put-numbers-kinds
use Rattle.wire.proofs.fields.put_fixed4.Reads as put-fixed4
use Rattle.wire.proofs.fields.put_fixed4.Kinds as put-fixed4-kinds
use Rattle.wire.proofs.fields.put_fixed8.Reads as put-fixed8
use Rattle.wire.proofs.fields.put_fixed8.Kinds as put-fixed8-kinds

-- what a contract says of a call is fixed by what the call is given: its answer
abbrev pub OneAnswer : (n : ℕ) (ps : List (ParamKind n)) (r : ResultKind n) → Out n ps r → Type 0
OneAnswer n ps r Meets =
    (κs : Lfts n) (given : Dens κs ps) (x y : (res_t r κs).Denot) (s t : AtExit (ended_of n ps r) κs) → Meets κs given x s → Meets κs given y t → x ≡ y

-- and its lent buffer, which `lent` finds among the parameters at exit
abbrev pub OneBuffer : (n : ℕ) (ps : List (ParamKind n)) (r : ResultKind n) → ((κs : Lfts n) → AtExit (ended_of n ps r) κs → List ℕ) → Out n ps r → Type 0
OneBuffer n ps r lent Meets =
    (κs : Lfts n) (given : Dens κs ps) (x y : (res_t r κs).Denot) (s t : AtExit (ended_of n ps r) κs)
    → Meets κs given x s → Meets κs given y t → (x ≡ y) × (lent κs s ≡ lent κs t)

pub read-number-one : OneAnswer 1 read-number-kinds.ps read-number-kinds.r read_number.Post
read-number-one κs given x y s t p q = p ∙ sym q

pub width_one : OneAnswer 0 width-kinds.ps width-kinds.r width.Post
width_one κs given x y s t p q = p ∙ sym q

pub width-by-table-one : OneAnswer 0 width-by-table-kinds.ps width-by-table-kinds.r width-by-table.Post
width-by-table-one κs given x y s t p q = p ∙ sym q

-- by zeros and by table agree for every number
pub widths-agree :
    (κs : Lfts 0) (given : Dens κs width-kinds.ps) (x y : (res_t width-kinds.r κs).Denot) (s t : AtExit (ended_of 0 width-kinds.ps width-kinds.r) κs)
    → width.Post κs given x s → width-by-table.Post κs given y t → x ≡ y
widths-agree κs given x y s t p q = p ∙ sym q

pub read-fixed4-one : OneAnswer 1 read-fixed4-kinds.ps read-fixed4-kinds.r read-fixed4.Post
read-fixed4-one κs given x y s t p q = p ∙ sym q

pub read-fixed8-one : OneAnswer 1 read-fixed8-kinds.ps read-fixed8-kinds.r read-fixed8.Post
read-fixed8-one κs given x y s t p q = p ∙ sym q

pub length-of-one : OneAnswer 1 length-of-kinds.ps length-of-kinds.r length-of.Post
length-of-one κs given x y s t p q = p ∙ sym q

pub refusal-number-one : OneAnswer 0 refusal-number-kinds.ps refusal-number-kinds.r refusal-number.Post
refusal-number-one κs given x y s t p q = p ∙ sym q

pub answer-number-one : (T : RattleType) (L : Laws T) → OneAnswer 2 (answer-number-kinds.ps T L) (answer-number-kinds.r T L) (answer-number.Post T L)
answer-number-one T L κs given x y s t p q = p ∙ sym q

pub put-number-one : OneBuffer 1 put-number-kinds.ps put-number-kinds.r (λ κs s. s.0.now) put-number.Post
put-number-one κs given x y s t p q = (p.0 ∙ sym q.0, p.1 ∙ sym q.1)

pub put-numbers-one : OneBuffer 2 put-numbers-kinds.ps put-numbers-kinds.r (λ κs s. s.0.now) put-numbers.Post
put-numbers-one κs given x y s t p q = (p.0 ∙ sym q.0, p.1 ∙ sym q.1)

pub put-fixed4-one : OneBuffer 1 put-fixed4-kinds.ps put-fixed4-kinds.r (λ κs s. s.0.now) put-fixed4.Post
put-fixed4-one κs given x y s t p q = (p.0 ∙ sym q.0, p.1 ∙ sym q.1)

pub put-fixed8-one : OneBuffer 1 put-fixed8-kinds.ps put-fixed8-kinds.r (λ κs s. s.0.now) put-fixed8.Post
put-fixed8-one κs given x y s t p q = (p.0 ∙ sym q.0, p.1 ∙ sym q.1)
