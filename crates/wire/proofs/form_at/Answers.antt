-- `wire::form_at` meets its contract: the table's rule is a test at each entry, which antt computes.
-- Assumes nothing.
use borrow.Author.Rules.{rules}
use mathlib.Core.List.{List, [], ◌∷◌}
use mathlib.Core.Bool.{Bool}
use Prim.Native.Nat.{ℕ}
use lib.Dec.{eqb, eqb→eq}
use lib.ListN.{get_or}
use Rattle.wire.specs.declared.Form.{Form}
use Rattle.wire.specs.Numbers.{len_of, largest_of}
use Rattle.wire.proofs.Table.{both, both_left, both_right, at_entry}
use Rattle.wire.proofs.form_at.Goals as goal

table : List Form
table =
    record { len = 1; largest = 63 }
    ∷ record { len = 2; largest = 16383 }
    ∷ record { len = 4; largest = 1073741823 }
    ∷ record { len = 8; largest = 4611686018427387903 }
    ∷ []

right : ℕ → Form → Bool
right k f = both (eqb f.len (len_of k)) (eqb f.largest (largest_of k))

pub returns : goal.returns
unfolding table right
returns c =
    let k = c.args.code in
    let f : Form = get_or table k (record { len = 0; largest = 0 }) in
    let t = at_entry right table (record { len = 0; largest = 0 }) tt k (search rules) in (
      eqb→eq f.len (len_of k) (both_left (eqb f.len (len_of k)) (eqb f.largest (largest_of k)) t),
      eqb→eq f.largest (largest_of k) (both_right (eqb f.len (len_of k)) (eqb f.largest (largest_of k)) t),
    )
