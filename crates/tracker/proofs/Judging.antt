-- What an accepted call on an object knows, and what a refused call leaves.
-- Assumes nothing.
use Prim.Native.Nat.{ℕ, zero, suc, ◌+◌, ◌-◌, ◌≤◌, ◌<◌}
use mathlib.Core.Path.{◌≡◌, refl, sym, ap, ◌∙◌}
use mathlib.Core.Bool.{Bool, true, false}
use mathlib.Core.List.{List}
use native.Mathlib.Omega.{arith}
use borrow.Author.Tests.{leb-true, ltb-true, eq-eqb, ne_eqb}
use lib.Dec.{leb, ltb}
use lib.ListN.{set}
use Rattle.std.specs.Prelude.{Result, Ok, Err}
use Rattle.wire.specs.Numbers.{limit}
use Rattle.wire.specs.Refusals.{refusal_number}
use Rattle.wire.specs.declared.Refusal.{Refusal}
use Rattle.report.proofs.Heeding.{number-some, refused-as, not-refused}
use Rattle.tracker.proofs.Tests.{either, and_left, and_right}
use Rattle.tracker.specs.Known.{most_objects}
use Rattle.tracker.specs.Record.{first_of, named_of, word_at, state_of, nothing, has_arrived, both_obey, consistent}
use Rattle.tracker.specs.Calls.{unless_refused, inside, object_refusal, arrival_obeys, arrived_refusal, with_named, with_arrival, ended_refusal, with_end}

-- answers with the same number are the same
pub same-answer : (x y : Result Unit Refusal) → refusal_number x ≡ refusal_number y → x ≡ y
same-answer x (Ok u) e = not-refused x e
same-answer x (Err refusal) e = refused-as x refusal e

-- a refused call leaves the record as it was
pub refused-stays : (n : ℕ) (old new : List ℕ) → (n ≡ 0 → ⊥) → old ≡ unless_refused n old new
refused-stays zero old new f = absurd (f refl)
refused-stays (suc n) old new f = refl

pub call-refused : {A : Type 0} {x : Result A Refusal} {refusal : Refusal} (n : ℕ) (old new : List ℕ) → x ≡ Err refusal → refusal_number x ≡ n → old ≡ unless_refused n old new
call-refused {refusal = refusal} n old new t e = refused-stays n old new (λ z. number-some refusal (ap refusal_number (sym t) ∙ e ∙ z))

-- an accepted one leaves the next
pub accepted-next : {xs : List ℕ} (n : ℕ) (old new : List ℕ) → n ≡ 0 → xs ≡ new → xs ≡ unless_refused n old new
accepted-next n old new e f = rw e f

pub record Accepted (r : List ℕ) (object : ℕ) (obey : Bool) : Type 0 where
  pub sound : consistent r ≡ true
  pub obeys : obey ≡ true
  pub from : first_of r ≤ object
  pub within : object - first_of r < most_objects

pub accepted : (r : List ℕ) (object : ℕ) (obey : Bool) → object_refusal r object obey ≡ 0 → Accepted r object obey
unfolding object_refusal
accepted r object obey e =
    either (consistent r)
    (λ a. either obey
    (λ b. either (inside r object)
    (λ i. record {
      sound = a;
      obeys = b;
      from = leb-true (first_of r) object (and_left (leb (first_of r) object) (ltb (object - first_of r) most_objects) i);
      within = ltb-true (object - first_of r) most_objects (and_right (leb (first_of r) object) (ltb (object - first_of r) most_objects) i);
    })
    (λ i. let z = simp (a, b, i) at e in absurd (omega arith)))
    (λ b. either (inside r object)
    (λ i. let z = simp (a, b, i) at e in absurd (omega arith))
    (λ i. let z = simp (a, b, i) at e in absurd (omega arith))))
    (λ a. let z = simp a at e in absurd (omega arith))

-- both numbers that obey 5 are at most the limit
pub both_small : (m n : ℕ) → both_obey m n ≡ true → (m ≤ limit) × (n ≤ limit)
both_small m n e = (leb-true m limit (and_left (leb m limit) (leb n limit) e), leb-true n limit (and_right (leb m limit) (leb n limit) e))

pub arrival-small : (object time deadline : ℕ) → arrival_obeys object time deadline ≡ true → (object ≤ limit) × (time ≤ limit)
arrival-small object time deadline e = both_small object time (and_left (both_obey object time) (leb deadline (limit + 1)) e)

-- what the code judged is what the call is to refuse
pub arrived-told : (r : List ℕ) (object time deadline n : ℕ) (b : Bool) → n ≡ object_refusal r object b → b ≡ arrival_obeys object time deadline
    → n ≡ arrived_refusal r object time deadline
unfolding arrived_refusal
arrived-told r object time deadline n b p q = p ∙ ap (object_refusal r object) q

pub ended-told : (r : List ℕ) (object time n : ℕ) (b : Bool) → n ≡ object_refusal r object b → b ≡ both_obey object time → n ≡ ended_refusal r object time
unfolding ended_refusal
ended-told r object time n b p q = p ∙ ap (object_refusal r object) q

-- and what it knows once it is 0
pub arrived-good : (r : List ℕ) (object time deadline n : ℕ) → n ≡ arrived_refusal r object time deadline → n ≡ 0 → Accepted r object (arrival_obeys object time deadline)
unfolding arrived_refusal
arrived-good r object time deadline n e z = accepted r object (arrival_obeys object time deadline) (sym e ∙ z)

pub ended-good : (r : List ℕ) (object time n : ℕ) → n ≡ ended_refusal r object time → n ≡ 0 → Accepted r object (both_obey object time)
unfolding ended_refusal
ended-good r object time n e z = accepted r object (both_obey object time) (sym e ∙ z)

-- ---- the record after an arrival and after an early end

module _ (r : List ℕ) (place : ℕ) where
  pub named-now : named_of r ≡ 0 → set r 2 (place + 1) ≡ with_named r place
  named-now e = rw (eq-eqb (named_of r) 0 e)

  pub named-before : (named_of r ≡ 0 → ⊥) → r ≡ with_named r place
  named-before f = rw (ne_eqb (named_of r) 0 f)

  pub arrival-ignored : (word : ℕ) → has_arrived (word_at r place) ≡ true → r ≡ with_arrival r place word
  unfolding with_arrival
  arrival-ignored word e = rw e

  pub arrival-counts : (xs : List ℕ) (w word : ℕ) → has_arrived (word_at r place) ≡ false → xs ≡ with_named r place → w ≡ word
      → set xs (3 + place) w ≡ with_arrival r place word
  unfolding with_arrival
  arrival-counts xs w word e f g = rw (e, f, g)

  pub end-ignored : (word : ℕ) → (state_of (word_at r place) ≡ nothing → ⊥) → r ≡ with_end r place word
  unfolding with_end
  end-ignored word f = rw (ne_eqb (state_of (word_at r place)) nothing f)

  pub end-counts : (word : ℕ) → state_of (word_at r place) ≡ nothing → set r (3 + place) word ≡ with_end r place word
  unfolding with_end
  end-counts word e = rw (eq-eqb (state_of (word_at r place)) nothing e)
