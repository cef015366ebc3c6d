-- Numbers that stand one after the other in their shortest forms and are judged good are read one after the other; and what was read stands so.
-- Assumes nothing.
use Prim.Native.Nat.{ℕ, zero, suc, ◌+◌, ◌-◌, ◌≤◌, ◌<◌, zero-le, suc-le-suc}
use mathlib.Core.Path.{◌≡◌, refl, sym, ap, ◌∙◌}
use mathlib.Core.Bool.{Bool, true, false}
use mathlib.Core.List.{List, [], ◌∷◌, ◌++◌, append_assoc, append-nil}
use native.Mathlib.Nat.{min-le_right, zero-add, le_refl}
use native.Mathlib.Omega.{arith}
use borrow.Author.Tests.{le-leb, lt-leb, leb-true, leb-false}
use lib.Dec.{leb}
use lib.ListN.{length, get_or, length-append, get_or-append, get_or-eq_default}
use Rattle.std.specs.Prelude.{Result, Ok, Err}
use Rattle.wire.specs.Bytes.{pick}
use Rattle.wire.specs.Fields.{found, formed}
use Rattle.wire.specs.Numbers.{read_number}
use Rattle.wire.specs.declared.Number.{Number}
use Rattle.wire.specs.Refusals.{number_of, refusal_number}
use Rattle.wire.specs.declared.Refusal.{Refusal}
use Rattle.wire.specs.declared.Refusal.TheVariants.{Ends, LongerForm}
use Rattle.wire.specs.Standing.{StandShortest, no_more, short}
use Rattle.wire.proofs.Lengths.{split}
use Rattle.wire.proofs.Standing.{short-last}
use Rattle.report.specs.Layout.{at_metrics, fixed_numbers}
use Rattle.entries.specs.Profiles.{most_metrics}
use Rattle.entries.specs.declared.Profile.{Profile}
use Rattle.entries.specs.declared.Profile.TheVariants.{One, Two}
use Rattle.report.specs.Limits.{metric_places, most_numbers}
use Rattle.report.specs.Header.{heeding, judge, judge_field, fault_after, first_fault, wanted_of}
use Rattle.report.specs.Reader.{Reading, Whole, Stopped, numbers_from, read_numbers}
use Rattle.report.proofs.Heeding.{number-refused}
use Rattle.report.specs.Exactly.{Open, Headed, EndsInside, Longer, Faulty}

-- a header has places for the metrics of every profile
pub metrics-placed : (p : Profile) → most_metrics p ≤ metric_places
metrics-placed One = omega arith
metrics-placed Two = omega arith

module _ (p : Profile) where
  -- ---- how many numbers are wanted

  pub wanted-most : (ns : List ℕ) → wanted_of p ns ≤ most_numbers
  wanted-most ns = omega (arith, min-le_right (get_or ns at_metrics 0) (most_metrics p), metrics-placed p)

  -- a start of numbers that want no fewer than they are wants more than it is
  pub wants-more : (ns us : List ℕ) → 0 < length us → length (ns ++ us) ≤ wanted_of p (ns ++ us) → length ns < wanted_of p ns
  wants-more ns us p h =
      split fixed_numbers (length ns)
      (λ l. let e : get_or (ns ++ us) at_metrics 0 ≡ get_or ns at_metrics 0 = get_or-append ns us 0 at_metrics (omega arith) in
      let n : length (ns ++ us) ≡ length ns + length us = length-append ns us in
      omega (arith, rw e at h))
      (λ l. omega arith)

  -- ---- faults of numbers in two parts

  pub fault-append : (ns us vs : List ℕ) → fault_after p ns us ≡ Ok tt → fault_after p ns (us ++ vs) ≡ fault_after p (ns ++ us) vs
  unfolding fault_after
  fault-append ns [] vs e = ap (λ (l : List ℕ). fault_after p l vs) (sym (append-nil ns))
  fault-append ns (u ∷ us) vs e = go (fault-append (ns ++ (u ∷ [])) us vs) (judge p ns u) e
    where
      go : (fault_after p (ns ++ (u ∷ [])) us ≡ Ok tt → fault_after p (ns ++ (u ∷ [])) (us ++ vs) ≡ fault_after p ((ns ++ (u ∷ [])) ++ us) vs) → (x : Result Unit Refusal)
          → heeding x Err (fault_after p (ns ++ (u ∷ [])) us) ≡ Ok tt → heeding x Err (fault_after p (ns ++ (u ∷ [])) (us ++ vs)) ≡ fault_after p (ns ++ (u ∷ us)) vs
      go more (Ok t) e = more e ∙ ap (λ (l : List ℕ). fault_after p l vs) (append_assoc ns (u ∷ []) us)
      go more (Err refusal) e = absurd (cc)

  -- the first is good, and so are those after it
  pub fault-first : (ns : List ℕ) (v : ℕ) (vs : List ℕ) → fault_after p ns (v ∷ vs) ≡ Ok tt → (judge p ns v ≡ Ok tt) × (fault_after p (ns ++ (v ∷ [])) vs ≡ Ok tt)
  unfolding fault_after
  fault-first ns v vs e = go (judge p ns v) e
    where
      go : (x : Result Unit Refusal) → heeding x Err (fault_after p (ns ++ (v ∷ [])) vs) ≡ Ok tt → (x ≡ Ok tt) × (fault_after p (ns ++ (v ∷ [])) vs ≡ Ok tt)
      go (Ok t) e = (refl, e)
      go (Err refusal) e = absurd (cc)

  -- each is good after those before it
  pub fault-at : (ns us : List ℕ) (v : ℕ) (vs : List ℕ) → fault_after p ns (us ++ (v ∷ vs)) ≡ Ok tt → judge p (ns ++ us) v ≡ Ok tt
  fault-at ns [] v vs e = rw append-nil (fault-first ns v vs e).0
  fault-at ns (u ∷ us) v vs e = ap (λ (l : List ℕ). judge p l v) (sym (append_assoc ns (u ∷ []) us)) ∙ fault-at (ns ++ (u ∷ [])) us v vs (fault-first ns u (us ++ (v ∷ vs)) e).1

  -- and so are the first of them
  pub fault-start : (ns us vs : List ℕ) → fault_after p ns (us ++ vs) ≡ Ok tt → fault_after p ns us ≡ Ok tt
  unfolding fault_after
  fault-start ns [] vs e = refl
  fault-start ns (u ∷ us) vs e =
      let f = fault-first ns u (us ++ vs) e in
      rw f.0 (fault-start (ns ++ (u ∷ [])) us vs f.1)

  pub fault-last : (ns us : List ℕ) (v : ℕ) → fault_after p ns us ≡ Ok tt → judge p (ns ++ us) v ≡ Ok tt → fault_after p ns (us ++ (v ∷ [])) ≡ Ok tt
  unfolding fault_after
  fault-last ns us v e j = fault-append ns us (v ∷ []) e ∙ rw j

  -- ---- reading follows what stands

  module _ (s : List ℕ) where
    pub follow : (vs ns : List ℕ) (n at to : ℕ) → StandShortest s at vs to → fault_after p ns vs ≡ Ok tt → length (ns ++ vs) ≤ wanted_of p (ns ++ vs)
        → numbers_from p (length vs + n) s at ns ≡ numbers_from p n s to (ns ++ vs)
    unfolding numbers_from
    follow [] ns n at to no_more e h = rw (zero-add, append-nil)
    follow (v ∷ vs) ns n at to (short {mid = next} r st) e h =
        let f = fault-first ns v vs e in
        let l : suc (length vs) + n ≡ suc (length vs + n) = omega arith in
        let a : (ns ++ (v ∷ [])) ++ vs ≡ ns ++ (v ∷ vs) = append_assoc ns (v ∷ []) vs in
        let w : length ns < wanted_of p ns = wants-more ns (v ∷ vs) (suc-le-suc zero-le) h in
        rw (l, lt-leb (wanted_of p ns) (length ns) w, r, f.0)
        (follow vs (ns ++ (v ∷ [])) n next to st f.1 (rw a h) ∙ ap (numbers_from p n s to) a)

  -- ---- and what was read stands so

  -- one number more wants no fewer
  pub wanted-last : (ns : List ℕ) (v : ℕ) → wanted_of p ns ≤ wanted_of p (ns ++ (v ∷ []))
  wanted-last ns v =
      split fixed_numbers (length ns)
      (λ l. let e : get_or (ns ++ (v ∷ [])) at_metrics 0 ≡ get_or ns at_metrics 0 = get_or-append ns (v ∷ []) 0 at_metrics (omega arith) in rw e (le_refl (wanted_of p ns)))
      (λ l. let e : get_or ns at_metrics 0 ≡ 0 = get_or-eq_default ns 0 {n = at_metrics} (omega arith) in rw e (omega arith))

  -- where the reading of numbers can end
  pub data End (s : List ℕ) : Reading → Type 0 where
    inside : EndsInside p s → End s (Stopped Ends)
    longer : Longer p s → End s (Stopped LongerForm)
    fault : {refusal : Refusal} → Faulty p (number_of refusal) s → End s (Stopped refusal)
    header : {ns : List ℕ} {at : ℕ} → Headed p s ns at → End s (Whole ns at)

  module _ (s : List ℕ) where
    pub ended : (n at : ℕ) (ns : List ℕ) → length ns + n ≡ most_numbers → StandShortest s 0 ns at → first_fault p ns ≡ Ok tt → length ns ≤ wanted_of p ns → End s (numbers_from p n s at ns)
    unfolding numbers_from
    ended zero at ns l st e h = header (record { stand = st; good = e; whole = omega (arith, wanted-most ns) })
    ended (suc n) at ns l st e h = by (ended n) (leb (wanted_of p ns) (length ns)) refl
      where
        on : ((at : ℕ) (ns : List ℕ) → length ns + n ≡ most_numbers → StandShortest s 0 ns at → first_fault p ns ≡ Ok tt → length ns ≤ wanted_of p ns → End s (numbers_from p n s at ns))
            → Open p s ns at → (v next : ℕ) → read_number s at ≡ found v next true → (x : Result Unit Refusal) → judge p ns v ≡ x
            → End s (heeding x Stopped (numbers_from p n s next (ns ++ (v ∷ []))))
        on more o v next r (Ok u) t =
            let k : length (ns ++ (v ∷ [])) ≡ length ns + 1 = length-append ns (v ∷ []) in
            more next (ns ++ (v ∷ [])) (omega arith) (short-last st r) (fault-last [] ns v e t) (omega (arith, o.more, wanted-last ns v))
        on more o v next r (Err refusal) t = fault (record { ns = ns; at = at; v = v; next = next; far = o; reads = r; fault = ap refusal_number t })

        form : ((at : ℕ) (ns : List ℕ) → length ns + n ≡ most_numbers → StandShortest s 0 ns at → first_fault p ns ≡ Ok tt → length ns ≤ wanted_of p ns → End s (numbers_from p n s at ns))
            → Open p s ns at → (v next : ℕ) (b : Bool) → read_number s at ≡ found v next b → End s (heeding (judge_field p ns v b) Stopped (numbers_from p n s next (ns ++ (v ∷ []))))
        form more o v next true r = on more o v next r (judge p ns v) refl
        form more o v next false r = longer (record { ns = ns; at = at; v = v; next = next; far = o; reads = r })

        get : ((at : ℕ) (ns : List ℕ) → length ns + n ≡ most_numbers → StandShortest s 0 ns at → first_fault p ns ≡ Ok tt → length ns ≤ wanted_of p ns → End s (numbers_from p n s at ns))
            → Open p s ns at → (r : Result Number Refusal) → read_number s at ≡ r
            → End s (formed r (Stopped Ends) (λ v next b. heeding (judge_field p ns v b) Stopped (numbers_from p n s next (ns ++ (v ∷ [])))))
        get more o (Ok m) r = form more o m.value m.next m.shortest r
        get more o (Err refusal) r = inside (record { ns = ns; at = at; far = o; ends = r ∙ ap Err (number-refused s at r) })

        by : ((at : ℕ) (ns : List ℕ) → length ns + n ≡ most_numbers → StandShortest s 0 ns at → first_fault p ns ≡ Ok tt → length ns ≤ wanted_of p ns → End s (numbers_from p n s at ns))
            → (b : Bool) → leb (wanted_of p ns) (length ns) ≡ b
            → End s (pick b (Whole ns at) (formed (read_number s at) (Stopped Ends) (λ v next c. heeding (judge_field p ns v c) Stopped (numbers_from p n s next (ns ++ (v ∷ []))))))
        by more true t = header (record { stand = st; good = e; whole = omega (arith, leb-true (wanted_of p ns) (length ns) t) })
        by more false t = get more (record { stand = st; good = e; more = leb-false (wanted_of p ns) (length ns) t }) (read_number s at) refl

  pub numbers-end : (s : List ℕ) → End s (read_numbers p s)
  unfolding fault_after
  numbers-end s = ended s most_numbers 0 [] refl no_more refl zero-le

  -- ---- the other direction: each end is the one that the reading comes to

  module _ (s ns : List ℕ) (at : ℕ) where
    reach : StandShortest s 0 ns at → first_fault p ns ≡ Ok tt → length ns ≤ wanted_of p ns → (n : ℕ) → length ns + n ≡ most_numbers → read_numbers p s ≡ numbers_from p n s at ns
    reach st e h n l = ap (λ (m : ℕ). numbers_from p m s 0 []) (sym l) ∙ follow s ns [] n 0 at st e h

    stops : (n : ℕ) → wanted_of p ns ≤ length ns → numbers_from p n s at ns ≡ Whole ns at
    unfolding numbers_from
    stops zero h = refl
    stops (suc n) h = rw (le-leb (wanted_of p ns) (length ns) h)

    pub headed-whole : Headed p s ns at → read_numbers p s ≡ Whole ns at
    headed-whole o =
        let m : length ns + (most_numbers - length ns) ≡ most_numbers = omega (arith, o.whole, wanted-most ns) in
        reach o.stand o.good (omega (arith, o.whole)) (most_numbers - length ns) m ∙ stops (most_numbers - length ns) (omega (arith, o.whole))

    -- one number more is looked for
    goes : Open p s ns at → read_numbers p s ≡ numbers_from p (suc (most_numbers - (length ns + 1))) s at ns
    goes o = reach o.stand o.good (omega (arith, o.more)) (suc (most_numbers - (length ns + 1))) (omega (arith, o.more, wanted-most ns))

    pub open-ends : Open p s ns at → read_number s at ≡ Err Ends → read_numbers p s ≡ Stopped Ends
    unfolding numbers_from
    open-ends o r = goes o ∙ rw (lt-leb (wanted_of p ns) (length ns) o.more, r)

    pub open-longer : Open p s ns at → (v next : ℕ) → read_number s at ≡ found v next false → read_numbers p s ≡ Stopped LongerForm
    unfolding numbers_from
    open-longer o v next r = goes o ∙ rw (lt-leb (wanted_of p ns) (length ns) o.more, r)

    pub open-fault : Open p s ns at → (v next : ℕ) (refusal : Refusal) → read_number s at ≡ found v next true → judge p ns v ≡ Err refusal → read_numbers p s ≡ Stopped refusal
    unfolding numbers_from
    open-fault o v next refusal r j = goes o ∙ rw (lt-leb (wanted_of p ns) (length ns) o.more, r, j)
