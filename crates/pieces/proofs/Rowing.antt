-- Records in a row, taken where they stand: the good ones come one after the other, and the first bad one ends the row.
-- Assumes nothing.
use Prim.Native.Nat.{ℕ, zero, suc, ◌+◌, ◌-◌, ◌*◌, ◌≤◌, ◌<◌, zero-le}
use mathlib.Core.Path.{◌≡◌, refl, sym, ap, ap₂, ◌∙◌}
use mathlib.Core.Bool.{Bool, true, false}
use mathlib.Core.List.{List, [], ◌++◌}
use native.Mathlib.Nat.{mul-suc, mul-zero}
use native.Mathlib.Omega.{arith}
use lib.ListN.{length, take, drop, length-append, length-drop}
use lib.Seq.{length-take-le, take-add, drop-drop}
use Rattle.std.specs.Prelude.{Result, Ok, Err}
use Rattle.wire.specs.Bytes.{pick}
use Rattle.wire.specs.declared.Refusal.{Refusal}
use Rattle.entries.specs.Profiles.{record_size}
use Rattle.entries.specs.declared.Profile.{Profile}
use Rattle.uncut.specs.State.{State, Records}
use Rattle.uncut.specs.Step.{after, delivered}
use Rattle.uncut.specs.Cutting.{taking}
use Rattle.pieces.specs.Reading.{Key, Good, Bad, key_in, key_of}
use Rattle.entries.specs.Entries.{entry_of, at_or_above, follows_or}
use Rattle.entries.specs.Runs.{run_to, run_from}
use Rattle.entries.specs.declared.Entry.{Entry}
use Rattle.entries.specs.declared.Run.{Run}
use Rattle.uncut.proofs.Cuts.{after-append, delivered-append}
use Rattle.pieces.proofs.Going.{taking-append}
use Rattle.uncut.proofs.Rows.{size-pos}
use Rattle.pieces.proofs.Filling.{Rowed, rowed-whole}

-- what comes after a key
abbrev pub by_key : {A : Type 0} → Key → (ℕ → ℕ → A) → A → A
by_key (Good group above) f x = f group above
by_key Bad f x = x

pub by_key_lem : {A : Type 0} (last above : ℕ) (e : Result Entry Refusal) (f : ℕ → ℕ → A) (x : A) → follows_or last above e f x ≡ by_key (key_in last above e) f x
by_key_lem last above (Ok e) f x = go (at_or_above last above e.group e.object)
  where
    go : (b : Bool) → pick b (f e.group (suc e.object)) x ≡ by_key (pick b (Good e.group (suc e.object)) Bad) f x
    go true = refl
    go false = refl
by_key_lem last above (Err refusal) f x = refl

module _ (p : Profile) where
  -- bytes one after the other, each with the room that the ones before leave
  pub rowed-then : (room : ℕ) (st st' st'' : State) (s t d e : List ℕ) → Rowed p room st s st' d → Rowed p (room - length d) st' t st'' e → Rowed p room st (s ++ t) st'' (d ++ e)
  rowed-then room st st' st'' s t d e a b = record {
    comes = after-append p st s t ∙ ap (λ (x : State). after p x t) a.comes ∙ b.comes;
    gives = delivered-append p st s t ∙ ap₂ (λ (x : List ℕ) (y : State). x ++ delivered p y t) a.gives a.comes ∙ ap (λ (x : List ℕ). d ++ x) b.gives;
    takes = taking-append p room st s t a.takes ∙ ap₂ (λ (x : List ℕ) (y : State). length s + taking p (room - length x) y t) a.gives a.comes ∙ ap (λ (x : ℕ). length s + x) b.takes ∙ sym (length-append s t);
  }

  -- k good records of a row, behind which j more are to come
  abbrev pub RowDone : List ℕ → ℕ → ℕ → List ℕ → ℕ → ℕ → ℕ → Type 0
  RowDone ns last above s k last' above' =
      (room j : ℕ) → record_size p * k ≤ room
      → Rowed p room (Records ns (k + j) last above []) (take (record_size p * k) s) (Records ns j last' above' []) (take (record_size p * k) s)

  module _ (ns : List ℕ) where
    none_done : (last above : ℕ) (s : List ℕ) → RowDone ns last above s 0 last above
    unfolding after delivered taking
    none_done last above s room j h =
        let z : 0 + j ≡ j = omega arith in
        rw (mul-zero, z) (record { comes = refl; gives = refl; takes = refl })

    more-done : (last above g o : ℕ) (s : List ℕ) (k last' above' : ℕ) → record_size p ≤ length s → key_of p last above (take (record_size p) s) ≡ Good g o
        → RowDone ns g o (drop (record_size p) s) k last' above' → RowDone ns last above s (suc k) last' above'
    more-done last above g o s k last' above' h e more room j f =
        let m : record_size p * suc k ≡ record_size p + record_size p * k = omega (arith, mul-suc (record_size p) k) in
        let l : length (take (record_size p) s) ≡ record_size p = length-take-le (record_size p) s h in
        let t : take (record_size p * suc k) s ≡ take (record_size p) s ++ take (record_size p * k) (drop (record_size p) s) = ap (λ (x : ℕ). take x s) m ∙ take-add (record_size p) (record_size p * k) s in
        let n : suc k + j ≡ suc (k + j) = omega arith in
        let a = rowed-whole p ns (k + j) last above room (omega arith) [] (take (record_size p) s) (omega (arith, size-pos p)) (omega arith) in
        let a' : Rowed p room (Records ns (suc (k + j)) last above []) (take (record_size p) s) (Records ns (k + j) g o []) (take (record_size p) s) = rw e at a in
        let b = more (room - length (take (record_size p) s)) j (omega arith) in
        rw (t, n) (rowed-then room (Records ns (suc (k + j)) last above []) (Records ns (k + j) g o []) (Records ns j last' above' []) (take (record_size p) s) (take (record_size p * k) (drop (record_size p) s)) (take (record_size p) s) (take (record_size p * k) (drop (record_size p) s)) a' b)

    -- what the walk over n records finds
    pub record Found (n good last above : ℕ) (s : List ℕ) (r : Run) : Type 0 where
      pub k : ℕ
      pub counts : r.good ≡ good + k
      pub within : k ≤ n
      pub done : RowDone ns last above s k r.last r.above
      pub bad : k < n → key_of p r.last r.above (take (record_size p) (drop (record_size p * k) s)) ≡ Bad

    pub found : (n good last above : ℕ) (s : List ℕ) → record_size p * n ≤ length s → Found n good last above s (run_from p n good last above s)
    unfolding run_from key_of
    found zero good last above s h = record { k = 0; counts = omega arith; within = zero-le; done = none_done last above s; bad = λ z. absurd (omega arith) }
    found (suc n) good last above s h =
        rw (by_key_lem last above (entry_of p (take (record_size p) s)) (λ group next. run_from p n (suc good) group next (drop (record_size p) s)) (run_to good last above))
        (go (key_of p last above (take (record_size p) s)) refl (λ g o. found n (suc good) g o (drop (record_size p) s) rest))
      where
        long : record_size p + record_size p * n ≤ length s
        long = omega (arith, mul-suc (record_size p) n)

        rest : record_size p * n ≤ length (drop (record_size p) s)
        rest = rw length-drop (omega (arith, long))

        go : (q : Key) → key_of p last above (take (record_size p) s) ≡ q
            → ((g o : ℕ) → Found n (suc good) g o (drop (record_size p) s) (run_from p n (suc good) g o (drop (record_size p) s)))
            → Found (suc n) good last above s (by_key q (λ group next. run_from p n (suc good) group next (drop (record_size p) s)) (record { good = good; last = last; above = above }))
        go (Good g o) e more =
            let f = more g o in
            let u : record_size p * suc f.k ≡ record_size p + record_size p * f.k = omega (arith, mul-suc (record_size p) f.k) in
            let d : drop (record_size p * suc f.k) s ≡ drop (record_size p * f.k) (drop (record_size p) s) =
            ap (λ (x : ℕ). drop x s) u ∙ sym (drop-drop (record_size p * f.k) (record_size p) s) in
            record {
              k = suc f.k;
              counts = f.counts ∙ omega arith;
              within = omega (arith, f.within);
              done = more-done last above g o s f.k (run_from p n (suc good) g o (drop (record_size p) s)).last (run_from p n (suc good) g o (drop (record_size p) s)).above (omega (arith, long)) e f.done;
              bad = λ z. rw d (f.bad (omega arith));
            }
        go Bad e more =
            record { k = 0; counts = omega arith; within = zero-le; done = none_done last above s; bad = λ z. rw mul-zero e }
