-- How many records in a row are good: the run from one record to the next as the code takes it, what it starts with, and that it ends
-- behind the last record exactly where all are good.
-- Assumes nothing.
use Rattle.std.proofs.Common.{◌≡◌, ℕ, zero, suc, ◌+◌, ◌/◌, ◌<◌, ◌≤◌, min, Bool, true, false, eqb, ltb, leb, List, ◌++◌, Option, Some, None, Result, Ok, Err, length, length-append, take, drop, sym, refl, ap, ◌∙◌, add-one, arith, eq-eqb, ne_eqb, le-leb}
use borrow.Author.Tests.{lt-leb}
use lib.Seq.{take_at, drop_at}
use Rattle.wire.specs.Bytes.{pick}
use Rattle.wire.specs.Numbers.{limit}
use Rattle.wire.proofs.Lengths.{split}
use Rattle.wire.specs.declared.Refusal.{Refusal}
use Rattle.entries.specs.Profiles.{record_size}
use Rattle.entries.specs.Entries.{group_of, behind, entry_behind, entry_of, at_or_above, follows_or, records_good, entries_good}
use Rattle.entries.specs.Runs.{run_to, run_from, run_of}
use Rattle.entries.specs.Steps.{inside, floor_of, next_of}
use Rattle.entries.specs.declared.Profile.{Profile}
use Rattle.entries.specs.declared.Profile.TheVariants.{One, Two}
use Rattle.entries.specs.declared.Entry.{Entry}
use Rattle.entries.specs.declared.Run.{Run}
use Rattle.entries.proofs.Steps.{followed, step_is}
use Rattle.entries.proofs.Verdicts.{key-is}

-- ---- one record more

-- the run over all records that s holds
abbrev pub run_left : Profile → List ℕ → ℕ → ℕ → ℕ → Run
run_left p s good last above = run_from p (length s / record_size p) good last above s

one_more : (p : Profile) (n m : ℕ) → n ≡ record_size p + m → n / record_size p ≡ suc (m / record_size p)
one_more One n m e = omega arith
one_more Two n m e = omega arith

none-held : (p : Profile) (n : ℕ) → n < record_size p → n / record_size p ≡ 0
none-held One n h = omega arith
none-held Two n h = omega arith

run-over : (p : Profile) (s : List ℕ) (good last above : ℕ) → length s < record_size p → run_left p s good last above ≡ run_to good last above
unfolding run_from
run-over p s good last above h = rw (none-held p (length s) h)

-- where the loop stands: what is left of the bytes, how many records were good, and R, the run over all bytes
pub record Going (p : Profile) (all s : List ℕ) (good last above : ℕ) (R : Run) : Type 0 where
  pub counts : good + length s / record_size p ≡ length all / record_size p
  pub gives : run_left p s good last above ≡ R

pub going-starts : (p : Profile) (all s : List ℕ) (last above : ℕ) → s ≡ all → Going p all s 0 last above (run_of p last above all)
going-starts p all s last above e = record { counts = rw e (omega arith); gives = rw e }

pub going-ends : (p : Profile) (all s : List ℕ) (good last above : ℕ) (R : Run) → Going p all s good last above R → length s < record_size p → run_to good last above ≡ R
going-ends p all s good last above R now h = sym (run-over p s good last above h) ∙ now.gives

-- one step of the code over the record b, behind which t is left; its group is g
module _ (p : Profile) (all s b t : List ℕ) (e : s ≡ b ++ t) (l : length b ≡ record_size p) (good last above : ℕ) (R : Run) (now : Going p all s good last above R) (g : ℕ) (q : g ≡ group_of p b) where
  longer : length s ≡ record_size p + length t
  longer = ap length e ∙ length-append b t ∙ ap (λ (n : ℕ). n + length t) l

  turn : run_left p s good last above ≡ follows_or last above (entry_of p b) (λ group next. run_left p t (suc good) group next) (run_to good last above)
  unfolding run_from
  turn =
      let f : take (record_size p) s ≡ b = rw e (take_at b t (record_size p) l) in
      let d : drop (record_size p) s ≡ t = rw e (drop_at b t (record_size p) l) in
      rw (one_more p (length s) (length t) longer, f, d)

  here : pick (inside last g) (followed (next_of (floor_of last above g) (entry_behind 0 (behind p b))) (run_left p t (suc good) g) (run_to good last above)) (run_to good last above) ≡ R
  here = rw q (sym (step_is last above (group_of p b) (behind p b) (λ group next. run_left p t (suc good) group next) (run_to good last above)) ∙ sym turn ∙ now.gives)

  pub more-room : good + 1 ≤ length all / record_size p
  more-room = omega (arith, now.counts, one_more p (length s) (length t) longer)

  pub stop-group : inside last g ≡ false → run_to good last above ≡ R
  stop-group i = rw i at here

  -- x is what it leaves to the next; floor and c are what the code has for the floor and the bytes behind the group
  module _ (i : inside last g ≡ true) (floor : ℕ) (f : floor ≡ floor_of last above g) (c : List ℕ) (d : c ≡ behind p b) (x : Option ℕ) (o : x ≡ next_of floor (entry_behind 0 c)) where
    on : followed x (run_left p t (suc good) g) (run_to good last above) ≡ R
    on = rw (o, f, d) (rw i at here)

    pub stop-object : x ≡ None → run_to good last above ≡ R
    stop-object m = rw m at on

    pub more-record : (m : ℕ) → x ≡ Some m → Going p all t (good + 1) g m R
    more-record m k = record { counts = omega (arith, now.counts, one_more p (length s) (length t) longer); gives = rw add-one (rw k at on) }

-- ---- what a run starts with

-- a group that none can follow
module _ (p : Profile) (last : ℕ) (never : (b : List ℕ) → inside last (group_of p b) ≡ false) where
  none : (n above : ℕ) (s : List ℕ) → run_to 0 last above ≡ run_from p n 0 last above s
  unfolding run_from
  none zero above s = refl
  none (suc n) above s =
      sym (rw (never (take (record_size p) s)) at (step_is last above (group_of p (take (record_size p) s)) (behind p (take (record_size p) s)) (λ group next. run_from p n 1 group next (drop (record_size p) s)) (run_to 0 last above)))

pub no-group : (last : ℕ) → (last ≡ 0 → ⊥) → (n above : ℕ) (s : List ℕ) → run_to 0 last above ≡ run_from One n 0 last above s
no-group last h = none One last (λ b. lt-leb last 0 (omega (arith, h)))

pub large-group : (p : Profile) (last : ℕ) → limit < last → (n above : ℕ) (s : List ℕ) → run_to 0 last above ≡ run_from p n 0 last above s
large-group p last h = none p last (λ b. out (group_of p b))
  where
    out : (g : ℕ) → inside last g ≡ false
    out g = split g limit (λ l. rw (le-leb g limit l) (lt-leb last g (omega arith))) (λ l. rw (lt-leb g limit l))

-- no object number is above the largest, so a floor that lies further off asks the same
module _ (p : Profile) (last above : ℕ) where
  abbrev low : ℕ
  low = min above (suc limit)

  same-order : (g o : ℕ) → o ≤ limit → at_or_above last above g o ≡ at_or_above last low g o
  same-order g o h = ap (λ (b : Bool). pick (eqb g last) b (ltb last g)) floor
    where
      floor : leb above o ≡ leb low o
      floor = split above o (λ l. le-leb above o l ∙ sym (le-leb low o (omega arith))) (λ l. lt-leb above o l ∙ sym (lt-leb low o (omega arith)))

  grows : (n good l a : ℕ) (s : List ℕ) → good ≤ (run_from p n good l a s).good
  unfolding run_from
  grows zero good l a s = omega arith
  grows (suc n) good l a s = go (entry_of p (take (record_size p) s)) (λ g o. grows n (suc good) g o (drop (record_size p) s))
    where
      go : (e : Result Entry Refusal) → ((g o : ℕ) → suc good ≤ (run_from p n (suc good) g o (drop (record_size p) s)).good)
          → good ≤ (follows_or l a e (λ group next. run_from p n (suc good) group next (drop (record_size p) s)) (run_to good l a)).good
      go (Ok e) more = at (at_or_above l a e.group e.object)
        where
          at : (b : Bool) → good ≤ (pick b (run_from p n (suc good) e.group (suc e.object) (drop (record_size p) s)) (run_to good l a)).good
          at true = omega (arith, more e.group (suc e.object))
          at false = omega arith
      go (Err refusal) more = omega arith

  -- the run behind a first record of the bytes
  abbrev more : ℕ → List ℕ → ℕ → ℕ → Run
  more n s g o = run_from p n 1 g o (drop (record_size p) s)

  -- r is the run from the nearer floor
  pub run-low : (n : ℕ) (s : List ℕ) (r : Run) → r ≡ run_from p n 0 last low s → pick (eqb r.good 0) (run_to 0 last above) r ≡ run_from p n 0 last above s
  unfolding run_from
  run-low zero s r q = rw q
  run-low (suc n) s r q = rw q (go (entry_of p (take (record_size p) s)) refl)
    where
      some : (g o : ℕ) → pick (eqb (more n s g o).good 0) (run_to 0 last above) (more n s g o) ≡ more n s g o
      some g o = rw (ne_eqb (more n s g o).good 0 (λ z. omega (arith, grows n 1 g o (drop (record_size p) s))))

      go : (e : Result Entry Refusal) → entry_of p (take (record_size p) s) ≡ e
          → pick (eqb (follows_or last low e (more n s) (run_to 0 last low)).good 0) (run_to 0 last above) (follows_or last low e (more n s) (run_to 0 last low)) ≡ follows_or last above e (more n s) (run_to 0 last above)
      go (Ok x) e =
          rw (same-order x.group x.object (key-is p (take (record_size p) s) (Ok x) x.group x.object x.status x.age refl (sym e)).small) (at (at_or_above last low x.group x.object))
        where
          at : (b : Bool) → pick (eqb (pick b (more n s x.group (suc x.object)) (run_to 0 last low)).good 0) (run_to 0 last above) (pick b (more n s x.group (suc x.object)) (run_to 0 last low))
              ≡ pick b (more n s x.group (suc x.object)) (run_to 0 last above)
          at true = some x.group (suc x.object)
          at false = refl
      go (Err refusal) e = refl

-- ---- all records are good exactly where the run is as long as they are many

all-run : (p : Profile) (n good last above : ℕ) (s : List ℕ) → eqb (run_from p n good last above s).good (good + n) ≡ records_good p n last above s
unfolding run_from records_good
all-run p zero good last above s = eq-eqb good (good + 0) (omega arith)
all-run p (suc n) good last above s = go (entry_of p (take (record_size p) s)) (λ g o. all-run p n (suc good) g o (drop (record_size p) s))
  where
    less : eqb good (good + suc n) ≡ false
    less = ne_eqb good (good + suc n) (λ z. omega arith)

    go : (e : Result Entry Refusal) → ((g o : ℕ) → eqb (run_from p n (suc good) g o (drop (record_size p) s)).good (suc good + n) ≡ records_good p n g o (drop (record_size p) s))
        → eqb (follows_or last above e (λ group next. run_from p n (suc good) group next (drop (record_size p) s)) (run_to good last above)).good (good + suc n)
        ≡ follows_or last above e (λ group next. records_good p n group next (drop (record_size p) s)) false
    go (Ok e) more = at (at_or_above last above e.group e.object)
      where
        at : (b : Bool) → eqb (pick b (run_from p n (suc good) e.group (suc e.object) (drop (record_size p) s)) (run_to good last above)).good (good + suc n)
            ≡ pick b (records_good p n e.group (suc e.object) (drop (record_size p) s)) false
        at true = let m : good + suc n ≡ suc good + n = omega arith in rw m (more e.group (suc e.object))
        at false = less
    go (Err refusal) more = less

-- n and r are what the code has for how many records there are and for the run over them
pub run-full : (p : Profile) (s : List ℕ) (n : ℕ) (r : Run) → n ≡ length s / record_size p → r ≡ run_of p 0 0 s → eqb r.good n ≡ entries_good p s
run-full p s n r e q =
    let z : 0 + length s / record_size p ≡ length s / record_size p = omega arith in
    rw (e, q) (rw z at (all-run p (length s / record_size p) 0 0 0 s))
