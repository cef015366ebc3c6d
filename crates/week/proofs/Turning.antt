-- What a turn leaves at the start of the buffer is what the definitions leave of the bytes that it had.
-- Assumes nothing.
use Prim.Native.Nat.{ℕ, zero, suc, ◌+◌, ◌-◌, ◌^◌, ◌≤◌, ◌<◌, min}
use mathlib.Core.Path.{◌≡◌, refl, sym, ap, ◌∙◌}
use mathlib.Core.Bool.{true, false}
use mathlib.Core.List.{List, [], ◌∷◌, ◌++◌}
use native.Mathlib.Omega.{arith}
use borrow.Author.Tests.{le-leb, lt-ltb}
use lib.IntN.{ℤ, pos, negsuc}
use lib.ListN.{length, take, drop, length-take, length-drop, length-append, take-append-drop}
use lib.Seq.{take_at, take-nil, take-append-add}
use Rattle.std.proofs.Math.Nat.{min-le_right}
use Rattle.std.specs.Result.{result_ok}
use Rattle.std.specs.Counts.{IsPrefixLen, clamp_len}
use Rattle.std.specs.Prelude.{Option, Some, None, Result, Ok, Err, IfOk}
use Rattle.std.specs.Option.{unwrap_or}
use Rattle.wire.specs.Bytes.{pick}
use Rattle.totals.specs.declared.Taken.{Taken}
use Rattle.totals.specs.Files.{start, taken, moved}
use Rattle.page.specs.Page.{printed}
use Rattle.page.proofs.Cutting.{left-short, page-in-pieces}
use Rattle.page.specs.Pieces as pieces
use Rattle.week.specs.declared.Place.{Place}
use Rattle.week.specs.Turn.{more_of, ended_of, answer_of, last_of, gave, at_end, many, least, standing, came, Took, Read, Turned, Reads, begun, next, pieces_of, HasRead, to_print, Printed}

drop-take : (u e : ℕ) (l : List ℕ) → u ≤ e → drop u (take e l) ≡ take (e - u) (drop u l)
drop-take zero e l h = let k : e - 0 ≡ e = omega arith in rw k
drop-take (suc u) zero l h = absurd (omega arith)
drop-take (suc u) (suc e) [] h = sym (take-nil (suc e - suc u))
drop-take (suc u) (suc e) (x ∷ l) h = let k : suc e - suc u ≡ e - u = omega arith in drop-take u e l (omega arith) ∙ rw k

-- what is kept is what was not taken
rest-kept : (xs : List ℕ) (used end : ℕ) → used ≤ end → end ≤ length xs → take (end - used) (moved xs used end) ≡ drop used (take end xs)
rest-kept xs used end h l =
    let n : length (take (end - used) (drop used xs)) ≡ end - used = simp (length-take, length-drop) (omega arith) in
    rw (le-leb end (length xs) l) (take_at (take (end - used) (drop used xs)) (drop (0 + length (take (end - used) (drop used xs))) xs) (end - used) n)
    ∙ sym (drop-take used end xs h)

abbrev after : Taken → List ℕ → pieces.Place
after k s = record { standing = k.next; left = drop k.used s }

-- xs is the buffer as the read left it, read how many bytes came, k what `piece` answered, ys the buffer after the turn
module _ (p : Place) (xs : List ℕ) (read : ℕ) (h : p.left + read ≤ length xs) where
  -- what was left, and then what was read
  had : take (p.left + read) xs ≡ take p.left xs ++ take read (drop p.left xs)
  had =
      let n : length (take p.left xs) ≡ p.left = simp length-take (omega arith) in
      ap (take (p.left + read)) (sym (take-append-drop p.left xs))
      ∙ ap (λ (m : ℕ). take (m + read) (take p.left xs ++ drop p.left xs)) (sym n)
      ∙ take-append-add (take p.left xs) (drop p.left xs) read

  pub turned-is : (k : Taken) (ys : List ℕ) → k ≡ taken p.standing (take (p.left + read) xs) → k.used ≤ p.left + read
      → ys ≡ moved xs k.used (p.left + read)
      → ◌≡◌ {A = pieces.Place} (record { standing = k.next; left = take (p.left + read - k.used) ys }) (pieces.turn (standing p xs) (take read (drop p.left xs)))
  turned-is k ys e u g =
      let s = take p.left xs ++ take read (drop p.left xs) in
      let f : k ≡ taken p.standing s = e ∙ ap (taken p.standing) had in
      let q : take (p.left + read - k.used) ys ≡ drop k.used s =
      ap (take (p.left + read - k.used)) g ∙ rest-kept xs k.used (p.left + read) u h ∙ ap (drop k.used) had in
      rw q (ap (λ (x : Taken). after x s) f)

-- the part of the buffer behind what is left, as a callee is lent it
pub part-long : (left : ℕ) (xs : List ℕ) → length (take (length xs - left) (drop left xs)) ≡ length (drop left xs)
part-long left xs = simp (length-take, length-drop) (omega arith)

-- ---- what a read answers

-- no more than had room
pub clamp-most : (got : ℤ) (most : ℕ) → clamp_len got most ≤ most
clamp-most (pos n) most = min-le_right n most
clamp-most (negsuc n) most = omega arith

-- what the code makes of the answer
pub clamp-is : (came : Option ℕ) (most : ℕ) → min (unwrap_or came 0) most ≡ clamp_len (answer_of came) most
clamp-is None most = omega arith
clamp-is (Some n) most = refl

pub last-more : (came : Option ℕ) → more_of (last_of came) ≡ gave (answer_of came)
last-more None = refl
last-more (Some zero) = refl
last-more (Some (suc n)) = sym (lt-ltb 0 (suc n) (omega arith))

pub last-ended : (came : Option ℕ) → ended_of (last_of came) ≡ at_end (answer_of came)
last-ended None = refl
last-ended (Some zero) = refl
last-ended (Some (suc n)) = refl

-- what a read may answer: -1, or how many bytes it gave, at most as many as it has room for
abbrev pub Moved : ℕ → ℤ → Type 0
Moved room (pos n) = n ≤ room
Moved room (negsuc n) = n ≡ 0

-- what the code has of a read: as many bytes as it gave, which stand at the start of bs, or nothing where it failed
pub moved-in : {E : Type 0} (r : Result ℕ E) (o : Option ℕ) (bs : List ℕ) (room : ℕ) → o ≡ result_ok r → IfOk r (λ n. IsPrefixLen n bs) → length bs ≤ room → Moved room (answer_of o)
moved-in (Ok n) o bs room e b l = rw e (omega (arith, b.0))
moved-in (Err d) o bs room e b l = rw e refl

-- as many bytes as it answered
came-many : (got : ℤ) (zs : List ℕ) → Moved (length zs) got → length (take (clamp_len got (length zs)) zs) ≡ many got
came-many (pos n) zs m = simp length-take (omega arith)
came-many (negsuc n) zs m = refl

-- us is what the read left of the part that it was lent, got what it answered
pub turned_by : (p : Place) {r : Place} (xs us : List ℕ) {ys : List ℕ} {got : ℤ} → p.left ≤ length xs → length us ≡ length xs - p.left
    → Moved (length us) got → Took p (take p.left xs ++ us) got r ys → Turned p xs r ys
turned_by p {r} xs us {ys} {got} h l m t =
    let zs = take p.left xs ++ us in
    let n : length (take p.left xs) ≡ p.left = simp length-take (omega arith) in
    let d : length (drop p.left zs) ≡ length us = simp length-drop (omega (arith, length-append (take p.left xs) us)) in
    let e : standing p zs ≡ standing p xs = rw (take_at (take p.left xs) us p.left n) in
    record {
      read = record { got = got; bytes = came p zs got; as_many = came-many got (drop p.left zs) (rw d m) };
      turned = t.turned ∙ ap (λ (s : pieces.Place). pieces.turn s (came p zs got)) e;
      within = t.within;
      goes_on = t.goes_on;
      ends = t.ends;
    }

-- ---- turn after turn

-- the turns up to here, with so many left: the program stands where the definitions stand after the same reads
pub record Reached (p : Place) (xs : List ℕ) (turns : ℕ) : Type 0 where
  pub reads : List Read
  pub in_order : Reads reads (more_of p.last) (ended_of p.last)
  pub counted : length reads + turns ≡ 2 ^ 64 - 1
  pub reached : standing p xs ≡ pieces.turns pieces.opened (pieces_of reads)
  pub within : p.left ≤ length xs
  pub short : p.left < least

turns_more : (rs : List Read) (s : pieces.Place) (r : Read) → pieces.turns s (pieces_of (rs ++ (r ∷ []))) ≡ pieces.turn (pieces.turns s (pieces_of rs)) r.bytes
turns_more [] s r = refl
turns_more (q ∷ rs) s r = turns_more rs (pieces.turn s q.bytes) r

pub reached-start : (p : Place) (xs : List ℕ) → p.standing ≡ start → p.left ≡ 0 → more_of p.last ≡ true → ended_of p.last ≡ false → Reached p xs (2 ^ 64 - 1)
reached-start p xs e f g h =
    record { reads = []; in_order = rw (g, h) begun; counted = omega arith; reached = rw (e, f); within = omega arith; short = omega arith }

-- a turn is taken where the read before it gave bytes
pub reached-more : {p r : Place} {xs ys : List ℕ} {turns : ℕ} → Reached p xs turns → more_of p.last ≡ true → 0 < turns → Turned p xs r ys → Reached r ys (turns - 1)
reached-more {p} {r} {xs} {ys} {turns} a m h t =
    let rs = a.reads in
    let e : standing r ys ≡ pieces.turn (pieces.turns pieces.opened (pieces_of rs)) t.read.bytes =
    t.turned ∙ ap (λ (s : pieces.Place). pieces.turn s t.read.bytes) a.reached in
    let n : length (take r.left ys) ≡ r.left = simp length-take (omega (arith, t.within)) in
    let l : length (take r.left ys) < least = rw (ap (λ (s : pieces.Place). length s.left) e) (left-short (pieces.turns pieces.opened (pieces_of rs)) t.read.bytes) in
    record {
      reads = rs ++ (t.read ∷ []);
      in_order = rw (t.goes_on, t.ends) (next (rw m at a.in_order) t.read);
      counted = omega (arith, length-append rs (t.read ∷ []), a.counted);
      reached = e ∙ sym (turns_more rs pieces.opened t.read);
      within = t.within;
      short = omega (arith, n, l);
    }

pub has-read : {p : Place} {xs : List ℕ} {turns : ℕ} → Reached p xs turns → (more_of p.last ≡ true → turns ≡ 0) → HasRead p
has-read {p} {xs} a done =
    let n : length (take p.left xs) ≡ p.left = simp length-take (omega (arith, a.within)) in
    record {
      reads = a.reads;
      in_order = a.in_order;
      no-sooner = λ m. omega (arith, a.counted, done m);
      page-is =
          ap (printed p.standing) (sym n)
          ∙ ap (λ (s : pieces.Place). printed s.standing (length s.left)) a.reached
          ∙ page-in-pieces (pieces_of a.reads);
    }

-- ---- what is printed

pub printed-by : (p : Place) {us : List ℕ} → HasRead p → us ≡ to_print p → Printed us
printed-by p {us} a e =
    record {
      reads = a.reads;
      more = more_of p.last;
      ended = ended_of p.last;
      in_order = a.in_order;
      no-sooner = a.no-sooner;
      all = e ∙ ap (λ (l : List ℕ). pick (ended_of p.last) l []) a.page-is;
    }
