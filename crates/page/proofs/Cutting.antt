-- However a file is cut, the page is that of the whole: each step leaves the page of what is left unchanged, whatever follows, and
-- where no step takes anything more, the end of the file makes the page.
-- Assumes nothing.
use Prim.Native.Nat.{ℕ, zero, suc, ◌+◌, ◌-◌, ◌≤◌, ◌<◌, min}
use mathlib.Core.Path.{◌≡◌, refl, sym, ap, ◌∙◌}
use mathlib.Core.List.{List, [], ◌∷◌, ◌++◌, append_assoc, append-nil}
use native.Mathlib.Nat.{lt_of_not-le}
use native.Mathlib.Decide.{dec_le}
use native.Mathlib.Omega.{arith}
use borrow.Author.Tests.{le-leb, lt-leb, eq-eqb, ne_eqb}
use lib.Dec.{leb}
use lib.ListN.{length, drop, length-append, length-take, length-drop}
use lib.Seq.{drop-drop, take-append-le, drop-append-le}
use Rattle.wire.specs.Bytes.{pick}
use Rattle.totals.specs.declared.Totals.{Totals}
use Rattle.totals.specs.declared.Standing.{Standing}
use Rattle.totals.specs.Totals.{longest}
use Rattle.totals.specs.Adding.{added}
use Rattle.totals.specs.Files.{length_size, length_at, report_at, behind, Cut, Reports, EndsEarly, before, cut_from, cut, start, with_long, nothing, step_of, taken_from}
use Rattle.page.specs.Page.{lines, early, page_of, printed}
use Rattle.totals.specs.Sums.{added_all}
use Rattle.page.specs.Pieces.{Place, turn, turns, opened, LeftShort, file, PageInPieces}
use Rattle.totals.proofs.Summing.{brings-long, adds-up}
use Rattle.page.proofs.Printing.{printed-skipping, printed-left, printed-whole}
use Rattle.totals.proofs.Stepping.{step_skip, step-ends, step-long, step_part, step-whole, step-empty, taken-stop, taken_more}

-- ---- the reports of a file

module _ (n : ℕ) (s : List ℕ) where
  from-none : length s ≡ 0 → cut_from n s ≡ Reports []
  unfolding cut_from
  from-none e = go n
    where
      go : (n : ℕ) → cut_from n s ≡ Reports []
      go zero = refl
      go (suc n) = rw (eq-eqb (length s) 0 e)

  from-early : 0 < length s → length s < length_size + length_at s → cut_from (suc n) s ≡ EndsEarly
  unfolding cut_from
  from-early h l = rw (cut_from, ne_eqb (length s) 0 (λ e. omega arith), lt-leb (length_size + length_at s) (length s) l)

  from_more : length_size + length_at s ≤ length s → cut_from (suc n) s ≡ before (report_at s) (cut_from n (behind s))
  unfolding cut_from
  from_more h = rw (cut_from, ne_eqb (length s) 0 (λ e. omega arith), le-leb (length_size + length_at s) (length s) h)

-- steps enough are all steps
cuts-enough : (n m : ℕ) (s : List ℕ) → length s ≤ n → length s ≤ m → cut_from n s ≡ cut_from m s
cuts-enough zero m s h k = from-none zero s (omega arith) ∙ sym (from-none m s (omega arith))
cuts-enough (suc n) zero s h k = from-none (suc n) s (omega arith) ∙ sym (from-none zero s (omega arith))
cuts-enough (suc n) (suc m) s h k =
    elim (dec_le (length_size + length_at s) (length s)) [
      | yes l ↦
          let a : length (behind s) ≤ n = simp length-drop (omega arith) in
          let b : length (behind s) ≤ m = simp length-drop (omega arith) in
          from_more n s l ∙ ap (before (report_at s)) (cuts-enough n m (behind s) a b) ∙ sym (from_more m s l)
      | no l ↦
          elim (dec_le 1 (length s)) [
            | yes p ↦ from-early n s p (lt_of_not-le l) ∙ sym (from-early m s p (lt_of_not-le l))
            | no p ↦ let e : length s ≡ 0 = omega (arith, lt_of_not-le p) in from-none (suc n) s e ∙ sym (from-none (suc m) s e)
          ]
    ]

module _ (s : List ℕ) where
  cut-none : length s ≡ 0 → cut s ≡ Reports []
  cut-none e = from-none (length s) s e

  cut-early : 0 < length s → length s < length_size + length_at s → cut s ≡ EndsEarly
  cut-early h l = let e : length s ≡ suc (length s - 1) = omega arith in cuts-enough (length s) (suc (length s - 1)) s (omega arith) (omega arith) ∙ from-early (length s - 1) s h l

  cut-more : length_size + length_at s ≤ length s → cut s ≡ before (report_at s) (cut (behind s))
  cut-more h =
      let a : length (behind s) ≤ length s - 1 = simp length-drop (omega arith) in
      let b : length (behind s) ≤ length (behind s) = omega arith in
      cuts-enough (length s) (suc (length s - 1)) s (omega arith) (omega arith)
      ∙ from_more (length s - 1) s h
      ∙ ap (before (report_at s)) (cuts-enough (length s - 1) (length (behind s)) (behind s) a b)

-- ---- the page of what is left

-- the reports that are still to come, after the totals so far
abbrev page_from : Totals → Cut → List ℕ
page_from t (Reports rs) = lines (added_all t rs)
page_from t EndsEarly = early

page-before : (t : Totals) (r : List ℕ) (c : Cut) → page_from t (before r c) ≡ page_from (added t r) c
page-before t r (Reports rs) = refl
page-before t r EndsEarly = refl

-- the page where s is all that is left
abbrev finish : Standing → List ℕ → List ℕ
finish st s = pick (leb st.skip (length s)) (page_from st.totals (cut (drop st.skip s))) early

finish-plain : (st : Standing) (s : List ℕ) → st.skip ≡ 0 → finish st s ≡ page_from st.totals (cut s)
finish-plain st s e = rw (e, le-leb 0 (length s) (omega arith))

long-added : (t : Totals) (r : List ℕ) → longest < length r → added t r ≡ with_long t
unfolding with_long
long-added t r h = rw (brings-long r h)

-- ---- one step

module _ (st : Standing) (s rest : List ℕ) where
  -- bytes that are skipped
  finish-skips : (u : ℕ) → u ≤ st.skip → u ≤ length s
      → finish st (s ++ rest) ≡ finish (record { totals = st.totals; skip = st.skip - u }) (drop u s ++ rest)
  finish-skips u h l =
      let e : u + (st.skip - u) ≡ st.skip = omega arith in
      let d : drop st.skip (s ++ rest) ≡ drop (st.skip - u) (drop u s ++ rest) =
      sym (ap (λ (n : ℕ). drop n (s ++ rest)) e) ∙ sym (drop-drop (st.skip - u) u (s ++ rest)) ∙ ap (drop (st.skip - u)) (drop-append-le u s rest l) in
      let a : length (s ++ rest) ≡ length s + length rest = length-append s rest in
      let b : length (drop u s ++ rest) ≡ length s - u + length rest = simp (length-append, length-drop) (omega arith) in
      elim (dec_le st.skip (length (s ++ rest))) [
        | yes k ↦ let m : st.skip - u ≤ length (drop u s ++ rest) = omega arith in rw (le-leb st.skip (length (s ++ rest)) k, le-leb (st.skip - u) (length (drop u s ++ rest)) m, d)
        | no k ↦
            let g : length (s ++ rest) < st.skip = lt_of_not-le k in
            let m : length (drop u s ++ rest) < st.skip - u = omega arith in
            rw (lt-leb st.skip (length (s ++ rest)) g, lt-leb (st.skip - u) (length (drop u s ++ rest)) m)
      ]

  module _ (z : st.skip ≡ 0) (h : length_size ≤ length s) where
    -- what follows a length does not matter to it
    same_length : length_at (s ++ rest) ≡ length_at s
    same_length = rw (take-append-le 4 s rest h)

    same-behind : behind (s ++ rest) ≡ drop (length_at s) (drop length_size s ++ rest)
    same-behind = rw same_length (sym (drop-drop (length_at s) 4 (s ++ rest)) ∙ rw (drop-append-le 4 s rest h))

    finish-whole : length_size + length_at s ≤ length s
        → finish st (s ++ rest) ≡ finish (record { totals = added st.totals (report_at s); skip = 0 }) (drop (length_size + length_at s) s ++ rest)
    finish-whole l =
        let a : length_size + length_at (s ++ rest) ≤ length (s ++ rest) = rw same_length (omega (arith, length-append s rest)) in
        let n : length_at s ≤ length (drop length_size s) = simp length-drop (omega arith) in
        let r : report_at (s ++ rest) ≡ report_at s = rw (same_length, drop-append-le 4 s rest h, take-append-le (length_at s) (drop length_size s) rest n) in
        let b : behind (s ++ rest) ≡ drop (length_size + length_at s) s ++ rest = rw same_length (drop-append-le (length_size + length_at s) s rest l) in
        finish-plain st (s ++ rest) z
        ∙ ap (page_from st.totals) (cut-more (s ++ rest) a)
        ∙ page-before st.totals (report_at (s ++ rest)) (cut (behind (s ++ rest)))
        ∙ rw (r, b) (sym (finish-plain (record { totals = added st.totals (report_at s); skip = 0 }) (drop (length_size + length_at s) s ++ rest) refl))

    -- a report that is too long is counted, whatever its bytes are
    finish-long : longest < length_at s
        → finish st (s ++ rest) ≡ finish (record { totals = with_long st.totals; skip = length_at s }) (drop length_size s ++ rest)
    finish-long g =
        let n = length_at s in
        let x = drop length_size s ++ rest in
        let y : length x + length_size ≡ length (s ++ rest) = simp (length-append, length-drop) (omega arith) in
        elim (dec_le (length_size + n) (length (s ++ rest))) [
          | yes k ↦
              let a : length_size + length_at (s ++ rest) ≤ length (s ++ rest) = rw same_length k in
              let m : n ≤ length x = omega arith in
              let o : length (drop length_size (s ++ rest)) ≡ length (s ++ rest) - length_size = length-drop length_size (s ++ rest) in
              let l : longest < length (report_at (s ++ rest)) = rw same_length (simp (length-take, length-drop) (omega arith)) in
              let w : added st.totals (report_at (s ++ rest)) ≡ with_long st.totals = long-added st.totals (report_at (s ++ rest)) l in
              finish-plain st (s ++ rest) z
              ∙ ap (page_from st.totals) (cut-more (s ++ rest) a)
              ∙ page-before st.totals (report_at (s ++ rest)) (cut (behind (s ++ rest)))
              ∙ rw (w, same-behind, le-leb n (length x) m)
          | no k ↦
              let a : length (s ++ rest) < length_size + length_at (s ++ rest) = rw same_length (lt_of_not-le k) in
              let m : length x < n = omega (arith, lt_of_not-le k) in
              let p : 0 < length (s ++ rest) = omega arith in
              finish-plain st (s ++ rest) z ∙ ap (page_from st.totals) (cut-early (s ++ rest) p a) ∙ rw (lt-leb n (length x) m)
        ]

  finish-nothing : step_of st s ≡ nothing st → finish st (s ++ rest) ≡ finish (step_of st s).next (drop (step_of st s).used s ++ rest)
  finish-nothing e = rw e

  finish-step : finish st (s ++ rest) ≡ finish (step_of st s).next (drop (step_of st s).used s ++ rest)
  finish-step =
      elim (dec_le 1 st.skip) [
        | yes p ↦ rw (step_skip st s p) (finish-skips (min st.skip (length s)) (omega arith) (omega arith))
        | no p ↦
            let z : st.skip ≤ 0 = omega (arith, lt_of_not-le p) in
            elim (dec_le length_size (length s)) [
              | no h ↦ finish-nothing (step-ends st s z (lt_of_not-le h))
              | yes h ↦
                  elim (dec_le (length_at s) longest) [
                    | no l ↦ rw (step-long st s z h (lt_of_not-le l)) (finish-long (omega arith) h (lt_of_not-le l))
                    | yes l ↦
                        elim (dec_le (length_size + length_at s) (length s)) [
                          | yes k ↦ rw (step-whole st s z h l k) (finish-whole (omega arith) h k)
                          | no k ↦ finish-nothing (step_part st s z h l (lt_of_not-le k))
                        ]
                  ]
            ]
      ]

-- ---- all steps of a piece

module _ (whole rest : List ℕ) where
  finish-from : (n : ℕ) (st : Standing) (at : ℕ)
      → finish st (drop at whole ++ rest) ≡ finish (taken_from n st (drop at whole) at).next (drop (taken_from n st (drop at whole) at).used whole ++ rest)
  unfolding taken_from
  finish-from zero st at = refl
  finish-from (suc n) st at =
      let s = drop at whole in
      let u = (step_of st s).used in
      elim (dec_le 1 u) [
        | no g ↦ let e : u ≡ 0 = omega (arith, lt_of_not-le g) in rw (taken-stop (suc n) st s at e)
        | yes g ↦
            let f : (u ≡ 0 → ⊥) = λ e. omega arith in
            finish-step st s rest
            ∙ rw (taken_more n st s at f, drop-drop u at whole) (finish-from n (step_of st s).next (at + u))
      ]

  -- no further step takes anything
  stuck-from : (n : ℕ) (st : Standing) (at : ℕ) → length (drop at whole) ≤ n
      → (step_of (taken_from n st (drop at whole) at).next (drop (taken_from n st (drop at whole) at).used whole)).used ≡ 0
  unfolding taken_from
  stuck-from zero st at h = step-empty st (drop at whole) (omega arith)
  stuck-from (suc n) st at h =
      let s = drop at whole in
      let u = (step_of st s).used in
      elim (dec_le 1 u) [
        | no g ↦ let e : u ≡ 0 = omega (arith, lt_of_not-le g) in rw (taken-stop (suc n) st s at e) e
        | yes g ↦
            let f : (u ≡ 0 → ⊥) = λ e. omega arith in
            let l : length (drop (at + u) whole) ≤ n = simp length-drop (omega (arith, length-drop at whole)) in
            rw (taken_more n st s at f, drop-drop u at whole) (stuck-from n (step_of st s).next (at + u) l)
      ]

-- ---- the end of the file

module _ (st : Standing) (s : List ℕ) where
  -- where nothing is to be skipped and no step takes anything, a length or a report is cut
  cut_short : st.skip ≡ 0 → (step_of st s).used ≡ 0 → (length s < length_size + length_at s) × (length s < length_size + longest)
  cut_short z e =
      let y : st.skip ≤ 0 = omega arith in
      elim (dec_le length_size (length s)) [
        | no h ↦ (omega (arith, lt_of_not-le h), omega (arith, lt_of_not-le h))
        | yes h ↦
            elim (dec_le (length_at s) longest) [
              | no l ↦ let f = rw (step-long st s y h (lt_of_not-le l)) at e in absurd (omega arith)
              | yes l ↦
                  elim (dec_le (length_size + length_at s) (length s)) [
                    | yes k ↦ let f = rw (step-whole st s y h l k) at e in absurd (omega arith)
                    | no k ↦ (lt_of_not-le k, omega (arith, lt_of_not-le k))
                  ]
            ]
      ]

  -- while bytes are skipped, none is left
  stuck-short : (step_of st s).used ≡ 0 → length s < length_size + longest
  stuck-short e =
      elim (dec_le 1 st.skip) [
        | yes p ↦ let f = rw (step_skip st s p) at e in omega arith
        | no p ↦ (cut_short (omega (arith, lt_of_not-le p)) e).1
      ]

  finish-end : (step_of st s).used ≡ 0 → finish st s ≡ printed st (length s)
  finish-end e =
      elim (dec_le 1 st.skip) [
        | yes p ↦
            let f = rw (step_skip st s p) at e in
            let l : length s < st.skip = omega arith in
            rw (lt-leb st.skip (length s) l) (sym (printed-skipping st (length s) (λ q. omega arith)))
        | no p ↦
            let z : st.skip ≡ 0 = omega (arith, lt_of_not-le p) in
            elim (dec_le 1 (length s)) [
              | no q ↦
                  let n : length s ≡ 0 = omega (arith, lt_of_not-le q) in
                  finish-plain st s z ∙ ap (page_from st.totals) (cut-none s n) ∙ sym (printed-whole st (length s) z n)
              | yes q ↦
                  finish-plain st s z ∙ ap (page_from st.totals) (cut-early s q (cut_short z e).0) ∙ sym (printed-left st (length s) (λ n. omega arith))
            ]
      ]

-- ---- all pieces

in_turns : (pieces : List (List ℕ)) (p : Place) → (step_of p.standing p.left).used ≡ 0
    → printed (turns p pieces).standing (length (turns p pieces).left) ≡ finish p.standing (p.left ++ file pieces)
in_turns [] p e = rw append-nil (sym (finish-end p.standing p.left e))
in_turns (bytes ∷ more) p e =
    let whole = p.left ++ bytes in
    in_turns more (turn p bytes) (stuck-from whole [] (length whole) p.standing 0 (omega arith))
    ∙ sym (rw (← append_assoc p.left bytes (file more)) (finish-from whole (file more) (length whole) p.standing 0))

pub left-short : LeftShort
left-short p bytes =
    let whole = p.left ++ bytes in
    stuck-short (turn p bytes).standing (turn p bytes).left (stuck-from whole [] (length whole) p.standing 0 (omega arith))

start-skip : start.skip ≡ 0
unfolding start
start-skip = refl

pub page-in-pieces : PageInPieces
page-in-pieces pieces = in_turns pieces opened (step-empty start [] refl) ∙ finish-plain start (file pieces) start-skip ∙ by-cut (cut (file pieces))
  where
    by-cut : (c : Cut) → page_from start.totals c ≡ page_of c
    by-cut (Reports rs) = ap lines (adds-up rs)
    by-cut EndsEarly = refl
