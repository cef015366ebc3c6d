-- The reading of numbers without places: what is left to read is all that counts. R is what is made of a reading: its answer, or the
-- records that it delivers.
-- Assumes nothing.
use Prim.Native.Nat.{ℕ, zero, suc, ◌+◌, ◌-◌, ◌≤◌, ◌<◌}
use mathlib.Core.Path.{◌≡◌, refl, sym, ap, ◌∙◌}
use mathlib.Core.Bool.{Bool, true, false}
use mathlib.Core.List.{List, [], ◌∷◌, ◌++◌, append-nil}
use native.Mathlib.Omega.{arith}
use borrow.Author.Tests.{lt-leb}
use lib.Dec.{leb}
use lib.ListN.{length, drop, length-append, length-drop}
use lib.Seq.{append_snoc, drop-drop, drop_at}
use Rattle.std.specs.Prelude.{Result, Ok, Err}
use Rattle.wire.specs.Bytes.{pick}
use Rattle.wire.specs.Fields.{formed}
use Rattle.wire.specs.Numbers.{read_number}
use Rattle.wire.specs.declared.Number.{Number}
use Rattle.wire.specs.Refusals.{number_of}
use Rattle.wire.specs.declared.Refusal.{Refusal}
use Rattle.wire.specs.declared.Refusal.TheVariants.{Ends}
use Rattle.entries.specs.declared.Profile.{Profile}
use Rattle.report.specs.Limits.{most_numbers}
use Rattle.report.specs.Header.{heeding, judge_field, wanted_of, count_of}
use Rattle.report.specs.Reader.{Reading, Whole, Stopped, numbers_from}
use Rattle.report.proofs.Following.{wanted-most}
use Rattle.uncut.specs.State.{State, Numbers, Records, Counting, Refused, Accepted}
use Rattle.uncut.specs.Step.{refused, with_number, field_grown}
use Rattle.uncut.proofs.Grown.{value_there, value-place, still-there, last_byte, moved, read_dropped}

-- what a reading comes to: a refusal, and n records behind a header's numbers, those that leave last and above before them
pub record Made (R : Type 0) : Type 0 where
  pub stop : ℕ → R
  pub rows : List ℕ → ℕ → ℕ → ℕ → List ℕ → R
  pub counted : ℕ → List ℕ → R
  pub done : List ℕ → R

-- by the number of a refusal
abbrev pub stopped : {R : Type 0} → Made R → Refusal → R
stopped m refusal = m.stop (number_of refusal)

-- at most n further numbers in the bytes t, then the entries
unfoldable pub free : {R : Type 0} → Made R → Profile → ℕ → List ℕ → List ℕ → R
free m p zero ns t = m.rows ns (count_of ns) 0 0 t
free m p (suc n) ns t =
    pick (leb (wanted_of p ns) (length ns)) (m.rows ns (count_of ns) 0 0 t)
    (formed (read_number t 0) (m.stop 2) (λ v next b.
    heeding (judge_field p ns v b) (stopped m) (free m p n (ns ++ (v ∷ [])) (drop next t))))

-- what is still to come, from a state on
unfoldable pub ahead : {R : Type 0} → Made R → Profile → State → List ℕ → R
ahead m p (Numbers ns held) s = free m p (most_numbers - length ns) ns (held ++ s)
ahead m p (Records ns zero last above held) s = m.rows ns zero last above s
ahead m p (Records ns (suc n) last above held) s = m.rows ns (suc n) last above (held ++ s)
ahead m p (Counting ns n) s = m.counted n s
ahead m p (Refused n) s = m.stop n
ahead m p (Accepted ns) s = m.done ns

module _ {R : Type 0} (m : Made R) (p : Profile) where
  -- ---- the whole reader's numbers, whatever is made of its reading

  module _ (s : List ℕ) (made : Reading → R) (stops : (refusal : Refusal) → made (Stopped refusal) ≡ stopped m refusal)
      (whole : (ns : List ℕ) (at : ℕ) → at ≤ length s → made (Whole ns at) ≡ m.rows ns (count_of ns) 0 0 (drop at s)) where
    pub free-is : (n at : ℕ) (ns : List ℕ) → at ≤ length s → made (numbers_from p n s at ns) ≡ free m p n ns (drop at s)
    unfolding numbers_from free
    free-is zero at ns h = whole ns at h
    free-is (suc n) at ns h = by (free-is n) (leb (wanted_of p ns) (length ns))
      where
        judged : ((at : ℕ) (ns : List ℕ) → at ≤ length s → made (numbers_from p n s at ns) ≡ free m p n ns (drop at s))
            → (v next : ℕ) → at + next ≤ length s → (x : Result Unit Refusal)
            → made (heeding x Stopped (numbers_from p n s (at + next) (ns ++ (v ∷ [])))) ≡ heeding x (stopped m) (free m p n (ns ++ (v ∷ [])) (drop next (drop at s)))
        judged more v next l (Ok u) = more (at + next) (ns ++ (v ∷ [])) l ∙ ap (free m p n (ns ++ (v ∷ []))) (sym (drop-drop next at s))
        judged more v next l (Err refusal) = stops refusal

        get : ((at : ℕ) (ns : List ℕ) → at ≤ length s → made (numbers_from p n s at ns) ≡ free m p n ns (drop at s))
            → (q : Result Number Refusal) → read_number (drop at s) 0 ≡ q
            → made (formed (moved at q) (Stopped Ends) (λ v next b. heeding (judge_field p ns v b) Stopped (numbers_from p n s next (ns ++ (v ∷ [])))))
            ≡ formed q (m.stop 2) (λ v next b. heeding (judge_field p ns v b) (stopped m) (free m p n (ns ++ (v ∷ [])) (drop next (drop at s))))
        get more (Ok k) e =
            let l : length (drop at s) ≡ length s - at = length-drop at s in
            let i = value_there (drop at s) 0 e in
            let j = value-place (drop at s) 0 e in
            judged more k.value k.next (omega arith) (judge_field p ns k.value k.shortest)
        get more (Err refusal) e = stops Ends

        by : ((at : ℕ) (ns : List ℕ) → at ≤ length s → made (numbers_from p n s at ns) ≡ free m p n ns (drop at s)) → (b : Bool)
            → made (pick b (Whole ns at) (formed (read_number s at) (Stopped Ends) (λ v next b. heeding (judge_field p ns v b) Stopped (numbers_from p n s next (ns ++ (v ∷ []))))))
            ≡ pick b (m.rows ns (count_of ns) 0 0 (drop at s)) (formed (read_number (drop at s) 0) (m.stop 2) (λ v next b. heeding (judge_field p ns v b) (stopped m) (free m p n (ns ++ (v ∷ [])) (drop next (drop at s)))))
        by more true = whole ns at h
        by more false =
            ap (λ (q : Result Number Refusal). made (formed q (Stopped Ends) (λ v next b. heeding (judge_field p ns v b) Stopped (numbers_from p n s next (ns ++ (v ∷ [])))))) (read_dropped s at h)
            ∙ get more (read_number (drop at s) 0) refl

  -- ---- the same byte by byte

  rows-ahead : (ns : List ℕ) (n last above : ℕ) (s : List ℕ) → m.rows ns n last above s ≡ ahead m p (Records ns n last above []) s
  unfolding ahead
  rows-ahead ns zero last above s = refl
  rows-ahead ns (suc n) last above s = refl

  -- the numbers are whole, or one more is looked for
  free-whole : (n : ℕ) (ns s : List ℕ) → leb (wanted_of p ns) (length ns) ≡ true → free m p n ns s ≡ m.rows ns (count_of ns) 0 0 s
  unfolding free
  free-whole zero ns s e = refl
  free-whole (suc n) ns s e = rw e

  number-ahead : (ns s : List ℕ) → free m p (most_numbers - length ns) ns s ≡ ahead m p (with_number p ns) s
  unfolding with_number ahead
  number-ahead ns s = go (leb (wanted_of p ns) (length ns)) refl
    where
      go : (b : Bool) → leb (wanted_of p ns) (length ns) ≡ b → free m p (most_numbers - length ns) ns s ≡ ahead m p (pick b (Records ns (count_of ns) 0 0 []) (Numbers ns [])) s
      go true e = free-whole (most_numbers - length ns) ns s e ∙ rows-ahead ns (count_of ns) 0 0 s
      go false e = refl

  module _ (ns held : List ℕ) (w : length ns < wanted_of p ns) (u : read_number held 0 ≡ Err Ends) where
    abbrev left : ℕ
    left = most_numbers - (length ns + 1)

    one_left : most_numbers - length ns ≡ suc left
    one_left = omega (arith, wanted-most p ns)

    free_open : (t : List ℕ) → free m p (most_numbers - length ns) ns t
        ≡ formed (read_number t 0) (m.stop 2) (λ v next b. heeding (judge_field p ns v b) (stopped m) (free m p left (ns ++ (v ∷ [])) (drop next t)))
    unfolding free
    free_open t = ap (λ (n : ℕ). free m p n ns t) one_left ∙ rw (lt-leb (wanted_of p ns) (length ns) w)

    pub field-ends : ahead m p (Numbers ns held) [] ≡ m.stop 2
    unfolding ahead
    field-ends = ap (free m p (most_numbers - length ns) ns) (append-nil held) ∙ free_open held ∙ rw u

    pub field_step : (b : ℕ) (s : List ℕ) → ahead m p (Numbers ns held) (b ∷ s) ≡ ahead m p (field_grown p ns (held ++ (b ∷ []))) s
    unfolding ahead field_grown
    field_step b s = ap (free m p (most_numbers - length ns) ns) (sym (append_snoc held b s)) ∙ go (read_number r 0) refl
      where
        r : List ℕ
        r = held ++ (b ∷ [])

        judged : (v : ℕ) (x : Result Unit Refusal) → heeding x (stopped m) (free m p left (ns ++ (v ∷ [])) s) ≡ ahead m p (heeding x refused (with_number p (ns ++ (v ∷ [])))) s
        judged v (Ok u) =
            let l : length (ns ++ (v ∷ [])) ≡ length ns + 1 = length-append ns (v ∷ []) in
            ap (λ (n : ℕ). free m p (most_numbers - n) (ns ++ (v ∷ [])) s) (sym l) ∙ number-ahead (ns ++ (v ∷ [])) s
        judged v (Err refusal) = refl

        go : (q : Result Number Refusal) → read_number r 0 ≡ q → free m p (most_numbers - length ns) ns (r ++ s)
            ≡ ahead m p (formed q (Numbers ns r) (λ v next b. heeding (judge_field p ns v b) refused (with_number p (ns ++ (v ∷ []))))) s
        go (Ok k) e =
            let d : drop k.next (r ++ s) ≡ s = drop_at r s k.next (sym (last_byte held b u e)) in
            free_open (r ++ s)
            ∙ rw (still-there r s e, d) (judged k.value (judge_field p ns k.value k.shortest))
        go (Err refusal) e = refl
