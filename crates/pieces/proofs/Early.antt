-- The header that a call hands over before the end is that of the report's numbers: the calls are the steps, and there it holds.
-- Assumes nothing.
use Prim.Native.Nat.{ℕ}
use mathlib.Core.Path.{◌≡◌, refl, sym, ap, ◌∙◌}
use mathlib.Core.List.{List, ◌++◌, append_assoc}
use lib.ListN.{length, take, drop, take-append-drop}
use Rattle.entries.specs.Profiles.{number_of}
use Rattle.entries.specs.declared.Profile.{Profile}
use Rattle.entries.specs.declared.Profile.TheVariants.{One, Two}
use Rattle.report.specs.Reader.{read_numbers, read_report}
use Rattle.uncut.specs.State.{State, start, header_at, whole_at}
use Rattle.uncut.specs.Step.{after}
use Rattle.uncut.specs.Cutting.{taking}
use Rattle.uncut.specs.Whole.{header_in}
use Rattle.uncut.proofs.Cuts.{after-append, fed}
use Rattle.uncut.proofs.Early.{header-of-numbers, header-of-accepted}
use Rattle.pieces.specs.Record.{words_of}
use Rattle.pieces.specs.Calls.{open_after, take_answer}
use Rattle.pieces.specs.Handing.{HeaderEarly}
use Rattle.pieces.proofs.Staying.{kept-start}
use Rattle.pieces.proofs.Handed.{handed, answer-header}

pub header-early : HeaderEarly
header-early p before s w out part rest xs o f d e =
    let r = handed p start (kept-start p) (opened p) o d in
    let k : ℕ = taking p (length xs) r.st' part in
    let a : after p start s ≡ r.st' = (fed p r.fed).0 in
    let h : (take_answer (words_of p r.st') part (length xs)).whole ≡ 1 = ap (λ (x : List ℕ). (take_answer x part (length xs)).whole) (sym r.says) ∙ e in
    let b = answer-header p r.st' r.kept part xs f h in
    let t : after p r.st' (take (taking p (length xs) r.st' part) part) ≡ after p start (s ++ take (taking p (length xs) r.st' part) part) =
    ap (λ (x : State). after p x (take (taking p (length xs) r.st' part) part)) (sym a) ∙ sym (after-append p start s (take (taking p (length xs) r.st' part) part)) in
    let c : (take_answer w part (length xs)).header ≡ header_at (after p start (s ++ take (taking p (length xs) r.st' part) part)) =
    ap (λ (x : List ℕ). (take_answer x part (length xs)).header) r.says ∙ b.1 ∙ ap header_at t in
    let g : whole_at (after p start (s ++ take (taking p (length xs) r.st' part) part)) ≡ 1 = ap whole_at (sym t) ∙ b.0 in
    let l : (s ++ take (taking p (length xs) r.st' part) part) ++ (drop (taking p (length xs) r.st' part) part ++ rest) ≡ s ++ (part ++ rest) = again (taking p (length xs) r.st' part) in
    record {
      numbers = c ∙ header-of-numbers p (s ++ take (taking p (length xs) r.st' part) part) (drop (taking p (length xs) r.st' part) part ++ rest) g ∙ ap (λ (x : List ℕ). header_in (read_numbers p x)) l;
      accepted = λ z. c ∙ header-of-accepted p (s ++ take (taking p (length xs) r.st' part) part) (drop (taking p (length xs) r.st' part) part ++ rest) g (ap (λ (x : List ℕ). (read_report p x).refusal) l ∙ z)
          ∙ ap (λ (x : List ℕ). (read_report p x).header) l;
    }
  where
    opened : (q : Profile) → open_after before (number_of q) ≡ words_of q start
    opened One = refl
    opened Two = refl

    again : (k : ℕ) → (s ++ take k part) ++ (drop k part ++ rest) ≡ s ++ (part ++ rest)
    again k =
        append_assoc s (take k part) (drop k part ++ rest)
        ∙ ap (λ (x : List ℕ). s ++ x) (sym (append_assoc (take k part) (drop k part) rest) ∙ ap (λ (x : List ℕ). x ++ rest) (take-append-drop k part))
