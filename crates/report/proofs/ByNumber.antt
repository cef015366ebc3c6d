-- The calls as the caller makes them, by the number of a profile: 18 for a number that is none's, and otherwise what was shown of each profile.
-- Assumes nothing.
use Prim.Native.Nat.{ℕ}
use mathlib.Core.Path.{◌≡◌, refl, ap, ◌∙◌, subst}
use mathlib.Core.Logic.{inl, inr}
use mathlib.Core.List.{List, [], ◌∷◌}
use borrow.Author.Tests.{eqb-false}
use lib.ListN.{length}
use Rattle.std.specs.Prelude.{Result, Err}
use Rattle.wire.specs.Exactly.{OneOf}
use Rattle.wire.specs.Refusals.{refusal_number}
use Rattle.wire.specs.declared.Refusal.{Refusal}
use Rattle.wire.specs.declared.Refusal.TheVariants.{OtherProfile}
use Rattle.entries.specs.Profiles.{number_of, Other}
use Rattle.entries.specs.declared.Profile.{Profile}
use Rattle.entries.proofs.Profiles.{Which, known, other as unknown, which, of-known, of_other}
use Rattle.report.specs.Header.{numbers_of}
use Rattle.report.specs.Reader.{Stopped, report_of, read_report, read_by}
use Rattle.report.specs.Writer.{write_answer, answer_by, write_bytes, bytes_by}
use Rattle.report.specs.Exactly.{By, ReaderRows, WriterRows, ReportReadsBy, ReportWritesBy, ReportUnchanged}
use Rattle.report.specs.declared.Header.{Header}
use Rattle.report.specs.declared.Report.{Report}
use Rattle.report.specs.declared.Written.{Written}
use Rattle.report.proofs.Exactly.{report-reads}
use Rattle.report.proofs.Refusing.{report-writes, unchanged}

-- one law for reader and writer: the rows of a profile do not give 18
module _ (Rows : Profile → ℕ → Type 0) (numbers : List ℕ) (others : (p : Profile) (n : ℕ) → Rows p n → OneOf n numbers) (none : OneOf 18 numbers → ⊥) where
  pub by : (profile refusal : ℕ) → ((p : Profile) → profile ≡ number_of p → Rows p refusal) → (Other profile → refusal ≡ 18) → By profile Rows numbers refusal
  by profile refusal rows eighteen = go (which profile)
    where
      go : Which profile → By profile Rows numbers refusal
      go (known p e) =
          let o = others p refusal (rows p e) in
          record { eighteen = (λ q. absurd (none (subst (λ (n : ℕ). OneOf n numbers) q o)), λ f. absurd (f p e)); rows = rows; others = inr o }
      go (unknown f) = record { eighteen = (λ q. f, eighteen); rows = rows; others = inl (eighteen f) }

pub report-reads-by : ReportReadsBy
unfolding report_of
report-reads-by profile s =
    by (λ p. ReaderRows p s) (0 ∷ 2 ∷ 10 ∷ 11 ∷ 12 ∷ 13 ∷ 15 ∷ []) (λ p n r. r.others) none profile (read_by profile s).refusal
    (λ p e. rw (of-known profile (report_of (Stopped OtherProfile)) (λ p. read_report p s) p e) (report-reads p s))
    (λ o. ap (λ (r : Report). r.refusal) (of_other profile (report_of (Stopped OtherProfile)) (λ p. read_report p s) o))
  where
    none : OneOf 18 (0 ∷ 2 ∷ 10 ∷ 11 ∷ 12 ∷ 13 ∷ 15 ∷ []) → ⊥
    none (inl e) = eqb-false 18 0 refl e
    none (inr (inl e)) = eqb-false 18 2 refl e
    none (inr (inr (inl e))) = eqb-false 18 10 refl e
    none (inr (inr (inr (inl e)))) = eqb-false 18 11 refl e
    none (inr (inr (inr (inr (inl e))))) = eqb-false 18 12 refl e
    none (inr (inr (inr (inr (inr (inl e)))))) = eqb-false 18 13 refl e
    none (inr (inr (inr (inr (inr (inr (inl e))))))) = eqb-false 18 15 refl e
    none (inr (inr (inr (inr (inr (inr (inr x))))))) = elim x [ ]

module _ (profile : ℕ) (h : Header) (entries : List ℕ) (maximum room : ℕ) where
  abbrev answer : Profile → Result Written Refusal
  answer p = write_answer p h entries maximum room

  answer-known : (p : Profile) → profile ≡ number_of p → answer_by profile h entries maximum room ≡ answer p
  answer-known p e = of-known profile (Err OtherProfile) answer p e

  answer-other : Other profile → answer_by profile h entries maximum room ≡ Err OtherProfile
  answer-other o = of_other profile (Err OtherProfile) answer o

pub report-writes-by : ReportWritesBy
report-writes-by profile h entries maximum room =
    by (λ p. WriterRows p h entries maximum room) (0 ∷ 5 ∷ 9 ∷ 10 ∷ 11 ∷ 12 ∷ []) (λ p n r. r.others) none profile (refusal_number (answer_by profile h entries maximum room))
    (λ p e. rw (answer-known profile h entries maximum room p e) (report-writes p h entries maximum room))
    (λ o. ap refusal_number (answer-other profile h entries maximum room o))
  where
    none : OneOf 18 (0 ∷ 5 ∷ 9 ∷ 10 ∷ 11 ∷ 12 ∷ []) → ⊥
    none (inl e) = eqb-false 18 0 refl e
    none (inr (inl e)) = eqb-false 18 5 refl e
    none (inr (inr (inl e))) = eqb-false 18 9 refl e
    none (inr (inr (inr (inl e)))) = eqb-false 18 10 refl e
    none (inr (inr (inr (inr (inl e))))) = eqb-false 18 11 refl e
    none (inr (inr (inr (inr (inr (inl e)))))) = eqb-false 18 12 refl e
    none (inr (inr (inr (inr (inr (inr x)))))) = elim x [ ]

pub report-unchanged : ReportUnchanged
report-unchanged profile h entries maximum xs f = go (which profile)
  where
    stored : Profile → List ℕ
    stored p = write_bytes p h entries maximum xs

    go : Which profile → bytes_by profile h entries maximum xs ≡ xs
    go (known p e) =
        of-known profile xs stored p e
        ∙ unchanged p (write_answer p h entries maximum (length xs)) (numbers_of p h) entries xs (rw (answer-known profile h entries maximum (length xs) p e) at f)
    go (unknown o) = of_other profile xs stored o
