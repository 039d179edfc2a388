-- A document that is right is accepted when a journal is opened.
use Rattle.std.proofs.Common.{◌≡◌, ◌∙◌, ℕ, ◌≤◌, inl, inr, Bool, false, Option, None, Some, List, length, refl, ap}
use Rattle.certificate.specs.declared.claims.Claim.{Claim}
use Rattle.certificate.specs.declared.claims.Claim.TheVariants.{Optimal, Infeasible, Unbounded, BestSoFar, Unsure}
use Rattle.osrl_writing.specs.declared.report.Report.{Report}
use Rattle.osrl_grammar.specs.Reading.{IsReportText}
use Rattle.document_checker.specs.declared.documents.Kind.{Kind}
use Rattle.document_checker.specs.Documents.{kind, IsAcceptedText}
use Rattle.effects.specs.Records.{most_text}
use Rattle.solve_run.specs.JobAnswers.{AnswersJob, TellsReport, Right}
use Rattle.job_solver.specs.Sieves.{is_sure, claims_something, Sifts}

-- a claim of no kind is unsure, without a bound
of_no_kind : (c : Claim) → kind c ≡ None → is_sure c ≡ false
of_no_kind (Optimal x vs cs) none = absurd (cc)
of_no_kind (Infeasible c) none = absurd (cc)
of_no_kind (Unbounded x vs cs r) none = absurd (cc)
of_no_kind (BestSoFar x vs c b) none = absurd (cc)
of_no_kind (Unsure c None) none = refl
of_no_kind (Unsure c (Some b)) none = absurd (cc)

module _ (read : (osil osol : List ℕ) (asked : Bool) (r : Report) (text : List ℕ) → AnswersJob osil osol asked r → TellsReport osil osol r text → IsReportText text r)
    (accepts : (osil osol : List ℕ) (asked : Bool) (r : Report) (text : List ℕ) (c : Claim) (k : Kind) → AnswersJob osil osol asked r → TellsReport osil osol r text → r.claim ≡ Some c → kind c ≡ Some k → IsAcceptedText osil text k) where
  answer_accepted : (osil osol : List ℕ) (asked : Bool) (r : Report) (text : List ℕ) → AnswersJob osil osol asked r → TellsReport osil osol r text → (claim : Option Claim) → r.claim ≡ claim → Sifts osil text
  answer_accepted osil osol asked r text answers tells None is = inl (r, read osil osol asked r text answers tells, ap claims_something is)
  answer_accepted osil osol asked r text answers tells (Some c) is = by (kind c) refl
    where
      by : (k : Option Kind) → kind c ≡ k → Sifts osil text
      by None none = inl (r, read osil osol asked r text answers tells, ap claims_something is ∙ of_no_kind c none)
      by (Some k) says = inr (k, accepts osil osol asked r text c k answers tells is says)

  pub right_accepted : (osil osol : List ℕ) (asked : Bool) (document : List ℕ) → Right osil osol asked (Some document) → Sifts osil document
  right_accepted osil osol asked document (r, answers, tells) = answer_accepted osil osol asked r document answers tells r.claim refl

  pub right_short : (osil osol : List ℕ) (asked : Bool) (document : List ℕ) → Right osil osol asked (Some document) → length document ≤ most_text
  right_short osil osol asked document (r, answers, tells) = (read osil osol asked r document answers tells).document.short
