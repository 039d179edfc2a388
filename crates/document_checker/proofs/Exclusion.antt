-- Documents that are accepted aren't refused.
use Rattle.std.proofs.Common.{◌≡◌, ◌∙◌, ℕ, Option, None, Some, List, inl, inr, ap, sym, subst}
use Rattle.evidence.specs.Instance.{Problem, IsProblem}
use Rattle.evidence.specs.Claim.{Accepts}
use Rattle.instance.specs.Parts.{Parts}
use Rattle.instance.specs.Program.{problem}
use Rattle.instance.proofs.Numbers.{problem-numbers}
use Rattle.certificate.specs.declared.claims.Claim.{Claim}
use Rattle.certificate.specs.Meanings as Means
use Rattle.osil_grammar.specs.Reading.{IsInstanceText}
use Rattle.osrl_grammar.specs.Reading.{IsReportText}
use Rattle.osrl_writing.specs.declared.report.Report.{Report}
use Rattle.document_checker.specs.declared.documents.Kind.{Kind}
use Rattle.document_checker.specs.declared.fault.CheckFault.{CheckFault}
use Rattle.document_checker.specs.declared.fault.CheckFault.TheVariants as faults
use Rattle.cert_checker.specs.Refusals.{IsRefusedFor}
use Rattle.document_checker.specs.Documents.{ClaimRefuses, NoInstance, NoReport, CheckRefuses, IsAcceptedText, DocsRefuse}
use Rattle.document_checker.specs.Grounds.{InstancesAreOne, ReportsAreOne}
use Rattle.cert_checker.proofs.Refusals.{not_accepted}

module _ (instances : InstancesAreOne) (reports : ReportsAreOne) where
  pub no_instance : (osil : List ℕ) (p : Parts) (f : CheckFault) → IsInstanceText osil p → NoInstance osil f → ⊥
  no_instance osil p f is h = h.told (instances.apart osil p h.fault is h.fails)

  pub no_report : (osrl : List ℕ) (report : Report) (f : CheckFault) → IsReportText osrl report → NoReport osrl f → ⊥
  no_report osrl report f said h = h.told (reports.apart osrl report h.fault said h.fails)

  claim_apart : (P : Problem) (o : Option Claim) (c : Claim) (f : CheckFault) → IsProblem P → o ≡ Some c → Accepts P (Means.claim c) → ClaimRefuses P o f → ⊥
  claim_apart P None c f good has accepted h = cc
  claim_apart P (Some d) c f good has accepted (r, h, is) =
      let same : d ≡ c = cc in
      not_accepted P (Means.claim c) r good (subst (λ (e : Claim). IsRefusedFor P (Means.claim e) r) same h) accepted

  check_apart : (osil osrl : List ℕ) (k : Kind) (f : CheckFault) → IsAcceptedText osil osrl k → CheckRefuses osil osrl f → ⊥
  check_apart osil osrl k f a h =
      let instance : a.parts ≡ h.parts = instances.once osil a.parts h.parts a.instance_text h.instance_text in
      let report : a.report ≡ h.report = reports.once osrl a.report h.report a.report_text h.report_text in
      claim_apart (problem h.parts) h.report.claim a.accepts.claim f (problem-numbers h.parts)
      (sym (ap (λ (s : Report). s.claim) report) ∙ a.accepts.stands)
      (subst (λ (p : Parts). Accepts (problem p) (Means.claim a.accepts.claim)) instance a.accepts.accepted)
      h.refuses

  pub accepted_apart : (osil osrl : List ℕ) (k : Kind) (f : CheckFault) → IsAcceptedText osil osrl k → DocsRefuse osil osrl f → f ≡ faults.Memory
  accepted_apart osil osrl k f a (inl h) = absurd (no_instance osil a.parts f a.instance_text h)
  accepted_apart osil osrl k f a (inr (inl h)) = absurd (no_report osrl a.report f a.report_text h.no_report)
  accepted_apart osil osrl k f a (inr (inr (inl h))) = absurd (check_apart osil osrl k f a h)
  accepted_apart osil osrl k f a (inr (inr (inr h))) = h
