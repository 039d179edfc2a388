-- Documents have one answer, in one text.
use Rattle.std.proofs.Common.{◌≡◌, ◌∙◌, ℕ, Option, None, Some, Result, Ok, Err, List, inl, inr, ap, sym, subst}
use Rattle.std.specs.Prelude.{MatchResult, codes}
use Rattle.evidence.specs.Instance as Of
use Rattle.instance.specs.Parts.{Parts}
use Rattle.instance.specs.Program.{problem}
use Rattle.instance.proofs.Numbers.{problem-numbers}
use Rattle.certificate.specs.declared.claims.Claim.{Claim}
use Rattle.certificate.specs.Meanings as Means
use Rattle.osrl_writing.specs.declared.report.Report.{Report}
use Rattle.document_checker.specs.declared.documents.Kind.{Kind}
use Rattle.document_checker.specs.declared.fault.CheckFault.{CheckFault}
use Rattle.document_checker.specs.declared.fault.CheckFault.TheVariants as faults
use Rattle.document_checker.specs.Documents.{ClaimRefuses, NoInstance, NoReport, CheckRefuses, IsAcceptedText, DocsRefuse}
use Rattle.document_checker.specs.Texts.{kind_words, IsCheckFaultText, IsAnswerText}
use Rattle.document_checker.specs.Grounds.{InstancesAreOne, ReportsAreOne, TreeFaultsAreToldOnce}
use Rattle.document_checker.proofs.Acceptance.{one_kind}
use Rattle.document_checker.proofs.Exclusion.{no_instance, no_report, accepted_apart}
use Rattle.cert_checker.proofs.OneReason.{reason_once}
use Rattle.document_checker.proofs.OneText.{same_quote, fault_told}

-- the documents are answered so
abbrev pub Answers : List ℕ → List ℕ → Result Kind CheckFault → Type 0
Answers osil osrl a = MatchResult a (IsAcceptedText osil osrl) (DocsRefuse osil osrl)

module _ (instances : InstancesAreOne) (reports : ReportsAreOne) (told : TreeFaultsAreToldOnce) where
  instance_once : (osil : List ℕ) (r s : CheckFault) (t u : List ℕ) → NoInstance osil r → NoInstance osil s → IsCheckFaultText r t → IsCheckFaultText s u → t ≡ u
  instance_once osil r s t u h k a b =
      let first : IsCheckFaultText (faults.Instance h.fault) t = subst (λ (q : CheckFault). IsCheckFaultText q t) h.is a in
      let second : IsCheckFaultText (faults.Instance k.fault) u = subst (λ (q : CheckFault). IsCheckFaultText q u) k.is b in
      same_quote (codes "Instance") first.0 second.0 t u (instances.told osil h.fault k.fault first.0 second.0 h.fails k.fails first.1 second.1) first.2 second.2

  report_once : (osrl : List ℕ) (r s : CheckFault) → NoReport osrl r → NoReport osrl s → r ≡ s
  report_once osrl r s h k = h.is ∙ ap faults.Result (reports.refused osrl h.fault k.fault h.told k.told h.fails k.fails) ∙ sym k.is

  claim_once : (P : Of.Problem) (o : Option Claim) (r s : CheckFault) → Of.IsProblem P → ClaimRefuses P o r → ClaimRefuses P o s → r ≡ s
  claim_once P None r s good h k = h ∙ sym k
  claim_once P (Some c) r s good (p, h, is) (q, k, also) = is ∙ ap faults.Claim (reason_once P (Means.claim c) p q good h k) ∙ sym also

  check_once : (osil osrl : List ℕ) (r s : CheckFault) → CheckRefuses osil osrl r → CheckRefuses osil osrl s → r ≡ s
  check_once osil osrl r s h k =
      let instance : h.parts ≡ k.parts = instances.once osil h.parts k.parts h.instance_text k.instance_text in
      let report : h.report ≡ k.report = reports.once osrl h.report k.report h.report_text k.report_text in
      claim_once (problem k.parts) k.report.claim r s (problem-numbers k.parts)
      (subst (λ (p : Parts). ClaimRefuses (problem p) k.report.claim r) instance (subst (λ (q : Report). ClaimRefuses (problem h.parts) q.claim r) report h.refuses))
      k.refuses

  same_text : (r s : CheckFault) (t u : List ℕ) → r ≡ s → IsCheckFaultText r t → IsCheckFaultText s u → t ≡ u
  same_text r s t u same a b = fault_told told s t u (subst (λ (q : CheckFault). IsCheckFaultText q t) same a) b

  -- want of memory has no text
  no_text : (r : CheckFault) (t : List ℕ) → r ≡ faults.Memory → IsCheckFaultText r t → ⊥
  no_text r t is a = subst (λ (q : CheckFault). IsCheckFaultText q t) is a

  refused_once : (osil osrl : List ℕ) (r s : CheckFault) (t u : List ℕ) → DocsRefuse osil osrl r → DocsRefuse osil osrl s → IsCheckFaultText r t → IsCheckFaultText s u → t ≡ u
  refused_once osil osrl r s t u (inl h) (inl k) a b = instance_once osil r s t u h k a b
  refused_once osil osrl r s t u (inl h) (inr (inl k)) a b = absurd (no_instance instances reports osil k.parts r k.instance_text h)
  refused_once osil osrl r s t u (inl h) (inr (inr (inl k))) a b = absurd (no_instance instances reports osil k.parts r k.instance_text h)
  refused_once osil osrl r s t u (inr (inl h)) (inl k) a b = absurd (no_instance instances reports osil h.parts s h.instance_text k)
  refused_once osil osrl r s t u (inr (inr (inl h))) (inl k) a b = absurd (no_instance instances reports osil h.parts s h.instance_text k)
  refused_once osil osrl r s t u (inr (inl h)) (inr (inl k)) a b = same_text r s t u (report_once osrl r s h.no_report k.no_report) a b
  refused_once osil osrl r s t u (inr (inl h)) (inr (inr (inl k))) a b = absurd (no_report instances reports osrl k.report r k.report_text h.no_report)
  refused_once osil osrl r s t u (inr (inr (inl h))) (inr (inl k)) a b = absurd (no_report instances reports osrl h.report s h.report_text k.no_report)
  refused_once osil osrl r s t u (inr (inr (inl h))) (inr (inr (inl k))) a b = same_text r s t u (check_once osil osrl r s h k) a b
  refused_once osil osrl r s t u (inr (inr (inr h))) k a b = absurd (no_text r t h a)
  refused_once osil osrl r s t u h (inr (inr (inr k))) a b = absurd (no_text s u k b)

  pub answer_once : (osil osrl : List ℕ) (a b : Result Kind CheckFault) (s t : List ℕ) → Answers osil osrl a → Answers osil osrl b → IsAnswerText a s → IsAnswerText b t → s ≡ t
  answer_once osil osrl (Ok j) (Ok k) s t h i x y = let same : j ≡ k = one_kind instances reports osil osrl j k h i in let named : kind_words j ≡ kind_words k = ap kind_words same in cc
  answer_once osil osrl (Ok j) (Err r) s t h i x y = absurd (no_text r t (accepted_apart instances reports osil osrl j r h i) y)
  answer_once osil osrl (Err r) (Ok j) s t h i x y = absurd (no_text r s (accepted_apart instances reports osil osrl j r i h) x)
  answer_once osil osrl (Err r) (Err q) s t h i x y = refused_once osil osrl r q s t h i x y
