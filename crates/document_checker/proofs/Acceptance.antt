-- Documents are accepted as one kind, and what they claim is true.
use Rattle.std.proofs.Common.{◌≡◌, ◌∙◌, ℕ, Some, List, ap, sym, subst}
use Rattle.evidence.specs.Claim.{Accepts, IsTrueOf}
use Rattle.evidence.proofs.Acceptance.{accepted}
use Rattle.instance.specs.Parts.{Parts}
use Rattle.instance.specs.Program.{problem}
use Rattle.instance.proofs.Numbers.{problem-numbers}
use Rattle.certificate.specs.declared.claims.Claim.{Claim}
use Rattle.certificate.specs.Meanings as Means
use Rattle.osil_grammar.specs.Reading.{IsInstanceText}
use Rattle.osrl_grammar.specs.Reading.{IsReportText}
use Rattle.osrl_writing.specs.declared.report.Report.{Report}
use Rattle.document_checker.specs.declared.documents.Kind.{Kind}
use Rattle.document_checker.specs.Documents.{kind, IsAcceptedText}
use Rattle.document_checker.specs.Grounds.{InstancesAreOne, ReportsAreOne}

some_once : {X : Type 0} {a b : X} → Some a ≡ Some b → a ≡ b
some_once e = cc

module _ (instances : InstancesAreOne) (reports : ReportsAreOne) where
  -- the claim that is accepted is that of every report of the text
  pub own_claim : (osil osrl : List ℕ) (k : Kind) (report : Report) (c : Claim) → (a : IsAcceptedText osil osrl k) → IsReportText osrl report → report.claim ≡ Some c → a.accepts.claim ≡ c
  own_claim osil osrl k report c a said has =
      let same : a.report ≡ report = reports.once osrl a.report report a.report_text said in
      some_once (sym a.accepts.stands ∙ ap (λ (r : Report). r.claim) same ∙ has)

  pub own_kind : (osil osrl : List ℕ) (k : Kind) (report : Report) (c : Claim) → IsAcceptedText osil osrl k → IsReportText osrl report → report.claim ≡ Some c → kind c ≡ Some k
  own_kind osil osrl k report c a said has = subst (λ (d : Claim). kind d ≡ Some k) (own_claim osil osrl k report c a said has) a.accepts.says

  pub one_kind : (osil osrl : List ℕ) (j k : Kind) → IsAcceptedText osil osrl j → IsAcceptedText osil osrl k → j ≡ k
  one_kind osil osrl j k a b = some_once (sym (own_kind osil osrl j b.report b.accepts.claim a b.report_text b.accepts.stands) ∙ b.accepts.says)

  pub documents_true : (osil osrl : List ℕ) (k : Kind) (p : Parts) (report : Report) (c : Claim) → IsAcceptedText osil osrl k → IsInstanceText osil p → IsReportText osrl report → report.claim ≡ Some c → IsTrueOf (problem p) (Means.claim c)
  documents_true osil osrl k p report c a is said has =
      let shown : Accepts (problem a.parts) (Means.claim c) = subst (λ (d : Claim). Accepts (problem a.parts) (Means.claim d)) (own_claim osil osrl k report c a said has) a.accepts.accepted in
      accepted (problem p) (Means.claim c) (problem-numbers p) (subst (λ (q : Parts). Accepts (problem q) (Means.claim c)) (instances.once osil a.parts p a.instance_text is) shown)
