-- What an instance's document and a result document say together.
use Rattle.std.specs.Prelude.{◌≡◌, ◌⊎◌, ℕ, Option, None, Some, List}
use Rattle.evidence.specs.Instance as Of
use Rattle.evidence.specs.Claim.{Accepts}
use Rattle.instance.specs.Parts.{Parts}
use Rattle.instance.specs.Program.{problem}
use Rattle.fraction.specs.declared.frac.Frac.{Frac}
use Rattle.certificate.specs.declared.claims.ProvedBound.{ProvedBound}
use Rattle.certificate.specs.declared.claims.Claim.{Claim}
use Rattle.certificate.specs.declared.claims.Claim.TheVariants as claims
use Rattle.certificate.specs.Meanings as Means
use Rattle.osil_grammar.specs.Reading.{IsInstanceText}
use Rattle.osil_grammar.specs.Reading as instances
use Rattle.osil_grammar.specs.declared.fault.OsilFault.{OsilFault}
use Rattle.osil_grammar.specs.declared.fault.OsilFault.TheVariants as instance_faults
use Rattle.osrl_grammar.specs.Reading.{IsReportText}
use Rattle.osrl_grammar.specs.Reading as results
use Rattle.osrl_writing.specs.declared.report.Report.{Report}
use Rattle.osrl_grammar.specs.declared.fault.OsrlFault.{OsrlFault}
use Rattle.osrl_grammar.specs.declared.fault.OsrlFault.TheVariants as result_faults
use Rattle.document_checker.specs.declared.documents.Kind.{Kind}
use Rattle.document_checker.specs.declared.documents.Kind.TheVariants.{Optimal, Infeasible, Unbounded, BestSoFar, Unsure}
use Rattle.document_checker.specs.declared.fault.CheckFault.{CheckFault}
use Rattle.document_checker.specs.declared.fault.CheckFault.TheVariants as faults
use Rattle.cert_checker.specs.declared.refused.Refused.{Refused}
use Rattle.cert_checker.specs.declared.refused.Refused.TheVariants.{NoClaim}
use Rattle.cert_checker.specs.Refusals.{IsRefusedFor}

-- the number of a bound, if there is one
abbrev pub number_of : Option ProvedBound → Option Frac
number_of None = None
number_of (Some b) = Some b.number

-- what a claim says; nothing where its maker wasn't sure and has no bound
abbrev pub kind : Claim → Option Kind
kind (claims.Optimal x vs cs) = Some Optimal
kind (claims.Infeasible c) = Some Infeasible
kind (claims.Unbounded x vs cs r) = Some Unbounded
kind (claims.BestSoFar x vs c b) = Some (BestSoFar (number_of b))
kind (claims.Unsure c None) = None
kind (claims.Unsure c (Some b)) = Some (Unsure b.number)

-- the report has a claim of this kind that is accepted of the instance
pub record ReportAccepts (p : Parts) (report : Report) (k : Kind) : Type 0 where
  pub claim : Claim
  pub stands : report.claim ≡ Some claim
  pub says : kind claim ≡ Some k
  pub accepted : Accepts (problem p) (Means.claim claim)

-- what a claim that stands or doesn't is refused for
abbrev pub ClaimRefuses : Of.Problem → Option Claim → CheckFault → Type 0
ClaimRefuses P None f = f ≡ faults.Claim NoClaim
ClaimRefuses P (Some c) f = (r : Refused) × IsRefusedFor P (Means.claim c) r × (f ≡ faults.Claim r)

abbrev pub ReportRefuses : Parts → Report → CheckFault → Type 0
ReportRefuses p report f = ClaimRefuses (problem p) report.claim f

-- the bytes are no instance's document, for this reason; want of memory is none
pub record NoInstance (osil : List ℕ) (f : CheckFault) : Type 0 where
  pub fault : OsilFault
  pub is : f ≡ faults.Instance fault
  pub told : fault ≡ instance_faults.Memory → ⊥
  pub fails : instances.DecodeFails osil fault

-- the bytes are no result document, for this reason; want of memory is none
pub record NoReport (osrl : List ℕ) (f : CheckFault) : Type 0 where
  pub fault : OsrlFault
  pub is : f ≡ faults.Result fault
  pub told : fault ≡ result_faults.Memory → ⊥
  pub fails : results.DecodeFails osrl fault

-- the documents are those of an instance and of a report whose claim, of this kind, is accepted of the instance
pub record IsAcceptedText (osil : List ℕ) (osrl : List ℕ) (k : Kind) : Type 0 where
  pub parts : Parts
  pub report : Report
  pub instance_text : IsInstanceText osil parts
  pub report_text : IsReportText osrl report
  pub accepts : ReportAccepts parts report k

-- the first document is an instance's, and the second is no result document
pub record ResultRefuses (osil : List ℕ) (osrl : List ℕ) (f : CheckFault) : Type 0 where
  pub parts : Parts
  pub instance_text : IsInstanceText osil parts
  pub no_report : NoReport osrl f

-- both documents are read, and what the second claims is refused of the instance, or it claims nothing
pub record CheckRefuses (osil : List ℕ) (osrl : List ℕ) (f : CheckFault) : Type 0 where
  pub parts : Parts
  pub report : Report
  pub instance_text : IsInstanceText osil parts
  pub report_text : IsReportText osrl report
  pub refuses : ReportRefuses parts report f

-- why two documents aren't accepted: of the reasons the first in this order, or there was no memory to find it
abbrev pub DocsRefuse : List ℕ → List ℕ → CheckFault → Type 0
DocsRefuse osil osrl f = NoInstance osil f ⊎ ResultRefuses osil osrl f ⊎ CheckRefuses osil osrl f ⊎ (f ≡ faults.Memory)

-- the document is one of a report with this claim, which says something that is accepted of the instance
pub record IsShownIn (p : Parts) (osrl : List ℕ) (c : Claim) : Type 0 where
  pub report : Report
  pub report_text : IsReportText osrl report
  pub stands : report.claim ≡ Some c
  pub what : Kind
  pub says : kind c ≡ Some what
  pub accepted : Accepts (problem p) (Means.claim c)

-- the document is read, and what it claims is refused of the instance, or it claims nothing
pub record IsRefusedIn (p : Parts) (osrl : List ℕ) (f : CheckFault) : Type 0 where
  pub report : Report
  pub report_text : IsReportText osrl report
  pub refuses : ReportRefuses p report f

-- why the document has no such claim: of the reasons the first in this order, or there was no memory to find it
abbrev pub IsUnshownIn : Parts → List ℕ → CheckFault → Type 0
IsUnshownIn p osrl f = NoReport osrl f ⊎ IsRefusedIn p osrl f ⊎ (f ≡ faults.Memory)
