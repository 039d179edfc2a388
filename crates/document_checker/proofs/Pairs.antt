-- What two documents are accepted or refused for, once each is read.
use Rattle.std.proofs.Common.{◌≡◌, ℕ, List, ◌⊎◌, inl, inr}
use Rattle.instance.specs.Parts.{Parts}
use Rattle.osil_grammar.specs.Reading.{IsInstanceText}
use Rattle.osrl_grammar.specs.Reading.{IsReportText}
use Rattle.osrl_writing.specs.declared.report.Report.{Report}
use Rattle.document_checker.specs.declared.documents.Kind.{Kind}
use Rattle.document_checker.specs.declared.fault.CheckFault.{CheckFault}
use Rattle.document_checker.specs.declared.fault.CheckFault.TheVariants as faults
use Rattle.document_checker.specs.Documents.{ReportAccepts, ReportRefuses, NoReport, IsAcceptedText, DocsRefuse}

pub accepted_text : {osil osrl : List ℕ} {p : Parts} {report : Report} {k : Kind} → IsInstanceText osil p → IsReportText osrl report → ReportAccepts p report k → IsAcceptedText osil osrl k
accepted_text {osil} {osrl} {p} {report} {k} instance said accepts =
    record { parts = p; report = report; instance_text = instance; report_text = said; accepts = accepts }

pub report_refused : {osil osrl : List ℕ} {p : Parts} {report : Report} {f : CheckFault} → IsInstanceText osil p → IsReportText osrl report → ReportRefuses p report f ⊎ (f ≡ faults.Memory) → DocsRefuse osil osrl f
report_refused {osil} {osrl} {p} {report} {f} instance said (inl refuses) =
    inr (inr (inl (record { parts = p; report = report; instance_text = instance; report_text = said; refuses = refuses })))
report_refused instance said (inr none) = inr (inr (inr none))

pub result_refused : {osil osrl : List ℕ} {p : Parts} {f : CheckFault} → IsInstanceText osil p → NoReport osrl f ⊎ (f ≡ faults.Memory) → DocsRefuse osil osrl f
result_refused {osil} {osrl} {p} {f} instance (inl missing) =
    inr (inl (record { parts = p; instance_text = instance; no_report = missing }))
result_refused instance (inr none) = inr (inr (inr none))
