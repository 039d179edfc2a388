-- Which documents are accepted of a job with this instance when a journal is opened.
use Rattle.std.specs.Prelude.{◌≡◌, ◌⊎◌, ℕ, Bool, true, false, List, Option, Some, None}
use Rattle.certificate.specs.declared.claims.Claim.{Claim}
use Rattle.certificate.specs.declared.claims.Claim.TheVariants.{Unsure}
use Rattle.osrl_writing.specs.declared.report.Report.{Report}
use Rattle.osrl_grammar.specs.Reading.{IsReportText}
use Rattle.document_checker.specs.declared.documents.Kind.{Kind}
use Rattle.document_checker.specs.Documents.{IsAcceptedText}

-- whether a claim says something of the instance: an unsure one without a bound doesn't
abbrev pub is_sure : Claim → Bool
is_sure (Unsure cause None) = false
is_sure _ = true

-- whether something is claimed
abbrev pub claims_something : Option Claim → Bool
claims_something None = false
claims_something (Some claim) = is_sure claim

-- whether a document is a report that claims something, or none where it is no report
abbrev pub TellsClaim : (document : List ℕ) → Option Bool → Type 0
TellsClaim document (Some claims) = (report : Report) × IsReportText document report × (claims_something report.claim ≡ claims)
TellsClaim document None = (report : Report) → IsReportText document report → ⊥

-- the document is accepted: it is a report that claims nothing, or is unsure without a bound, or what it claims is accepted by the checker
abbrev pub Sifts : (osil document : List ℕ) → Type 0
Sifts osil document = TellsClaim document (Some false) ⊎ ((k : Kind) × IsAcceptedText osil document k)
