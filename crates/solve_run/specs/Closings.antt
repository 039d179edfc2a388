-- What a search's claim becomes before it is told: where a sum by which it is checked doesn't fit, or its document would be too long, it is given up, but for its point; its certificate may be told with multipliers of rows alone, where its document isn't too long so; and a bound of a search that was given up is left out in place of giving anything else up.
use Rattle.std.specs.Prelude.{◌≡◌, ◌⊎◌, ℕ, ◌≤◌, Option, None, Some, true, false, cond, nat_le, List, length}
use Rattle.evidence.specs.Claim.{Accepts}
use Rattle.instance.specs.Parts.{Parts}
use Rattle.instance.specs.Program.{problem}
use Rattle.document_tags.specs.Texts.{document_limit}
use Rattle.certificate.specs.Meanings as Means
use Rattle.certificate.specs.declared.causes.Cause.TheVariants as causes
use Rattle.certificate.specs.declared.claims.Claim.{Claim}
use Rattle.osrl_writing.specs.declared.report.JobStatus.TheVariants.{Finished}
use Rattle.osrl_writing.specs.declared.report.Report.{Report}
use Rattle.osrl_writing.specs.Writing.{report_text}
use Rattle.certificate.specs.GivenUp.{given_up, without_bound}
use Rattle.solve_run.specs.Judging.{IsFinal, IsJudged, checked}
use Rattle.solve_run.specs.declared.closing.Judged.{Judged}
use Rattle.solve_run.specs.RowForms.{claim_of_rows}

-- the report of an error of a finished job, with this message
abbrev pub error_report : (job : Option (List ℕ)) → (message : List ℕ) → Report
error_report job message = record { error = true; job = job; message = Some message; status = Finished; claim = None }

-- the report of a finished job with this claim
abbrev pub claim_report : (job : Option (List ℕ)) → Claim → Report
claim_report job c = record { error = false; job = job; message = None; status = Finished; claim = Some c }

-- the first report, if its document isn't too long, or else the second
abbrev pub unless_long : (wanted instead : Report) → Report
unless_long r s = cond (nat_le (length (report_text r)) document_limit) r s

-- the report with this message
abbrev pub with_message : List ℕ → Report → Report
with_message m r = record r { message = Some m }

-- the report with this message, if there is one; without it where its document would be too long with it
abbrev pub noted : (note : Option (List ℕ)) → Report → Report
noted None r = r
noted (Some m) r = unless_long (with_message m r) r

-- the document of the claim, under this job's name, isn't too long
abbrev pub IsShort : (job : Option (List ℕ)) → Claim → Type 0
IsShort job c = length (report_text (claim_report job c)) ≤ document_limit

-- the claim is final, and accepted with multipliers of rows alone, and its document with these, under this job's name, isn't too long
abbrev pub IsAcceptedOfRows : Parts → (job : Option (List ℕ)) → Claim → Type 0
IsAcceptedOfRows p job c = IsFinal c × Accepts (problem p) (Means.claim (claim_of_rows (length p.vars) c)) × IsShort job (claim_of_rows (length p.vars) c)

-- the claim in the form that is asked for: with rows alone, by 1, where it is accepted so, and short enough; else as it is
abbrev pub IsFormed : Parts → (job : Option (List ℕ)) → (form : ℕ) → (c formed : Claim) → Type 0
IsFormed p job form c formed = ((form ≡ 1) × IsAcceptedOfRows p job c × (formed ≡ claim_of_rows (length p.vars) c)) ⊎ ((form ≡ 1 → IsAcceptedOfRows p job c → ⊥) × (formed ≡ c))

-- the claim, or none where its document is too long
abbrev pub IsShortOrNone : (job : Option (List ℕ)) → Claim → Option Claim → Type 0
IsShortOrNone job c None = IsShort job c → ⊥
IsShortOrNone job c (Some d) = IsShort job c × (d ≡ c)

-- the claim that is told: it, where its document isn't too long; or else it without its bound, where that one isn't; or else what is left of it
abbrev pub IsFitted : (job : Option (List ℕ)) → (checked told : Claim) → Type 0
IsFitted job c told =
    (IsShort job c × (told ≡ c))
    ⊎ ((IsShort job c → ⊥) × IsShort job (without_bound c) × (told ≡ without_bound c))
    ⊎ ((IsShort job c → ⊥) × (IsShort job (without_bound c) → ⊥) × (told ≡ given_up c causes.Length))

-- what is told of what a search found after so many turns: it is checked first, then formed, and then fitted
pub record IsToldOf (p : Parts) (job : Option (List ℕ)) (form turns : ℕ) (found told : Claim) : Type 0 where
  pub verdict : Judged
  pub judged : IsJudged p found verdict
  pub formed : Claim
  pub forms : IsFormed p job form (checked found turns verdict) formed
  pub fitted : IsFitted job formed told
