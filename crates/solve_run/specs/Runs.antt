-- What the run of a job answers after its looks, of which the last may have stopped it.
use Rattle.std.specs.Prelude.{◌≡◌, ◌⊎◌, ℕ, Bool, false, Option, None, Some, option_map, Result, Ok, IfOk, List}
use Rattle.std.specs.Borrow.{Bor}
use Rattle.fraction.specs.declared.frac.Frac.{Frac}
use Rattle.evidence.specs.ProvedBounds.{ProvedBound}
use Rattle.instance.specs.Parts.{Parts}
use Rattle.instance.specs.Program.{problem}
use Rattle.certificate.specs.declared.causes.Cause.TheVariants.{Memory}
use Rattle.certificate.specs.declared.claims.Claim.{Claim}
use Rattle.certificate.specs.declared.claims.Claim.TheVariants.{Optimal, Infeasible, Unbounded, BestSoFar, Unsure}
use Rattle.simplex_rules.specs.Looks.{answers}
use Rattle.search_rules.specs.Search.{Found, Outcome}
use Rattle.search_rules.specs.Asked.{IsAskedAnswer}
use Rattle.osrl_writing.specs.declared.report.Report.{Report}
use Rattle.osrl_writing.specs.declared.told_names.NameLists.{NameLists}
use Rattle.osrl_writing.specs.Labels.{no_names}
use Rattle.osrl_writing.specs.Writing.{report_text, told_text}
use Rattle.instance_names.specs.Reading.{MayGiveNames}
use Rattle.osol_grammar.specs.declared.options.Options.{Options}
use Rattle.osrl_grammar.specs.Back.{CauseComesBack, ClaimComesBack}
use Rattle.solve_run.specs.Closings.{claim_report, error_report, noted, IsFitted, IsToldOf}
use Rattle.solve_run.specs.Handing.{IsNoteOf, HandsInClaim, HandsInNone}
use Rattle.solve_run.specs.declared.handing.Handing.{Handing}
use Rattle.solve_run.specs.declared.handing.Handing.TheVariants.{Taken, Passed}
use Rattle.document_checker.specs.Documents.{IsShownIn}
use Rattle.handed_results.specs.declared.handed.Handed.TheVariants.{Once}
use Rattle.solve_run.specs.declared.document.Document.{Document}
use Rattle.solve_run.specs.Firsts.{IsFirstOf}
use Rattle.solve_run.specs.Asking.{job_asked}
use Rattle.solve_run.specs.Untils.{job_terms, stop_by, looks_by, MayTime}
use Rattle.solve_run.specs.JobAnswers.{SaysSeconds, RefusesOptions, RefusesInstance, AreJobTexts, TakesBeside, SolvedBeside, GaveUpBeside, AnswersBeside, TellsReport}

-- the looks are those of the search of the instance, up to its end or to where memory was wanting; or a time that the options say was over at the last one
pub record AreSearched (osil osol : List ℕ) (n : ℕ) (killed : Bool) : Type 0 where
  pub given : AreJobTexts osil osol
  pub turns : ℕ
  pub start : Option Found
  pub first : IsFirstOf (problem given.parts) given.options start
  pub outcome : Outcome
  pub timed : Option Frac
  pub may : MayTime given.options killed timed
  pub bound : Option ProvedBound
  pub answers : IsAskedAnswer (problem given.parts) (job_terms given.options (stop_by n killed timed)) (job_asked given.options) start outcome bound (record { turns = turns; looks = looks_by n killed timed })

-- there were no looks, or those of the search
abbrev pub AreSearchLooks : (osil osol : List ℕ) → ℕ → Bool → Type 0
AreSearchLooks osil osol n killed = ((n ≡ 0) × (killed ≡ false)) ⊎ AreSearched osil osol n killed

-- a time was over only where the options say that very one, and the job's own watch went on
abbrev pub MayTimeOut : (osol : List ℕ) → (killed : Bool) → (timed : Option Frac) → Type 0
MayTimeOut osol killed None = Unit {0}
MayTimeOut osol killed (Some s) = SaysSeconds osol s × (killed ≡ false)

-- the report that is answered after n looks at which the job's own watch went on, and one more where that stopped the search
pub data Reports (beside : Option (List ℕ)) (osil osol : List ℕ) (n : ℕ) (killed : Bool) (r : Report) : Type 0 where
  no_options : RefusesOptions osol r → Reports beside osil osol n killed r
  no_instance : RefusesInstance osil osol r → Reports beside osil osol n killed r
  handed : TakesBeside beside osil osol r → Reports beside osil osol n killed r
  solved : (timed : Option Frac) → MayTimeOut osol killed timed → SolvedBeside beside osil osol (stop_by n killed timed) timed (looks_by n killed timed) r → Reports beside osil osol n killed r
  gave_up : GaveUpBeside beside osil osol r → Reports beside osil osol n killed r

-- the document is this report's, and says whether it reports an error
pub record IsDocumentOf (r : Report) (doc : Document) : Type 0 where
  pub text : doc.text ≡ report_text r
  pub error : doc.is_error ≡ r.error

-- the same with these names
pub record IsNamedDocument (ns : NameLists) (r : Report) (doc : Document) : Type 0 where
  pub text : doc.text ≡ told_text ns r
  pub error : doc.is_error ≡ r.error

-- the document tells this report of a job with these texts, and says whether it reports an error
pub record IsAnswer (osil osol : List ℕ) (r : Report) (doc : Document) : Type 0 where
  pub text : TellsReport osil osol r doc.text
  pub error : doc.is_error ≡ r.error

-- the names that the result of a job with these options is told with: those that the instance's document gives where they are asked for, and else none
pub record AreDueNames (osil : List ℕ) (o : Options) (ns : NameLists) : Type 0 where
  pub asked : o.names ≡ 1 → MayGiveNames osil ns
  pub unasked : (o.names ≡ 1 → ⊥) → ns ≡ no_names

-- the document that is answered then
pub record OutcomeBeside (beside : Option (List ℕ)) (osil osol : List ℕ) (n : ℕ) (killed : Bool) (doc : Document) : Type 0 where
  pub report : Report
  pub reports : Reports beside osil osol n killed report
  pub is : IsAnswer osil osol report doc

-- the document answers a job with these texts, which was asked to stop or wasn't
abbrev pub RightBeside : (beside : Option (List ℕ)) → (osil osol : List ℕ) → (asked : Bool) → Document → Type 0
RightBeside beside osil osol asked doc = (r : Report) × AnswersBeside beside osil osol asked r × IsAnswer osil osol r doc

abbrev pub IsRight : (osil osol : List ℕ) → (asked : Bool) → Document → Type 0
IsRight = RightBeside None

-- and the document that is answered where nothing stands beside the options
abbrev pub TellsOutcome : (osil osol : List ℕ) → ℕ → Bool → Document → Type 0
TellsOutcome = OutcomeBeside None

-- and its text
abbrev pub TellsText : (osil osol : List ℕ) → ℕ → Bool → (text : List ℕ) → Type 0
TellsText osil osol n killed text = (is_error : Bool) × TellsOutcome osil osol n killed (record { text = text; is_error = is_error })

-- a job ran: a watch came by these looks, and after them this is told
pub record Ran (Came : List Bool → Type 0) (osil osol : List ℕ) (Told : ℕ → Bool → Type 0) : Type 0 where
  pub went_on : ℕ
  pub killed : Bool
  pub came : Came (answers went_on killed)
  pub looks : AreSearchLooks osil osol went_on killed
  pub tells : Told went_on killed

-- a document, if there was memory for one, tells what was found
abbrev pub TellsDocument : {E : Type 0} → (beside : Option (List ℕ)) → (osil osol : List ℕ) → Result Document E → ℕ → Bool → Type 0
TellsDocument {E} beside osil osol result n killed = IfOk result (OutcomeBeside beside osil osol n killed)

-- a text that may stand beside the options
abbrev pub beside_text : Option (Bor (List ℕ)) → Option (List ℕ)
beside_text beside = option_map (λ (b : Bor (List ℕ)). b.now) beside

-- the document claims nothing for want of memory
abbrev pub IsMemoryDocument : (job : Option (List ℕ)) → Document → Type 0
IsMemoryDocument job doc = IsDocumentOf (claim_report job (Unsure Memory None)) doc

-- the document of a report, or for want of memory of one that claims nothing of the same job
abbrev pub IsTextOf : Report → Document → Type 0
IsTextOf r doc = IsDocumentOf r doc ⊎ IsMemoryDocument r.job doc

-- the document of a report of an error with this message, or memory was wanting
abbrev pub IsErrorDocument : {E : Type 0} → (job : Option (List ℕ)) → (message : Result (List ℕ) E) → Document → Type 0
IsErrorDocument {E} job message doc = ((m : List ℕ) × (message ≡ Ok m) × IsDocumentOf (error_report job m) doc) ⊎ IsMemoryDocument job doc

-- the same with these names
abbrev pub IsNamedTextOf : NameLists → Report → Document → Type 0
IsNamedTextOf ns r doc = IsNamedDocument ns r doc ⊎ IsMemoryDocument r.job doc

-- the same with this message, if there is one
abbrev pub IsNotedTextOf : NameLists → (note : Option (List ℕ)) → Report → Document → Type 0
IsNotedTextOf ns note r doc = IsNamedDocument ns (noted note r) doc ⊎ IsMemoryDocument r.job doc

-- the document of a report with this claim, or with what is told of it where that is too long, with these names and this message, if there is one, or memory was wanting
abbrev pub IsFittedDocument : NameLists → (note job : Option (List ℕ)) → Claim → Document → Type 0
IsFittedDocument ns note job c doc = ((told : Claim) × IsFitted job c told × IsNamedDocument ns (noted note (claim_report job told)) doc) ⊎ IsMemoryDocument job doc

-- what becomes of a result of this text, for a job with this instance
abbrev pub IsTextHanding : Parts → List ℕ → Handing → Type 0
IsTextHanding p text (Taken c) = IsShownIn p text c
IsTextHanding p text (Passed note) = IsNoteOf p (Once text) note

-- what becomes of what is handed in
abbrev pub IsHandingOf : (beside : Option (List ℕ)) → (osol : List ℕ) → Parts → Handing → Type 0
IsHandingOf beside osol p (Taken c) = HandsInClaim beside osol p c
IsHandingOf beside osol p (Passed note) = HandsInNone beside osol p note

-- the numbers of a claim's cause are those of their types
abbrev pub HasCauses : Claim → Type 0
HasCauses (Optimal x vs cs) = Unit {0}
HasCauses (Infeasible cert) = Unit {0}
HasCauses (Unbounded x vs cs r) = Unit {0}
HasCauses (BestSoFar x vs c b) = CauseComesBack c
HasCauses (Unsure c b) = CauseComesBack c

-- what is told of a claim that was found, closed, with these names and this message
pub record ClosesClaim (p : Parts) (ns : NameLists) (note job : Option (List ℕ)) (form turns : ℕ) (found : Claim) (doc : Document) : Type 0 where
  pub told : Claim
  pub closed : IsToldOf p job form turns found told
  pub numbers : ClaimComesBack (Some told)
  pub is : IsNamedDocument ns (noted note (claim_report job told)) doc

-- the document tells what was found, or memory was wanting
abbrev pub IsClaimTold : (p : Parts) (ns : NameLists) (note job : Option (List ℕ)) (form turns : ℕ) (found : Claim) → Document → Type 0
IsClaimTold p ns note job form turns found doc = ClosesClaim p ns note job form turns found doc ⊎ IsMemoryDocument job doc
