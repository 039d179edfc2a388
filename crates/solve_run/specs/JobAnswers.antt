-- Which documents answer a job: the texts of its instance and its options decide it, but for want of memory and for the look that stops the search.
use Rattle.std.specs.Prelude.{◌≡◌, ◌⊎◌, ℕ, Bool, true, Option, None, Some, List}
use Rattle.rational.specs.Ratio.{Ratio}
use Rattle.fraction.specs.declared.frac.Frac.{Frac}
use Rattle.evidence.specs.ProvedBounds.{ProvedBound}
use Rattle.instance.specs.Parts.{Parts, IsValid}
use Rattle.instance.specs.Program.{problem}
use Rattle.certificate.specs.declared.causes.Cause.TheVariants.{Memory}
use Rattle.certificate.specs.declared.claims.Claim.{Claim}
use Rattle.certificate.specs.declared.claims.Claim.TheVariants.{Unsure}
use Rattle.search_rules.specs.Search.{Found, Outcome, SearchMoment, early}
use Rattle.search_rules.specs.Bounds.{Carried}
use Rattle.search_rules.specs.Asked.{ComesAsked, AskedSearch}
use Rattle.branch_bound.specs.Claims.{ClaimTells, ClaimTellsWith}
use Rattle.osol_grammar.specs.declared.options.Options.{Options}
use Rattle.osol_grammar.specs.declared.fault.OsolFault.{OsolFault}
use Rattle.osol_grammar.specs.Meaning.{IsOptionsText}
use Rattle.osol_grammar.specs.Reading as options
use Rattle.osol_grammar.specs.Texts as options_texts
use Rattle.osil_grammar.specs.declared.fault.OsilFault.{OsilFault}
use Rattle.osil_grammar.specs.Reading.{IsInstanceText}
use Rattle.osil_grammar.specs.Reading as instances
use Rattle.osrl_writing.specs.declared.told_names.NameLists.{NameLists}
use Rattle.osrl_writing.specs.declared.report.Report.{Report}
use Rattle.osrl_writing.specs.Labels.{no_names}
use Rattle.osrl_writing.specs.Writing.{told_text}
use Rattle.instance_names.specs.Reading.{GivesNames}
use Rattle.osrl_grammar.specs.Back.{ClaimComesBack}
use Rattle.solve_run.specs.Closings.{error_report, claim_report, noted, IsFitted, IsToldOf}
use Rattle.solve_run.specs.Handing.{HandsInClaim}
use Rattle.solve_run.specs.Firsts.{IsFirstOf, IsNoteFrom}
use Rattle.solve_run.specs.Asking.{job_asked}
use Rattle.solve_run.specs.Untils.{job_terms, renamed}

-- the options are refused: the report is an error's of no job, and says why
pub record RefusesOptions (osol : List ℕ) (r : Report) : Type 0 where
  pub fault : OsolFault
  pub fails : options.DecodeFails osol fault
  pub message : List ℕ
  pub says : options_texts.IsFaultText fault message
  pub is : r ≡ error_report None message

-- the instance is refused: the report is an error's of the options' job, and says why
pub record RefusesInstance (osil osol : List ℕ) (r : Report) : Type 0 where
  pub options : Options
  pub options_text : IsOptionsText osol options
  pub fault : OsilFault
  pub fails : instances.DecodeFails osil fault
  pub message : List ℕ
  pub says : instances.IsFaultText fault message
  pub is : r ≡ error_report options.job message

-- the texts are those of options and of an instance
pub record AreJobTexts (osil osol : List ℕ) : Type 0 where
  pub options : Options
  pub options_text : IsOptionsText osol options
  pub parts : Parts
  pub valid : IsValid parts
  pub instance_text : IsInstanceText osil parts

-- the options hand in a result whose claim is shown of the instance: the report tells it, or what is told of it where that would be too long, and there is no search
pub record TakesBeside (beside : Option (List ℕ)) (osil osol : List ℕ) (r : Report) : Type 0 where
  pub given : AreJobTexts osil osol
  pub claim : Claim
  pub handed : HandsInClaim beside osol given.parts claim
  pub told : Claim
  pub fitted : IsFitted given.options.job claim told
  pub is : r ≡ claim_report given.options.job told

-- no such result is handed in, the search of the instance within the options' limits and with what they ask of it, from the first point that they say, ends after so many looks, of which the given one stops it, for a time that is over, or not, and the report tells what it found, with its bound, if it has one, with that time as its cause, and with the message about what is handed in and about first values; the claim's numbers are those of their types
pub record SolvedBeside (beside : Option (List ℕ)) (osil osol : List ℕ) (stop : Option ℕ) (timed : Option Frac) (looks : ℕ) (r : Report) : Type 0 where
  pub given : AreJobTexts osil osol
  pub turns : ℕ
  pub start : Option Found
  pub first : IsFirstOf (problem given.parts) given.options start
  pub outcome : Outcome
  pub bound : Option ProvedBound
  pub ends : AskedSearch (problem given.parts) (job_terms given.options stop) (job_asked given.options) start outcome bound (record { turns = turns; looks = looks })
  pub found : Claim
  pub tells : ClaimTellsWith found (renamed timed outcome) bound
  pub told : Claim
  pub closed : IsToldOf given.parts given.options.job given.options.form turns found told
  pub numbers : ClaimComesBack (Some told)
  pub note : Option (List ℕ)
  pub noting : IsNoteFrom beside osol given.options given.parts start note
  pub is : r ≡ noted note (claim_report given.options.job told)

-- a job's name that is told: none, or that of the options
abbrev pub IsJobOf : List ℕ → Option (List ℕ) → Type 0
IsJobOf osol job = (job ≡ None) ⊎ ((o : Options) × IsOptionsText osol o × (job ≡ o.job))

-- the claim has the best point of some moment of the search, which this look stops, if one does
pub record IsBestOfSearch (osil osol : List ℕ) (c : Claim) : Type 0 where
  pub given : AreJobTexts osil osol
  pub start : Option Found
  pub first : IsFirstOf (problem given.parts) given.options start
  pub stop : Option ℕ
  pub moment : SearchMoment
  pub carried : List Carried
  pub numbers : List (Option Ratio)
  pub comes : ComesAsked (problem given.parts) (job_terms given.options stop) (job_asked given.options) start moment carried numbers
  pub tells : ClaimTells c (early moment.best Memory)

-- the message of some job with these texts
pub record IsNoteOfTexts (beside : Option (List ℕ)) (osil osol : List ℕ) (note : Option (List ℕ)) : Type 0 where
  pub given : AreJobTexts osil osol
  pub start : Option Found
  pub first : IsFirstOf (problem given.parts) given.options start
  pub noting : IsNoteFrom beside osol given.options given.parts start note

-- no message, or that one
abbrev pub IsNoteOfJob : (beside : Option (List ℕ)) → (osil osol : List ℕ) → Option (List ℕ) → Type 0
IsNoteOfJob beside osil osol note = (note ≡ None) ⊎ IsNoteOfTexts beside osil osol note

-- memory was wanting: nothing is claimed, or the best point of some moment of the search
pub record GaveUpBeside (beside : Option (List ℕ)) (osil osol : List ℕ) (r : Report) : Type 0 where
  pub job : Option (List ℕ)
  pub whose : IsJobOf osol job
  pub claim : Claim
  pub claims : (claim ≡ Unsure Memory None) ⊎ IsBestOfSearch osil osol claim
  pub note : Option (List ℕ)
  pub noting : IsNoteOfJob beside osil osol note
  pub is : r ≡ noted note (claim_report job claim)

-- no look stops the search, or, only where the job was asked to stop, its last one
abbrev pub MayStop : (asked : Bool) → (stop : Option ℕ) → (looks : ℕ) → Type 0
MayStop asked stop looks = (stop ≡ None) ⊎ ((asked ≡ true) × (stop ≡ Some looks))

-- the options say these seconds
abbrev pub SaysSeconds : List ℕ → Frac → Type 0
SaysSeconds osol s = (o : Options) × IsOptionsText osol o × (o.seconds ≡ Some s)

-- the same; or its last look does, for a time that is over, only where the options say that very one
abbrev pub MayEnd : (osol : List ℕ) → (asked : Bool) → (stop : Option ℕ) → (looks : ℕ) → (timed : Option Frac) → Type 0
MayEnd osol asked stop looks None = MayStop asked stop looks
MayEnd osol asked stop looks (Some s) = SaysSeconds osol s × (stop ≡ Some looks)

-- the report answers a job with these texts, and with this text beside the options, if any, which is handed in as a result
pub data AnswersBeside (beside : Option (List ℕ)) (osil osol : List ℕ) (asked : Bool) (r : Report) : Type 0 where
  no_options : RefusesOptions osol r → AnswersBeside beside osil osol asked r
  no_instance : RefusesInstance osil osol r → AnswersBeside beside osil osol asked r
  handed : TakesBeside beside osil osol r → AnswersBeside beside osil osol asked r
  solved : (stop : Option ℕ) (looks : ℕ) (timed : Option Frac) → MayEnd osol asked stop looks timed → SolvedBeside beside osil osol stop timed looks r → AnswersBeside beside osil osol asked r
  gave_up : GaveUpBeside beside osil osol r → AnswersBeside beside osil osol asked r

-- of a job of the table nothing stands beside the options
abbrev pub TakesHanded : (osil osol : List ℕ) → Report → Type 0
TakesHanded = TakesBeside None

abbrev pub Solved : (osil osol : List ℕ) → (stop : Option ℕ) → (timed : Option Frac) → (looks : ℕ) → Report → Type 0
Solved = SolvedBeside None

abbrev pub GaveUp : (osil osol : List ℕ) → Report → Type 0
GaveUp = GaveUpBeside None

abbrev pub AnswersJob : (osil osol : List ℕ) → (asked : Bool) → Report → Type 0
AnswersJob = AnswersBeside None

-- the options ask for names
abbrev pub AskForNames : List ℕ → Type 0
AskForNames osol = (o : Options) × IsOptionsText osol o × (o.names ≡ 1)

-- the text tells the report of a job with these texts. Where its options ask for names, it has those that the instance's document gives, and no others; where they don't, it has none. In each case it has none where its text with them would be too long
pub record TellsReport (osil osol : List ℕ) (r : Report) (text : List ℕ) : Type 0 where
  pub names : NameLists
  pub is : text ≡ told_text names r
  pub own : (names ≡ no_names) ⊎ (AskForNames osol × GivesNames osil names)
  pub asked : AskForNames osol → (ns : NameLists) → GivesNames osil ns → text ≡ told_text ns r

-- the document answers a job with these texts, which was asked to stop or wasn't; for want of memory there may be none
abbrev pub Right : (osil osol : List ℕ) → (asked : Bool) → (doc : Option (List ℕ)) → Type 0
Right osil osol asked None = Unit {0}
Right osil osol asked (Some doc) = (r : Report) × AnswersJob osil osol asked r × TellsReport osil osol r doc
