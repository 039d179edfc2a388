-- What is written of a job in files.
use Rattle.std.specs.Prelude.{◌≡◌, ℕ, Bool, Option, List}
use Rattle.os_io.specs.Files.{Held, MayHold}
use Rattle.command_answers.specs.FileNames.{ReadsNamed}
use Rattle.osrl_writing.specs.declared.report.Report.{Report}
use Rattle.solve_run.specs.JobAnswers.{AnswersBeside, TellsReport}
use Rattle.solve_run.specs.declared.document.Document.{Document}
use Rattle.os_app.specs.Besides.{TakesResult}
use Rattle.os_app.specs.Halts.{IsRightHalted, MayHalt}
use Rattle.os_app.specs.Safe.{TakesOptions}
use Rattle.os_app.specs.Timed.{TakesTime}
use Rattle.os_app.specs.Statuses.{solve_status}

-- the document answers these texts, with this result beside the options, if any, with the safe limit or without, of a job that nobody stops but a file of this name, if one is named
abbrev pub IsRightWith : (beside : Option (List ℕ)) → (halt : Option Held) → (safe : Bool) → (osil osol : List ℕ) → Document → Type 0
IsRightWith beside halt safe osil osol doc = (taken : List ℕ) × TakesOptions safe osil osol taken × IsRightHalted beside halt osil taken doc

-- and within so many seconds, if they are asked for
abbrev pub IsRightWithin : (beside : Option (List ℕ)) → (halt : Option Held) → (seconds : Option ℕ) → (safe : Bool) → (osil osol : List ℕ) → Document → Type 0
IsRightWithin beside halt seconds safe osil osol doc = (timed : List ℕ) × TakesTime seconds osol timed × IsRightWith beside halt safe osil timed doc

-- the document that answers the job of an instance's file, of a file of options, if one is named, and of a file of a result that is handed in, if one is named, within so many seconds, if they are asked for,
-- with the safe limit or without, which nobody stops but a file of this name, if one is named, and its status: 1 where it reports an error
pub record IsDocumentAbout (instance : Held) (options handed halt : Option Held) (seconds : Option ℕ) (safe : Bool) (status : ℕ) (text : List ℕ) : Type 0 where
  pub osil : List ℕ
  pub osol : List ℕ
  pub instance_file : MayHold instance osil
  pub options_file : ReadsNamed options osol
  pub beside : Option (List ℕ)
  pub result_file : TakesResult handed osol beside
  pub report : Report
  pub timed : List ℕ
  pub in_time : TakesTime seconds osol timed
  pub taken : List ℕ
  pub takes : TakesOptions safe osil timed taken
  pub asked : Bool
  pub halted : MayHalt halt asked
  pub answers : AnswersBeside beside osil taken asked report
  pub written : TellsReport osil taken report text
  pub status_is : status ≡ solve_status report.error
