-- How a run ends, by its words and by what came and went.
use Rattle.std.specs.Prelude.{false, ◌≡◌, ◌↔◌, ℕ, ◌⊎◌, true, Option, Some, None, List, [], ◌∷◌, ◌++◌, Ok, Err, option_map}
use Rattle.os_io.specs.Files.{Held, Holds, NoFile}
use Rattle.os_io.specs.Streams.{HasRisen}
use Rattle.disks.specs.declared.disk.Disk.{Ghosts}
use Rattle.os_server.specs.declared.serve.Served.{Served}
use Rattle.os_server.specs.Talk.{both_ends}
use Rattle.sessions.specs.Sessions as sessions
use Rattle.six_calls.specs.declared.call.CallKind.{CallKind}
use Rattle.document_checker.specs.declared.documents.Kind.{Kind}
use Rattle.document_checker.specs.declared.fault.CheckFault.{CheckFault as Refused}
use Rattle.document_checker.specs.declared.fault.CheckFault.TheVariants as reasons
use Rattle.document_checker.specs.Documents.{IsAcceptedText, DocsRefuse}
use Rattle.document_checker.specs.Texts.{IsAnswerText}
use Rattle.command_answers.specs.Outputs.{IsSent, BreaksOff, IsTold}
use Rattle.os_client.specs.Runs.{CallRun, CallEnds}
use Rattle.serving.specs.declared.ending.Ending.{Ending}
use Rattle.serving.specs.Serving as serving
use Rattle.serving.specs.declared.setup.Setup.{Setup}
pub use Rattle.os_app.specs.ProgramRuns.{ProgramRun, StoresRun, AllFilesRead, LeavesInput, IsUntaken, asks_to_serve, stores_run}
use Rattle.os_app.specs.StoredRuns.{StoredRunEnds}
use Rattle.os_app.specs.Checks.{IsAnswerLine, IsAnswerAbout}
use Rattle.os_app.specs.Solves.{IsDocumentAbout}
use Rattle.os_app.specs.Summaries.{IsSummaryOf}
use Rattle.osrl_writing.specs.declared.report.Report.{Report}
use Rattle.osrl_writing.specs.declared.told_names.NameLists.{NameLists}
use Rattle.osrl_writing.specs.Writing.{told_text}
use Rattle.os_app.specs.Safe.{says_turn_limit}
use Rattle.os_app.specs.Statuses.{serve_status, session_status, solve_status}
use Rattle.command_line.specs.Words.{Command, Session, Check, Solve, Generate, Call, Compact, Serve, asks, names_files, AsksSession, IsCheck, NamesNoFile, IsNoCommand, usage}

-- the text that a command asks for, with its status, by what names hold: a check's line, the result document of a job, or the line
-- about a generated instance. The others ask for no text that is made beforehand
abbrev pub IsDue : (List ℕ → Held) → Command → (status : ℕ) → (text : List ℕ) → Type 0
IsDue held (Check osil osrl) status text = IsAnswerAbout (held osil) (held osrl) status text
IsDue held (Solve osil options handed halt seconds safe) status text = IsDocumentAbout (held osil) (option_map held options) (option_map held handed) (option_map held halt) seconds safe status text
IsDue held (Generate variables) status text = IsSummaryOf variables status text
IsDue held (Session journal) status text = ⊥
IsDue held (Call kind host port osil osol ospl) status text = ⊥
IsDue held (Compact old new) status text = ⊥
IsDue held (Serve host port workers servers connections patience first journal) status text = ⊥

-- the text that the words ask for
pub record AsksForText (run : ProgramRun) (status : ℕ) (text : List ℕ) : Type 0 where
  pub command : Command
  pub asked : asks run.words ≡ Some command
  pub due : IsDue run.held command status text

-- the words name files
abbrev pub NamesFiles : List (List ℕ) → Type 0
NamesFiles words = (it : Command) × (asks words ≡ Some it) × (names_files it ≡ true)

-- a session was served, which ended so: over a table of jobs of its own its requests were answered, and each document that was shown is proved
pub record ServesSession (how : Served) (run : ProgramRun) : Type 0 where
  pub session : AsksSession run.words
  pub serves : sessions.IsSession how (both_ends run.input run.output) (both_ends run.input_after run.output_after)

-- the text that was asked for was sent
pub record IsTextSent (status : ℕ) (run : ProgramRun) : Type 0 where
  pub text : List ℕ
  pub asked : AsksForText run status text
  pub sent : IsSent text run.output run.output_after
  pub untaken : IsUntaken run
  pub all_files_read : AllFilesRead run

-- the words are no command's: the usage was sent
pub record IsMisused (run : ProgramRun) : Type 0 where
  pub other : IsNoCommand run.words
  pub sent : IsSent usage run.output run.output_after
  pub untaken : IsUntaken run

-- a file that the words name wasn't read, and nothing was taken or written
pub record IsFileFault (run : ProgramRun) : Type 0 where
  pub named : NamesFiles run.words
  pub failed : HasRisen run.file_faults run.file_faults_after
  pub untaken : IsUntaken run
  pub unwritten : run.output_after ≡ run.output

-- what is due to words that are no command's: the usage
pub record IsUsageDue (run : ProgramRun) (text : List ℕ) : Type 0 where
  pub other : IsNoCommand run.words
  pub usage_is : text ≡ usage

-- what is due to words that ask for a text
pub record IsAnswerDue (run : ProgramRun) (text : List ℕ) : Type 0 where
  pub status : ℕ
  pub asked : AsksForText run status text
  pub all_files_read : AllFilesRead run

-- a write or a flush failed, and a first part was written of what was due
pub record IsUnsent (run : ProgramRun) : Type 0 where
  pub text : List ℕ
  pub due : IsUsageDue run text ⊎ IsAnswerDue run text
  pub breaks_off : BreaksOff text run.output run.output_after
  pub untaken : IsUntaken run

-- there was no memory to read the words, or to make the text that they ask for: nothing was taken, and nothing was written
pub record IsUnheard (run : ProgramRun) : Type 0 where
  pub untaken : IsUntaken run
  pub unwritten : run.output_after ≡ run.output
  pub all_files_read : AllFilesRead run

-- what a run tells of the call that its words ask for, of this host and port, with the files of these names
abbrev pub call_run : ProgramRun → CallKind → (host : List ℕ) → (port : ℕ) → (osil osol ospl : Option (List ℕ)) → CallRun
call_run run kind host port osil osol ospl = record {
  kind = kind;
  host = host;
  port = port;
  names = record { osil = osil; osol = osol; ospl = ospl };
  held = run.held;
  file_faults = run.file_faults;
  file_faults_after = run.file_faults_after;
  net = run.net;
  net_after = run.net_after;
  output = run.output;
  output_after = run.output_after;
}

-- a call was made, or it came to nothing
pub record IsCalled (status : ℕ) (run : ProgramRun) : Type 0 where
  pub kind : CallKind
  pub host : List ℕ
  pub port : ℕ
  pub osil : Option (List ℕ)
  pub osol : Option (List ℕ)
  pub ospl : Option (List ℕ)
  pub asked : asks run.words ≡ Some (Call kind host port osil osol ospl)
  pub ends : CallEnds status (call_run run kind host port osil osol ospl)
  pub input : LeavesInput run

-- links were served, by a server that was set up as the words say, which ended so
pub record IsHosted (how : Ending) (run : ProgramRun) : Type 0 where
  pub host : List ℕ
  pub port : ℕ
  pub setup : Setup
  pub asked : asks run.words ≡ Some (asks_to_serve host port setup None)
  pub serves : serving.IsServerRun how host port setup run.net run.net_after run.output run.output_after
  pub input : LeavesInput run
  pub all_files_read : AllFilesRead run

-- how a run ends, by its status
pub data RunEnds (status : ℕ) (run : ProgramRun) : Type 0 where
  served : (how : Served) → status ≡ session_status how → ServesSession how run → RunEnds status run
  answered : IsTextSent status run → RunEnds status run
  called : IsCalled status run → RunEnds status run
  hosted : (how : Ending) → status ≡ serve_status how → IsHosted how run → RunEnds status run
  misused : status ≡ 2 → IsMisused run → RunEnds status run
  file_fault : status ≡ 3 → IsFileFault run → RunEnds status run
  unsent : status ≡ 4 → IsUnsent run → RunEnds status run
  unheard : status ≡ 5 → IsUnheard run → RunEnds status run

-- the line that was due was sent, with its status; or a file wasn't read, or a write failed, or there was no memory
pub data Gives (due : ℕ) (MayBe : List ℕ → Type 0) (status : ℕ) (run : ProgramRun) : Type 0 where
  in_full : (line : List ℕ) → status ≡ due → MayBe line → IsSent line run.output run.output_after → Gives due MayBe status run
  no_file : status ≡ 3 → IsFileFault run → Gives due MayBe status run
  not_written : (line : List ℕ) → status ≡ 4 → MayBe line → BreaksOff line run.output run.output_after → Gives due MayBe status run
  no_memory : status ≡ 5 → IsUnheard run → Gives due MayBe status run

-- what the bytes of two files decide of a check: it says that the claim is accepted exactly where it is, and why something is
-- refused exactly where that is
pub record IsPairJudged (status : ℕ) (run : ProgramRun) (osil osrl : List ℕ) : Type 0 where
  pub accepted : (k : Kind) → IsAcceptedText osil osrl k → Gives 0 (IsAnswerLine (Ok k)) status run
  pub accepted_only : status ≡ 0 → (k : Kind) × IsAcceptedText osil osrl k
  pub refused : (r : Refused) (text : List ℕ) → DocsRefuse osil osrl r → IsAnswerText (Err r) text → Gives 1 (λ line. line ≡ text ++ (10 ∷ [])) status run
  pub refused_only : status ≡ 1 → (r : Refused) × DocsRefuse osil osrl r × (r ≡ reasons.Memory → ⊥)

-- a file of this name may be there: it isn't told that there is none
abbrev pub MayBeThere : ProgramRun → List ℕ → Type 0
MayBeThere run name = run.held name ≡ NoFile → ⊥

-- how a check of the files of these names ends: their bytes, where they are told, decide it, and it answers only where neither is told
-- to be absent
pub record Checks (status : ℕ) (run : ProgramRun) (osil_name osrl_name : List ℕ) : Type 0 where
  pub judged : (osil osrl : List ℕ) → run.held osil_name ≡ Holds osil → run.held osrl_name ≡ Holds osrl → IsPairJudged status run osil osrl
  pub there : (status ≡ 0) ⊎ (status ≡ 1) → MayBeThere run osil_name × MayBeThere run osrl_name

-- a run ends in one of these ways, and touched no stores, or, over a journal, so. What the bytes to come decide of a session follows by the laws of `os_server`.
-- Status 2 says that the words are no command's, no write failed and there was memory, exactly. Only of words that name files a file fails to be
-- read
pub record EndsSo (Untouched Stored : Type 0) (status : ℕ) (run : ProgramRun) : Type 0 where
  pub ends : (RunEnds status run × Untouched) ⊎ Stored
  pub files : NamesNoFile run.words → AllFilesRead run
  pub misused : (status ≡ 2) ↔ (IsNoCommand run.words × (status ≡ 4 → ⊥) × (status ≡ 5 → ⊥))
  pub checks : (osil_name osrl_name : List ℕ) → IsCheck run.words osil_name osrl_name → Checks status run osil_name osrl_name

-- a run and what its stores told of it, by what is told of disks, and by what says that the stores are as they were
abbrev pub Runs : {D : Type 0} → Ghosts D → (untouched : Type 0) → (status : ℕ) → ProgramRun → StoresRun → Type 0
Runs g untouched status run stores = EndsSo untouched (StoredRunEnds g status run stores) status run

-- the text of a report that doesn't name the limit of turns was sent, with its status, or a first part of it, with names or without
pub record TellsWithinTurns (status : ℕ) (run : ProgramRun) : Type 0 where
  pub report : Report
  pub names : NameLists
  pub told : IsTold (solve_status report.error) (told_text names report) status run.output run.output_after
  pub within : says_turn_limit report.claim ≡ false

-- or nothing was written
abbrev pub WritesWithinTurns : (status : ℕ) → ProgramRun → Type 0
WritesWithinTurns status run = (run.output_after ≡ run.output) ⊎ TellsWithinTurns status run
