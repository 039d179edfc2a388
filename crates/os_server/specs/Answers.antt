-- What answers a call, by the last reply of the table of jobs.
use Rattle.std.specs.Prelude.{◌≡◌, ℕ, Bool, true, false, List, [], ◌∷◌, Option, None, Some, map, codes}
use Rattle.effects.specs.declared.store.NotStored.{NotStored}
use Rattle.effects.specs.declared.store.NotStored.TheVariants as faults
use Rattle.job_table.specs.declared.job.State.{State}
use Rattle.job_table.specs.declared.job.State.TheVariants as states
use Rattle.job_table.specs.declared.entries.TableMove.{TableMove}
use Rattle.job_table.specs.declared.entries.TableMove.TheVariants as tables
use Rattle.job_table.specs.declared.entries.Killing.{Killing}
use Rattle.job_table.specs.declared.entries.Statistics as given
use Rattle.job_table.specs.declared.entries.Retrieved.{Retrieved}
use Rattle.job_table.specs.declared.entries.Retrieved.TheVariants as shown
use Rattle.job_table.specs.declared.entries.Reply.{Reply}
use Rattle.job_table.specs.declared.entries.Reply.TheVariants as reply
use Rattle.job_table.specs.Ids.{id_text}
use Rattle.job_table.specs.History.{MoveEntry, entry_of_move}
use Rattle.job_runs.specs.Solves.{Solves, BeginsToSolve}
use Rattle.certificate.specs.declared.causes.Cause.TheVariants as causes
use Rattle.certificate.specs.declared.claims.Claim.{Claim}
use Rattle.certificate.specs.declared.claims.Claim.TheVariants.{Unsure}
use Rattle.osrl_writing.specs.declared.report.JobStatus.{JobStatus}
use Rattle.osrl_writing.specs.declared.report.JobStatus.TheVariants as status
use Rattle.osrl_writing.specs.declared.report.Report.{Report}
use Rattle.osrl_writing.specs.Writing.{report_text}
use Rattle.ospl_grammar.specs.declared.process.JobState.{JobState}
use Rattle.ospl_grammar.specs.declared.process.JobState.TheVariants as job_states
use Rattle.ospl_grammar.specs.declared.process.StatedJob.{StatedJob}
use Rattle.ospl_grammar.specs.declared.process.Process.{Process}
use Rattle.ospl_grammar.specs.declared.process.Process.TheVariants.{Statistics}
use Rattle.ospl_grammar.specs.Writing.{process_text}
use Rattle.six_calls.specs.declared.call.CallKind.{CallKind}
use Rattle.six_calls.specs.declared.call.CallKind.TheVariants as kinds
use Rattle.six_calls.specs.Names.{kind_text}
use Rattle.soap_calls.specs.Replies.{bool_text}
use Rattle.soap_calls.specs.Writing.{reply_text, fault_text}
use Rattle.os_server.specs.declared.doing.LastReply.{LastReply}
use Rattle.os_server.specs.declared.doing.LastReply.TheVariants as lasts
use Rattle.os_server.specs.declared.order.Order.{Order}
use Rattle.os_server.specs.declared.fault.FaultCode.{FaultCode}
use Rattle.os_server.specs.declared.fault.FaultCode.TheVariants as codes_of
use Rattle.os_server.specs.declared.saying.ReplyEnvelope.{ReplyEnvelope}
use Rattle.os_server.specs.Orders.{code_text}

-- a report of no error about how far a job is, with this claim
abbrev pub state_report : JobStatus → Option Claim → Report
state_report s claim = record { error = false; job = None; message = None; status = s; claim = claim }

-- the report about a job that isn't held
abbrev pub unknown_report : Report
unknown_report = record { error = true; job = None; message = Some (codes "unknown job"); status = status.Unknown; claim = None }

-- the result document of what is shown of a job: its own document, and else a report of how far it is
abbrev pub shown_text : Retrieved → List ℕ
shown_text shown.Unknown = report_text unknown_report
shown_text shown.Issued = report_text (state_report status.Issued None)
shown_text shown.Waiting = report_text (state_report status.Waiting None)
shown_text shown.Running = report_text (state_report status.Running None)
shown_text (shown.Finished (Some document)) = document
shown_text (shown.Finished None) = report_text (state_report status.Finished (Some (Unsure causes.Memory None)))
shown_text shown.Killed = report_text (state_report status.Killed None)

-- how far a job has come, as a process document has it
abbrev pub told_state : State → JobState
told_state states.Issued = job_states.Issued
told_state states.Waiting = job_states.Waiting
told_state states.Running = job_states.Running
told_state states.Finished = job_states.Finished
told_state states.Killed = job_states.Killed

-- a job by the text that names it
abbrev pub stated : ℕ × State → StatedJob
stated job = record { id = id_text job.0; state = told_state job.1 }

-- the process document of all jobs
abbrev pub process_of : given.Statistics → Process
process_of told = Statistics told.busy told.current told.total (map stated told.jobs)

-- the one job of that number with its state, or none where it isn't held
abbrev pub job_alone : ℕ → Option State → List StatedJob
job_alone n None = []
job_alone n (Some state) = stated (n, state) ∷ []

-- the process document that follows the kill of a job
abbrev pub process_after : ℕ → Killing → Process
process_after n told = Statistics told.busy told.current told.total (job_alone n told.state)

-- the envelope of what a call returns
abbrev pub returns : CallKind → List ℕ → Option ReplyEnvelope
returns kind text = Some (record { fault = false; text = reply_text (kind_text kind) text })

-- the envelope of a fault
abbrev pub fault_said : FaultCode → List ℕ → ReplyEnvelope
fault_said code text = record { fault = true; text = fault_text (code_text code) text }

-- why a change wasn't stored
abbrev pub why_text : NotStored → List ℕ
why_text faults.Disk = codes "disk"
why_text faults.Broken = codes "broken"
why_text faults.Long = codes "journal full"

-- the last reply of the table to what was asked
abbrev pub reply_of : LastReply → Reply
reply_of (lasts.Issued m) = reply.Issued m
reply_of lasts.Full = reply.Full
reply_of lasts.Spent = reply.Spent
reply_of (lasts.Sent taken) = reply.Sent taken
reply_of (lasts.Killing told) = reply.Killing told
reply_of (lasts.Retrieved job) = reply.Retrieved job
reply_of (lasts.Statistics told) = reply.Statistics told
reply_of (lasts.NotStored fault) = reply.NotStored fault

-- what answers the call of this kind about the job with this number, whose last reply is this; none where it isn't the last
-- reply of a call
abbrev pub said_by : CallKind → ℕ → Reply → Option ReplyEnvelope
said_by kind n (reply.Issued m) = returns kind (id_text m)
said_by kind n reply.Full = Some (fault_said codes_of.Full (codes "10000 jobs"))
said_by kind n reply.Spent = Some (fault_said codes_of.Spent (codes "no ids"))
said_by kind n (reply.Sent taken) = returns kind (bool_text taken)
said_by kind n (reply.Killing told) = returns kind (process_text (process_after n told))
said_by kind n (reply.Retrieved job) = returns kind (shown_text job)
said_by kind n (reply.Statistics told) = returns kind (process_text (process_of told))
said_by kind n (reply.NotStored fault) = Some (fault_said codes_of.Disk (why_text fault))
said_by kind n _ = None

-- what is done for a call: one move of the table, or a job with these texts is entered and run at once
pub data Doing : Type 0 where
  Moves : TableMove → Doing
  RunsAtOnce : (osil osol : List ℕ) → Doing

-- one row for each call, of the job with this number and with these texts
abbrev pub doing : CallKind → ℕ → (osil osol : List ℕ) → Doing
doing kinds.Solve n osil osol = RunsAtOnce osil osol
doing kinds.GetJobId n osil osol = Moves tables.Issue
doing kinds.Send n osil osol = Moves (tables.Send n osil osol)
doing kinds.Retrieve n osil osol = Moves (tables.Retrieve n)
doing kinds.Knock n osil osol = Moves tables.Knock
doing kinds.Kill n osil osol = Moves (tables.Kill n)

-- the number by which moves of the table say what is named: 0, which no job has, for none
abbrev pub number_for : Option ℕ → ℕ
number_for None = 0
number_for (Some n) = n

abbrev pub doing_of : Order → Doing
doing_of order = doing order.kind (number_for order.job) order.osil order.osol

module _ (made : List ℕ → List ℕ → List Bool → Option (List ℕ) → Type 0) where
  abbrev pub DoesSo : Doing → Reply → List MoveEntry → Type 0
  DoesSo (Moves move) last own = own ≡ entry_of_move move last ∷ []
  DoesSo (RunsAtOnce osil osol) last own = Solves made osil osol last own

  -- the moves that do what is asked, the last of which has this reply
  abbrev pub Does : Order → Reply → List MoveEntry → Type 0
  Does order last own = DoesSo (doing_of order) last own

  abbrev pub BeginsSo : Doing → List MoveEntry → Type 0
  BeginsSo (Moves move) own = own ≡ []
  BeginsSo (RunsAtOnce osil osol) own = BeginsToSolve made osil osol own

  -- the moves until one found no memory
  abbrev pub BeginsToDo : Order → List MoveEntry → Type 0
  BeginsToDo order own = BeginsSo (doing_of order) own
