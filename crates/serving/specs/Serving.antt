-- A server, from `listen` on: the links that came, the one history of the moves of the table of jobs, and the lines that were written.
use Rattle.std.specs.Prelude.{◌≡◌, ◌≢◌, ◌⊎◌, ℕ, ◌+◌, ◌<◌, ◌≤◌, nat_eq, Bool, true, false, List, [], ◌∷◌, ◌++◌, length, map, count_by, All, IsPermutation, Some, Result, Ok, Err}
use Rattle.os_io.specs.Streams.{Tells, HasRisen}
use Rattle.os_io.specs.Links.{NetTells, ListenedAt, IsReached, SameLinks}
use Rattle.job_table.specs.declared.entries.TableMove.{TableMove}
use Rattle.job_table.specs.declared.entries.TableMove.TheVariants.{Issue, Enter}
use Rattle.job_table.specs.declared.entries.Reply.{Reply}
use Rattle.job_table.specs.declared.entries.Reply.TheVariants.{Issued, Gave}
use Rattle.job_table.specs.Jobs.{Register, waiting_jobs}
use Rattle.job_table.specs.History.{MoveEntry as Said}
use Rattle.job_runs.specs.Laws.{AreKept}
use Rattle.desk.specs.declared.view.SeatEntry.{SeatEntry}
use Rattle.desk.specs.declared.view.Met.{Met}
use Rattle.desk.specs.History.{LeadsTo, moves_in, entries_by, by}
use Rattle.workers.specs.Shifts.{WorksThrough}
use Rattle.workers.specs.Bells.{Untold}
use Rattle.server_threads.specs.declared.means.ServeFault.{ServeFault}
use Rattle.server_threads.specs.declared.means.ServeFault.TheVariants.{Failed, Memory}
use Rattle.server_threads.specs.Talks.{LinkTalk, Shift, talk_met, shift_met, short_of, Came, GivenBack, AllTalked, AllWorked}
use Rattle.server_threads.specs.Serving.{AtOnce}
use Rattle.os_server.specs.Conversations.{Converses as ConversesBy}
use Rattle.solve_run.specs.JobAnswers.{Right}
use Rattle.job_solver.specs.Runs.{MakesDocument}
use Rattle.job_solver.specs.ProvedDocuments.{AreProved}
use Rattle.command_answers.specs.Outputs.{IsSent, BreaksOff}
use Rattle.serving.specs.declared.setup.Setup.{Setup}
use Rattle.serving.specs.declared.ending.Ending.{Ending}
use Rattle.serving.specs.declared.ending.Ending.TheVariants.{Done, LinkMemory, ListenFault, AnnounceFault, NoMemory, AcceptFault, ReportFault}
use Rattle.serving.specs.Lines.{listening, jobs_line}

-- ---- conversations beside each other

-- a conversation, by what a ring of the bell may answer, what its link told before it, the moves that were made for it, what its link told
-- after it, and whether it ended for want of memory
abbrev pub Converses : (Bool → Type 0) → Tells → List Said → Tells → Bool → Type 0
Converses = ConversesBy MakesDocument

-- who made moves: the links that came, and the workers, each with its number and its moves
abbrev pub movers : List LinkTalk → List Shift → List Met
movers links staff = map talk_met links ++ map shift_met staff

-- whoever closes the table worked a whole shift, and its moves stand last: before them stand the moves of others alone
pub record WorksLast (closer : Shift) (log : List SeatEntry) : Type 0 where
  pub others : List SeatEntry
  pub worked : WorksThrough MakesDocument closer.said
  pub none : entries_by closer.seat others ≡ []
  pub last : log ≡ others ++ by closer.seat closer.said

-- whose moves stand in a history. Among the movers the workers have the numbers from 1 on, and their moves are those of their shifts; the links have
-- the next ones, in the order in which they came, and their moves are those of their conversations. Whoever closes the table is one worker more, with
-- the number 0, whose shift stands last; or nobody made a move. Under the number of each stand its moves, in their order, and nobody else has any.
-- At most so many links are served at once, as far as moves show it
pub record IsShared (servers : ℕ) (links : List LinkTalk) (staff : List Shift) (closer : Shift) (log : List SeatEntry) : Type 0 where
  pub worked : AllWorked MakesDocument 0 (closer ∷ staff)
  pub talked : AllTalked (Converses Untold) (1 + length staff) links
  pub made : All (λ m. entries_by m.seat log ≡ m.entries) (movers links (closer ∷ staff))
  pub no_others : (n : ℕ) → All (λ m. m.seat ≢ n) (movers links (closer ∷ staff)) → entries_by n log ≡ []
  pub closes : (log ≡ []) ⊎ WorksLast closer log
  pub at_once : AtOnce servers log links

-- one history of moves of the table, step by step from the empty one whose jobs have the numbers from this one on. Every finish is kept, every document
-- that is shown is proved, and at the end no job waits
pub record IsHistory (first servers : ℕ) (links : List LinkTalk) (staff : List Shift) (closer : Shift) (log : List SeatEntry) : Type 0 where
  pub table : Register
  pub begins : table.first ≡ first
  pub runs : LeadsTo Right log table
  pub shared : IsShared servers links staff closer log
  pub kept : AreKept (moves_in log)
  pub proved : AreProved (moves_in log)
  pub none_waits : waiting_jobs table.jobs ≡ 0

-- ---- what comes and goes

-- links came in this order and were given back, perhaps in another, and with at most so many workers they made one history, of which this holds. What
-- else holds of the links and the history is given
pub record HostsBy (History : List LinkTalk → List Shift → Shift → List SeatEntry → Type 0) (Further : List LinkTalk → List SeatEntry → Type 0) (setup : Setup) (old new : NetTells) : Type 0 where
  pub links : List LinkTalk
  pub returned : List LinkTalk
  pub staff : List Shift
  pub closer : Shift
  pub log : List SeatEntry
  pub all_back : IsPermutation links returned
  pub few : length staff ≤ setup.limits.workers
  pub came : Came old.coming new.coming (map (λ t. t.came) links)
  pub back : GivenBack old.given_back new.given_back (map (λ t. t.back) returned)
  pub history : History links staff closer log
  pub ends : Further links log

-- the move gives a number: an issue, or the enter of a job
abbrev pub gives_number : TableMove → Reply → Bool
gives_number Issue (Issued n) = true
gives_number (Enter osil osol) (Gave (Some j)) = true
gives_number move said = false

-- how many numbers these moves gave
abbrev pub numbers_given : List Said → ℕ
numbers_given said = count_by (λ e. gives_number e.table_move e.reply) said

-- ---- how it ends

-- how many numbers the table that is closed had given is known by the history
module _ (given : List SeatEntry → ℕ) (connections : ℕ) (links : List LinkTalk) (log : List SeatEntry) (old new : NetTells) (output output' : Tells) where
  -- so many links came, and no call of the listener failed
  abbrev pub AllCame : Type 0
  AllCame = (length links ≡ connections) × (new.faults ≡ old.faults)

  -- how serving so many links ended, by the links that came and their history, by how often a call of the listener failed, and by
  -- what the output tells
  abbrev pub ServerEnds : Ending → Type 0
  ServerEnds Done =
      AllCame × (short_of links ≡ 0)
      × ((said : Tells) × IsSent listening output said × IsSent (jobs_line (given log)) said output')
  ServerEnds LinkMemory =
      AllCame × (0 < short_of links)
      × ((said : Tells) × IsSent listening output said × IsSent (jobs_line (given log)) said output')
  ServerEnds ListenFault = (links ≡ []) × HasRisen old.faults new.faults × (output' ≡ output)
  ServerEnds AnnounceFault = (links ≡ []) × (new.faults ≡ old.faults) × BreaksOff listening output output'
  ServerEnds NoMemory = (links ≡ []) × (new.faults ≡ old.faults) × IsSent listening output output'
  ServerEnds AcceptFault = (length links < connections) × HasRisen old.faults new.faults × IsSent listening output output'
  ServerEnds ReportFault =
      AllCame
      × ((said : Tells) × IsSent listening output said × BreaksOff (jobs_line (given log)) said output')

-- what is answered where all links came and both lines were written, by whether no link ended for want of memory
abbrev pub done_if : Bool → Ending
done_if true = Done
done_if false = LinkMemory

-- and where serving was broken off
abbrev pub ending_of : ServeFault → Ending
ending_of Failed = AcceptFault
ending_of Memory = NoMemory

-- what was reached: this host and port were listened at, once, with this patience, and nothing else was; or the listener doesn't listen, and
-- nothing was
abbrev pub Listened : Ending → (host : List ℕ) → (port patience : ℕ) → (old new : NetTells) → Type 0
Listened ListenFault host port patience old new = new.reached ≡ old.reached
Listened how host port patience old new = IsReached old.reached new.reached (ListenedAt host port patience)

-- it listens, and said so
abbrev pub HasBegun : (host : List ℕ) → (port patience : ℕ) → (old new : NetTells) → (output output' : Tells) → Type 0
HasBegun host port patience old new output output' =
    IsReached old.reached new.reached (ListenedAt host port patience) × SameLinks old new × (new.faults ≡ old.faults) × IsSent listening output output'

-- or it doesn't listen, or listens and didn't say so
abbrev pub Unbegun : Ending → (host : List ℕ) → (port patience : ℕ) → (old new : NetTells) → (output output' : Tells) → Type 0
Unbegun how host port patience old new output output' =
    ((how ≡ ListenFault) × (new.reached ≡ old.reached) × SameLinks old new × HasRisen old.faults new.faults × (output' ≡ output))
    ⊎ ((how ≡ AnnounceFault) × IsReached old.reached new.reached (ListenedAt host port patience) × SameLinks old new × (new.faults ≡ old.faults) × BreaksOff listening output output')

-- what is said at the end, by what serving answered and how many numbers were given
abbrev pub TellsEnd : Result ℕ ServeFault → (given : ℕ) → Ending → (output output' : Tells) → Type 0
TellsEnd (Ok short) given how output output' =
    ((how ≡ done_if (nat_eq short 0)) × IsSent (jobs_line given) output output') ⊎ ((how ≡ ReportFault) × BreaksOff (jobs_line given) output output')
TellsEnd (Err fault) given how output output' = (how ≡ ending_of fault) × (output' ≡ output)

-- a server listened at this host and port, served links as it was set up, and ended so; what holds of its history, and how many numbers its table had given
-- behind it, is given
pub record IsRunOf (given : List SeatEntry → ℕ) (History : List LinkTalk → List Shift → Shift → List SeatEntry → Type 0) (how : Ending) (host : List ℕ) (port : ℕ) (setup : Setup) (old new : NetTells)
    (output output' : Tells) : Type 0 where
  pub listened : Listened how host port setup.patience old new
  pub hosts : HostsBy History (λ links log. ServerEnds given setup.limits.connections links log old new output output' how) setup old new

-- the numbers that the moves of a history gave
abbrev pub given_in : List SeatEntry → ℕ
given_in log = numbers_given (moves_in log)

-- a server over the empty table whose numbers begin as they were to, with at most so many links at once
abbrev pub IsServerRun : (how : Ending) (host : List ℕ) (port : ℕ) (setup : Setup) (old new : NetTells) (output output' : Tells) → Type 0
IsServerRun how host port setup old new output output' =
    IsRunOf given_in (λ links staff closer log. IsHistory setup.first setup.limits.servers links staff closer log) how host port setup old new output output'
