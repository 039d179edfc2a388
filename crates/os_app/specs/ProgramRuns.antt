-- What a run tells: its words, and what its files, its input, its output, its net and its stores tell before and after it.
use Rattle.std.specs.Prelude.{◌≡◌, ℕ, Option, None, Some, List}
use Rattle.os_io.specs.Files.{Held}
use Rattle.os_io.specs.Links.{NetTells}
use Rattle.os_io.specs.Streams.{Tells}
use Rattle.serving.specs.declared.setup.Setup.{Setup}
use Rattle.command_line.specs.declared.words.ServeWords.{ServeWords}
use Rattle.command_line.specs.Words.{Command, Session, Check, Solve, Generate, Call, Compact, Serve, asks}

-- a run's words, what names hold, and what its files, its input, its output and its net tell before and after it
pub record ProgramRun : Type 0 where
  pub words : List (List ℕ)
  pub held : List ℕ → Held
  pub file_faults : ℕ
  pub file_faults_after : ℕ
  pub input : Tells
  pub input_after : Tells
  pub output : Tells
  pub output_after : Tells
  pub net : NetTells
  pub net_after : NetTells

-- what stores hold of names, which disks were given back, which names were opened, and how often none was, before and after a run
pub record StoresRun : Type 0 where
  pub held : List ℕ → Option (List ℕ)
  pub back : Option (List (List ℕ))
  pub back_after : Option (List (List ℕ))
  pub opened : Option (List (List ℕ))
  pub opened_after : Option (List (List ℕ))
  pub faults : ℕ
  pub faults_after : ℕ

-- the same of stores that tell so
abbrev pub stores_run : {K : Type 0} → (held : K → List ℕ → Option (List ℕ)) → (back opened : K → Option (List (List ℕ))) → (faults : K → ℕ) → (old new : K) → StoresRun
stores_run held back opened faults old new = record { held = held old; back = back old; back_after = back new; opened = opened old; opened_after = opened new; faults = faults old; faults_after = faults new }

-- no file failed to be read
abbrev pub AllFilesRead : ProgramRun → Type 0
AllFilesRead run = run.file_faults_after ≡ run.file_faults

-- nothing is told anew of the input: nothing was taken, and no read failed
abbrev pub LeavesInput : ProgramRun → Type 0
LeavesInput run = run.input_after ≡ run.input

-- nothing is told anew of the input or of the net: nothing was taken, no link came or was given back, and nothing of them failed
abbrev pub IsUntaken : ProgramRun → Type 0
IsUntaken run = LeavesInput run × (run.net_after ≡ run.net)

-- how a server is set up by its words
abbrev pub setup_of : ServeWords → Setup
setup_of to = record { patience = to.patience; first = to.first; limits = record { workers = to.workers; servers = to.servers; connections = to.connections } }

-- to serve at this port of a host, so set up, over the journal of this name, if there is one
abbrev pub asks_to_serve : (host : List ℕ) → (port : ℕ) → Setup → (journal : Option (List ℕ)) → Command
asks_to_serve host port setup journal = Serve host port setup.limits.workers setup.limits.servers setup.limits.connections setup.patience setup.first journal

-- the name of the journal that a command is over, if it is over one
abbrev pub journal_of : Command → Option (List ℕ)
journal_of (Session journal) = journal
journal_of (Check osil osrl) = None
journal_of (Solve osil options handed halt seconds safe) = None
journal_of (Generate variables) = None
journal_of (Call kind host port osil osol ospl) = None
journal_of (Compact old new) = Some old
journal_of (Serve host port workers servers connections patience first journal) = journal

-- the words name no journal: no command that they ask for is over one
abbrev pub NamesNoJournal : List (List ℕ) → Type 0
NamesNoJournal words = (it : Command) → asks words ≡ Some it → journal_of it ≡ None
