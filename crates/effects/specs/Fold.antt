-- What effects leave, in order: jobs with their numbers, with which number these begin, and how many were given.
use Rattle.std.specs.Prelude.{ℕ, ◌+◌, nat_le, nat_lt, nat_eq, ◌||◌, ◌&&◌, List, [], ◌∷◌, ◌++◌, length, Option, Some, None, if◌then◌else◌}
use Rattle.std.specs.Map.{lookup, set_value, remove_entry}
use Rattle.effects.specs.Limits.{most_jobs, last_number, most_first}
use Rattle.effects.specs.Records.{Deed, Issue, Send, Enter, Finish, Killed, Marked, GivenUp, Begin}

-- how far a job has come
pub data Stage : Type 0 where
  -- it has its number alone
  Given : Stage
  -- it has its texts, and waits, or ran when the power went
  Sent : List ℕ → List ℕ → Stage
  -- the same, and it was asked to stop
  Asked : List ℕ → List ℕ → Stage
  -- it was run, and has a document, which may be missing
  Over : Option (List ℕ) → Stage
  -- it was killed before it ran
  Stopped : Stage

-- the number with which numbers begin, jobs in order of issue, each behind its own, and how many numbers were given
pub record Ledger : Type 0 where
  pub first : ℕ
  pub jobs : List (ℕ × Stage)
  pub issued : ℕ

-- no job, and no number given
abbrev pub beginning : ℕ → Ledger
beginning first = record { first = first; jobs = []; issued = 0 }

-- numbers begin with 1 where nothing else is said
abbrev pub nothing : Ledger
nothing = beginning 1

-- the number that is given next
abbrev pub next_of : Ledger → ℕ
next_of l = l.first + l.issued

abbrev pub stage_of : ℕ → Ledger → Option Stage
stage_of n l = lookup (nat_eq n) l.jobs

-- a new job, which has the next number, where there is room for one and a number is left
abbrev pub with_job : Stage → Ledger → Option Ledger
with_job stage l =
    if nat_le most_jobs (length l.jobs) || nat_lt last_number (next_of l) then None
    else Some (record l { jobs = l.jobs ++ (next_of l, stage) ∷ []; issued = l.issued + 1 })

abbrev pub moved : ℕ → Stage → Ledger → Ledger
moved n stage l = record l { jobs = set_value (nat_eq n) l.jobs stage }

abbrev pub forgotten : ℕ → Ledger → Ledger
forgotten n l = record l { jobs = remove_entry (nat_eq n) l.jobs }

-- numbers begin with another one, of those with which they may, while none was given
abbrev pub begins : ℕ → Ledger → Option Ledger
begins n l = if nat_eq l.issued 0 && nat_le 1 n && nat_le n most_first then Some (record l { first = n }) else None

-- texts follow an issue
abbrev pub sends : ℕ → List ℕ → List ℕ → Option Stage → Ledger → Option Ledger
sends n osil osol (Some Given) l = Some (moved n (Sent osil osol) l)
sends n osil osol _ l = None

-- a finish follows texts or a mark
abbrev pub finishes : ℕ → Option (List ℕ) → Option Stage → Ledger → Option Ledger
finishes n document (Some (Sent osil osol)) l = Some (moved n (Over document) l)
finishes n document (Some (Asked osil osol)) l = Some (moved n (Over document) l)
finishes n document _ l = None

-- a kill follows an issue or texts
abbrev pub kills : ℕ → Option Stage → Ledger → Option Ledger
kills n (Some Given) l = Some (moved n Stopped l)
kills n (Some (Sent osil osol)) l = Some (moved n Stopped l)
kills n _ l = None

-- a mark follows texts
abbrev pub marks : ℕ → Option Stage → Ledger → Option Ledger
marks n (Some (Sent osil osol)) l = Some (moved n (Asked osil osol) l)
marks n _ l = None

-- a record is given up after a kill, a finish or a mark
abbrev pub gives_up : ℕ → Option Stage → Ledger → Option Ledger
gives_up n (Some Stopped) l = Some (forgotten n l)
gives_up n (Some (Over document)) l = Some (forgotten n l)
gives_up n (Some (Asked osil osol)) l = Some (forgotten n l)
gives_up n _ l = None

-- what an effect leaves, or none where it isn't possible there
abbrev pub after : Deed → Ledger → Option Ledger
after Issue l = with_job Given l
after (Send n osil osol) l = sends n osil osol (stage_of n l) l
after (Enter osil osol) l = with_job (Sent osil osol) l
after (Finish n document) l = finishes n document (stage_of n l) l
after (Killed n) l = kills n (stage_of n l) l
after (Marked n) l = marks n (stage_of n l) l
after (GivenUp n) l = gives_up n (stage_of n l) l
after (Begin n) l = begins n l

-- the text of the instance of a job that a finish may name
abbrev pub osil_in : Option Stage → Option (List ℕ)
osil_in (Some (Sent osil osol)) = Some osil
osil_in (Some (Asked osil osol)) = Some osil
osil_in _ = None
