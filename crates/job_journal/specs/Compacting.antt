-- Effects without what jobs that are gone had.
use Rattle.std.specs.Prelude.{◌≡◌, ℕ, ◌+◌, ◌-◌, ◌^◌, min, Bool, true, List, [], ◌∷◌, ◌++◌, length, if◌then◌else◌, is_some}
use Rattle.effects.specs.Records.{Deed, AllFit, body, records, Issue, Send, Enter, Finish, Killed, Marked, GivenUp, Begin}
use Rattle.effects.specs.Fold.{Ledger, nothing, stage_of}
use Rattle.job_journal.specs.Journal.{FileStandsFor, is_too_long}
use Rattle.job_journal.specs.Opening.{FoldsTo}

-- a job of that number is held
abbrev pub is_held : Ledger → ℕ → Bool
is_held l n = is_some (stage_of n l)

-- the number that is given next behind an effect, where this one was, at most 2^64 - 1
abbrev pub next_behind : ℕ → Deed → ℕ
next_behind next Issue = min (next + 1) (2 ^ 64 - 1)
next_behind next (Enter osil osol) = min (next + 1) (2 ^ 64 - 1)
next_behind next (Begin n) = n
next_behind next _ = next

-- what an effect comes to, where jobs of these numbers are held at the end: of the others stays that their numbers were given, and that they were killed and given up
abbrev pub shortened_one : (ℕ → Bool) → ℕ → Deed → List Deed
shortened_one held next (Enter osil osol) = (if held next then Enter osil osol else Issue) ∷ []
shortened_one held next (Send n osil osol) = if held n then Send n osil osol ∷ [] else []
shortened_one held next (Finish n document) = if held n then Finish n document ∷ [] else []
shortened_one held next (Killed n) = if held n then Killed n ∷ [] else []
shortened_one held next (Marked n) = if held n then Marked n ∷ [] else []
shortened_one held next (GivenUp n) = Killed n ∷ GivenUp n ∷ []
shortened_one held next d = d ∷ []

abbrev pub shortened : (ℕ → Bool) → ℕ → List Deed → List Deed
shortened held next [] = []
shortened held next (d ∷ deeds) = shortened_one held next d ++ shortened held (next_behind next d) deeds

-- the file stood for effects that made the table, each possible and accepted after those before; and these are what they come to without what jobs that
-- aren't held had, and make the same table
pub record IsShortOf (accepted : List ℕ → List ℕ → Type 0) (file : List ℕ) (ledger : Ledger) (short : List Deed) : Type 0 where
  pub deeds : List Deed
  pub fit : AllFit deeds
  pub stands : FileStandsFor deeds file
  pub folds : FoldsTo accepted nothing deeds ledger
  pub is : short ≡ shortened (is_held ledger) 1 deeds
  pub fits : AllFit short
  pub same : FoldsTo accepted nothing short ledger

-- what an opening of the file makes is this table and no other, and it is never called damaged
pub record GivesTable (accepted : List ℕ → List ℕ → Type 0) (file : List ℕ) (ledger : Ledger) : Type 0 where
  pub deeds : List Deed
  pub fit : AllFit deeds
  pub stands : FileStandsFor deeds file
  pub folds : FoldsTo accepted nothing deeds ledger
  pub no_other : (other : Ledger) (some : List Deed) → AllFit some → FileStandsFor some file → FoldsTo accepted nothing some other → other ≡ ledger

-- behind records of those, and of some of these, there is no room for the next of these: it is too long for a journal, or the file would be
pub record HasNoRoom (those these : List Deed) : Type 0 where
  pub done : List Deed
  pub deed : Deed
  pub left : List Deed
  pub is : these ≡ done ++ deed ∷ left
  pub long : is_too_long (length (records (those ++ done))) (length (body deed)) ≡ true
