-- What moves of solved jobs put behind the effects of a journal from which their table goes on.
use Rattle.std.specs.Prelude.{◌≡◌, ◌≤◌, List, [], ◌∷◌, ◌++◌, length, Option, Some, None}
use Rattle.effects.specs.Records.{Deed, AllFit, most_text}
use Rattle.effects.specs.Fold.{Ledger, nothing}
use Rattle.job_table.specs.declared.entries.TableMove.{TableMove}
use Rattle.job_table.specs.declared.entries.TableMove.TheVariants.{Send, Enter}
use Rattle.job_table.specs.Jobs.{Register, Rises}
use Rattle.job_table.specs.Steps.{row_of_move, May}
use Rattle.job_table.specs.Plans.{planned}
use Rattle.job_table.specs.History.{MoveEntry, LeadsStepwise}
use Rattle.job_journal.specs.Opening.{FoldsTo}
use Rattle.solve_run.specs.JobAnswers.{Right}
use Rattle.job_solver.specs.Sieves.{Sifts}
use Rattle.job_solver.specs.Openings.{TableGoesOn}

-- an effect, where there is one, before others
abbrev pub with_effect : Option Deed → List Deed → List Deed
with_effect None deeds = deeds
with_effect (Some d) deeds = d ∷ deeds

-- the effects of these moves, which are made one after another from this table on
abbrev pub effects_of : Register → List MoveEntry → List Deed
effects_of r [] = []
effects_of r (e ∷ es) = with_effect (planned e.table_move r) (effects_of (row_of_move e.table_move r).after es)

-- the texts that the move brings are no longer than a text of a record may be
abbrev pub BringsShort : TableMove → Type 0
BringsShort (Send n osil osol) = (length osil ≤ most_text) × (length osol ≤ most_text)
BringsShort (Enter osil osol) = (length osil ≤ most_text) × (length osol ≤ most_text)
BringsShort _ = Unit {0}

abbrev pub AllBringShort : List MoveEntry → Type 0
AllBringShort [] = Unit {0}
AllBringShort (e ∷ es) = BringsShort e.table_move × AllBringShort es

-- each is possible and accepted after those before, and no text is too long: a file that stands for these isn't damaged
pub record AreSoundDeeds (deeds : List Deed) : Type 0 where
  pub fit : AllFit deeds
  pub ledger : Ledger
  pub folds : FoldsTo Sifts nothing deeds ledger

-- they are, and stay so with the effect of a move that may be made next
pub record StaySound (deeds : List Deed) (now : Register) : Type 0 where
  pub sound : AreSoundDeeds deeds
  pub next : (move : TableMove) (d : Deed) → May Right move → BringsShort move → planned move now ≡ Some d → AreSoundDeeds (deeds ++ d ∷ [])

-- where a table of solved jobs goes on from effects of which none has too long a text, moves that bring no such text put effects behind them that are as sound
abbrev pub PutsStaySound : Type 0
PutsStaySound =
    (deeds : List Deed) (start : Register) (entries : List MoveEntry) (now : Register) → AllFit deeds → TableGoesOn deeds start → Rises start
    → LeadsStepwise Right start entries now → AllBringShort entries → StaySound (deeds ++ effects_of start entries) now
