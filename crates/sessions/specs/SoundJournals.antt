-- What a journal keeps of the moves of solved jobs is sound.
use Rattle.std.specs.Prelude.{◌++◌, List}
use Rattle.effects.specs.Records.{Deed, AllFit}
use Rattle.job_table.specs.Jobs.{Register, Rises}
use Rattle.job_table.specs.History.{LeadsStepwise}
use Rattle.solve_run.specs.JobAnswers.{Right}
use Rattle.desk.specs.declared.view.SeatEntry.{SeatEntry}
use Rattle.desk.specs.Stores.{made_moves, deeds_of}
use Rattle.job_solver.specs.Openings.{TableGoesOn}
use Rattle.job_solver.specs.StoredEffects.{AllBringShort, StaySound}

-- behind effects from which a table goes on, and of which none has too long a text, those of the moves that were made at its desk are sound, where no text that was sent is too long
abbrev pub JournalsStaySound : Type 0
JournalsStaySound =
    (deeds : List Deed) (first : Register) (log : List SeatEntry) (table : Register) → AllFit deeds → TableGoesOn deeds first → Rises first
    → LeadsStepwise Right first (made_moves log) table → AllBringShort (made_moves log) → StaySound (deeds ++ deeds_of first log) table
