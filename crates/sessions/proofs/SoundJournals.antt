-- The effects of the moves that were made at a desk are those of these moves.
use Rattle.std.proofs.Common.{◌≡◌, ◌∙◌, Bool, true, false, if◌then◌else◌, List, [], ◌∷◌, ◌++◌, Option, Some, None, refl, ap, sym, subst}
use Rattle.effects.specs.Records.{Deed}
use Rattle.job_table.specs.Jobs.{Register}
use Rattle.job_table.specs.Steps.{row_of_move}
use Rattle.job_table.specs.Plans.{planned}
use Rattle.job_table.specs.History.{entry_of_move}
use Rattle.desk.specs.declared.view.SeatEntry.{SeatEntry}
use Rattle.desk.specs.Stores.{was_made, made_moves, after_entry, listed, deeds_of}
use Rattle.job_solver.specs.StoredEffects.{with_effect, effects_of, PutsStaySound, StaySound}
use Rattle.sessions.specs.SoundJournals.{JournalsStaySound}

listed_first : (o : Option Deed) (more : List Deed) → listed o ++ more ≡ with_effect o more
listed_first None more = refl
listed_first (Some d) more = refl

same_effects : (r : Register) (log : List SeatEntry) → deeds_of r log ≡ effects_of r (made_moves log)
same_effects r [] = refl
same_effects r (e ∷ es) = by (was_made e.reply) (same_effects (after_entry r e) es)
  where
    next : Register
    next = (row_of_move e.table_move r).after

    by : (b : Bool) → deeds_of (if b then next else r) es ≡ effects_of (if b then next else r) (made_moves es)
        → (if b then listed (planned e.table_move r) else []) ++ deeds_of (if b then next else r) es
        ≡ effects_of r (if b then entry_of_move e.table_move e.reply ∷ made_moves es else made_moves es)
    by true more = listed_first (planned e.table_move r) (deeds_of next es) ∙ ap (with_effect (planned e.table_move r)) more
    by false more = more

pub journals_sound : PutsStaySound → JournalsStaySound
journals_sound sound deeds first log table fit on rises leads texts =
    subst (λ (puts : List Deed). StaySound (deeds ++ puts) table) (sym (same_effects first log)) (sound deeds first (made_moves log) table fit on rises leads texts)
