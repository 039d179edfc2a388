-- A run of a job: which looks it makes, and which document comes of it; and who is told that a job waits.
use Rattle.std.specs.Prelude.{◌≡◌, ℕ, Bool, false, List, Option, IfSome}
use Rattle.simplex_rules.specs.Looks.{answers}
use Rattle.solve_run.specs.Runs.{AreSearchLooks, TellsText}

-- the looks are those of the search of the instance, of which the last may have stopped it, and the document tells what that
-- search found; for want of memory there may be none
abbrev pub MakesDocument : (osil osol : List ℕ) → List Bool → Option (List ℕ) → Type 0
MakesDocument osil osol looks document =
    (n : ℕ) × (killed : Bool) × (looks ≡ answers n killed) × AreSearchLooks osil osol n killed × IfSome document (TellsText osil osol n killed)

-- nobody is ever woken: whoever serves is alone
abbrev pub WakesNobody : Bool → Type 0
WakesNobody woken = woken ≡ false
