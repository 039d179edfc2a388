-- A run by `solve_run` is a run of a job.
use Rattle.std.proofs.Common.{◌≡◌, ℕ, zero, suc, Bool, true, false, List, Option, refl, sym, append-nil}
use Rattle.std.specs.Prelude.{IfSome}
use Rattle.os_io.specs.Looks.{stops_of}
use Rattle.simplex_rules.specs.Looks.{went_on, answers}
use Rattle.job_runs.specs.Runs.{AreLooks}
use Rattle.solve_run.specs.Runs.{Ran, TellsText}
use Rattle.job_solver.specs.Runs.{MakesDocument}

none_stopped : (n : ℕ) → stops_of (went_on n) ≡ 0
none_stopped zero = refl
none_stopped (suc n) = none_stopped n

-- the looks of a search are those of a run
are_looks : (n : ℕ) (killed : Bool) → AreLooks killed (answers n killed)
are_looks n false = record { before = went_on n; went_on = none_stopped n; are = sym (append-nil (went_on n)) }
are_looks n true = record { before = went_on n; went_on = none_stopped n; are = refl }

-- the document, if there is one, tells what was told
pub makes : (Came : List Bool → Type 0) (osil osol : List ℕ) (document : Option (List ℕ)) (Told : ℕ → Bool → Type 0) → Ran Came osil osol Told
    → ((n : ℕ) (killed : Bool) → Told n killed → IfSome document (TellsText osil osol n killed))
    → (asked : Bool) × (looks : List Bool) × AreLooks asked looks × Came looks × MakesDocument osil osol looks document
makes Came osil osol document Told r tells = (
  r.killed,
  answers r.went_on r.killed,
  are_looks r.went_on r.killed,
  r.came,
  (r.went_on, r.killed, refl, r.looks, tells r.went_on r.killed r.tells),
)
