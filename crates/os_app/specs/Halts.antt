-- A job that a file ends.
use Rattle.std.specs.Prelude.{Bool, true, false, Option, None, Some, List, ℕ}
use Rattle.os_io.specs.Files.{Held, MayBeThere}
use Rattle.solve_run.specs.declared.document.Document.{Document}
use Rattle.solve_run.specs.Runs.{RightBeside}

-- a job was asked to stop only where a file is named that ends it, and there may be one of that name
abbrev pub MayHalt : (halt : Option Held) → (asked : Bool) → Type 0
MayHalt halt false = Unit {0}
MayHalt None true = ⊥
MayHalt (Some held) true = MayBeThere held

-- the document answers these texts, with this result beside the options, if any, of a job that such a file ended, or that nobody stopped
abbrev pub IsRightHalted : (beside : Option (List ℕ)) → (halt : Option Held) → (osil osol : List ℕ) → Document → Type 0
IsRightHalted beside halt osil osol doc = (asked : Bool) × MayHalt halt asked × RightBeside beside osil osol asked doc
