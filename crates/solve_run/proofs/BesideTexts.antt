-- A text beside the options is handed in.
use Rattle.std.proofs.Common.{Some, List, ℕ, refl}
use Rattle.instance.specs.Parts.{Parts}
use Rattle.handed_results.specs.declared.handed.Handed.TheVariants.{Once}
use Rattle.solve_run.specs.declared.handing.Handing.{Handing}
use Rattle.solve_run.specs.declared.handing.Handing.TheVariants.{Taken, Passed}
use Rattle.solve_run.specs.Runs.{IsTextHanding, IsHandingOf}

pub beside_handing : (text osol : List ℕ) (p : Parts) (h : Handing) → IsTextHanding p text h → IsHandingOf (Some text) osol p h
beside_handing text osol p (Taken c) shown = record { handed = Once text; hands = refl; taken = record { text = text; one = refl; shown = shown } }
beside_handing text osol p (Passed note) notes = record { handed = Once text; hands = refl; notes = notes }
