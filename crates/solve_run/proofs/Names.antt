-- The job's name of options may be told in a report.
use Rattle.std.proofs.Common.{ℕ, Option, None, Some, List}
use Rattle.osol_grammar.specs.Back.{IsNameOrNone}
use Rattle.osrl_grammar.specs.Back.{IsBareOrNone}
use Rattle.solve_run.proofs.Lengths.{IsShortName}

pub short_name : (job : Option (List ℕ)) → IsNameOrNone job → IsShortName job
short_name None is = tt
short_name (Some name) is = is.short

pub bare_name : (job : Option (List ℕ)) → IsNameOrNone job → IsBareOrNone job
bare_name None is = tt
bare_name (Some name) is = record { some = is.some; bare = is.bare; characters = is.characters }
