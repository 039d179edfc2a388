-- The stop that looks tell.
use Rattle.std.proofs.Common.{ℕ, Bool, true, false, Some, ap, arith}
use Rattle.simplex_rules.specs.Looks.{AgreesWith, stop_after}

-- it agrees with them
pub agrees : (n : ℕ) (killed : Bool) → AgreesWith (stop_after n killed) 0 n killed
agrees n false = tt
agrees n true = ap Some (omega arith)
