-- What a move's want of memory says of a table that nobody else knows.
use Rattle.std.proofs.Common.{Option, None, Some}
use Rattle.std.specs.Option.{IfNone}

-- where something holds, it holds of a reply that isn't there
pub if_none : {X : Type 0} (reply : Option X) (P : Type 0) → P → IfNone reply P
if_none None P holds = holds
if_none (Some reply) P holds = tt
