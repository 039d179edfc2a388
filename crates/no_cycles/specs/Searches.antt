-- Which outcomes of a search are of the limit of turns.
use Rattle.std.specs.Prelude.{Bool, true, false}
use Rattle.certificate.specs.declared.causes.Cause.{Cause}
use Rattle.certificate.specs.declared.causes.Cause.TheVariants.{Killed, NodeLimit, TurnLimit, Gap, TimeLimit, Wide, Length, Memory}
use Rattle.search_rules.specs.Search.{Outcome, Optimal, Infeasible, Unbounded, BestSoFar, Unsure}

-- as many turns were done as the limit
abbrev pub is_turn_limit : Cause → Bool
is_turn_limit Killed = false
is_turn_limit (NodeLimit n) = false
is_turn_limit (TurnLimit n) = true
is_turn_limit Gap = false
is_turn_limit (TimeLimit x) = false
is_turn_limit (Wide place) = false
is_turn_limit Length = false
is_turn_limit Memory = false

-- the search was given up for such a cause
abbrev pub is_for : (Cause → Bool) → Outcome → Bool
is_for such (Optimal x vs cs) = false
is_for such (Infeasible cert) = false
is_for such (Unbounded x vs cs r) = false
is_for such (BestSoFar x vs c) = such c
is_for such (Unsure c) = such c

-- and for that one
abbrev pub is_out_of_turns : Outcome → Bool
is_out_of_turns o = is_for is_turn_limit o
