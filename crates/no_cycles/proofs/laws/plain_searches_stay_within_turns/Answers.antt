use Rattle.no_cycles.proofs.OneCaseSearches.{within_turns}
use Rattle.no_cycles.proofs.laws.plain_searches_stay_within_turns.Goals as goal

pub returns : goal.returns
returns c = λ I t o d good plain ranges feasible enough answer. within_turns I t plain ranges good feasible enough o d answer
