use Rattle.simplex_rules.proofs.OneEnd.{comes_once}
use Rattle.simplex_rules.proofs.laws.moments_have_one_next.Goals as goal

pub returns : goal.returns
returns c = λ I zeroed t d m a b good room k x y. comes_once I zeroed t d m a b good room k x y
