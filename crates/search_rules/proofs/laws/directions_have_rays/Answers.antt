use Rattle.search_rules.proofs.Rays.{ray_of, one_ray}
use Rattle.search_rules.proofs.laws.directions_have_rays.Goals as goal

pub returns-clause-rays : goal.returns-clause-rays
returns-clause-rays c = λ I x d r good along stays scaled. ray_of I x d r good stays along scaled

pub returns-clause-one : goal.returns-clause-one
returns-clause-one c = λ I d r s along p q. one_ray I d along.numbers r s p q
