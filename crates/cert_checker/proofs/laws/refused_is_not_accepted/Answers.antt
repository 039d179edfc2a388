use Rattle.cert_checker.proofs.Refusals.{not_accepted}
use Rattle.cert_checker.proofs.laws.refused_is_not_accepted.Goals as goal

pub returns : goal.returns
returns c = not_accepted
