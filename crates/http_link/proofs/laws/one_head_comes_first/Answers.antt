use Rattle.http_link.proofs.OneRequest.{head_once}
use Rattle.http_link.proofs.laws.one_head_comes_first.Goals as goal

pub returns-clause-bytes : goal.returns-clause-bytes
returns-clause-bytes c a b x y o p q r e = (head_once a b x y o p q r e).0

pub returns-clause-outcome : goal.returns-clause-outcome
returns-clause-outcome c a b x y o p q r e = (head_once a b x y o p q r e).1
