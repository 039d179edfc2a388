use Rattle.http_link.proofs.OneRequest.{request_once, request_not_refused}
use Rattle.http_link.proofs.laws.one_request_comes_first.Goals as goal

pub returns-clause-bytes : goal.returns-clause-bytes
returns-clause-bytes c a b x y body other close shut p q e = (request_once a b x y body other close shut p q e).0

pub returns-clause-body : goal.returns-clause-body
returns-clause-body c a b x y body other close shut p q e = (request_once a b x y body other close shut p q e).1

pub returns-clause-close : goal.returns-clause-close
returns-clause-close c a b x y body other close shut p q e = (request_once a b x y body other close shut p q e).2

pub returns-clause-refused : goal.returns-clause-refused
returns-clause-refused c = request_not_refused
