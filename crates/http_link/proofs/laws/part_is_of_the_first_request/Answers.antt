use Rattle.http_link.proofs.OneRequest.{part_of_request, part_of_refused}
use Rattle.http_link.proofs.laws.part_is_of_the_first_request.Goals as goal

pub returns-clause-request : goal.returns-clause-request
returns-clause-request c = part_of_request

pub returns-clause-refused : goal.returns-clause-refused
returns-clause-refused c = part_of_refused
