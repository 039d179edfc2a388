use Rattle.http_link.proofs.OneRequest.{begun_no_request, begun_not_refused}
use Rattle.http_link.proofs.laws.begun_request_is_not_whole.Goals as goal

pub returns-clause-request : goal.returns-clause-request
returns-clause-request c = begun_no_request

pub returns-clause-refused : goal.returns-clause-refused
returns-clause-refused c = begun_not_refused
