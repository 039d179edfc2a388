use Rattle.http_link.proofs.OneRequest.{begun_no_request, begun_not_refused, ended_begun}
use Rattle.http_link.proofs.laws.ended_input_holds_no_request.Goals as goal

pub returns-clause-request : goal.returns-clause-request
returns-clause-request c bytes a rest body close ended = begun_no_request bytes a rest body close (ended_begun bytes ended)

pub returns-clause-refused : goal.returns-clause-refused
returns-clause-refused c bytes a rest refusal ended = begun_not_refused bytes a rest refusal (ended_begun bytes ended)
