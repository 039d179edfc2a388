use Rattle.http_link.proofs.OneRequest.{begun_no_request, begun_not_refused}
use Rattle.http_link.proofs.laws.cut_input_holds_no_request.Goals as goal

pub returns-clause-request : goal.returns-clause-request
returns-clause-request c bytes a rest body close cut = begun_no_request bytes a rest body close cut.1

pub returns-clause-refused : goal.returns-clause-refused
returns-clause-refused c bytes a rest refusal cut = begun_not_refused bytes a rest refusal cut.1

pub returns-clause-ended : goal.returns-clause-ended
returns-clause-ended c bytes cut ended = cut.0 ended.empty
