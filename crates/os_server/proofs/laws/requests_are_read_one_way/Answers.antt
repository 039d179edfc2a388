use Rattle.os_server.proofs.laws.requests_are_read_one_way.Goals as goal

pub returns : goal.returns
returns c = record {
  heads = c.one_head_comes_first.ensures.bytes;
  outcomes = c.one_head_comes_first.ensures.outcome;
  requests = c.one_request_comes_first.ensures.bytes;
  bodies = c.one_request_comes_first.ensures.body;
  closes = c.one_request_comes_first.ensures.close;
  apart = c.one_request_comes_first.ensures.refused;
  cut_whole = c.cut_input_holds_no_request.ensures.request;
  cut_refused = c.cut_input_holds_no_request.ensures.refused;
  cut_ended = c.cut_input_holds_no_request.ensures.ended;
  ended_whole = c.ended_input_holds_no_request.ensures.request;
  ended_refused = c.ended_input_holds_no_request.ensures.refused;
}
