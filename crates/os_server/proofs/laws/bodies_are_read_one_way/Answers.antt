use Rattle.os_server.proofs.laws.bodies_are_read_one_way.Goals as goal

pub returns : goal.returns
returns c = record {
  call = c.bytes_say_one_call.ensures;
  options_read = c.document_says_one.ensures.text;
  options_refusals = c.document_has_one_refusal.ensures.text;
  options_apart = c.options_are_not_refused.ensures.text;
  process_refusals = c.document_has_one_refusal-2.ensures.text;
  process_apart = c.process_is_not_refused.ensures.text;
  refusals = c.bytes_have_one_refusal.ensures;
  tree_texts = c.tree_faults_have_one_text.ensures;
  apart = c.calls_are_not_refused.ensures;
}
