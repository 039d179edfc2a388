use Rattle.std.proofs.Common.{None, Some}
use Rattle.document_tags.proofs.OneChild.{at_found}
use Rattle.soap_calls.specs.Envelope.{held}
use Rattle.soap_calls.proofs.AnswerEnvelopes.{held_answers, none_answers}
use Rattle.soap_calls.proofs.answering.read_answer.Goals as goal

pub returns-in_default : goal.returns-in_default
returns-in_default c = λ e stands a. none_answers c.args.name.now (held e) a (at_found c.in_ok-spot.field-0 None (held e) c.in_default.is (c.in_ok-spot.ensures e stands))

pub returns : goal.returns
returns c = λ e stands. held_answers c.args.name.now (held e) c.in-Some.spot c.read_element.result (at_found c.in_ok-spot.field-0 (Some c.in-Some.spot) (held e) c.in-Some.is (c.in_ok-spot.ensures e stands)) c.read_element.ensures
