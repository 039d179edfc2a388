use Rattle.std.proofs.Common.{None, Some}
use Rattle.document_tags.specs.OneChild.{only_child}
use Rattle.document_tags.proofs.OneChild.{at_found}
use Rattle.soap_calls.proofs.AnswerEnvelopes.{plain_none, plain_some}
use Rattle.soap_calls.proofs.answering.plain_child.Goals as goal

pub returns-in_default : goal.returns-in_default
returns-in_default c = λ e stands. plain_none (only_child e c.args.name.now) (at_found c.in_ok-child.field-0 None (only_child e c.args.name.now) c.in_default.is (c.in_ok-child.ensures e stands))

pub returns : goal.returns
returns c = λ e stands. plain_some (only_child e c.args.name.now) c.in-Some.child c.plain_text.result (at_found c.in_ok-child.field-0 (Some c.in-Some.child) (only_child e c.args.name.now) c.in-Some.is (c.in_ok-child.ensures e stands)) c.plain_text.ensures
