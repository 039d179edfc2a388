use Rattle.std.proofs.Common.{None, Some}
use Rattle.document_tags.specs.OneChild.{only_element}
use Rattle.document_tags.proofs.OneChild.{at_found}
use Rattle.document_tags.proofs.OneAnswer.{only_some, only_none}
use Rattle.soap_calls.specs.Replies.{IsReturnedText}
use Rattle.soap_calls.proofs.AnswerEnvelopes.{no_sole, bad_value, returns_value}
use Rattle.soap_calls.proofs.answering.read_return.Goals as goal

pub returns-in_default : goal.returns-in_default
returns-in_default c = λ e stands named. no_sole c.args.name.now e named (at_found c.in_ok-value.field-0 None (only_element e) c.in_default.is (c.in_ok-value.ensures e stands))

pub returns-in-Some-2 : goal.returns-in-Some-2
returns-in-Some-2 c = λ e stands named.
    returns_value c.args.name.now e c.in-Some.value c.in-Some-2.text named (at_found c.in_ok-value.field-0 (Some c.in-Some.value) (only_element e) c.in-Some.is (c.in_ok-value.ensures e stands))
    (λ v at. only_some (IsReturnedText c.args.name.now v) _ c.in-Some-2.text c.in-Some-2.is (c.in_ok-text.ensures v at))

pub returns-in-None : goal.returns-in-None
returns-in-None c = λ e stands named.
    bad_value c.args.name.now e c.in-Some.value named (at_found c.in_ok-value.field-0 (Some c.in-Some.value) (only_element e) c.in-Some.is (c.in_ok-value.ensures e stands))
    (λ v at. only_none (IsReturnedText c.args.name.now v) _ c.in-None.is (c.in_ok-text.ensures v at))
