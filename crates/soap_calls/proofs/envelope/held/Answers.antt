use Rattle.std.proofs.Common.{None, Some}
use Rattle.std.specs.Prelude.{codes}
use Rattle.document_tags.specs.OneChild.{only_child}
use Rattle.document_tags.proofs.OneChild.{at_found}
use Rattle.soap_calls.proofs.Envelopes.{no_envelope, in_envelope, no_body, in_body}
use Rattle.soap_calls.proofs.envelope.held.Goals as goal

pub returns-then-not-is_envelope : goal.returns-then-not-is_envelope
returns-then-not-is_envelope c = λ e stands. no_envelope e c.is_envelope.result (c.is_envelope.ensures e stands) c.if-not-is_envelope.true

pub returns-in_default : goal.returns-in_default
returns-in_default c = λ e stands. no_body e c.is_envelope.result (c.is_envelope.ensures e stands) c.if-not-is_envelope.false (at_found c.in_ok-body.field-0 None (only_child e (codes "Body")) c.in_default.is (c.in_ok-body.ensures e stands))

pub returns : goal.returns
returns c = λ e stands.
    in_envelope e c.is_envelope.result c.sole.result (c.is_envelope.ensures e stands) c.if-not-is_envelope.false
    (in_body (only_child e (codes "Body")) c.in-Some.body c.sole.result (at_found c.in_ok-body.field-0 (Some c.in-Some.body) (only_child e (codes "Body")) c.in-Some.is (c.in_ok-body.ensures e stands)) c.sole.ensures)
