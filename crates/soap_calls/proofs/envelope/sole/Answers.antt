use Rattle.document_tags.specs.Rests.{child_elements}
use Rattle.document_tags.proofs.OneChild.{in_slice}
use Rattle.soap_calls.proofs.envelope.sole.Goals as goal

pub returns : goal.returns
returns c = λ e stands. c.only_one.ensures (child_elements e.children) (in_slice c.as_slice.result.now c.in_ok-inside.inside.items (child_elements e.children) c.as_slice.ensures.value (c.in_ok-inside.ensures e stands))
