use Rattle.std.proofs.Common.{arith}
use Rattle.document_tags.specs.Elements.{own_text}
use Rattle.document_tags.specs.Rests.{child_elements}
use Rattle.document_tags.proofs.OneChild.{some_inside}
use Rattle.document_tags.proofs.content.plain_text.Goals as goal

pub returns-then-len-gt0 : goal.returns-then-len-gt0
returns-then-len-gt0 c = λ e stands. some_inside c.in_ok-inside.inside.items (child_elements e.children) (own_text e) (omega (arith, c.if-len-gt0.true, c.len.ensures)) (c.in_ok-inside.ensures e stands)
