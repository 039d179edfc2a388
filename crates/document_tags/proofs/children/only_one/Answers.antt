use Rattle.document_tags.proofs.OneChild.{none_only}
use Rattle.document_tags.proofs.children.only_one.Goals as goal

pub returns-else-spots-eq1 : goal.returns-else-spots-eq1
returns-else-spots-eq1 c = λ es are. none_only c.args.spots.now es c.if-spots-eq1.false are
