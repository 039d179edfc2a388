use Rattle.std.proofs.Common.{◌∙◌, sym}
use Rattle.document_tags.proofs.Spots.{value_found, value_passed}
use Rattle.tag_tests.proofs.attributes.value.Goals as goal

pub returns-then-eq : goal.returns-then-eq
returns-then-eq c = value_found c.args.name.now c.args.attributes.now c.loop-k.k _ c.pair.ensures (sym c.eq.ensures ∙ c.if-eq.true) c.loop-k.invariant

pub loop-k-preserved : goal.loop-k-preserved
loop-k-preserved c = value_passed c.args.name.now c.args.attributes.now c.loop-k.k _ c.pair.ensures (sym c.eq.ensures ∙ c.if-eq.false) c.loop-k.invariant
