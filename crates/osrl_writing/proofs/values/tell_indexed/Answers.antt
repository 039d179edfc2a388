use Rattle.std.proofs.Common.{◌∙◌}
use Rattle.osrl_writing.proofs.NamedTexts.{indexed_told}
use Rattle.osrl_writing.proofs.values.tell_indexed.Goals as goal

pub returns : goal.returns
returns c = indexed_told c.leaf_after.result _ _ _ _ c.args.element.now c.args.index.now _ c.args.value _ c.requires (c.as_slice.ensures ∙ c.in_ok-text.ensures) c.in_ok-attribute.ensures c.in_ok-tell_name_at.ensures c.leaf_after.ensures
