use Rattle.element_tree.specs.Items.{event_at, attributes_of}
use Rattle.os_io.proofs.Pieces.{so_far_nothing, so_far_more, so_far_fails}
use Rattle.tree_writing.proofs.Texts.{attribute_rest}
use Rattle.tree_writing.proofs.writing.put_attributes.Goals as goal

pub loop-k-init : goal.loop-k-init
loop-k-init g c = so_far_nothing _ _

pub returns-in_err-put_attribute : goal.returns-in_err-put_attribute
returns-in_err-put_attribute g c =
    so_far_fails _ c.from_residual.result c.from_residual.ensures.1 c.in_err-put_attribute.field-0.0 _ _ _ _ c.loop-k.invariant
    (attribute_rest (attributes_of (event_at c.args.tree.now c.args.i)) c.loop-k.k (record { name = c.attribute.result.0.now; value = c.attribute.result.1.now }) c.attribute.ensures) c.in_err-put_attribute.ensures

pub loop-k-preserved : goal.loop-k-preserved
loop-k-preserved g c =
    so_far_more c.in_ok-put_attribute.field-0 _ _ _ _ c.loop-k.invariant
    (attribute_rest (attributes_of (event_at c.args.tree.now c.args.i)) c.loop-k.k (record { name = c.attribute.result.0.now; value = c.attribute.result.1.now }) c.attribute.ensures) c.in_ok-put_attribute.ensures
