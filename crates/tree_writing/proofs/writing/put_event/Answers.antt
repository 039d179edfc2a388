use Rattle.std.proofs.Common.{[], ◌∷◌, append-nil}
use Rattle.tree_grammar.specs.WrittenText.{tag_end, written_attributes}
use Rattle.element_tree.specs.Items.{event_at, attributes_of}
use Rattle.os_io.proofs.Pieces.{writes_same, writes_then, writes_part}
use Rattle.tree_writing.proofs.Texts.{tag_text}
use Rattle.tree_writing.proofs.writing.put_event.Goals as goal

pub returns-in_err-put_tag-in-Open-clause-writes : goal.returns-in_err-put_tag-in-Open-clause-writes
returns-in_err-put_tag-in-Open-clause-writes g c =
    writes_same _ _ _ (tag_text c.args.is_open (event_at c.args.tree.now c.args.i) c.in-Open.name.now c.in-Open.ensures)
    (writes_part _ c.from_residual.result c.from_residual.ensures.1 c.in_err-put_tag-in-Open.field-0.0 (tag_end c.args.is_open (60 ∷ c.in-Open.name.now)) (written_attributes (attributes_of (event_at c.args.tree.now c.args.i)) []) c.in_err-put_tag-in-Open.ensures)

pub returns-in_err-put_attributes-in-Open-clause-writes : goal.returns-in_err-put_attributes-in-Open-clause-writes
returns-in_err-put_attributes-in-Open-clause-writes g c =
    writes_same _ _ _ (tag_text c.args.is_open (event_at c.args.tree.now c.args.i) c.in-Open.name.now c.in-Open.ensures)
    (writes_then c.in_ok-put_tag-in-Open.field-0 _ (tag_end c.args.is_open (60 ∷ c.in-Open.name.now)) (written_attributes (attributes_of (event_at c.args.tree.now c.args.i)) []) c.in_ok-put_tag-in-Open.ensures
    (writes_same _ _ _ (append-nil (written_attributes (attributes_of (event_at c.args.tree.now c.args.i)) [])) (writes_part _ c.from_residual-in_err-put_attributes-in-Open.result c.from_residual-in_err-put_attributes-in-Open.ensures.1 c.in_err-put_attributes-in-Open.field-0.0 (written_attributes (attributes_of (event_at c.args.tree.now c.args.i)) []) [] c.in_err-put_attributes-in-Open.ensures)))
