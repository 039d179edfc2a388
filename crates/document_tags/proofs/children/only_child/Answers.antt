use Rattle.std.proofs.Common.{[]}
use Rattle.document_tags.specs.Elements.{children_named}
use Rattle.document_tags.proofs.OneChild.{in_slice, none_yet}
use Rattle.document_tags.proofs.children.only_child.Goals as goal

pub returns : goal.returns
returns c = λ e stands.
    c.only_one.ensures (children_named c.args.name.now e) (in_slice c.as_slice.result.now c.push_children.new.out.items (children_named c.args.name.now e) c.as_slice.ensures.value (c.in_ok-push_children.ensures e [] stands (none_yet c.new-found.result.items c.new-found.ensures.items)))
