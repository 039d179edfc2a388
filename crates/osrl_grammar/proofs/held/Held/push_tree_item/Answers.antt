use Rattle.osrl_grammar.proofs.Names.{IsTreeItem}
use Rattle.osrl_writing.specs.declared.parts.Part.TheVariants.{Tree}
use Rattle.osrl_grammar.proofs.ItemTests.{item_made, item_unmade, in_order}
use Rattle.osrl_grammar.proofs.held.Held.push_tree_item.Goals as goal

pub returns-in_ok-push_item-in-Ok-clause-read : goal.returns-in_ok-push_item-in-Ok-clause-read
returns-in_ok-push_item-in-Ok-clause-read c =
    item_made Tree c.args.text.now c.args.self.now _ c.in-Ok.item (IsTreeItem c.args.text.now) (in_order c.args.self.now c.len-2.result c.args.text.now c.is_level_but.result c.len-2.ensures c.is_level_but.ensures c.if-is_level_but.false)
    (λ h. (c.in-Ok.item, h, c.in_ok-push_item-in-Ok.ensures.added)) (rw c.in-Ok.is at c.in_ok-item.ensures)

pub returns-in-Err-clause-read : goal.returns-in-Err-clause-read
returns-in-Err-clause-read c =
    item_unmade Tree c.args.text.now c.args.self.now c.in-Err.misread (IsTreeItem c.args.text.now) (in_order c.args.self.now c.len-2.result c.args.text.now c.is_level_but.result c.len-2.ensures c.is_level_but.ensures c.if-is_level_but.false)
    (rw c.in-Err.is at c.in_ok-item.ensures)
