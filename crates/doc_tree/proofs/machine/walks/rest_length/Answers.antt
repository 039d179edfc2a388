use Rattle.doc_tree.proofs.Words.{IsNameChar, refl}
use Rattle.doc_tree.proofs.Walking.Pieces.{each_taken}
use Rattle.doc_tree.proofs.machine.walks.rest_length.Goals as goal

pub loop-i-preserved : goal.loop-i-preserved
loop-i-preserved c = each_taken IsNameChar c.args.bytes.now c.loop-i.i 0 c.loop-i-test.true c.loop-i.invariant (c.if-not-is_name_char.ensures.0 refl)
