use Rattle.doc_tree.proofs.Words.{IsPlainValue, refl}
use Rattle.doc_tree.proofs.Walking.Pieces.{each_taken}
use Rattle.doc_tree.proofs.machine.walks.value_length.Goals as goal

pub loop-i-preserved : goal.loop-i-preserved
loop-i-preserved c = each_taken (IsPlainValue c.args.quote) c.args.bytes.now c.loop-i.i 0 c.loop-i-test.true c.loop-i.invariant (c.if-not-is_plain_value.ensures.0 refl)
