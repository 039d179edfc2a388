use Rattle.std.proofs.Common.{arith, length-drop}
use Rattle.std.proofs.lemmas.List.{take_rest}
use Rattle.os_io.proofs.Pieces.{wrote_first, so_far_more, rest_behind}
use Rattle.os_io.proofs.streams.write_all.Goals as goal

pub loop-done-preserved : goal.loop-done-preserved
loop-done-preserved g c =
    let within = simp (take_rest, length-drop) at c.in_ok-n.ensures.within in
    let w = c.write.ensures in
    record {
      within = omega (arith, within);
      so_far = so_far_more c.in_ok-n.n _ _ _ _ c.loop-done.invariant.so_far (rest_behind c.args.bytes.now c.loop-done.done c.in_ok-n.n) (wrote_first c.in_ok-n.n _ (simp take_rest at c.in_ok-n.ensures.added) c.in_ok-n.ensures.handed_on c.in_ok-n.ensures.counted c.in_ok-n.ensures.input);
    }
