use Rattle.std.proofs.Common.{arith, ◌∙◌}
use Rattle.std.proofs.lemmas.List.{length_push}
use Rattle.dictionary.proofs.RowForms.{rows_push}
use Rattle.dictionary.proofs.dict.make_rows.Goals as goal

pub loop-r-preserved : goal.loop-r-preserved
loop-r-preserved g c =
    rw c.in_ok-push.ensures.items
    (record {
      count = length_push c.loop-r.rows.items c.in_ok-with_room.field-0 ∙ omega arith;
      rows = rows_push c.args.columns c.args.width c.loop-r.rows.items c.in_ok-with_room.field-0 c.in_ok-with_room.ensures.row c.loop-r.invariant.rows;
    })
