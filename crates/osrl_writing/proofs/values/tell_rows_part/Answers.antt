use Rattle.osrl_writing.proofs.Names.{told_then, ends_told, ok_told_as}
use Rattle.osrl_writing.proofs.ItemLists.{rows_shown}
use Rattle.osrl_writing.proofs.values.tell_rows_part.Goals as goal

pub returns : goal.returns
returns c =
    ok_told_as c.close-2.result _ _ _ _ (rows_shown c.args.names.now c.args.width c.args.mults.now (λ absent. let no = (c.has_row.ensures c.args.names.now).1 absent in let yes = c.if-not-has_row.false in cc)) (ends_told c.close-2.result _ _ _ _ _ (told_then _ _ _ _ _ (told_then _ _ _ _ _ (told_then _ _ _ _ _ c.in_ok-open.ensures c.in_ok-open-2.ensures) c.in_ok-tell_row_values.ensures) c.in_ok-close.ensures) c.close-2.ensures)
