use Rattle.document_tags.proofs.Tellings.{told_then, ends_told, ok_told_as}
use Rattle.soap_calls.proofs.Frames.{parts_told}
use Rattle.soap_calls.proofs.telling.tell_parts.Goals as goal

pub returns : goal.returns
returns c =
    ok_told_as c.tell_part-3.result _ _ _ _ (parts_told c.args.call.now)
    (ends_told c.tell_part-3.result _ _ _ _ _ (told_then _ _ _ _ _ c.in_ok-tell_part.ensures c.in_ok-tell_part-2.ensures) c.tell_part-3.ensures)
