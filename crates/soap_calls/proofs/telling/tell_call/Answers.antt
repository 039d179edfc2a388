use Rattle.document_tags.proofs.Tellings.{told_then, ends_told}
use Rattle.soap_calls.proofs.telling.tell_call.Goals as goal

pub returns : goal.returns
returns c =
    ends_told c.close_frame.result _ _ _ _ _ (told_then _ _ _ _ _ (told_then _ _ _ _ _ (told_then _ _ _ _ _ c.in_ok-open_frame.ensures c.in_ok-open_ours.ensures) c.in_ok-tell_parts.ensures) c.in_ok-close.ensures) c.close_frame.ensures
