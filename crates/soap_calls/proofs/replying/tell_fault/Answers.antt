use Rattle.document_tags.proofs.Tellings.{told_then, ends_told}
use Rattle.soap_calls.proofs.replying.tell_fault.Goals as goal

pub returns : goal.returns
returns c =
    ends_told c.close_frame.result _ _ _ _ _ (told_then _ _ _ _ _ (told_then _ _ _ _ _ (told_then _ _ _ _ _ (told_then _ _ _ _ _ c.in_ok-open_frame.ensures c.in_ok-open.ensures) c.in_ok-leaf.ensures) c.in_ok-leaf-2.ensures) c.in_ok-close.ensures) c.close_frame.ensures
