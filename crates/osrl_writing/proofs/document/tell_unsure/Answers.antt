use Rattle.osrl_writing.proofs.Names.{told_then, ends_told}
use Rattle.osrl_writing.proofs.document.tell_unsure.Goals as goal

pub returns : goal.returns
returns c =
    ends_told c.close.result _ _ _ _ _ (told_then _ _ _ _ _ (told_then _ _ _ _ _ (told_then _ _ _ _ _ c.in_ok-tell_status.ensures c.in_ok-open.ensures) c.in_ok-tell_cause.ensures) c.in_ok-tell_bound.ensures) c.close.ensures
