use Rattle.osrl_writing.proofs.Names.{told_then, ends_told}
use Rattle.osrl_writing.proofs.document.tell_optimization.Goals as goal

pub returns : goal.returns
returns c =
    rw c.in-Some.is (ends_told c.close-2.result _ _ _ _ _ (told_then _ _ _ _ _ (told_then _ _ _ _ _ (told_then _ _ _ _ _ c.in_ok-open.ensures c.in_ok-open-2.ensures) c.in_ok-tell_claim.ensures) c.in_ok-close.ensures) c.close-2.ensures)
