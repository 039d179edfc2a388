use Rattle.osrl_writing.proofs.Names.{told_then, ends_told}
use Rattle.osrl_writing.proofs.document.tell_report.Goals as goal

pub returns : goal.returns
returns c =
    ends_told c.close-2.result _ _ _ _ _ (told_then _ _ _ _ _ (told_then _ _ _ _ _ (told_then _ _ _ _ _ (told_then _ _ _ _ _ (told_then _ _ _ _ _ c.in_ok-open_with.ensures c.in_ok-open.ensures) c.in_ok-tell_general.ensures) c.in_ok-close.ensures) c.in_ok-tell_job.ensures) c.in_ok-tell_optimization.ensures) c.close-2.ensures
