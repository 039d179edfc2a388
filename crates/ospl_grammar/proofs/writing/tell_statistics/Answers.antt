use Rattle.document_tags.proofs.Tellings.{told_then, ends_told}
use Rattle.ospl_grammar.proofs.writing.tell_statistics.Goals as goal

pub returns : goal.returns
returns c =
    ends_told c.close-3.result _ _ _ _ _ (told_then _ _ _ _ _ (told_then _ _ _ _ _ (told_then _ _ _ _ _ (told_then _ _ _ _ _ (told_then _ _ _ _ _ (told_then _ _ _ _ _ (told_then _ _ _ _ _ (told_then _ _ _ _ _ c.in_ok-open.ensures c.in_ok-open-2.ensures) c.in_ok-tell_busy.ensures) c.in_ok-tell_current.ensures) c.in_ok-tell_number.ensures) c.in_ok-open-3.ensures) c.in_ok-tell_jobs.ensures) c.in_ok-close.ensures) c.in_ok-close-2.ensures) c.close-3.ensures
