use Rattle.osrl_writing.proofs.Names.{told_then, ends_told}
use Rattle.osrl_writing.proofs.certificates.tell_numbers.Goals as goal

pub returns : goal.returns
returns c =
    ends_told c.close.result _ _ _ _ _ (told_then _ _ _ _ _ c.in_ok-open_part.ensures c.in_ok-tell_fractions.ensures) c.close.ensures
