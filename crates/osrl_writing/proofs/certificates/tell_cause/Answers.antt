use Rattle.osrl_writing.proofs.Names.{◌∙◌, told_then, ends_told}
use Rattle.osrl_writing.proofs.certificates.tell_cause.Goals as goal

pub returns : goal.returns
returns c =
    ends_told c.close.result _ _ _ _ _ (told_then _ _ _ _ _ c.in_ok-open_part.ensures (rw (c.as_slice.ensures ∙ c.in_ok-text.ensures) at c.in_ok-leaf.ensures)) c.close.ensures
