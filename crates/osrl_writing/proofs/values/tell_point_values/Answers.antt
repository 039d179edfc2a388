use Rattle.osrl_writing.proofs.Names.{told_then, ends_told}
use Rattle.osrl_writing.proofs.values.tell_point_values.Goals as goal

pub returns : goal.returns
returns c =
    ends_told c.close-4.result _ _ _ _ _ (told_then _ _ _ _ _ (told_then _ _ _ _ _ (told_then _ _ _ _ _ (told_then _ _ _ _ _ (told_then _ _ _ _ _ (told_then _ _ _ _ _ (told_then _ _ _ _ _ (told_then _ _ _ _ _ c.in_ok-open.ensures c.in_ok-open-2.ensures) c.in_ok-tell_variables.ensures) c.in_ok-close.ensures) c.in_ok-close-2.ensures) c.in_ok-open-3.ensures) c.in_ok-open-4.ensures) c.in_ok-tell_goals.ensures) c.in_ok-close-3.ensures) c.close-4.ensures
