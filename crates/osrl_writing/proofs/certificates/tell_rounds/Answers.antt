use Rattle.osrl_writing.proofs.Names.{◌==◌, ◌∙◌, List, length, ap, sym, false≢true, ends_told, ok_told_as, told_then}
use Rattle.certificate.specs.declared.nodes.Round.{Round}
use Rattle.osrl_writing.proofs.ItemLists.{rounds_shown}
use Rattle.osrl_writing.proofs.certificates.tell_rounds.Goals as goal

pub returns : goal.returns
returns c =
    ok_told_as c.close.result _ _ _ _
    (rounds_shown c.args.rounds.now (λ none. false≢true (sym c.if-is_empty.false ∙ c.is_empty.ensures ∙ ap (λ (rs : List Round). length rs == 0) none)))
    (ends_told c.close.result _ _ _ _ _ (told_then _ _ _ _ _ c.in_ok-open_part.ensures c.in_ok-tell_round_items.ensures) c.close.ensures)
