use Rattle.osil_grammar.proofs.Words.{List, ℕ, [], refl, sym, subst, codes, none, ratio, PlainText, holding_text}
use Rattle.osil_grammar.proofs.document.tell_value.Goals as goal

pub returns : goal.returns
returns c =
    let text : List ℕ = c.as_slice.result.now in
    let plain = subst (λ (t : List ℕ). PlainText t (ratio c.args.entry.now.value)) (sym c.as_slice.ensures) c.in_ok-text.ensures.1 in
    (c.in_ok-text.ensures.0, holding_text (codes "el") [] text none, (text, none, plain, refl, refl), c.in_ok-leaf.ensures)
