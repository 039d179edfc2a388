use Rattle.osil_grammar.proofs.Words.{◌∙◌, List, ℕ, [], subst, decimal, on_ok_weaker, with_attribute}
use Rattle.tree_writing.specs.Awaiting.{AddsAttributes}
use Rattle.osil_grammar.proofs.Tellings.{begun_with}
use Rattle.osil_grammar.proofs.document.open_counted.Goals as goal

pub returns : goal.returns
returns c =
    let key : List ℕ = c.args.key.now in
    on_ok_weaker c.attribute.result (λ adds. begun_with c.args.w.now c.begin.new.self c.attribute.new.self c.args.name.now (with_attribute key (decimal c.args.n) []) c.in_ok-begin.ensures
    (subst (λ (t : List ℕ). AddsAttributes c.begin.new.self c.attribute.new.self (with_attribute key t [])) (c.as_bytes.ensures.value ∙ c.format.ensures.text) adds)) c.attribute.ensures
