use Rattle.osil_grammar.proofs.Words.{refl, arith, length, codes, decimal, none, Var, counted_element, WriteVars, EndsHaveTexts}
use Rattle.osil_grammar.proofs.Tellings.{wrote_around, one_told, all_told}
use Rattle.osil_grammar.proofs.NodeJoins.{vars_join}
use Rattle.document_tags.specs.Writing.{only}
use Rattle.osil_grammar.proofs.document.tell_vars.Goals as goal

pub loop-var-preserved : goal.loop-var-preserved
loop-var-preserved c =
    let one = c.in_ok-tell_var.ensures in
    one_told (λ (v : Var). EndsHaveTexts v.lb v.ub) (λ i. WriteVars) vars_join _ c.loop-var.w c.tell_var.new.w c.args.vars.now c.loop-var.var-index c.var-item.result (omega arith) c.var-item.is c.loop-var.invariant one.0 one.1 one.2 one.3

pub returns : goal.returns
returns c =
    let all = all_told (λ (v : Var). EndsHaveTexts v.lb v.ub) (λ i. WriteVars) _ _ c.args.vars.now c.loop-var.var-index (omega arith) refl c.loop-var.invariant in
    (all.0, counted_element (codes "variables") (codes "numberOfVariables") (length c.args.vars.now) all.1 none, (all.1, all.2, refl), wrote_around c.args.w.now c.open_counted.new.w c.loop-var.w c.end.new.self (codes "variables") (only (codes "numberOfVariables") (decimal (length c.args.vars.now))) all.1 c.in_ok-open_counted.ensures all.3 c.in_ok-end.ensures)
