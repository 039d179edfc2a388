use Rattle.osil_grammar.proofs.Words.{◌≡◌, ◌∙◌, List, ℕ, subst, sym, All, err_from_is_err_and, ratio, Frac, PlainText, HasDecimal, CountsCosts, WriteCosts, GoalHasDecimals}
use Rattle.osil_grammar.proofs.Tellings.{none_of}
use Rattle.osil_grammar.proofs.Parts.{objective_told}
use Rattle.osil_grammar.proofs.document.tell_objective.Goals as goal

pub returns-in_err-tell_costs : goal.returns-in_err-tell_costs
returns-in_err-tell_costs c =
    let g = c.args.goal.now in
    let costs : c.as_slice-costs.result.now ≡ g.costs = c.as_slice-costs.ensures in
    let p = err_from_is_err_and c.from_residual-in_err-tell_costs.result c.from_residual-in_err-tell_costs.ensures.1 in
    rw (p.1, p.2) (none_of (All HasDecimal c.as_slice-costs.result.now) (GoalHasDecimals g) c.in_err-tell_costs.field-0.0 (λ (all : GoalHasDecimals g). subst (λ (l : List Frac). All HasDecimal l) (sym costs) all.1) c.in_err-tell_costs.ensures)

pub returns : goal.returns
returns c =
    let g = c.args.goal.now in
    let costs : c.as_slice-costs.result.now ≡ g.costs = c.as_slice-costs.ensures in
    let told_costs = c.in_ok-tell_costs.ensures in
    let plain = subst (λ (t : List ℕ). PlainText t (ratio g.constant)) (sym c.as_slice.ensures) c.in_ok-constant.ensures.1 in
    let count = subst (λ (l : List Frac). CountsCosts l c.count_costs-count.result) costs c.count_costs-count.ensures in
    let told = objective_told g c.args.w.now c.begin.new.self c.attribute.new.self c.attribute-2.new.self c.attribute-3.new.self c.tell_costs.new.w c.end.new.self _ _ _ c.count_costs-count.result told_costs.1 c.sense_of.ensures plain (c.as_bytes.ensures.value ∙ c.format.ensures.text) count c.in_ok-begin.ensures c.in_ok-attribute.ensures c.in_ok-attribute-2.ensures c.in_ok-attribute-3.ensures (subst (λ (l : List Frac). WriteCosts 0 l told_costs.1) costs told_costs.2) told_costs.3 c.in_ok-end.ensures in
    ((c.in_ok-constant.ensures.0, subst (λ (l : List Frac). All HasDecimal l) costs told_costs.0), told.0, told.1, told.2)
