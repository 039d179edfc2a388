use Rattle.osil_grammar.proofs.Words.{refl, arith, err_from_is_err_and, HasDecimal, WriteCosts}
use Rattle.osil_grammar.proofs.Tellings.{none_at, one_told, all_told}
use Rattle.osil_grammar.proofs.NodeJoins.{costs_join}
use Rattle.osil_grammar.proofs.document.tell_costs.Goals as goal

pub returns-in_err-tell_cost : goal.returns-in_err-tell_cost
returns-in_err-tell_cost c =
    let p = err_from_is_err_and c.from_residual.result c.from_residual.ensures.1 in
    rw (p.1, p.2) (none_at HasDecimal c.args.costs.now c.loop-j.j c.index-costs-j.result c.in_err-tell_cost.field-0.0 (omega arith) c.index-costs-j.is c.in_err-tell_cost.ensures)

pub loop-j-preserved : goal.loop-j-preserved
loop-j-preserved c =
    let one = c.in_ok-tell_cost.ensures in
    one_told HasDecimal WriteCosts costs_join _ c.loop-j.w c.tell_cost.new.w c.args.costs.now c.loop-j.j c.index-costs-j.result (omega arith) c.index-costs-j.is c.loop-j.invariant one.0 one.1 one.2 one.3

pub returns : goal.returns
returns c = all_told HasDecimal WriteCosts _ _ c.args.costs.now c.loop-j.j (omega arith) refl c.loop-j.invariant
