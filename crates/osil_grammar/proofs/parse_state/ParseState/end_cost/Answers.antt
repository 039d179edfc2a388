use Rattle.osil_grammar.proofs.Words.{get_or, ap, subst, SumFits, ratio, ratios, State}
use Rattle.evidence.specs.Sums as evidence
use Rattle.osil_grammar.specs.declared.fault.Refusal.TheVariants as refused
use Rattle.osil_grammar.specs.declared.elements.Place.TheVariants as places
use Rattle.osil_grammar.proofs.EndTagTests.{end_refused, cost_great, cost_ends}
use Rattle.osil_grammar.proofs.parse_state.ParseState.end_cost.Goals as goal

pub returns-in-Ok : goal.returns-in-Ok
returns-in-Ok c = cost_ends _ c.args.self.now c.self.view_is c.args.cost c.add_to.new.costs.items c.requires.reads c.in-Ok.ensures

pub returns-in-Err : goal.returns-in-Err
returns-in-Err c = end_refused c.args.self.now places.Coef _ refused.Wide c.self.inside.count c.refused_latest.result c.refused_latest.ensures (ap (λ (s : State). s.count) c.self.view_is)
    (λ name. cost_great c.args.self.now name c.args.cost c.requires.reads (subst (λ (s : State). SumFits (get_or (ratios s.costs) s.variable evidence.none) (ratio c.args.cost) → ⊥) c.self.view_is c.in-Err.ensures))
