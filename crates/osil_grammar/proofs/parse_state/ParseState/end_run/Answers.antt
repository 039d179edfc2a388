use Rattle.osil_grammar.proofs.Words.{ap, subst, State, HasGreat}
use Rattle.osil_grammar.specs.declared.fault.Refusal.TheVariants as refused
use Rattle.osil_grammar.specs.declared.elements.Place.TheVariants as places
use Rattle.osil_grammar.specs.declared.elements.Listing.TheVariants as listings
use Rattle.osil_grammar.proofs.EndTagTests.{end_refused, run_great, run_ends, of_ok, of_err}
use Rattle.osil_grammar.proofs.parse_state.ParseState.end_run.Goals as goal

pub returns-in-Ok : goal.returns-in-Ok
returns-in-Ok c = run_ends _ c.args.self.now c.self.view_is c.args.first c.push_decimals.new.list.items c.requires.reads (of_ok _ _ _ _ c.in-Ok.is c.in_ok-pushed.ensures)

pub returns-in-Err : goal.returns-in-Err
returns-in-Err c = end_refused c.args.self.now (places.El listings.Values) _ refused.Wide c.self.inside.count c.refused_latest.result c.refused_latest.ensures (ap (λ (s : State). s.count) c.self.view_is)
    (λ name. run_great c.args.self.now name c.args.first c.requires.reads (subst (λ (s : State). HasGreat c.args.first s.step s.times) c.self.view_is (of_err _ _ _ _ c.in-Err.is c.in_ok-pushed.ensures)))
