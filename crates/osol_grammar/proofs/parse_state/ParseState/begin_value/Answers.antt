use Rattle.std.proofs.Common.{ℕ, IsTrue, false, ◌∙◌, ap, subst}
use Rattle.osol_grammar.specs.declared.options.Options.{Options}
use Rattle.osol_grammar.specs.declared.place.Place.TheVariants.{Var}
use Rattle.osol_grammar.specs.declared.parse_state.ParseState.{ParseState as State}
use Rattle.osol_grammar.specs.FirstValues.{SaysIndex, SaysValue, HasFirst}
use Rattle.osol_grammar.specs.Table.{into}
use Rattle.osol_grammar.proofs.SaidValues.{index_once}
use Rattle.osol_grammar.proofs.parse_state.ParseState.begin_value.Goals as goal

pub returns : goal.returns
returns c =
    let n = c.in-Some.index in
    let x = c.in-Some-value_of.value in
    let s = c.args.self.now in
    let as' = c.args.attributes.now in
    let is : SaysIndex as' n = c.in-Some.ensures in
    let says : SaysValue as' x = c.in-Some-value_of.ensures in
    let twice = λ (bad : (m : ℕ) × SaysIndex as' m × HasFirst s.options.first m). (let no : IsTrue false = c.if-has_first.ensures.1 (subst (λ (m : ℕ). HasFirst s.options.first m) (index_once as' bad.0 n bad.1 is) bad.2) in let never : ⊥ = cc in never) in
    let leaves = c.go.ensures ∙ ap (λ (o : Options). let z : State = record (into s Var) { options = o } in z) c.in_ok-set_first.ensures in
    (((λ bad. bad n is), (twice, ((λ bad. bad x says), tt))), (n, x, is, says, leaves))
