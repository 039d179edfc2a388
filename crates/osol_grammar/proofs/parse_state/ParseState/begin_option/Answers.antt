use Rattle.std.proofs.Common.{◌∙◌, inl, inr, ℕ, refl, ap, sym, subst}
use Rattle.osol_grammar.specs.declared.limit.Limit.{Limit}
use Rattle.osol_grammar.specs.declared.options.Options.{Options}
use Rattle.osol_grammar.specs.declared.place.Place.TheVariants.{SolverOption}
use Rattle.osol_grammar.specs.declared.parse_state.ParseState.{ParseState as State}
use Rattle.osol_grammar.specs.Options.{IsOption, IsGapOption, SaysAmount}
use Rattle.osol_grammar.specs.Table.{into}
use Rattle.osol_grammar.proofs.LimitTable.{option_once, not_gap}
use Rattle.osol_grammar.proofs.parse_state.ParseState.begin_option.Goals as goal
use Rattle.osol_grammar.proofs.parse_state.ParseState.begin_option.Goals.{in-Some+in-Some-amount_of, in_default+then-is_gap+in-Some-gap_of, in_default+else-is_gap}

pub returns : goal.returns
returns c =
    let s = c.args.self.now in
    let as' = c.args.attributes.now in
    let goes : State → State = λ z. into z SolverOption in
    let says : Options → State = λ o. record (into s SolverOption) { options = o } in
    elim c.match-limit_of.branch [
      | in-Some+in-Some-amount_of w ↦
          let l = w.in-Some.limit in
          let n = w.in-Some-amount_of.amount in
          let is : IsOption l as' = w.in-Some.ensures in
          let tells : SaysAmount l as' n = w.in-Some-amount_of.ensures in
          let pass = λ (bad : (k : Limit) × IsOption k as' × ((m : ℕ) → SaysAmount k as' m → ⊥)). bad.2 n (subst (λ (k : Limit). SaysAmount k as' n) (sym (option_once bad.0 l as' bad.1 is)) tells) in
          ((pass, ((λ bad. not_gap l as' is bad.0), tt)), (_, inl (l, n, is, tells, refl), c.go.ensures ∙ ap goes w.self-is ∙ ap says w.set.ensures))
      | in_default+then-is_gap+in-Some-gap_of w ↦
          let g = w.in-Some-gap_of.gap in
          let own : IsGapOption as' = w.is_gap.ensures.0 w.if-is_gap.true in
          (((λ bad. w.in_default.ensures bad.0 bad.1), ((λ bad. bad.1 g w.in-Some-gap_of.ensures), tt)), (_, inr (inl (g, own, w.in-Some-gap_of.ensures, refl)), c.go.ensures ∙ ap goes w.self-is))
      | in_default+else-is_gap w ↦
          let off = w.if-is_gap.false in
          let other = λ (own : IsGapOption as'). (let on = w.is_gap.ensures.1 own in let never : ⊥ = cc in never) in
          (((λ bad. w.in_default.ensures bad.0 bad.1), ((λ bad. other bad.0), tt)), (s.options, inr (inr (w.in_default.ensures, other, refl)), c.go.ensures ∙ ap goes w.self-is))
    ]
