use Rattle.osil_grammar.proofs.Words.{◌≡◌, ◌<◌, length, get_or, refl, ap, sym, ◌∙◌, subst, arith, get_or-map, Ratio, IsSame, sum, SumFits, ratio, ratios}
use Rattle.evidence.specs.Sums as evidence
use Rattle.osil_grammar.proofs.parse_state.add_to.Goals as goal

pub returns-in-Ok : goal.returns-in-Ok
returns-in-Ok c =
    let inside : c.args.index < length c.args.costs.now.items = omega (arith, c.requires, c.args.costs.now.ok.0) in
    let same : get_or (ratios c.args.costs.now.items) c.args.index evidence.none ≡ ratio c.index.result.now = get_or-map ratio c.args.costs.now.items c.args.index c.index.result.now evidence.none inside ∙ ap ratio (sym c.index.ensures) in (
      c.in-Ok.sum,
      refl,
      subst (λ (r : Ratio). IsSame (ratio c.in-Ok.sum) (sum r (ratio c.args.value))) (sym same) c.in-Ok.ensures.ok,
      subst (λ (r : Ratio). SumFits r (ratio c.args.value)) (sym same) c.in-Ok.ensures.fits,
    )
