use Rattle.std.proofs.Common.{◌≡◌, None, Some, List, [], ◌∷◌, ◌++◌, sym, ◌∙◌, ap, subst}
use Rattle.std.proofs.lemmas.List.{get_or_default}
use Rattle.rational.specs.Ratio.{IsSame}
use Rattle.fraction.specs.Frac.{ratio}
use Rattle.evidence.specs.Cases.{BoundBy}
use Rattle.evidence.specs.Width.{LowFits}
use Rattle.certificate.specs.declared.lists.Mult.{Mult}
use Rattle.certificate.specs.Meanings as Means
use Rattle.case_tree.specs.declared.cuts.Cut.{Cut}
use Rattle.search_rules.specs.Bounds.{shown_by}
use Rattle.branch_bound.specs.Bounds.{carried_at, case_program, start_of}
use Rattle.branch_bound.proofs.bounds.close_by.Goals as goal

pub returns-in_ok-close-in-Ok-clause-closes : goal.returns-in_ok-close-in-Ok-clause-closes
returns-in_ok-close-in-Ok-clause-closes c =
    let p = c.args.instance.now in
    let rows = c.args.rows.now in
    let w = c.args.walk.now in
    let k = c.in-Some.carried in
    let z = c.in-Ok.number in
    let copied : c.as_slice-2.result.now ≡ k.mults = c.as_slice-2.ensures ∙ c.in_ok-mults.ensures in
    let is : carried_at w.carried.items c.args.depth ≡ Some k = get_or_default w.carried.items c.args.depth None c.index.result.now c.requires.place ∙ sym c.index.ensures ∙ c.in-Some.is in (
      k,
      is,
      subst (λ (cs : List Cut). LowFits (case_program p rows cs) (start_of (case_program p rows cs)) (Means.multipliers k.mults)) c.as_slice.ensures.value
          (subst (λ (ms : List Mult). LowFits (case_program p rows c.as_slice.result.now) (start_of (case_program p rows c.as_slice.result.now)) (Means.multipliers ms)) copied c.in-Ok.ensures.fits),
      subst (λ (cs : List Cut). IsSame (ratio z) (shown_by (case_program p rows cs) (Means.multipliers k.mults))) c.as_slice.ensures.value
          (subst (λ (ms : List Mult). IsSame (ratio z) (shown_by (case_program p rows c.as_slice.result.now) (Means.multipliers ms))) copied c.in-Ok.ensures.ok),
      c.in_ok-close-in-Ok.ensures.nodes ∙ ap (λ (ms : List Mult). Means.nodes w.nodes ++ BoundBy (Means.multipliers ms) ∷ []) c.in_ok-mults.ensures,
    )
