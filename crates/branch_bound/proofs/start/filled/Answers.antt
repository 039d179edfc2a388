use Rattle.std.proofs.Common.{rules, ◌≡◌, ◌+◌, suc, List, [], ◌∷◌, ◌++◌, length, map, arith, ◌∙◌, ap, ap₂, sym}
use Rattle.std.proofs.lemmas.List.{map-append, length_push}
use Rattle.rational.specs.Ratio.{Ratio}
use Rattle.fraction.specs.Frac.{ratio}
use Rattle.search_rules.specs.Beginnings.{point_given}
use Rattle.branch_bound.specs.Beginnings.{given_ratio}
use Rattle.branch_bound.proofs.FirstValues.{given_more}
use Rattle.branch_bound.proofs.start.filled.Goals as goal

pub loop-j-preserved : goal.loop-j-preserved
loop-j-preserved c =
    let gs = map given_ratio c.args.given.now in
    let j = c.loop-j.j in
    let v = c.value_for.result in
    let e : c.push.new.self ≡ c.loop-j.point ++ v ∷ [] = search rules in
    let next : suc j ≡ j + 1 = omega arith in
    record {
      count = ap length e ∙ length_push c.loop-j.point v ∙ ap (λ n. n + 1) c.loop-j.invariant.count;
      values = ap (map ratio) e ∙ map-append ratio c.loop-j.point (v ∷ []) ∙ ap₂ (λ (xs : List Ratio) (y : Ratio). xs ++ y ∷ []) c.loop-j.invariant.values c.value_for.ensures ∙ sym (given_more gs j) ∙ ap (point_given gs) next;
    }
