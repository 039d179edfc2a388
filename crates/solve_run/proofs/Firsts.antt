-- The first point of a job's search has a value for each goal.
use Rattle.std.proofs.Common.{◌≡◌, ◌∙◌, Option, None, Some, List, length, sym, ap, arith}
use Rattle.std.specs.Prelude.{option_map, map}
use Rattle.std.proofs.lemmas.List.{length-map, length-drop}
use Rattle.rational.specs.Ratio.{Ratio}
use Rattle.fraction.specs.Frac.{ratio}
use Rattle.instance.specs.Parts.{Parts, IsValid}
use Rattle.instance.specs.Program.{problem, goal, goals}
use Rattle.search_rules.specs.Beginnings.{IsFirstBest}
use Rattle.branch_bound.specs.Walks.{best}
use Rattle.branch_bound.specs.Cases.{HaveValues}
use Rattle.branch_bound.specs.Beginnings.{given_ratio}
use Rattle.branch_bound.specs.declared.found.Found.{Found}
use Rattle.osol_grammar.specs.declared.options.Options.{Options}
use Rattle.solve_run.specs.Firsts.{IsFirstOf}

of_first : (p : Parts) (gs : Option (List (Option Ratio))) (f : Found) → IsValid p → IsFirstBest (problem p) gs (best (Some f)) → length f.values ≡ length p.goals
of_first p None f valid h = absurd (cc)
of_first p (Some gs) f valid h =
    let values = h.point.values.count in
    let some = valid.some_goal in
    omega (arith, values, some, length-map f.values ratio, length-drop 1 (goals p.goals), length-map p.goals goal)

pub have_values : (p : Parts) (o : Options) (first : Option Found) → IsValid p → IsFirstOf (problem p) o (best first) → HaveValues p first
have_values p o None valid h = λ f e. absurd (cc)
have_values p o (Some found) valid h = λ f e. (let same : found ≡ f = cc in ap (λ (x : Found). length x.values) (sym same) ∙ of_first p (option_map (map given_ratio) o.first) found valid h)
