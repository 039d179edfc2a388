use Rattle.std.proofs.Common.{◌∙◌, sym, ap, get_or}
use Rattle.std.proofs.lemmas.List.{get_or-map}
use Rattle.evidence.specs.Instance.{no_goal}
use Rattle.instance.specs.Program.{goal as goal_of}
use Rattle.simplex.proofs.loading.goal_at.Goals as goal

pub returns-clause-goal : goal.returns-clause-goal
returns-clause-goal c =
    let p = c.args.instance.now in
    let g = c.index-goals-k.result in
    let is = c.index-goals-k.is ∙ ap (λ l. get_or l c.args.k g) c.goals-goals.ensures.value in
    ap goal_of is ∙ sym (get_or-map goal_of p.goals c.args.k g no_goal c.requires)
