use Rattle.std.proofs.Common.{◌<◌, length, get_or, arith, ap, sym, ◌∙◌}
use Rattle.std.proofs.lemmas.List.{get_or-map}
use Rattle.evidence.specs.Instance.{no_goal}
use Rattle.instance.specs.Program.{goal as goal_of}
use Rattle.instance.proofs.instance.Instance.first_goal.Goals as goal

pub returns-clause-goal : goal.returns-clause-goal
returns-clause-goal c =
    let p = c.args.self.now in
    let g = c.index-goals-0.result in
    let is = c.index-goals-0.is ∙ ap (λ l. get_or l 0 g) c.goals-goals.ensures.value in
    let some : 0 < length p.goals = (let v = c.goals-goals.ensures.valid.some_goal in omega arith) in
    ap goal_of is ∙ sym (get_or-map goal_of p.goals 0 g no_goal some)
