use Rattle.std.proofs.Common.{Option, ap, ◌∙◌}
use Rattle.certificate.specs.declared.causes.Cause.TheVariants.{Memory}
use Rattle.search_rules.specs.Search.{early}
use Rattle.branch_bound.specs.declared.found.Found.{Found}
use Rattle.branch_bound.specs.Walks.{best, node_by}
use Rattle.branch_bound.proofs.Moments.{node_more}
use Rattle.branch_bound.proofs.claims.branch.Goals as goal

pub returns-in-Ok-clause-ok : goal.returns-in-Ok-clause-ok
returns-in-Ok-clause-ok c = record { nodes = c.in-Ok.ensures.nodes; cases = c.in-Ok.ensures.waiting; point = c.divide.ensures.best }

pub returns-in-Ok-clause-one : goal.returns-in-Ok-clause-one
returns-in-Ok-clause-one c = node_more c.args.walk.now.nodes c.divide.new.walk.nodes (node_by c.args.at.by c.args.at.col) c.in-Ok.ensures.nodes

pub returns-in-Err-clause-err : goal.returns-in-Err-clause-err
returns-in-Err-clause-err c = λ cs. c.give_up.ensures.told cs ∙ ap (λ (b : Option Found). early (best b) Memory) c.divide.ensures.best
