use Rattle.std.proofs.Common.{◌∙◌}
use Rattle.instance.proofs.Terms.{if_ok}
use Rattle.branch_bound.proofs.Changes.{still_below, joined}
use Rattle.branch_bound.proofs.state.SearchState.search_next.Goals as goal

pub search_level-requires-clause-stops : goal.search_level-requires-clause-stops
search_level-requires-clause-stops g c = still_below c.in-Ok.ensures.moments (g.met.W.Watch.counts c.args.watch.now c.next_goal.new.watch) c.requires.stops

pub returns-in-Ok-clause-moments : goal.returns-in-Ok-clause-moments
returns-in-Ok-clause-moments g c = joined c.in-Ok.ensures.moments c.search_level.ensures.moments (g.met.W.Watch.joined c.args.watch.now c.next_goal.new.watch c.search_level.new.watch)

pub returns-in-Ok-clause-goal : goal.returns-in-Ok-clause-goal
returns-in-Ok-clause-goal g c = if_ok c.search_level.result (λ x same. same ∙ c.in-Ok.ensures.goal) c.search_level.ensures.goal
