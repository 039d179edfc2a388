use Rattle.branch_bound.proofs.Changes.{still_below, joined}
use Rattle.branch_bound.proofs.state.SearchState.search_levels.Goals as goal

pub search_later-requires-clause-stops : goal.search_later-requires-clause-stops
search_later-requires-clause-stops g c = still_below c.in-Ok.ensures.moments (g.met.W.Watch.counts c.args.watch.now c.search_level.new.watch) c.requires.stops

pub returns-in-Ok-clause-moments : goal.returns-in-Ok-clause-moments
returns-in-Ok-clause-moments g c = joined c.in-Ok.ensures.moments c.search_later.ensures.moments (g.met.W.Watch.joined c.args.watch.now c.search_level.new.watch c.search_later.new.watch)
