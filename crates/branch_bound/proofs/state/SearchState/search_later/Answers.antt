use Rattle.branch_bound.proofs.Changes.{unchanged, still_below, joined}
use Rattle.branch_bound.proofs.state.SearchState.search_later.Goals as goal

pub loop-value-init : goal.loop-value-init
loop-value-init g c =
    let a = c.args in
    record {
      state = c.requires.state;
      closed = c.requires.closed;
      moments = unchanged a.self.now (g.met.W.Watch.stays a.watch.now);
    }

pub search_next-requires-clause-stops : goal.search_next-requires-clause-stops
search_next-requires-clause-stops g c =
    let a = c.args in
    let l = c.loop-value in
    still_below l.invariant.moments (g.met.W.Watch.counts a.watch.now l.watch) c.requires.stops

pub loop-value-preserved : goal.loop-value-preserved
loop-value-preserved g c =
    let a = c.args in
    let l = c.loop-value in
    record {
      state = c.in-Ok.ensures.state;
      closed = c.in-Ok.ensures.closed;
      moments = joined l.invariant.moments c.in-Ok.ensures.moments (g.met.W.Watch.joined a.watch.now l.watch c.search_next.new.watch);
    }

pub returns-in-Err-clause-moments : goal.returns-in-Err-clause-moments
returns-in-Err-clause-moments g c =
    let a = c.args in
    let l = c.loop-value in
    joined l.invariant.moments c.in-Err.ensures.moments (g.met.W.Watch.joined a.watch.now l.watch c.search_next.new.watch)

pub returns-clause-moments : goal.returns-clause-moments
returns-clause-moments g c = c.loop-value.invariant.moments
