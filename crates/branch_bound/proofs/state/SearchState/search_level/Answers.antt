use Rattle.std.proofs.Common.{refl, ◌∙◌}
use Rattle.branch_bound.proofs.Ready.{further_less}
use Rattle.branch_bound.proofs.Changes.{unchanged, still_below, joined}
use Rattle.branch_bound.proofs.state.SearchState.search_level.Goals as goal

pub loop-self-init : goal.loop-self-init
loop-self-init g c =
    let a = c.args in
    record {
      state = c.requires.state;
      goal = refl;
      moments = unchanged a.self.now (g.met.W.Watch.stays a.watch.now);
    }

pub step-requires-clause-stops : goal.step-requires-clause-stops
step-requires-clause-stops g c =
    let a = c.args in
    let l = c.loop-self in
    still_below l.invariant.moments (g.met.W.Watch.counts a.watch.now l.watch) c.requires.stops

pub loop-self-preserved : goal.loop-self-preserved
loop-self-preserved g c =
    let a = c.args in
    let l = c.loop-self in
    record {
      state = c.in-Ok.ensures.state;
      goal = c.in-Ok.ensures.further.level.0 ∙ l.invariant.goal;
      moments = joined l.invariant.moments c.in-Ok.ensures.moments (g.met.W.Watch.joined a.watch.now l.watch c.step.new.watch);
    }

pub loop-self-smaller : goal.loop-self-smaller
loop-self-smaller g c = further_less c.args.limits c.loop-self.self.level c.step.new.self.level c.loop-self.self.walk c.step.new.self.walk c.in-Ok.ensures.further

pub returns-in-Err-clause-moments : goal.returns-in-Err-clause-moments
returns-in-Err-clause-moments g c =
    let a = c.args in
    let l = c.loop-self in
    joined l.invariant.moments c.in-Err.ensures.moments (g.met.W.Watch.joined a.watch.now l.watch c.step.new.watch)

pub returns-clause-moments : goal.returns-clause-moments
returns-clause-moments g c = c.loop-self.invariant.moments
