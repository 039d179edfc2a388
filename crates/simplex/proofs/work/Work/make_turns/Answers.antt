use Rattle.std.proofs.Common.{refl, ◌∙◌}
use Rattle.simplex.proofs.Changes.{unchanged, joined}
use Rattle.simplex.proofs.work.Work.make_turns.Goals as goal

pub loop-finish-init : goal.loop-finish-init
loop-finish-init g c = record {
  state = c.requires.state;
  stops = refl;
  changes = unchanged c.args.self.now c.args.turns.now (g.met.W.Watch.stays c.args.watch.now);
}

pub loop-finish-preserved : goal.loop-finish-preserved
loop-finish-preserved g c =
    let v = c.loop-finish.invariant in
    record {
      state = c.in_default.ensures.state refl;
      stops = c.in_default.ensures.stops refl ∙ v.stops;
      changes = joined v.changes c.in_default.ensures.changes (g.met.W.Watch.joined c.args.watch.now c.loop-finish.watch c.make_turn.new.watch);
    }

pub returns-in-Some-clause-changes : goal.returns-in-Some-clause-changes
returns-in-Some-clause-changes g c =
    let v = c.loop-finish.invariant in
    joined v.changes c.in-Some.ensures.changes (g.met.W.Watch.joined c.args.watch.now c.loop-finish.watch c.make_turn.new.watch)
