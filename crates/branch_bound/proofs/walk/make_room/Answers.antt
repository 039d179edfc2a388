use Rattle.std.proofs.Common.{rules, ◌≡◌, ◌∷◌, ◌++◌, [], ◌≤◌, length}
use Rattle.branch_bound.proofs.Rooms.{branches_same, places_same}
use Rattle.branch_bound.proofs.walk.make_room.Goals as goal

pub returns-in_ok-push-clause-same : goal.returns-in_ok-push-clause-same
returns-in_ok-push-clause-same c = λ I cs.
    let e : c.push.new.self.items ≡ c.args.branches.now.items ++ c.args.filler ∷ [] = search rules in
    let h : c.args.depth ≤ length c.args.branches.now.items = search rules in
    rw e (c.cases_come_of_branches_above.ensures I cs (c.args.branches.now.items ++ c.args.filler ∷ []) c.args.branches.now.items c.args.depth (branches_same c.args.branches.now.items c.args.filler c.args.depth h))

pub returns-in_ok-push-clause-places : goal.returns-in_ok-push-clause-places
returns-in_ok-push-clause-places c =
    let e : c.push.new.self.items ≡ c.args.branches.now.items ++ c.args.filler ∷ [] = search rules in
    let h : c.args.depth ≤ length c.args.branches.now.items = search rules in
    rw e (places_same c.args.branches.now.items c.args.filler c.args.depth h)
