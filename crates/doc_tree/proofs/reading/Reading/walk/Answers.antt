use Rattle.doc_tree.proofs.Words.{arith, feeding, view, ◌+◌}
use Rattle.doc_tree.proofs.Walking.Taking.{walks_can, together_taken}
use Rattle.doc_tree.proofs.reading.Reading.walk.Goals as goal

pub invariant_of-self : goal.invariant_of-self
invariant_of-self c = walks_can (feeding c.self.inside) _ (view c.walk.new.self.machine) c.walk.new.self.returned (c.self.inside.count + c.in-Ok.together) c.in-Ok.ensures.walks c.self.invariant

pub returns-in-Ok-clause-taken : goal.returns-in-Ok-clause-taken
returns-in-Ok-clause-taken c =
    let s = c.saturating_sub-room.ensures in let r = c.least.ensures.room in
    together_taken (feeding c.self.inside) _ (view c.walk.new.self.machine) c.walk.new.self.returned c.in-Ok.together c.least.result c.args.bytes.now c.self.view_is c.if-not-whole.ensures c.in-Ok.ensures.within c.least.ensures.within (omega arith) c.in-Ok.ensures.walks c.in-Ok.ensures.returned
