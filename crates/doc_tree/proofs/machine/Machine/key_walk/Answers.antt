use Rattle.doc_tree.proofs.Words.{IsTrue, arith, refl, subst, view}
use Rattle.doc_tree.proofs.MachineSteps.{not_true}
use Rattle.doc_tree.proofs.Walking.Steps.{attribute_walks}
use Rattle.doc_tree.proofs.machine.Machine.key_walk.Goals as goal

pub returns-clause-walks : goal.returns-clause-walks
returns-clause-walks c =
    let m = c.if-length-eq0.false in
    attribute_walks (view c.args.self.now) c.name_length-length.result 0 c.args.bytes.now _ _ _ _ c.requires.place c.requires.good (c.name_length-length.ensures.name (omega arith)) (λ a. not_true (subst IsTrue c.if-branch.false (c.in_ok-holds.ensures.held.1 a))) (c.if-not-is_quoted.ensures refl) c.in_ok-holds.ensures.same c.in_ok-refill.ensures c.clear.ensures.items refl
