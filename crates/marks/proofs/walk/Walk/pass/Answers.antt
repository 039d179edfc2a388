use Rattle.std.proofs.Common.{rules}
use Rattle.marks.proofs.Walks.{passed_first, passed_rest}
use Rattle.marks.proofs.walk.Walk.pass.Goals as goal

pub returns-clause-first : goal.returns-clause-first
returns-clause-first c test from kept =
    let w = c.args.self.now in
    passed_first test from w.word w.stop (search rules) c.requires w.whole (w.begun c.requires) kept

pub returns-clause-kept : goal.returns-clause-kept
returns-clause-kept c test from kept =
    let w = c.args.self.now in
    passed_rest test from w.word w.stop (search rules) c.requires w.whole (w.begun c.requires) kept
