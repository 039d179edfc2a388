use Rattle.doc_tree.proofs.Words.{arith}
use Rattle.doc_tree.proofs.Walking.Taking.{then_one, then_refused}
use Rattle.doc_tree.proofs.reading.Reading.take_some.Goals as goal

pub returns-in-Err-clause-refused : goal.returns-in-Err-clause-refused
returns-in-Err-clause-refused c =
    let n = c.if-together-gt0.false in
    then_refused c.args.self.now c.walk.new.self c.in_ok-together.together c.args.bytes.now c.in-Err.fault c.requires.some (omega arith) c.walk.ensures.limit c.in_ok-together.ensures.taken c.in-Err.ensures.refused

pub returns-in-Ok-clause-taken : goal.returns-in-Ok-clause-taken
returns-in-Ok-clause-taken c =
    let n = c.if-together-gt0.false in
    then_one c.args.self.now c.walk.new.self c.take.new.self c.in_ok-together.together 0 c.args.bytes.now c.requires.some (omega arith) c.in_ok-together.ensures.taken c.in-Ok.ensures.taken
