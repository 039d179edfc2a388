use Rattle.std.proofs.Common.{arith}
use Rattle.simplex.proofs.BasicColumns.{limited_after, limited_own, limited_first}
use Rattle.simplex.proofs.limits.next_limited.Goals as goal

pub returns-then-from-moving : goal.returns-then-from-moving
returns-then-from-moving g c = limited_after c.args.dict.now c.basic_columns.result.now c.basic_columns.ensures.basic c.args.moving c.args.from c.next-next.result c.basic_columns.ensures.inside (omega arith) c.next-next.ensures

pub returns-in-None : goal.returns-in-None
returns-in-None g c = limited_own c.args.dict.now c.basic_columns.result.now c.basic_columns.ensures.basic c.args.moving c.args.from c.requires.moving (omega arith) (λ k a b. c.in-None.ensures k a)

pub returns-then-c-moving : goal.returns-then-c-moving
returns-then-c-moving g c =
    let f = c.in-Some.ensures in
    limited_first c.args.dict.now c.basic_columns.result.now c.basic_columns.ensures.basic c.args.moving c.args.from c.in-Some.c (c.basic_columns.ensures.inside c.in-Some.c f.is) (omega arith) f

pub returns-else-c-moving : goal.returns-else-c-moving
returns-else-c-moving g c =
    let f = c.in-Some.ensures in
    limited_own c.args.dict.now c.basic_columns.result.now c.basic_columns.ensures.basic c.args.moving c.args.from c.requires.moving (omega arith) (λ k a b. f.first k a (omega arith))
