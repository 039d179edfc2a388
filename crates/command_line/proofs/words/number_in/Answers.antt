use Rattle.std.proofs.Common.{arith}
use Rattle.command_line.proofs.Numbers.{read_refused, read_within}
use Rattle.command_line.proofs.words.number_in.Goals as goal

pub returns-in-Ok-clause-number : goal.returns-in-Ok-clause-number
returns-in-Ok-clause-number c =
    read_within c.args.least c.args.most c.args.word.now c.parse.result (omega arith) c.parse.ensures.value.0 c.in-Ok.number c.in-Ok.is c.if-least-number.true c.if-number-most.true

pub returns-in_default-3-clause-number : goal.returns-in_default-3-clause-number
returns-in_default-3-clause-number c =
    read_refused c.args.least c.args.most c.args.word.now c.parse.result (omega arith) c.parse.ensures.value.0 c.in_default.field-0 c.in_default.is
