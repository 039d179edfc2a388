use Rattle.std.proofs.Common.{arith}
use Rattle.fraction.specs.Frac.{ratio}
use Rattle.cert_checker.proofs.Coefficients.{variable_added, row_added}
use Rattle.cert_checker.proofs.slots.add_column.Goals as goal

pub returns-then-col-cuts : goal.returns-then-col-cuts
returns-then-col-cuts c = λ j h.
    variable_added c.args.program.now c.args.cuts.now c.args.slots.now c.add_variable.new.slots c.args.mult.col (ratio c.args.mult.value) (omega arith) c.add_variable.ensures.here c.add_variable.ensures.others j

pub returns-else-col-cuts : goal.returns-else-col-cuts
returns-else-col-cuts c = λ j h.
    row_added c.args.program.now c.args.cuts.now c.args.slots.now c.add_row.new.slots c.args.mult.col (ratio c.args.mult.value) (omega arith) j (c.add_row.ensures j h)
