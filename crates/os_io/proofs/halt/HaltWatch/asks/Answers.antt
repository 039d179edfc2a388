use Rattle.std.proofs.Common.{refl}
use Rattle.os_io.specs.Halts.{halted_without}
use Rattle.os_io.proofs.halt.HaltWatch.asks.Goals as goal

pub returns-clause-came : goal.returns-clause-came
returns-clause-came g c = (refl, refl, halted_without _ _)
