use Rattle.std.proofs.Common.{inl, inr, arith}
use Rattle.std.proofs.lemmas.Int.{ints}
use Rattle.fraction.specs.Frac.{ratio}
use Rattle.instance.proofs.Terms.{nothing_added}
use Rattle.common_rows.specs.Accumulators.{sum_of}
use Rattle.common_rows.proofs.accumulator.Accumulator.plus.Goals as goal
use Rattle.common_rows.proofs.accumulator.Accumulator.plus.Goals.{then-a-eq0-via-then-a-eq0, then-a-eq0-via-else-a-eq0+then-x-eq0}

pub returns-then-a-eq0-clause-ok : goal.returns-then-a-eq0-clause-ok
returns-then-a-eq0-clause-ok c =
    nothing_added (sum_of c.args.self) (ratio c.args.a.now) (ratio c.args.x.now)
    (elim c.then-a-eq0.branch [ then-a-eq0-via-then-a-eq0 w ↦ inl (omega (arith, ints)) | then-a-eq0-via-else-a-eq0+then-x-eq0 w ↦ inr (omega (arith, ints)) ])
