use Rattle.std.proofs.Common.{FitsSigned, rules}
use mir.Syntax.{w128}
use Rattle.std.proofs.lemmas.Int.{to_z-of_z}
use Rattle.fraction.specs.Frac.{ratio}
use Rattle.instance.proofs.Terms.{at_err}
use Rattle.common_rows.specs.Accumulators.{sum_of}
use Rattle.common_rows.proofs.Accumulators.{begun, begun_fits, begun_wide}
use Rattle.common_rows.proofs.accumulator.Accumulator.wide_plus.Goals as goal

pub returns-in_err-more-clause-wide : goal.returns-in_err-more-clause-wide
returns-in_err-more-clause-wide c =
    let f = c.fraction.result in
    let s = c.args.self in
    let a = c.args.a.now in
    let x = c.args.x.now in
    at_err c.from_residual.result (begun_wide (ratio f) (sum_of s) (ratio a) (ratio x) f.above s.above a.above x.above c.fraction.ensures c.in_err-more.ensures.wide)

pub returns-clause-ok : goal.returns-clause-ok
returns-clause-ok c =
    let f = c.fraction.result in
    let s = c.args.self in
    let a = c.args.a.now in
    let x = c.args.x.now in
    let more = c.in_ok-more.more in
    let fits : FitsSigned w128 more.numer = search rules in
    simp to_z-of_z (begun (ratio f) (sum_of s) (ratio a) (ratio x) f.above s.above a.above x.above c.fraction.ensures (ratio more) more.above c.in_ok-more.ensures.ok)

pub returns-clause-fits : goal.returns-clause-fits
returns-clause-fits c =
    let f = c.fraction.result in
    let s = c.args.self in
    let a = c.args.a.now in
    let x = c.args.x.now in
    begun_fits (ratio f) (sum_of s) (ratio a) (ratio x) f.above s.above a.above x.above c.fraction.ensures c.in_ok-more.ensures.fits
