use Rattle.std.proofs.Common.{◌+◌, ◌<◌, false, IsTrue, refl, ap, inl, below_more, arith}
use Rattle.fraction.specs.Frac.{ratios}
use Rattle.evidence.specs.Instance.{height}
use Rattle.instance.specs.Program.{row}
use Rattle.cert_checker.specs.declared.refused.Unshown.TheVariants.{Direction}
use Rattle.cert_checker.specs.Rays.{MayMoveRow}
use Rattle.cert_checker.proofs.Moves.{never_to, never_from}
use Rattle.cert_checker.proofs.ray.check_rows.Goals as goal

pub returns-then-not-never_leaves-clause-err : goal.returns-then-not-never_leaves-clause-err
returns-then-not-never_leaves-clause-err c =
    let I = c.args.program.now in
    let low : c.loop-i.i < height I = (let v = c.height-i-end.ensures.value in let t = c.loop-i-test.true in omega arith) in
    inl (
      c.loop-i.i,
      record {
        inside = low;
        below = c.loop-i.invariant;
        fits = c.in-Ok.ensures.fits;
        held = λ n. let t : IsTrue false = c.if-not-never_leaves.ensures.1 (never_from I c.requires.numbers c.args.ray.now c.loop-i.i (row c.ends-row.result) c.in-Ok.activity c.ends-row.ensures c.in-Ok.ensures.ok n) in cc;
      },
      ap (λ n. Direction (n + c.loop-i.i)) c.requires.count,
    )

pub loop-i-preserved : goal.loop-i-preserved
loop-i-preserved c =
    let I = c.args.program.now in
    below_more (MayMoveRow I (ratios c.args.ray.now)) c.loop-i.i c.loop-i.invariant
    (record {
      fits = c.in-Ok.ensures.fits;
      never = never_to I c.requires.numbers c.args.ray.now c.loop-i.i (row c.ends-row.result) c.in-Ok.activity c.ends-row.ensures c.in-Ok.ensures.ok (c.if-not-never_leaves.ensures.0 refl);
    })
