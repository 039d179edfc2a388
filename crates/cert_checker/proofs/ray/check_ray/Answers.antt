use Rattle.std.proofs.Common.{◌≡◌, length, arith, inl, inr, ap, ◌∙◌}
use Rattle.std.proofs.lemmas.List.{length-map}
use Rattle.std.proofs.lemmas.Result.{on_ok_weaker, err_from_is_err_and}
use Rattle.fraction.specs.Frac.{ratio}
use Rattle.evidence.specs.Instance.{width}
use Rattle.instance.specs.Program.{variable}
use Rattle.cert_checker.proofs.Moves.{is_ray, ray_fits}
use Rattle.cert_checker.proofs.ray.check_ray.Goals as goal

pub returns-in_err-check_rows-clause-err : goal.returns-in_err-check_rows-clause-err
returns-in_err-check_rows-clause-err c =
    let p = err_from_is_err_and c.from_residual.result c.from_residual.ensures.1 in
    let v = ap length c.vars-count.ensures.value in
    let m = length-map c.vars-count.result.now variable in
    let n : length c.args.ray.now ≡ width c.args.program.now = omega arith in
    rw (p.1, p.2) (inr (inr (inl (length-map c.args.ray.now ratio ∙ n, c.in_default.ensures, c.in_err-check_rows.ensures.err))))

pub returns-clause-ok : goal.returns-clause-ok
returns-clause-ok c =
    let v = ap length c.vars-count.ensures.value in
    let m = length-map c.vars-count.result.now variable in
    let n : length c.args.ray.now ≡ width c.args.program.now = omega arith in
    on_ok_weaker c.check_slope.result (is_ray c.args.program.now c.args.point.now c.args.ray.now n c.in_default.ensures c.in_ok-check_rows.ensures.ok) c.check_slope.ensures.better

pub returns-clause-fits : goal.returns-clause-fits
returns-clause-fits c =
    let v = ap length c.vars-count.ensures.value in
    let m = length-map c.vars-count.result.now variable in
    let n : length c.args.ray.now ≡ width c.args.program.now = omega arith in
    on_ok_weaker c.check_slope.result (ray_fits c.args.program.now c.args.point.now c.args.ray.now n c.in_default.ensures c.in_ok-check_rows.ensures.ok) c.check_slope.ensures.fits
