use Rattle.std.proofs.Common.{arith, ap, length, sym, subst}
use Rattle.std.specs.List.{All}
use Rattle.certificate.specs.declared.claims.Claim.{Claim}
use Rattle.certificate.specs.Nodes.{nodes_of, IsInRange}
use Rattle.solve_run.proofs.RowForms.{rows_range, formed_short, formed_whole}
use Rattle.solve_run.proofs.closing.formed.Goals as goal

pub is_accepted-requires-clause-range : goal.is_accepted-requires-clause-range
is_accepted-requires-clause-range c =
    subst (λ (x : Claim). All IsInRange (nodes_of x)) (sym c.in_ok-rows.ensures) (rows_range _ c.args.instance.now c.args.claim c.requires.valid c.requires.shown c.requires.few)

pub returns-in-Some : goal.returns-in-Some
returns-in-Some c =
    formed_short c.args.instance.now c.args.job.now c.args.form _ c.args.claim c.in_ok-rows.rows c.in-Some.rows c.in_ok-rows-2.field-0 (omega (arith, c.if-form-ne1.false, c.ranges.form.fits)) (c.is_final.ensures.yes c.if-not-is_final.false)
    (ap length c.vars.ensures.value) c.in_ok-rows.ensures (c.is_accepted.ensures.yes c.if-not-is_accepted.false) c.in_ok-rows-2.ensures c.in-Some.is

pub returns-in-None : goal.returns-in-None
returns-in-None c =
    formed_whole c.args.instance.now c.args.job.now c.args.form _ c.args.claim c.in_ok-rows.rows c.in_ok-rows-2.field-0 (ap length c.vars.ensures.value) c.in_ok-rows.ensures c.in_ok-rows-2.ensures c.in-None.is
