use Rattle.std.proofs.Common.{◌<◌, length, refl, sym, ap, subst, below_more, ◌∙◌, arith}
use Rattle.std.proofs.lemmas.List.{get_or-map}
use Rattle.fraction.specs.Frac.{ratios}
use Rattle.evidence.specs.Instance as Of
use Rattle.evidence.specs.Point.{value_at}
use Rattle.evidence.specs.Columns.{Keeps}
use Rattle.instance.specs.Program.{variable}
use Rattle.instance.specs.Feasibility.{variable_of}
use Rattle.instance.proofs.Terms.{read}
use Rattle.instance.proofs.ends.first_out.Goals as goal

pub loop-j-preserved : goal.loop-j-preserved
loop-j-preserved c =
    let h : c.loop-j.j < length c.args.x.now = omega arith in
    let v = get_or-map variable c.args.vars.now c.loop-j.j c.index-vars-j.result Of.no_variable c.loop-j-test.true ∙ sym (ap variable c.index-vars-j.is) in
    let x = read c.args.x.now c.loop-j.j c.index-x-j.result h c.index-x-j.is in
    below_more (λ j. Keeps (variable_of c.args.vars.now j) (value_at (ratios c.args.x.now) j)) c.loop-j.j c.loop-j.invariant
    (subst (λ w. Keeps w (value_at (ratios c.args.x.now) c.loop-j.j)) (sym v) (subst (λ z. Keeps (variable c.index-vars-j.result) z) (sym x) (c.if-not-keeps.ensures.0 refl)))
