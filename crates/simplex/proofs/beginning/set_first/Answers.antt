use Rattle.std.proofs.Common.{cond, nat_lt, sym, ◌∙◌, ap, arith}
use Rattle.std.specs.Prelude.{slice_set}
use Rattle.std.proofs.lemmas.List.{get_or-set_same, get_or-set_other}
use Rattle.evidence.specs.Instance.{Range}
use Rattle.evidence.proofs.Columns.{by_eq}
use Rattle.simplex_rules.specs.declared.columns.Status.TheVariants.{Basic}
use Rattle.simplex_rules.specs.Statuses.{status_at, first_status}
use Rattle.simplex.proofs.ColumnEnds.{read_range}
use Rattle.simplex.proofs.Starts.{first_of, first_fresh, first_basic}
use Rattle.simplex.proofs.beginning.set_first.Goals as goal

pub loop-c-preserved : goal.loop-c-preserved
loop-c-preserved c = λ k h.
    let t = c.loop-c-test.true in
    let r = read_range c.args.ends.now c.loop-c.c c.index-ends-c.result c.index-ends-c.is (let a = c.requires.ends in omega arith) in
    by_eq k c.loop-c.c
    (λ e. ap (status_at (slice_set c.loop-c.statuses c.loop-c.c c.first_at.result)) e ∙ get_or-set_same c.loop-c.statuses c.loop-c.c c.first_at.result Basic (let a = c.loop-c.auto.statuses in omega arith) ∙ c.first_at.ensures ∙ ap (λ (z : Range). cond (nat_lt c.loop-c.c c.args.vars) (first_status z.lb z.ub) Basic) (sym r) ∙ ap (first_of c.args.ends.now c.args.vars) (sym e))
    (λ n. get_or-set_other c.loop-c.statuses c.loop-c.c k c.first_at.result Basic n ∙ c.loop-c.invariant k (omega arith))

pub returns-clause-fresh : goal.returns-clause-fresh
returns-clause-fresh c = first_fresh c.args.ends.now c.args.vars c.loop-c.statuses (c.requires.ends ∙ sym c.loop-c.auto.statuses) (let a = c.loop-c.auto.statuses in let b = c.requires.vars in omega arith) (λ k h. c.loop-c.invariant k (let a = c.loop-c.auto.statuses in let b = c.loop-c-test.false in omega arith))

pub returns-clause-basic : goal.returns-clause-basic
returns-clause-basic c = first_basic c.args.ends.now c.args.vars c.loop-c.statuses (c.requires.ends ∙ sym c.loop-c.auto.statuses) (let a = c.loop-c.auto.statuses in let b = c.requires.vars in omega arith) (λ k h. c.loop-c.invariant k (let a = c.loop-c.auto.statuses in let b = c.loop-c-test.false in omega arith))
