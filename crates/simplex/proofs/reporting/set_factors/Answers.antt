use Rattle.std.proofs.Common.{sym, ◌∙◌, ap, arith}
use Rattle.std.specs.Prelude.{slice_set}
use Rattle.evidence.proofs.Columns.{by_eq}
use Rattle.simplex_rules.specs.Reports.{factor_at}
use Rattle.dictionary.specs.Dict.{entry_of}
use Rattle.simplex.specs.Tables.{values_in}
use Rattle.simplex.proofs.Slots.{value_set, value_other}
use Rattle.simplex.proofs.reporting.set_factors.Goals as goal

pub loop-c-preserved : goal.loop-c-preserved
loop-c-preserved g c = λ entries k h.
    let t = c.loop-c-test.true in
    by_eq k c.loop-c.c
    (λ e. ap (values_in (slice_set c.loop-c.factors c.loop-c.c c.factor_at.result)) e ∙ value_set c.loop-c.factors c.loop-c.c c.factor_at.result (let a = c.requires.factors in let b = c.loop-c.auto.factors in omega arith) ∙ c.factor_at.ensures entries ∙ ap (factor_at (entry_of c.args.dict.now) c.args.row c.args.wanted) (sym e))
    (λ n. value_other c.loop-c.factors c.loop-c.c k c.factor_at.result n ∙ c.loop-c.invariant entries k (omega arith))
