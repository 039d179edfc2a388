use Rattle.std.proofs.Common.{sym, ◌∙◌, ap, arith}
use Rattle.std.specs.Prelude.{slice_set}
use Rattle.evidence.proofs.Columns.{by_eq}
use Rattle.simplex_rules.specs.Reports.{movement}
use Rattle.dictionary.specs.Dict.{entry_of}
use Rattle.simplex.specs.Tables.{values_in}
use Rattle.simplex.proofs.Slots.{value_set, value_other}
use Rattle.simplex.proofs.reporting.set_movements.Goals as goal

pub loop-c-preserved : goal.loop-c-preserved
loop-c-preserved g c = λ k h.
    let t = c.loop-c-test.true in
    by_eq k c.loop-c.c
    (λ e. ap (values_in (slice_set c.loop-c.movements c.loop-c.c c.movement_at.result)) e ∙ value_set c.loop-c.movements c.loop-c.c c.movement_at.result (let b = c.loop-c.auto.movements in omega arith) ∙ c.movement_at.ensures ∙ ap (movement c.args.statuses.now (entry_of c.args.dict.now) c.args.moving.col c.args.moving.way) (sym e))
    (λ n. value_other c.loop-c.movements c.loop-c.c k c.movement_at.result n ∙ c.loop-c.invariant k (omega arith))
