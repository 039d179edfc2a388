use Rattle.std.proofs.Common.{sym, ◌∙◌, ap, arith}
use Rattle.std.specs.Prelude.{slice_set}
use Rattle.evidence.proofs.Columns.{by_eq}
use Rattle.simplex.specs.Cuts.{ranges_in, range_at}
use Rattle.simplex.proofs.Starts.{range_set, range_other}
use Rattle.simplex.proofs.beginning.set_ends.Goals as goal

pub loop-c-preserved : goal.loop-c-preserved
loop-c-preserved c = λ k h.
    let t = c.loop-c-test.true in
    by_eq k c.loop-c.c
    (λ e. ap (ranges_in (slice_set c.loop-c.ends c.loop-c.c c.ends_at.result)) e ∙ range_set c.loop-c.ends c.loop-c.c c.ends_at.result (let a = c.loop-c.auto.ends in omega arith) ∙ c.ends_at.ensures ∙ ap (range_at c.args.cuts.now c.args.rows.now c.args.added.now) (sym e))
    (λ n. range_other c.loop-c.ends c.loop-c.c k c.ends_at.result n ∙ c.loop-c.invariant k (omega arith))
