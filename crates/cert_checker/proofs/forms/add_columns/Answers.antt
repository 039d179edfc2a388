use Rattle.std.proofs.Common.{arith, sym, subst}
use Rattle.evidence.specs.Instance.{coefficient_at}
use Rattle.evidence.specs.Cases.{Multiplier}
use Rattle.case_tree.specs.Cuts.{cut}
use Rattle.cert_checker.specs.Slots.{slot_at, IsStep}
use Rattle.cert_checker.proofs.Lists.{mult_read}
use Rattle.cert_checker.proofs.Widths.{legal_column, cut-instance}
use Rattle.cert_checker.proofs.ColumnSums.{holds_first, holds_next}
use Rattle.cert_checker.proofs.forms.add_columns.Goals as goal

pub loop-k-init : goal.loop-k-init
loop-k-init c = λ j h.
    let f = c.clear.ensures j (omega arith) in
    holds_first (cut c.args.program.now c.args.cuts.now) (cut-instance c.args.program.now c.requires.numbers c.args.cuts.now) c.args.mults.now j (slot_at c.clear.new.slots j) f.0 f.1 f.2

pub add_column-requires-clause-column : goal.add_column-requires-clause-column
add_column-requires-clause-column c =
    legal_column c.args.program.now c.args.cuts.now c.args.mults.now c.loop-k.k c.index-mults-k.result c.requires.legal c.loop-k-test.true c.index-mults-k.is

pub loop-k-preserved : goal.loop-k-preserved
loop-k-preserved c = λ j h.
    let long = c.loop-k.auto.slots in
    let m = mult_read c.args.mults.now c.loop-k.k c.index-mults-k.result c.loop-k-test.true c.index-mults-k.is in
    holds_next (cut c.args.program.now c.args.cuts.now) (cut-instance c.args.program.now c.requires.numbers c.args.cuts.now) c.args.mults.now j c.loop-k.k (slot_at c.loop-k.slots j) (slot_at c.add_column.new.slots j) (c.loop-k.invariant j h)
    (subst (λ (q : Multiplier). IsStep (slot_at c.loop-k.slots j) q.by (coefficient_at (cut c.args.program.now c.args.cuts.now) q.column j) (slot_at c.add_column.new.slots j)) (sym m)
    (c.add_column.ensures j (omega arith)))
