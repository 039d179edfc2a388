use Rattle.std.proofs.Common.{◌≤◌, length, arith}
use Rattle.fraction.specs.Frac.{ratios}
use Rattle.evidence.specs.Point.{value_at}
use Rattle.instance.proofs.Terms.{read}
use Rattle.branch_bound.proofs.RowEntries.{no_entries, one_more}
use Rattle.branch_bound.proofs.rounds.entries_of.Goals as goal

pub loop-j-init : goal.loop-j-init
loop-j-init c = rw c.new-entries.ensures (no_entries c.args.row (value_at (ratios c.args.numbers.now)))

pub loop-j-preserved : goal.loop-j-preserved
loop-j-preserved c =
    let j = c.loop-j.j in
    let x = c.index-numbers-j.result in
    one_more c.args.row j (value_at (ratios c.args.numbers.now)) c.loop-j.entries c.add_entry.new.entries x c.loop-j.invariant (read c.args.numbers.now j x c.loop-j-test.true c.index-numbers-j.is) c.in_ok-add_entry.ensures.none c.in_ok-add_entry.ensures.some

-- all numbers were gone through
pub returns-clause-own : goal.returns-clause-own
returns-clause-own c = c.loop-j.invariant.own

pub returns-clause-ascending : goal.returns-clause-ascending
returns-clause-ascending c = c.loop-j.invariant.ascending

pub returns-clause-inside : goal.returns-clause-inside
returns-clause-inside c = λ k d h.
    let low = c.loop-j.invariant.inside k d h in
    let end : c.loop-j.j ≤ length c.args.numbers.now = c.loop-j.auto.j-end in
    omega arith

pub returns-clause-nonzero : goal.returns-clause-nonzero
returns-clause-nonzero c = c.loop-j.invariant.nonzero

pub returns-clause-values : goal.returns-clause-values
returns-clause-values c = λ j h.
    let out : length c.args.numbers.now ≤ c.loop-j.j = c.loop-j-test.false in
    c.loop-j.invariant.values j (omega arith)
