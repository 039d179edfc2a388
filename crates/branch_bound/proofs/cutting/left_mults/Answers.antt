use Rattle.std.proofs.Common.{◌≡◌, ◌+◌, ◌<◌, ◌≤◌, List, sym, subst, arith}
use Rattle.fraction.specs.Frac.{ratio}
use Rattle.evidence.specs.Cases.{Multiplier}
use Rattle.bases.specs.Program.{goal_column}
use Rattle.certificate.specs.Meanings as Means
use Rattle.simplex.specs.Memory.{statuses_in, entries_in}
use Rattle.branch_bound.proofs.Leftovers.{AreLeft, left_none, left_more, all_within, some_at_zero, none_at_zero, cut_multipliers}
use Rattle.branch_bound.proofs.cutting.left_mults.Goals as goal

pub loop-col-init : goal.loop-col-init
loop-col-init g c =
    rw c.new-mults.ensures (left_none (statuses_in c.args.work.now) (entries_in c.args.work.now c.args.variable))

pub returns-in-Err : goal.returns-in-Err
returns-in-Err g c = λ I e. λ all.
    let low : c.loop-col.col < c.args.columns = c.loop-col-test.true in
    c.in-Err.ensures.wide (all c.loop-col.col (omega arith))

pub loop-col-preserved : goal.loop-col-preserved
loop-col-preserved g c =
    let w = c.args.work.now in
    let ss = statuses_in w in
    let x = entries_in w c.args.variable in
    let l = c.loop-col in
    let v = c.in-Ok.value in
    subst (λ (ms : List Multiplier). AreLeft ss x (l.col + 1) ms c.is_left_at_zero-is_at_zero.result) (sym c.in_ok-add.ensures)
    (left_more ss x l.col (Means.multipliers l.mults) l.is_at_zero l.invariant (ratio v) c.is_left_at_zero-is_at_zero.result c.in-Ok.ensures.ok c.in-Ok.ensures.fits c.is_left_at_zero-is_at_zero.ensures.yes c.is_left_at_zero-is_at_zero.ensures.no)

pub returns-then-is_at_zero : goal.returns-then-is_at_zero
returns-then-is_at_zero g c = λ I e.
    let w = c.args.work.now in
    let out : c.args.columns ≤ c.loop-col.col = c.loop-col-test.false in
    let all : c.loop-col.col ≡ goal_column I = (let a = c.loop-col.auto.col-end in omega arith) in
    let left = subst (λ n. AreLeft (statuses_in w) (entries_in w c.args.variable) n (Means.multipliers c.loop-col.mults) c.loop-col.is_at_zero) all c.loop-col.invariant in
    (all_within I (statuses_in w) (entries_in w) c.args.variable _ _ left, some_at_zero I (statuses_in w) (entries_in w) c.args.variable _ _ left c.if-is_at_zero.true)

pub returns : goal.returns
returns g c = λ I e.
    let w = c.args.work.now in
    let out : c.args.columns ≤ c.loop-col.col = c.loop-col-test.false in
    let all : c.loop-col.col ≡ goal_column I = (let a = c.loop-col.auto.col-end in omega arith) in
    let left = subst (λ n. AreLeft (statuses_in w) (entries_in w c.args.variable) n (Means.multipliers c.loop-col.mults) c.loop-col.is_at_zero) all c.loop-col.invariant in
    (all_within I (statuses_in w) (entries_in w) c.args.variable _ _ left, none_at_zero I (statuses_in w) (entries_in w) c.args.variable _ _ left c.if-is_at_zero.false, cut_multipliers I (statuses_in w) (entries_in w) c.args.variable _ _ left)
