use Rattle.std.proofs.Common.{rules, inl, inr, refl, subst}
use Rattle.certificate.specs.Meanings.{multipliers}
use Rattle.instance.specs.Program.{program}
use Rattle.cert_checker.specs.Programs.{with_rows}
use Rattle.branch_bound.specs.declared.cutting.Left.{Left}
use Rattle.branch_bound.specs.Trials.{LeavesOf}
use Rattle.simplex.specs.Memory.{statuses_in, entries_in}
use Rattle.no_cycles.proofs.CutMultipliers.{legal}
use Rattle.branch_bound.proofs.CutProgram.{columns_are, ran_placed}
use Rattle.branch_bound.proofs.cutting.try_equation.Goals as goal

pub returns-in-Ok-Wide-clause-tries : goal.returns-in-Ok-Wide-clause-tries
returns-in-Ok-Wide-clause-tries g c =
    let J = with_rows (program c.args.instance.now) c.args.rows.now in
    let size = columns_are c.args.instance.now c.args.rows.now c.args.cuts.now c.requires.uncut in
    inl (subst (λ (l : Left). LeavesOf J (statuses_in c.args.work.now) (entries_in c.args.work.now) c.args.variable l) c.in-Ok-Wide.field-0-is (c.in-Ok-Wide.ensures J (search rules)), refl)

pub returns-in-Ok-AtZero-clause-tries : goal.returns-in-Ok-AtZero-clause-tries
returns-in-Ok-AtZero-clause-tries g c =
    let J = with_rows (program c.args.instance.now) c.args.rows.now in
    let size = columns_are c.args.instance.now c.args.rows.now c.args.cuts.now c.requires.uncut in
    let left = subst (λ (l : Left). LeavesOf J (statuses_in c.args.work.now) (entries_in c.args.work.now) c.args.variable l) c.in-Ok-AtZero.field-0-is (c.in-Ok-AtZero.ensures J (search rules)) in
    inr (inl (left.0, left.1, refl))

pub try_mults-requires-clause-legal : goal.try_mults-requires-clause-legal
try_mults-requires-clause-legal g c =
    let J = with_rows (program c.args.instance.now) c.args.rows.now in
    let size = columns_are c.args.instance.now c.args.rows.now c.args.cuts.now c.requires.uncut in
    let left = subst (λ (l : Left). LeavesOf J (statuses_in c.args.work.now) (entries_in c.args.work.now) c.args.variable l) c.in-Ok-Mults.field-0-is (c.in-Ok-Mults.ensures J (search rules)) in
    let ran = c.requires.ran.1 in
    legal J (statuses_in c.args.work.now) (entries_in c.args.work.now) c.args.variable (multipliers c.in-Ok-Mults.mults) (ran_placed J c.requires.ran.0 c.args.work.now ran) ran.dictionary left.1 left.2

pub returns-in-Ok-Mults-clause-tries : goal.returns-in-Ok-Mults-clause-tries
returns-in-Ok-Mults-clause-tries g c =
    let J = with_rows (program c.args.instance.now) c.args.rows.now in
    let size = columns_are c.args.instance.now c.args.rows.now c.args.cuts.now c.requires.uncut in
    let left = subst (λ (l : Left). LeavesOf J (statuses_in c.args.work.now) (entries_in c.args.work.now) c.args.variable l) c.in-Ok-Mults.field-0-is (c.in-Ok-Mults.ensures J (search rules)) in
    inr (inr (multipliers c.in-Ok-Mults.mults, left.0, left.1, left.2, c.try_mults.ensures.tries))
