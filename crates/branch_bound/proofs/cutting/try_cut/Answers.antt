use Rattle.std.proofs.Common.{inl, inr, refl, sym, ◌∙◌, arith}
use Rattle.std.proofs.lemmas.List.{length-map}
use Rattle.instance.specs.Program.{program}
use Rattle.instance.proofs.Terms.{if_ok}
use Rattle.case_tree.specs.Cuts.{cut_variable}
use Rattle.cert_checker.specs.Programs.{with_rows}
use Rattle.simplex_rules.specs.Statuses.{status_at}
use Rattle.simplex.specs.Memory.{point_of, statuses_in, entries_in}
use Rattle.branch_bound.proofs.Sides.{some_side, no_side}
use Rattle.branch_bound.proofs.CutProgram.{all_whole, one_fractional}
use Rattle.branch_bound.proofs.cutting.try_cut.Goals as goal

pub returns-in-None-clause-tries : goal.returns-in-None-clause-tries
returns-in-None-clause-tries g c =
    let a = c.args in
    inl (all_whole a.instance.now a.rows.now a.cuts.now c.requires.uncut (point_of a.work.now) (c.in-None.ensures (with_rows (program a.instance.now) a.rows.now)), refl)

pub returns-then-is_some-clause-tries : goal.returns-then-is_some-clause-tries
returns-then-is_some-clause-tries g c =
    let a = c.args in
    let j = c.in-Some.variable in
    inr (inl (
      j,
      one_fractional a.instance.now a.rows.now a.cuts.now c.requires.uncut (point_of a.work.now) j (c.in-Some.ensures (with_rows (program a.instance.now) a.rows.now)),
      some_side (status_at (statuses_in a.work.now) j) c.side_at.result c.side_at.ensures (sym c.is_some.ensures ∙ c.if-is_some.true),
      refl,
    ))

pub try_equation-requires-clause-inside : goal.try_equation-requires-clause-inside
try_equation-requires-clause-inside g c =
    let is = c.in-Some.ensures (with_rows (program c.args.instance.now) c.args.rows.now) in
    let low = is.inside in
    let n = length-map c.args.cuts.now cut_variable in
    let w = c.requires.width in
    omega arith

pub try_equation-requires-clause-basic : goal.try_equation-requires-clause-basic
try_equation-requires-clause-basic g c = no_side (status_at (statuses_in c.args.work.now) c.in-Some.variable) c.side_at.result c.side_at.ensures (sym c.is_some.ensures ∙ c.if-is_some.false)

pub returns-else-is_some-clause-tries : goal.returns-else-is_some-clause-tries
returns-else-is_some-clause-tries g c =
    let a = c.args in
    let j = c.in-Some.variable in
    let fractional = one_fractional a.instance.now a.rows.now a.cuts.now c.requires.uncut (point_of a.work.now) j (c.in-Some.ensures (with_rows (program a.instance.now) a.rows.now)) in
    let ran = c.requires.ran.1 in
    if_ok c.try_equation.result
    (λ trial tries. inr (inr (j, entries_in a.work.now, fractional, no_side (status_at (statuses_in a.work.now) j) c.side_at.result c.side_at.ensures (sym c.is_some.ensures ∙ c.if-is_some.false), ran.dictionary, tries)))
    c.try_equation.ensures.tries
