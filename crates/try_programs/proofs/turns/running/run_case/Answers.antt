use Rattle.std.proofs.Common.{◌≡◌, ◌+◌, ◌<◌, List, length, ap, arith}
use Rattle.instance.specs.declared.parts.Row.{Row}
use Rattle.instance.specs.declared.parts.Var.{Var}
use Rattle.simplex.specs.declared.cuts.Added.{Added}
use Rattle.try_programs.proofs.turns.running.run_case.Goals as goal

pub run-end-requires-clause-rows : goal.run-end-requires-clause-rows
run-end-requires-clause-rows g c =
    let d = c.args.case in
    let none : length d.cuts.rows ≡ 0 = ap (λ (rs : List Added). length rs) d.rows in
    let rows : length c.rows-height.result.now ≡ length d.instance.rows = ap (λ (rs : List Row). length rs) c.rows-height.ensures.value in
    let high = c.in_ok-work.ensures.height in
    omega arith

pub run-end-requires-clause-cuts : goal.run-end-requires-clause-cuts
run-end-requires-clause-cuts g c =
    let d = c.args.case in
    let none : length d.cuts.rows ≡ 0 = ap (λ (rs : List Added). length rs) d.rows in
    let vars : length c.vars-width.result.now ≡ length d.instance.vars = ap (λ (vs : List Var). length vs) c.vars-width.ensures.value in
    let valid = c.vars-width.ensures.valid in
    let some = valid.some_goal in
    let first = d.goal in
    record { ends = omega arith; rows = λ i l. absurd (omega arith); goal = omega arith }
