use Rattle.std.proofs.Common.{ℕ, ◌+◌, ◌≤◌, length, get_or, arith, sym, ◌∙◌, ap, subst}
use Rattle.rational.specs.Ratio.{Ratio}
use Rattle.dictionary.specs.Rows.{IsRow}
use Rattle.dictionary.specs.Scratch.{found_at}
use Rattle.dictionary.specs.Steps.{nonzeros}
use Rattle.dictionary.proofs.PivotRows.{row_there, rows_set, set_numbers, other_numbers}
use Rattle.dictionary.proofs.ProgramRows.{entries_past}
use Rattle.dictionary.proofs.SetRows.{few_before, begins_own}
use Rattle.dictionary.proofs.loading.set_entries.Goals as goal

pub gather-requires-clause-columns : goal.gather-requires-clause-columns
gather-requires-clause-columns g c = let (m, n, inside, wide, rows) = c.requires.rows in (m, n, inside, wide)

pub gather-requires-clause-begun : goal.gather-requires-clause-begun
gather-requires-clause-begun g c = begins_own c.args.list.now c.args.r c.requires.own

pub settle-requires-clause-row : goal.settle-requires-clause-row
settle-requires-clause-row g c =
    let (m, n, inside, wide, rows) = c.requires.rows in
    let k = c.gather.ensures.count in (
      n,
      subst (λ j. IsRow j n (get_or c.args.rows.now c.args.r c.index-rows-r.result)) (sym k) (row_there _ n c.args.rows.now rows c.args.r c.index-rows-r.result c.requires.r),
      subst (λ j. nonzeros j (found_at c.gather.new.scratch) ≤ n) (sym k)
          (few_before (length c.args.scratch.now.values.items) n (found_at c.gather.new.scratch) (omega arith) (λ j l. ap (λ (v : Ratio). v.num) (c.gather.ensures.is j ∙ entries_past c.args.list.now m n inside c.args.r j l))),
    )

pub returns-clause-rows : goal.returns-clause-rows
returns-clause-rows g c = λ n are.
    let k = c.gather.ensures.count in
    let was = row_there _ n c.args.rows.now are c.args.r c.index-rows-r.result c.requires.r in
    rows_set _ n c.args.rows.now are c.args.r c.settle.new.row (subst (λ j. IsRow j n c.settle.new.row) k (c.settle.ensures.row n (subst (λ j. IsRow j n (get_or c.args.rows.now c.args.r c.index-rows-r.result)) (sym k) was)))

pub returns-clause-own : goal.returns-clause-own
returns-clause-own g c j = ap (λ (f : ℕ → Ratio). f j) (set_numbers c.args.rows.now c.args.r c.settle.new.row c.requires.r) ∙ c.settle.ensures.is j ∙ c.gather.ensures.is j

pub returns-clause-others : goal.returns-clause-others
returns-clause-others g c k j d = ap (λ (f : ℕ → Ratio). f j) (other_numbers c.args.rows.now c.args.r k c.settle.new.row d)

pub returns-clause-count : goal.returns-clause-count
returns-clause-count g c = c.gather.ensures.count

pub returns-clause-cost : goal.returns-clause-cost
returns-clause-cost g c =
    let b = subst (λ m. c.settle.new.steps ≤ c.args.steps.now + nonzeros m (found_at c.gather.new.scratch)) c.gather.ensures.count c.settle.ensures.cost in
    let f = c.gather.ensures.few in
    let e = c.gather.ensures.ended in
    let w = e.within in
    omega arith
