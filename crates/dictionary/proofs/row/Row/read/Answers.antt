use Rattle.std.proofs.Common.{◌≡◌, ◌+◌, Bool, cond, arith, sym, ◌∙◌, subst}
use Rattle.dictionary.specs.Rows.{entries_at}
use Rattle.dictionary.proofs.row.Row.read.Goals as goal
use Rattle.dictionary.proofs.row.Row.read.Goals.{then-has, else-has}

pub returns-clause-cost : goal.returns-clause-cost
unfolding entries_at
returns-clause-cost g c =
    let P : Bool → Type 0 = λ b. c.if-has.steps ≡ c.args.steps.now + cond b 1 0 in
    elim c.if-has.branch [
      | then-has w ↦ subst P (sym w.if-has.true ∙ c.has.ensures) (w.steps-is ∙ w.tick.ensures)
      | else-has w ↦ subst P (sym w.if-has.false ∙ c.has.ensures) (let e = w.steps-is in omega arith)
    ]
