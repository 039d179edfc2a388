use Rattle.std.proofs.Common.{◌∙◌, ℤ, FitsSigned, w64, rules, arith, sym, ap}
use Rattle.std.specs.Prelude.{unsigned_abs}
use Rattle.std.proofs.lemmas.Int.{to_z-of_z}
use Rattle.dictionary.specs.Lowest.{lowest}
use Rattle.dictionary.proofs.RowForms.{common_number, fraction_number, few_fractions, mark_cost}
use Rattle.dictionary.proofs.row.Row.value.Goals as goal

pub returns-then-self-clause-value : goal.returns-then-self-clause-value
returns-then-self-clause-value g c =
    let row = c.args.self.now in
    let fits : FitsSigned w64 c.read.result = search rules in
    let above : FitsSigned w64 row.denom = search rules in
    let told = simp to_z-of_z at c.quotient.ensures in
    told ∙ ap (λ (n : ℤ). lowest n (unsigned_abs row.denom)) c.read.ensures.number ∙ sym (common_number row c.if-self.true c.args.col)

pub returns-then-self-clause-cost : goal.returns-then-self-clause-cost
returns-then-self-clause-cost g c k n b is few =
    let one = mark_cost c.args.self.now k n is c.args.col b few in
    let cost = c.read.ensures.cost in
    omega arith

pub returns-clause-value : goal.returns-clause-value
returns-clause-value g c = c.number_at.ensures.number ∙ sym (fraction_number c.args.self.now c.if-self.false c.args.col)

pub returns-clause-cost : goal.returns-clause-cost
returns-clause-cost g c k n b is few =
    let row = c.args.self.now in
    let short = few_fractions row k n is c.if-self.false in
    c.number_at.ensures.cost b (omega arith)
