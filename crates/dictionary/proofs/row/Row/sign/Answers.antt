use Rattle.std.proofs.Common.{◌∙◌, ℤ, pos, FitsSigned, w64, rules, arith, sym, ap}
use mir.Syntax.{w128}
use Rattle.std.specs.Prelude.{unsigned_abs, int_lt, slice_index_or}
use Rattle.std.proofs.lemmas.Int.{to_z-of_z}
use Rattle.rational.specs.Ratio.{Ratio}
use Rattle.dictionary.proofs.RowForms.{common_number, fraction_number, few_fractions, mark_cost, lowest_alike, sized_above}
use Rattle.dictionary.proofs.row.Row.sign.Goals as goal

pub returns-then-self-clause-above : goal.returns-then-self-clause-above
returns-then-self-clause-above g c =
    let row = c.args.self.now in
    let n : ℤ = slice_index_or row.numers.items c.args.col (pos 0) in
    let alike = lowest_alike n (unsigned_abs row.denom) (sized_above row.denom row.above) in
    let fits : FitsSigned w64 c.read.result = search rules in
    simp to_z-of_z (ap (λ (z : ℤ). int_lt (pos 0) z) c.read.ensures.number ∙ sym alike.up ∙ ap (λ (x : Ratio). int_lt (pos 0) x.num) (sym (common_number row c.if-self.true c.args.col)))

pub returns-then-self-clause-below : goal.returns-then-self-clause-below
returns-then-self-clause-below g c =
    let row = c.args.self.now in
    let n : ℤ = slice_index_or row.numers.items c.args.col (pos 0) in
    let alike = lowest_alike n (unsigned_abs row.denom) (sized_above row.denom row.above) in
    let fits : FitsSigned w64 c.read.result = search rules in
    simp to_z-of_z (ap (λ (z : ℤ). int_lt z (pos 0)) c.read.ensures.number ∙ sym alike.down ∙ ap (λ (x : Ratio). int_lt x.num (pos 0)) (sym (common_number row c.if-self.true c.args.col)))

pub returns-then-self-clause-cost : goal.returns-then-self-clause-cost
returns-then-self-clause-cost g c k n b is few =
    let one = mark_cost c.args.self.now k n is c.args.col b few in
    let cost = c.read.ensures.cost in
    omega arith

pub returns-clause-above : goal.returns-clause-above
returns-clause-above g c =
    let fits : FitsSigned w128 c.number_at-value.result.numer = search rules in
    let told = simp to_z-of_z at c.sign_of.ensures.above in
    let small : FitsSigned w64 c.sign_of.result = search rules in
    simp to_z-of_z (told ∙ ap (λ (x : Ratio). int_lt (pos 0) x.num) (c.number_at-value.ensures.number ∙ sym (fraction_number c.args.self.now c.if-self.false c.args.col)))

pub returns-clause-below : goal.returns-clause-below
returns-clause-below g c =
    let fits : FitsSigned w128 c.number_at-value.result.numer = search rules in
    let told = simp to_z-of_z at c.sign_of.ensures.below in
    let small : FitsSigned w64 c.sign_of.result = search rules in
    simp to_z-of_z (told ∙ ap (λ (x : Ratio). int_lt x.num (pos 0)) (c.number_at-value.ensures.number ∙ sym (fraction_number c.args.self.now c.if-self.false c.args.col)))

pub returns-clause-cost : goal.returns-clause-cost
returns-clause-cost g c k n b is few =
    let row = c.args.self.now in
    let short = few_fractions row k n is c.if-self.false in
    c.number_at-value.ensures.cost b (omega arith)
