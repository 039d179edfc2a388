use Rattle.std.proofs.Common.{◌≡◌, ◌^◌, ◌⊎◌, inl, inr, arith, sym, ◌∙◌, ap}
use Rattle.rational.specs.Ratio.{Ratio}
use Rattle.fraction.specs.Frac.{ratios}
use Rattle.evidence.specs.Sums.{none}
use Rattle.evidence.specs.Point.{value_at}
use Rattle.dictionary.specs.Row.{entries_of, number_in, HasColumn}
use Rattle.dictionary.specs.Rows.{numbers_of}
use Rattle.dictionary.proofs.Rows.{has_or_none}
use Rattle.dictionary.proofs.RowForms.{fraction_number, has_nonzero, has_inside, few_fractions}
use Rattle.dictionary.proofs.row.Row.spread.Goals as goal

pub spread_fractions-requires-clause-row : goal.spread_fractions-requires-clause-row
spread_fractions-requires-clause-row g c = c.requires.1.ascending c.if-self.false

pub spread_fractions-requires-clause-inside : goal.spread_fractions-requires-clause-inside
spread_fractions-requires-clause-inside g c j h =
    let row = c.args.self.now in
    let r = c.requires in
    has_inside row _ r.0 r.1 j (λ z. has_nonzero 0 (2 ^ 32) (entries_of row.fractions) j (r.1.ascending c.if-self.false) h (sym (ap (λ (v : Ratio). v.num) (fraction_number row c.if-self.false j)) ∙ z))

pub returns-else-self-clause-spread : goal.returns-else-self-clause-spread
returns-else-self-clause-spread g c j h = which (has_or_none (entries_of c.args.self.now.fractions) j)
  where
    which : HasColumn (entries_of c.args.self.now.fractions) j ⊎ (number_in (entries_of c.args.self.now.fractions) j ≡ none) → value_at (ratios c.spread_fractions.new.values) j ≡ numbers_of c.args.self.now j
    which (inl stands) = c.spread_fractions.ensures.spread j stands ∙ sym (fraction_number c.args.self.now c.if-self.false j)
    which (inr empty) = absurd (h (ap (λ (v : Ratio). v.num) (fraction_number c.args.self.now c.if-self.false j ∙ empty)))

pub returns-else-self-clause-cost : goal.returns-else-self-clause-cost
returns-else-self-clause-cost g c =
    let r = c.requires in
    let few = few_fractions c.args.self.now _ r.0 r.1 c.if-self.false in
    let cost = c.spread_fractions.ensures.cost in
    omega arith
