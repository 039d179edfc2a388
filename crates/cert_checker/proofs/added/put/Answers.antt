use Rattle.std.proofs.Common.{arith, ap, ◌∙◌}
use Rattle.std.proofs.lemmas.List.{with_items_is}
use Rattle.fraction.specs.Frac.{ratios}
use Rattle.evidence.specs.Point.{value_at}
use Rattle.cert_checker.proofs.added.put.Goals as goal

pub returns-clause-row : goal.returns-clause-row
returns-clause-row c = λ n f h row j g.
    let t = row.number j g in
    let is = with_items_is c.args.row.now.coefficients c.fill.new.numbers (c.fill.auto.numbers ∙ c.as_mut_slice.ensures.len) in
    ap (λ l. value_at (ratios l) j) is ∙ c.fill.ensures j t.0 (omega arith) t.1 ∙ t.2
