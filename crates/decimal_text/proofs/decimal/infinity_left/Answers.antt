use Rattle.std.proofs.Common.{◌∷◌, [], length, ap, sym, ◌∙◌, refl, inr, arith}
use Rattle.std.proofs.lemmas.Bool.{eqb-false}
use Rattle.decimal_text.proofs.Splits.{strip_some}
use Rattle.decimal_text.proofs.decimal.infinity_left.Goals as goal

pub returns-else-is_empty : goal.returns-else-is_empty
returns-else-is_empty c =
    let second = c.strip-has_second in
    let third = c.strip-has_third in
    let a = strip_some 78 second.result.0 _ second.result.1.now second.ensures.parts c.if-not-has_second.false in
    let b = strip_some 70 third.result.0 _ third.result.1.now third.ensures.parts c.if-not-has_third.false in
    record {
      read = 78 ∷ 70 ∷ [];
      rest = third.result.1.now;
      parts = a ∙ ap (λ x. 78 ∷ x) b;
      stop = inr (inr (refl, omega (arith, eqb-false (length third.result.1.now) 0 (sym c.if-is_empty.ensures))));
      all = refl;
    }
