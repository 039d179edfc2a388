use Rattle.std.proofs.Common.{◌<◌, ◌++◌, ◌∷◌, length, cond, refl, sym, ap, subst, ◌∙◌, arith, inl, inr}
use Rattle.std.proofs.lemmas.Bool.{eqb-true, eqb-false}
use Rattle.std.specs.Str.Parse.{digits_value}
use Rattle.decimal_text.specs.Sign.{sign_text}
use Rattle.decimal_text.specs.Head.{IsBehind}
use Rattle.decimal_text.specs.Decimal.{power}
use Rattle.decimal_text.proofs.CountTexts.{no_more}
use Rattle.decimal_text.proofs.parts.split_power.Goals as goal
use Rattle.decimal_text.proofs.parts.split_power.Goals.{then-is_empty-2-via-then-is_empty-2, then-is_empty-2-via-else-is_empty-2+then-not-is_empty}

pub returns-in_default-clause-err : goal.returns-in_default-clause-err
returns-in_default-clause-err c =
    let none = c.in_default.ensures in
    inl (record { present = omega (arith, eqb-false (length c.args.text.now) 0 (sym c.if-is_empty.ensures)); small = none.0; capital = none.1; all = refl })

pub returns-then-is_empty-2-clause-err : goal.returns-then-is_empty-2-clause-err
returns-then-is_empty-2-clause-err c =
    let ds = c.split_digits.result.0.now in
    let rest = c.split_digits.result.1.now in
    let split = c.split_digits.ensures in
    let sign = c.split_sign-is_down.ensures in
    let letter = c.in-Some.ensures in
    let more = elim c.then-is_empty-2.branch as (λ _. 0 < length ds → 0 < length rest) [
      | then-is_empty-2-via-then-is_empty-2 w ↦ λ h. absurd (omega (arith, eqb-true (length ds) 0 (sym w.if-is_empty-2.ensures)))
      | then-is_empty-2-via-else-is_empty-2+then-not-is_empty w ↦ λ h. omega (arith, eqb-false (length rest) 0 (sym w.if-not-is_empty.ensures))
    ] in
    inr (record {
      is_capital = letter.0;
      sign = sign.sign;
      digits = ds;
      rest = rest;
      parts = letter.1 ∙ ap (λ x. (cond letter.0 69 101) ∷ x) (sign.parts ∙ ap (λ x. sign_text sign.sign ++ x) split.parts);
      behind = subst (λ x. IsBehind sign.sign x) split.parts sign.behind;
      are_digits = split.digits;
      ends = split.all;
      more = more;
      all = refl;
    })

pub returns-clause-ok : goal.returns-clause-ok
returns-clause-ok c =
    let ds = c.split_digits.result.0.now in
    let rest = c.split_digits.result.1.now in
    let split = c.split_digits.ensures in
    let sign = c.split_sign-is_down.ensures in
    let letter = c.in-Some.ensures in
    record {
      exponent = power letter.0 sign.sign ds;
      parts = letter.1 ∙ ap (λ x. (cond letter.0 69 101) ∷ x) (sign.parts ∙ ap (λ x. sign_text sign.sign ++ x) (split.parts ∙ no_more ds rest (eqb-true (length rest) 0 (sym c.if-not-is_empty.ensures))));
      powers = (omega (arith, eqb-false (length ds) 0 (sym c.if-is_empty-2.ensures)), split.digits);
      rise = ap (λ b. cond b 0 (digits_value 10 ds)) (sym sign.side);
      fall = ap (λ b. cond b (digits_value 10 ds) 0) (sym sign.side);
      digits = split.digits;
    }
