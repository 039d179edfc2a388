use Rattle.std.proofs.Common.{◌++◌, ◌+◌, cond, length, true, false, sym, subst, refl}
use Rattle.std.specs.Str.Parse.{digits_value}
use Rattle.decimal_text.specs.Decimal.{DecimalText, powered}
use Rattle.decimal_text.proofs.DecimalTexts.{decimal_leaves, decimal_made}
use Rattle.decimal_text.proofs.decimal.finite.Goals as goal

pub returns-in-Err-clause-err : goal.returns-in-Err-clause-err
returns-in-Err-clause-err c = decimal_leaves false _ _ c.requires.sign _ c.in-Err.left c.requires.parts c.requires.behind tt c.in-Err.ensures.err refl

pub returns-in-Err-clause-bound : goal.returns-in-Err-clause-bound
returns-in-Err-clause-bound c = λ f. decimal_leaves true _ _ c.requires.sign _ c.in-Err.left c.requires.parts c.requires.behind f c.in-Err.ensures.err refl

pub returns-in-Some-clause-ok : goal.returns-in-Some-clause-ok
returns-in-Some-clause-ok c =
    let p = c.in-Ok.parts in
    let v = digits_value 10 (p.before.now ++ p.after.now) in
    let e = digits_value 10 p.power.now in
    let text = subst (λ n. DecimalText c.args.core.now (powered n v (cond p.is_down 0 e) (length p.after.now + cond p.is_down e 0))) (sym c.requires.side) (decimal_made _ _ p.before.now p.after.now p.power.now p.is_down c.requires.sign c.requires.parts c.in-Ok.ensures.ok) in
    record { written = powered c.args.is_negative v (cond p.is_down 0 e) (length p.after.now + cond p.is_down e 0); read = text; fit = c.in-Some.ensures }

pub returns-in-None-clause-err : goal.returns-in-None-clause-err
returns-in-None-clause-err c =
    let p = c.in-Ok.parts in
    let v = digits_value 10 (p.before.now ++ p.after.now) in
    let e = digits_value 10 p.power.now in
    let text = subst (λ n. DecimalText c.args.core.now (powered n v (cond p.is_down 0 e) (length p.after.now + cond p.is_down e 0))) (sym c.requires.side) (decimal_made _ _ p.before.now p.after.now p.power.now p.is_down c.requires.sign c.requires.parts c.in-Ok.ensures.ok) in
    record { written = powered c.args.is_negative v (cond p.is_down 0 e) (length p.after.now + cond p.is_down e 0); read = text; unfit = c.in-None.ensures }

pub returns-in-None-clause-bound : goal.returns-in-None-clause-bound
returns-in-None-clause-bound c = λ _. returns-in-None-clause-err c
