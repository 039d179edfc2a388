use Rattle.decimal_text.proofs.Values.{all_digits}
use Rattle.decimal_text.proofs.power.significand_of.Goals as goal

pub returns-clause-value : goal.returns-clause-value
returns-clause-value c =
    let first = c.significand-kept in
    let second = c.significand in
    all_digits c.args.before.now c.args.after.now first.result.0 second.result.0 first.result.1 second.result.1 first.ensures.value second.ensures.value
