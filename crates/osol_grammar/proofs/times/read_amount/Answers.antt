use Rattle.std.proofs.Common.{inr}
use Rattle.osol_grammar.proofs.SaidTimes.{no_ratio, no_amount}
use Rattle.osol_grammar.proofs.times.read_amount.Goals as goal

pub returns-in-Ok-read_decimal : goal.returns-in-Ok-read_decimal
returns-in-Ok-read_decimal c = inr (no_ratio c.args.text.now c.in-Err.field-0 c.in-Err.ensures.err, c.in-Ok-read_decimal.ensures.ok)

pub returns-in-Err-read_decimal : goal.returns-in-Err-read_decimal
returns-in-Err-read_decimal c = no_amount c.args.text.now c.in-Err.field-0 c.in-Err-read_decimal.field-0 c.in-Err.ensures.err c.in-Err-read_decimal.ensures.err
