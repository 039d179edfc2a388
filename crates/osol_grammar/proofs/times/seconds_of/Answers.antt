use Rattle.std.proofs.Common.{◌∙◌, ℕ, pos, ap}
use Rattle.rational.specs.Ratio.{whole}
use Rattle.osol_grammar.proofs.SaidTimes.{too_wide, no_time, says_time}
use Rattle.osol_grammar.proofs.times.seconds_of.Goals as goal

pub returns-in_default : goal.returns-in_default
returns-in_default c = λ text is. too_wide c.args.unit text c.args.amount _ (c.whole_seconds.ensures ∙ ap (λ (n : ℕ). whole (pos n)) c.from.ensures) is c.in_default.ensures.wide

pub returns-then-is_time : goal.returns-then-is_time
returns-then-is_time c = λ text is. says_time c.args.unit text c.args.amount c.in-Ok.seconds _ (c.whole_seconds.ensures ∙ ap (λ (n : ℕ). whole (pos n)) c.from.ensures) is c.in-Ok.ensures.ok (c.is_time.ensures.yes c.if-is_time.true)

pub returns-else-is_time : goal.returns-else-is_time
returns-else-is_time c = λ text is. no_time c.args.unit text c.args.amount c.in-Ok.seconds _ (c.whole_seconds.ensures ∙ ap (λ (n : ℕ). whole (pos n)) c.from.ensures) is c.in-Ok.ensures.ok (c.is_time.ensures.no c.if-is_time.false)
