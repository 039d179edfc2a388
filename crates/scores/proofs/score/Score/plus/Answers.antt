use Rattle.std.proofs.Common.{subst}
use Rattle.rational.specs.Ratio.{Ratio, sum}
use Rattle.evidence.proofs.Numbers.{sum_swap}
use Rattle.scores.specs.declared.score.Score.{Score}
use Rattle.scores.specs.Scores.{number, IsLeading}
use Rattle.scores.proofs.Parts.{sum_leads}
use Rattle.scores.proofs.score.Score.plus.Goals as goal

turned : (a b s : Score) → IsLeading (sum (number b) (number a)) s → IsLeading (sum (number a) (number b)) s
turned a b s h = subst (λ (x : Ratio). IsLeading x s) (sum_swap (number b) (number a)) h

pub returns-then-other-eq0-clause-leading : goal.returns-then-other-eq0-clause-leading
returns-then-other-eq0-clause-leading c = sum_leads c.args.self c.requires.cut c.args.other.digits c.args.other.power c.if-other-eq0.true

pub returns-then-self-eq0-clause-leading : goal.returns-then-self-eq0-clause-leading
returns-then-self-eq0-clause-leading c =
    turned c.args.self c.args.other c.args.other (sum_leads c.args.other c.requires.by_cut c.args.self.digits c.args.self.power c.if-self-eq0.true)

pub returns-then-self-other-clause-leading : goal.returns-then-self-other-clause-leading
returns-then-self-other-clause-leading c = turned c.args.self c.args.other c.plus_lower.result c.plus_lower.ensures.leading
