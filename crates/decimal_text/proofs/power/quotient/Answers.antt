use Rattle.std.proofs.Common.{◌≤◌, sym, ap, ◌∙◌, subst, rules, FitsSigned}
use Rattle.std.specs.Int.{w128}
use Rattle.std.specs.Prelude.{unsigned_abs}
use Rattle.std.proofs.lemmas.Int.{to_z-of_z}
use Rattle.rational.specs.Width.{most}
use Rattle.rational.proofs.Signs.{unsigned_abs-signed}
use Rattle.decimal_text.proofs.Quotients.{quotient_within, no_err}
use Rattle.decimal_text.proofs.power.quotient.Goals as goal

pub returns-clause-fits : goal.returns-clause-fits
returns-clause-fits c =
    let size : unsigned_abs c.signed.result ≤ most = subst (λ n. n ≤ most) (sym (ap unsigned_abs c.signed.ensures ∙ unsigned_abs-signed c.args.is_negative c.args.size)) c.requires.size in
    let n : FitsSigned w128 c.signed.result = search rules in
    let d : FitsSigned w128 c.signed-2.result = search rules in
    let wide = rw (to_z-of_z w128 c.signed.result n, to_z-of_z w128 c.signed-2.result d) at c.of.ensures.wide in
    no_err c.of.result wide (quotient_within c.signed.result c.signed-2.result c.args.denom c.signed-2.ensures size c.requires.above c.requires.denom)
