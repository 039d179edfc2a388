use Rattle.std.proofs.Common.{map, ap, sym, ◌∙◌, subst}
use Rattle.evidence.specs.Instance as Of
use Rattle.instance.specs.Program.{variable, program}
use Rattle.cert_checker.specs.Programs.{at_hand}
use Rattle.cert_checker.proofs.PartedCases.{ends-instance}
use Rattle.cert_checker.proofs.HandRows.{rows_variables, hand-instance}
use Rattle.cert_checker.proofs.at_hand.Program.vars.Goals as goal

pub returns-clause-value : goal.returns-clause-value
returns-clause-value c =
    let s = c.self.inside in
    ap (map variable) c.vars.ensures.value ∙ sym (rows_variables (program s.instance.now) s.added.now) ∙ ap (λ (I : Of.Instance). I.variables) c.self.view_is

pub returns-clause-numbers : goal.returns-clause-numbers
returns-clause-numbers c = let s = c.self.inside in subst Of.IsInstance c.self.view_is (ends-instance (at_hand s.instance.now s.added.now s.goal.now) s.cut.now (hand-instance s.instance.now s.added.now s.goal.now))
