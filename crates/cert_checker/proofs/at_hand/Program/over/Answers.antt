use Rattle.std.proofs.Common.{List, map, sym, ap, ◌∙◌}
use Rattle.evidence.specs.Instance as Of
use Rattle.cert_checker.specs.Programs.{at_hand}
use Rattle.cert_checker.specs.Columns.{ends}
use Rattle.cert_checker.proofs.HandRows.{hand-instance}
use Rattle.cert_checker.proofs.PartedCases.{over_length, over_all, ends-instance}
use Rattle.cert_checker.proofs.at_hand.Program.over.Goals as goal

pub returns-clause-value : goal.returns-clause-value
returns-clause-value c =
    let s = c.self.inside in
    let J = at_hand s.instance.now s.added.now s.goal.now in
    ap (λ (l : List Of.Range). let I : Of.Instance = record J { rows = l } in I) (over_all c.args.cut.now J.rows (c.requires ∙ sym (ap Of.height c.self.view_is) ∙ over_length s.cut.now J.rows))
    ∙ ap (λ (I : Of.Instance). let K : Of.Instance = record I { rows = map ends c.args.cut.now } in K) c.self.view_is

pub returns-clause-numbers : goal.returns-clause-numbers
returns-clause-numbers c =
    let s = c.self.inside in
    let J = at_hand s.instance.now s.added.now s.goal.now in
    ends-instance J c.args.cut.now (hand-instance s.instance.now s.added.now s.goal.now)
