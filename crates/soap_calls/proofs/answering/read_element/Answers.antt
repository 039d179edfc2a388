use Rattle.std.proofs.Common.{◌++◌}
use Rattle.std.specs.Prelude.{codes}
use Rattle.soap_calls.proofs.AnswerEnvelopes.{called, not_called, no_answer}
use Rattle.soap_calls.proofs.answering.read_element.Goals as goal

pub returns-then-branch : goal.returns-then-branch
returns-then-branch c = λ e stands. c.read_fault.ensures e stands (called e.name (codes "Fault") c.in_ok-is_called.field-0 (c.in_ok-is_called.ensures e stands) c.if-branch.true)

pub returns-then-branch-2 : goal.returns-then-branch-2
returns-then-branch-2 c = λ e stands. c.read_return.ensures e stands (called e.name (c.args.name.now ++ codes "Response") c.in_ok-is_called-2.field-0 (c.in_ok-is_called-2.ensures e stands) c.if-branch-2.true)

pub returns : goal.returns
returns c = λ e stands.
    no_answer c.args.name.now e (not_called e.name (codes "Fault") c.in_ok-is_called.field-0 (c.in_ok-is_called.ensures e stands) c.if-branch.false)
    (not_called e.name (c.args.name.now ++ codes "Response") c.in_ok-is_called-2.field-0 (c.in_ok-is_called-2.ensures e stands) c.if-branch-2.false)
