use Rattle.std.proofs.Common.{◌∙◌, sym, subst, ◌++◌}
use Rattle.std.specs.Prelude.{codes}
use Rattle.soap_calls.specs.Replies.{MayReturn}
use Rattle.document_tags.proofs.OneAnswer.{refused}
use Rattle.soap_calls.proofs.AnswerEnvelopes.{called, not_called, not_plain, same_plain}
use Rattle.soap_calls.proofs.answering.read_value.Goals as goal

pub returns-then-not-branch : goal.returns-then-not-branch
returns-then-not-branch c = λ e stands text says. not_called e.name (c.args.name.now ++ codes "Return") c.in_ok-is_called.field-0 (c.in_ok-is_called.ensures e stands) c.if-not-branch.true says.named

pub returns-in_default : goal.returns-in_default
returns-in_default c = λ e stands. not_plain c.args.name.now e (sym (c.in_ok-text.ensures e stands) ∙ c.in_default.is)

pub returns-then-may_return : goal.returns-then-may_return
returns-then-may_return c = λ e stands. record {
  named = called e.name (c.args.name.now ++ codes "Return") c.in_ok-is_called.field-0 (c.in_ok-is_called.ensures e stands) c.if-not-branch.false;
  plain = sym (c.in_ok-text.ensures e stands) ∙ c.in-Some.is;
  may = subst (MayReturn c.args.name.now) c.as_slice.ensures (c.may_return.ensures.0 c.if-may_return.true);
}

pub returns-else-may_return : goal.returns-else-may_return
returns-else-may_return c = λ e stands text says.
    refused c.may_return.result (MayReturn c.args.name.now c.as_slice.result.now) c.may_return.ensures c.if-may_return.false
    (subst (MayReturn c.args.name.now) (same_plain c.args.name.now e c.in-Some.text text (sym (c.in_ok-text.ensures e stands) ∙ c.in-Some.is) says ∙ sym c.as_slice.ensures) says.may)
