use Rattle.std.proofs.Common.{◌∙◌, sym}
use Rattle.soap_calls.proofs.AnswerEnvelopes.{no_code, no_text}
use Rattle.soap_calls.proofs.answering.read_fault.Goals as goal

pub returns-in_default : goal.returns-in_default
returns-in_default c = λ e stands named. no_code c.args.name.now e named (sym c.in_default.is ∙ c.in_ok-code.ensures e stands)

pub returns-in_default-2 : goal.returns-in_default-2
returns-in_default-2 c = λ e stands named. no_text c.args.name.now e named (sym c.in_default-2.is ∙ c.in_ok-text.ensures e stands)

pub returns : goal.returns
returns c = λ e stands named. (named, sym (c.in_ok-code.ensures e stands) ∙ c.in-Some.is, sym (c.in_ok-text.ensures e stands) ∙ c.in-Some-2.is)
