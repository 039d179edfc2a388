use Rattle.soap_calls.specs.declared.fault.Answer.TheVariants.{Return}
use Rattle.six_calls.specs.Names.{kind_text}
use Rattle.soap_calls.specs.Writing.{reply_text}
use Rattle.soap_calls.proofs.OneAnswer.{reply_answers}
use Rattle.soap_calls.proofs.BackAnswers.{return_is}
use Rattle.soap_calls.proofs.laws.returns_are_read_back.Goals as goal

pub returns-clause-read : goal.returns-clause-read
returns-clause-read c = λ k text r xml may short ok err other. reply_answers (kind_text k) (reply_text (kind_text k) text) (Return text) r (return_is k text xml may short) ok err other

pub returns-clause-says : goal.returns-clause-says
returns-clause-says c = return_is
