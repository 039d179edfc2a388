use Rattle.std.proofs.Common.{◌++◌, refl}
use Rattle.tree_grammar.proofs.XmlTexts.{text_append}
use Rattle.document_tags.proofs.PrintableTexts.{fixed_text}
use Rattle.std.specs.Prelude.{codes}
use Rattle.soap_calls.specs.declared.fault.Answer.TheVariants.{Fault}
use Rattle.soap_calls.specs.Writing.{fault_text}
use Rattle.soap_calls.proofs.OneAnswer.{reply_answers}
use Rattle.soap_calls.proofs.BackAnswers.{fault_is}
use Rattle.soap_calls.proofs.laws.faults_are_read_back.Goals as goal

pub returns-clause-read : goal.returns-clause-read
returns-clause-read c = λ name code text r xml xml_text short ok err other. reply_answers name (fault_text code text) (Fault (codes "soap:" ++ code) text) r (fault_is name code text (text_append (codes "soap:") code (fixed_text (codes "soap:") refl) xml) xml_text short) ok err other

pub returns-clause-says : goal.returns-clause-says
returns-clause-says c = λ name code text xml xml_text short. fault_is name code text (text_append (codes "soap:") code (fixed_text (codes "soap:") refl) xml) xml_text short
