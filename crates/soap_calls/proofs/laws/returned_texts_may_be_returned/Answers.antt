use Rattle.std.proofs.Common.{List, ℕ, Option, None, Some}
use Rattle.std.specs.Prelude.{IsSomeAnd}
use Rattle.tree_grammar.specs.Elements.{Element}
use Rattle.document_tags.specs.OneChild.{only_element}
use Rattle.soap_calls.specs.declared.fault.Answer.TheVariants.{Return}
use Rattle.soap_calls.specs.Envelope.{held}
use Rattle.soap_calls.specs.Replies.{MayReturn, IsReturnedText, IsAnswer}
use Rattle.soap_calls.proofs.laws.returned_texts_may_be_returned.Goals as goal

value_may : (o : Option Element) (name text : List ℕ) → IsSomeAnd o (λ v. IsReturnedText name v text) → MayReturn name text
value_may None name text v = absurd v
value_may (Some e) name text v = v.may

answer_may : (o : Option Element) (name text : List ℕ) → IsSomeAnd o (λ e. IsAnswer name e (Return text)) → MayReturn name text
answer_may None name text a = absurd a
answer_may (Some e) name text a = value_may (only_element e) name text a.1

pub returns : goal.returns
returns c name bytes text said = answer_may (held said.root) name text said.is
