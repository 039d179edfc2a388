use Rattle.std.proofs.Common.{refl}
use Rattle.std.proofs.lemmas.Result.{IfOk-weaker}
use Rattle.document_tags.proofs.Tellings.{told_one, told_element}
use Rattle.ospl_grammar.specs.Writing.{process_element}
use Rattle.ospl_grammar.proofs.writing.encode.Goals as goal

pub told_text-requires : goal.told_text-requires
told_text-requires c = told_one _ _ _ (process_element c.args.process.now) c.new-b.ensures c.in_ok-tell_process.ensures refl

pub returns : goal.returns
returns c =
    IfOk-weaker c.told_text.result _ _ (λ text writes. writes (process_element c.args.process.now) (told_element _ _ _ (process_element c.args.process.now) c.new-b.ensures c.in_ok-tell_process.ensures refl)) c.told_text.ensures
