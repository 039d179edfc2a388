use Rattle.std.proofs.Common.{refl}
use Rattle.std.proofs.lemmas.Result.{IfOk-weaker}
use Rattle.osol_grammar.specs.Writing as writing
use Rattle.document_tags.proofs.Tellings.{told_one, told_element}
use Rattle.osol_grammar.proofs.writing.encode.Goals as goal

pub told_text-requires : goal.told_text-requires
told_text-requires c = told_one _ _ _ (writing.options_element c.args.options.now) c.new-b.ensures c.in_ok-tell_options.ensures refl

pub returns : goal.returns
returns c =
    IfOk-weaker c.told_text.result _ _ (λ text writes. writes (writing.options_element c.args.options.now) (told_element _ _ _ (writing.options_element c.args.options.now) c.new-b.ensures c.in_ok-tell_options.ensures refl)) c.told_text.ensures
