use Rattle.osrl_writing.proofs.Names.{refl, IfOk-weaker, named_element}
use Rattle.document_tags.specs.Telling.{whole_element}
use Rattle.document_tags.proofs.Tellings.{told_element, told_one}
use Rattle.osrl_writing.proofs.document.write_named.Goals as goal

pub told_text-requires : goal.told_text-requires
told_text-requires c = told_one _ _ (whole_element (named_element c.args.names.now c.args.report.now)) (named_element c.args.names.now c.args.report.now) c.new-b.ensures c.in_ok-tell_report.ensures refl

pub returns : goal.returns
returns c =
    IfOk-weaker c.told_text.result _ _ (λ text writes. writes (named_element c.args.names.now c.args.report.now) (told_element _ _ (whole_element (named_element c.args.names.now c.args.report.now)) (named_element c.args.names.now c.args.report.now) c.new-b.ensures c.in_ok-tell_report.ensures refl)) c.told_text.ensures
