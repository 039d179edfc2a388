use Rattle.osrl_writing.proofs.Names.{◌≡◌, List, NameLists, ap, ◌∙◌, named_text}
use Rattle.std.proofs.lemmas.Result.{IfOk-weaker}
use Rattle.osrl_writing.proofs.document.encode.Goals as goal

pub returns : goal.returns
returns c = IfOk-weaker c.write_named.result _ _ (λ text is. is ∙ ap (λ (ns : NameLists). named_text ns c.args.report.now) c.none.ensures) c.write_named.ensures
