use Rattle.osrl_writing.proofs.Names.{OnOk, List, ℕ, subst, arith, name_attribute}
use Rattle.std.specs.Prelude.{Option, None}
use Rattle.std.proofs.lemmas.List.{get_or_past, get_or_read}
use Rattle.document_tags.specs.Telling.{ToldAttributes}
use Rattle.osrl_writing.proofs.NamedTexts.{none_told}
use Rattle.osrl_writing.proofs.values.tell_name_at.Goals as goal

pub returns-then-at-names : goal.returns-then-at-names
returns-then-at-names c = none_told _ _ (get_or_past c.args.names.now c.args.at None c.if-at-names.true)

pub returns : goal.returns
returns c =
    subst (λ (own : Option (List ℕ)). OnOk c.tell_name.result (ToldAttributes c.args.b.now c.tell_name.new.b (name_attribute own)))
    (get_or_read c.args.names.now c.args.at c.index-names-at.result c.if-at-names.false c.index-names-at.is None) c.tell_name.ensures
