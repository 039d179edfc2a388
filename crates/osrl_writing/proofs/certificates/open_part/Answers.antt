use Rattle.osrl_writing.proofs.Names.{List, ℕ, subst, OnOk, codes}
use Rattle.document_tags.specs.Telling.{Told, opening}
use Rattle.document_tags.specs.Writing.{only}
use Rattle.osrl_writing.proofs.certificates.open_part.Goals as goal

pub returns : goal.returns
returns c =
    subst (λ (name : List ℕ). OnOk c.open_with.result (Told c.args.b.now c.open_with.new.b (opening (codes "otherSolutionResult") (only (codes "name") name)))) c.part_name.ensures c.open_with.ensures
