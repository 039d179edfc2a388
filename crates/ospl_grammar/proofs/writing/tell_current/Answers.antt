use Rattle.std.proofs.Common.{ℕ, subst}
use Rattle.std.specs.Prelude.{OnOk, codes}
use Rattle.tree_grammar.specs.Elements.{none, nodes_events}
use Rattle.document_tags.specs.Telling.{Told}
use Rattle.ospl_grammar.specs.Writing.{number_leaf}
use Rattle.ospl_grammar.proofs.writing.tell_current.Goals as goal

pub returns : goal.returns
returns c = subst (λ (n : ℕ). OnOk c.tell_number.result (Told c.args.b.now c.tell_number.new.b (λ k. nodes_events (number_leaf (codes "currentJobCount") n none) k))) c.from.ensures c.tell_number.ensures
