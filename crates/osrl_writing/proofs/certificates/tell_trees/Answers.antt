use Rattle.osrl_writing.proofs.Names.{List, ◌∷◌, ◌++◌, ◌∙◌, ap, map, codes, none, Event, Close, nodes_events, part_name, node_text, level_texts, rounds_part, certificate_part, ends_told, ok_told_as, told_then}
use Rattle.tree_grammar.specs.Elements.{Open}
use Rattle.document_tags.specs.Writing.{only}
use Rattle.osrl_writing.specs.declared.parts.Part.TheVariants.{Tree}
use Rattle.osrl_writing.proofs.ItemLists.{items_both, rounds_then}
use Rattle.osrl_writing.proofs.certificates.tell_trees.Goals as goal

pub returns : goal.returns
returns c =
    let rs = c.args.first.now.rounds in
    let xs = map node_text c.args.first.now.nodes in
    let ys = level_texts 2 c.args.later.now in
    let name = codes "otherSolutionResult" in
    ok_told_as c.close.result _ _ _ _
    (λ k. ap (λ (es : List Event). nodes_events (rounds_part rs none) (Open name (only (codes "name") (part_name Tree)) ∷ es)) (items_both xs ys (Close name ∷ k)) ∙ rounds_then rs (certificate_part Tree (xs ++ ys) none) k)
    (ends_told c.close.result _ _ _ _ _ (told_then _ _ _ _ _ (told_then _ _ _ _ _ (told_then _ _ _ _ _ (rw c.as_slice.ensures at c.in_ok-tell_rounds.ensures) c.in_ok-open_part.ensures) (rw c.as_slice-2.ensures at c.in_ok-tell_nodes.ensures)) c.in_ok-tell_levels.ensures) c.close.ensures)
