use Rattle.doc_tree.proofs.Words.{Walks, ap, arith, local_part, refl, subst, sym, view, ◌++◌, ◌∙◌, ◌∷◌}
use Rattle.doc_tree.proofs.MachineSteps.{reverse_push}
use Rattle.doc_tree.proofs.Walking.Pieces.{end_taken, end_same}
use Rattle.doc_tree.proofs.Walking.Steps.{end_walks}
use Rattle.doc_tree.proofs.machine.Machine.end_walk.Goals as goal

pub returns-in_ok-close-in-Some-clause-walks : goal.returns-in_ok-close-in-Some-clause-walks
returns-in_ok-close-in-Some-clause-walks c =
    let s = view c.args.self.now in
    let new = view c.element_over.new.self in
    let name = c.in-Some.name.items in
    let t = c.if-not-is_end_tag.ensures refl in
    let open_now = reverse_push (λ v. v.items) c.args.self.now.names.items c.pop.new.self.items _ c.in-Some.ensures.items in
    let same = end_same name t.name s.names t.outer _ t.innermost open_now in
    let len = c.len-length.ensures in let ok = c.in-Some.name.ok in
    let text = end_taken c.len-length.result name c.args.rest.now t.closed.0 (omega arith) (t.closed.1 ∙ ap (λ z. z ++ (62 ∷ t.closed.0)) same) in
    subst (λ z. Walks s z new) (sym text) (end_walks s name _ _ _ new c.requires.place c.requires.good open_now (λ z. t.some (same ∙ z)) (c.local_part.ensures ∙ ap local_part c.as_slice.ensures.value) c.in_ok-close-in-Some.ensures.says c.element_over.ensures)
