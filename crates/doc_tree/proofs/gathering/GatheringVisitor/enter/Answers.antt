use Rattle.doc_tree.proofs.Words.{Gathers, Open, Start, [], ap, said, spread, subst, ◌∙◌, ◌∷◌}
use Rattle.doc_tree.proofs.TextTrees.Tellings.{open_ready, spread_more, unless_wanted}
use Rattle.doc_tree.proofs.gathering.GatheringVisitor.enter.Goals as goal

pub invariant_of-self : goal.invariant_of-self
invariant_of-self c = unless_wanted c.self.inside.wanted (open_ready c.self.inside.builder c.begin.new.builder _ _ c.in-Ok.ensures) c.self.invariant

pub returns-in-Ok : goal.returns-in-Ok
returns-in-Ok c = subst (λ z. Gathers z c.begin.new.builder (Start c.args.name.now c.args.attributes.now ∷ [])) c.self.view_is (ap (λ z. spread (said z)) c.in-Ok.ensures ∙ spread_more (said c.self.inside.builder) (Open c.args.name.now c.args.attributes.now ∷ []))
