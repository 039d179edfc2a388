use Rattle.doc_tree.proofs.Words.{Finish, Gathers, [], subst, ◌∷◌}
use Rattle.doc_tree.proofs.TextTrees.Tellings.{close_told, close_ready, unless_wanted}
use Rattle.doc_tree.proofs.gathering.GatheringVisitor.close.Goals as goal

pub invariant_of-self : goal.invariant_of-self
invariant_of-self c = unless_wanted c.self.inside.wanted (close_ready c.self.inside.builder c.end.new.self _ c.in-Ok.ensures.ok) c.self.invariant

pub returns-in-Ok : goal.returns-in-Ok
returns-in-Ok c = subst (λ z. Gathers z c.end.new.self (Finish c.args.name.now ∷ [])) c.self.view_is (close_told c.self.inside.builder c.end.new.self _ c.in-Ok.ensures.ok).says
