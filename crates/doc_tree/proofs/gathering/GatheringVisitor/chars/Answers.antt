use Rattle.doc_tree.proofs.Words.{Char, Gathers, map, subst}
use Rattle.doc_tree.proofs.TextTrees.Tellings.{text_told, text_ready, unless_wanted}
use Rattle.doc_tree.proofs.gathering.GatheringVisitor.chars.Goals as goal

pub invariant_of-self : goal.invariant_of-self
invariant_of-self c = unless_wanted c.self.inside.wanted (text_ready c.self.inside.builder c.chars.new.self _ c.in-Ok.ensures.ok) c.self.invariant

pub returns-in-Ok : goal.returns-in-Ok
returns-in-Ok c = subst (λ z. Gathers z c.chars.new.self (map Char c.args.text.now)) c.self.view_is (text_told c.self.inside.builder c.chars.new.self _ c.in-Ok.ensures.ok).says
