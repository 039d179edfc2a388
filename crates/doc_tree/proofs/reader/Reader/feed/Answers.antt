use Rattle.doc_tree.proofs.Words.{List, WasFed, subst, whole, ℕ, ◌++◌}
use Rattle.doc_tree.proofs.TextTrees.Trees.{of_heard, to_heard, none}
use Rattle.doc_tree.proofs.reader.Reader.feed.Goals as goal

pub returns-clause-fed : goal.returns-clause-fed
returns-clause-fed c =
    let old = c.self.inside.events in
    let new = c.feed.new.self in
    subst (λ z. (bytes : List ℕ) → WasFed z bytes → WasFed (whole new.reading new.visitor) (bytes ++ c.args.piece.now)) c.self.view_is (λ bytes h. of_heard new.reading new.visitor _ (c.feed.ensures.fed none bytes (to_heard old.reading old.visitor bytes h)))
