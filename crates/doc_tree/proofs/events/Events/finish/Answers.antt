use Rattle.doc_tree.proofs.Words.{ReadingFails, subst, sym, ◌∙◌}
use Rattle.doc_tree.specs.declared.fault.TreeFault.TheVariants as faults
use Rattle.doc_tree.proofs.TextTrees.Verdicts.{fed_taken, fed_refused, refused_ends}
use Rattle.doc_tree.proofs.TextTrees.Hearing.{told_whole}
use Rattle.doc_tree.proofs.events.Events.finish.Goals as goal

pub returns-in-Some-clause-refuses : goal.returns-in-Some-clause-refuses
returns-in-Some-clause-refuses g c = λ first bytes h. refused_ends c.args.self.reading.limit bytes c.in-Some.fault (fed_refused _ c.args.self.reading bytes c.in-Some.fault (sym c.refusal.ensures ∙ c.in-Some.is) h)

pub returns-then-not-is_end-clause-refuses : goal.returns-then-not-is_end-clause-refuses
returns-then-not-is_end-clause-refuses g c = λ first bytes h.
    let k = fed_taken (g.V.Visitor.had first c.args.self.visitor) c.args.self.reading bytes (sym c.refusal.ensures ∙ c.in_default.is) h in
    subst (λ z. ReadingFails c.args.self.reading.limit bytes (faults.Malformed z)) (sym c.count.ensures) (c.if-not-is_end.ensures k.told bytes k.taken)

pub returns-in-Ok-clause-visits : goal.returns-in-Ok-clause-visits
returns-in-Ok-clause-visits g c = λ first bytes h.
    let v = c.args.self.visitor in
    let w = c.hand_over.new.visitor in
    told_whole (g.V.Visitor.had first v) (g.V.Visitor.had v w) (g.V.Visitor.had first w) (λ a b x y. g.met.V.Visitor.joined first v w a b x y) c.args.self.reading bytes c.if-not-is_end.ensures c.in-Ok.ensures (fed_taken (g.V.Visitor.had first v) c.args.self.reading bytes (sym c.refusal.ensures ∙ c.in_default.is) h)
