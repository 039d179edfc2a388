use Rattle.doc_tree.proofs.Words.{List, ReadingFails, ReadsDocument, ReadsOnly, WasFed, subst, ℕ}
use Rattle.doc_tree.specs.declared.fault.TreeFault.TheVariants as faults
use Rattle.doc_tree.proofs.TextTrees.Trees.{to_heard, none, finish_reads, finish_only, finish_none}
use Rattle.doc_tree.proofs.reader.Reader.finish.Goals as goal

pub returns-in-Ok-Some-clause-reads : goal.returns-in-Ok-Some-clause-reads
returns-in-Ok-Some-clause-reads c = let e = c.self.inside.events in
    subst (λ z. (bytes : List ℕ) → WasFed z bytes → ReadsDocument z.limit bytes c.in-Ok-Some.tree) c.self.view_is (finish_reads e.reading e.visitor c.in-Ok.gathering c.in-Ok.ensures.visits c.in-Ok-Some.ensures.apart _ c.in-Ok-Some.ensures.tree c.in-Ok-Some.tree c.in-Ok-Some.field-0-is)

pub returns-in-Ok-Some-clause-only : goal.returns-in-Ok-Some-clause-only
returns-in-Ok-Some-clause-only c = let e = c.self.inside.events in
    subst (λ z. (bytes : List ℕ) → WasFed z bytes → ReadsOnly bytes c.in-Ok-Some.tree) c.self.view_is (finish_only e.reading e.visitor c.in-Ok.gathering c.in-Ok.ensures.visits c.in-Ok-Some.ensures.apart _ c.in-Ok-Some.ensures.tree c.in-Ok-Some.tree c.in-Ok-Some.field-0-is)

pub returns-in-Ok-None-clause-refuses : goal.returns-in-Ok-None-clause-refuses
returns-in-Ok-None-clause-refuses c = let e = c.self.inside.events in
    subst (λ z. (bytes : List ℕ) → WasFed z bytes → ReadingFails z.limit bytes (faults.Malformed c.count-at.result)) c.self.view_is (finish_none e.reading e.visitor c.in-Ok.gathering c.in-Ok.ensures.visits c.in-Ok-None.ensures.apart _ c.in-Ok-None.ensures.tree (faults.Malformed c.count-at.result) c.in-Ok-None.field-0-is)

pub returns-in-Err-clause-refuses : goal.returns-in-Err-clause-refuses
returns-in-Err-clause-refuses c = let e = c.self.inside.events in
    subst (λ z. (bytes : List ℕ) → WasFed z bytes → ReadingFails z.limit bytes c.in-Err.fault) c.self.view_is (λ bytes h. c.in-Err.ensures.refuses none bytes (to_heard e.reading e.visitor bytes h))
