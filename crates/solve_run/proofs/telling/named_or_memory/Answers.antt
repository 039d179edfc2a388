use Rattle.std.proofs.Common.{Option, List, ℕ, inl, inr, refl, subst}
use Rattle.std.proofs.lemmas.Result.{IfOk-weaker}
use Rattle.solve_run.specs.Runs.{IsMemoryDocument}
use Rattle.solve_run.proofs.telling.named_or_memory.Goals as goal

pub returns-in-Ok : goal.returns-in-Ok
returns-in-Ok c = inl (record { text = c.in-Ok.ensures; error = refl })

pub returns : goal.returns
returns c = IfOk-weaker c.memory_document.result _ _ (λ doc memory. inr (subst (λ (job : Option (List ℕ)). IsMemoryDocument job doc) c.take.ensures.value memory)) c.memory_document.ensures
