use Rattle.std.proofs.Common.{Option, List, ℕ, inr, subst}
use Rattle.std.proofs.lemmas.Result.{IfOk-weaker}
use Rattle.solve_run.specs.Runs.{IsMemoryDocument}
use Rattle.solve_run.proofs.telling.noted_or_memory.Goals as goal

pub returns-in_default-encode : goal.returns-in_default-encode
returns-in_default-encode c = IfOk-weaker c.memory_document.result _ _ (λ doc memory. inr (subst (λ (job : Option (List ℕ)). IsMemoryDocument job doc) c.take.ensures.value memory)) c.memory_document.ensures
