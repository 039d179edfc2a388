use Rattle.std.proofs.Common.{inr}
use Rattle.std.proofs.lemmas.Result.{IfOk-weaker}
use Rattle.solve_run.proofs.Texts.{refusal_of}
use Rattle.solve_run.proofs.telling.refusal.Goals as goal

pub returns-in_default : goal.returns-in_default
returns-in_default c = IfOk-weaker c.memory_document.result _ _ (λ doc memory. inr memory) c.memory_document.ensures

pub returns : goal.returns
returns c = IfOk-weaker c.document_or_memory.result _ _ (λ doc told. refusal_of _ _ _ _ doc c.error_report.ensures c.in-Ok.is told) c.document_or_memory.ensures
