use Rattle.std.proofs.Common.{inl, inr, refl}
use Rattle.command_answers.proofs.Outputs.{sent, broken}
use Rattle.serving.proofs.server.begin.Goals as goal

pub returns-in_default-clause-unbegun : goal.returns-in_default-clause-unbegun
returns-in_default-clause-unbegun g c = let e = c.in_default.ensures in inl (refl, e.reached, e.links, e.counted, refl)

pub returns-in-Ok-tell_listening-clause-begun : goal.returns-in-Ok-tell_listening-clause-begun
returns-in-Ok-tell_listening-clause-begun g c = let e = c.in-Ok.ensures in (e.reached, e.links, e.counted, sent _ _ _ _ c.in-Ok-tell_listening.ensures)

pub returns-in-Err-clause-unbegun : goal.returns-in-Err-clause-unbegun
returns-in-Err-clause-unbegun g c = let e = c.in-Ok.ensures in inr (refl, e.reached, e.links, e.counted, broken _ _ _ _ c.in-Err.ensures)
