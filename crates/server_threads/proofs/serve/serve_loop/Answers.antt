use Rattle.std.proofs.Common.{[], refl}
use Rattle.server_threads.proofs.Rounds.{serves_none}
use Rattle.server_threads.proofs.serve.serve_loop.Goals as goal

pub returns-in_default-clause-served : goal.returns-in_default-clause-served
returns-in_default-clause-served g c = ([], serves_none _ _ _ _ _, (refl, refl))
