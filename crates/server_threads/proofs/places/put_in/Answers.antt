use Rattle.std.proofs.Common.{arith}
use Rattle.server_threads.proofs.Rounds.{taken_put}
use Rattle.server_threads.proofs.places.put_in.Goals as goal

pub returns-clause-put : goal.returns-clause-put
returns-clause-put g c =
    let long = c.args.places.now.ok.0 in
    let within = c.requires.within in
    taken_put c.args.places.now.items c.args.at c.args.one (omega arith) c.requires.free
