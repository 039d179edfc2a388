use Rattle.std.proofs.Common.{refl}
use Rattle.os_client.specs.Runs.{no_link}
use Rattle.os_client.proofs.Runs.{told}
use Rattle.os_client.proofs.command.make_call.Goals as goal

pub returns-in-Ok-call_over-clause-ends : goal.returns-in-Ok-call_over-clause-ends
returns-in-Ok-call_over-clause-ends g c =
    let over = c.in-Ok-call_over.ensures in
    told _ c.in-Ok.asked (record { call_of = c.in-Ok.ensures.ok; all_read = c.in-Ok.ensures.counted }) over.0 over.1 over.2
    c.tell.result c.in-Ok-call_over.outcome over.3 c.tell.ensures.told

pub returns-in-Ok-clause-ends : goal.returns-in-Ok-clause-ends
returns-in-Ok-clause-ends g c =
    no_link refl (record {
      call = c.in-Ok.asked;
      brought = record { call_of = c.in-Ok.ensures.ok; all_read = c.in-Ok.ensures.counted };
      net = c.in-Err.ensures;
      silent = refl;
    })
