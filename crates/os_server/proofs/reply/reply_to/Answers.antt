use Rattle.std.proofs.Common.{[], refl, subst}
use Rattle.os_server.specs.declared.fault.OrderFault.{OrderFault}
use Rattle.os_server.specs.Orders.{AsksNothing}
use Rattle.os_server.proofs.Replies.{replied, refused}
use Rattle.os_server.proofs.reply.reply_to.Goals as goal

pub returns-in-Ok : goal.returns-in-Ok
returns-in-Ok g c = λ bytes taken.
    let ordered = c.answer_order.ensures in
    (ordered.0, ordered.1, replied g.S.Runner.ran g.S.Server.wakes bytes c.in-Ok.order c.args.close ordered.0 c.answer_order.result (c.in-Ok.ensures.ok bytes taken) ordered.2)

pub returns-in-Ok-said_fault : goal.returns-in-Ok-said_fault
returns-in-Ok-said_fault g c = λ bytes taken. (
  [],
  g.met.C.Mover.stays c.args.mover.now,
  refused g.S.Runner.ran g.S.Server.wakes bytes c.args.close c.in-Err-Fault.field-0 c.in-Err-Fault.code c.in-Err-Fault.text c.as_slice.result.now
      c.in-Ok-said_fault.said c.in-Err-Fault.field-0-is c.as_slice.ensures (c.in-Err-Fault.ensures.err bytes taken) c.in-Ok-said_fault.ensures,
)

pub returns-in-Err-Envelope : goal.returns-in-Err-Envelope
returns-in-Err-Envelope g c = λ bytes taken.
    ([], g.met.C.Mover.stays c.args.mover.now, (subst (λ (n : OrderFault). AsksNothing bytes n) c.in-Err-Envelope.field-0-is (c.in-Err-Envelope.ensures.err bytes taken), refl, refl))
