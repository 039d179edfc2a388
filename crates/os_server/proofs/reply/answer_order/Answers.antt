use Rattle.std.proofs.Common.{◌≡◌, ℕ, Some, refl, subst}
use Rattle.os_server.specs.Answers.{said_by, reply_of}
use Rattle.os_server.proofs.reply.answer_order.Goals as goal

pub returns-in-Ok-say : goal.returns-in-Ok-say
returns-in-Ok-say g c =
    let does = c.in-Ok.ensures.ok in
    let last = reply_of c.in-Ok.last in (
      does.0,
      does.1,
      (refl, last, does.2, subst (λ (n : ℕ). said_by c.args.order.kind n last ≡ Some c.in-Ok-say.said) c.number_for-number.ensures c.in-Ok-say.ensures, c.works_after-as_worker.ensures),
    )
