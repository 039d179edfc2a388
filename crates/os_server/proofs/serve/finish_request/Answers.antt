use Rattle.std.proofs.Common.{[], Result, refl, sym, subst, inl, inr}
use Rattle.os_server.specs.declared.reply.HttpReply.{HttpReply}
use Rattle.os_server.specs.declared.serve.Served.{Served}
use Rattle.os_server.specs.declared.serve.Served.TheVariants.{WriteFault}
use Rattle.os_server.specs.Serving.{IsFinished}
use Rattle.std.specs.Prelude.{Some}
use Rattle.os_server.proofs.serve.finish_request.Goals as goal

pub returns-in-Ok-send_reply : goal.returns-in-Ok-send_reply
returns-in-Ok-send_reply g c =
    let follows = c.follow.ensures in (
      follows.0,
      follows.1,
      subst (λ (a : Result HttpReply Served). IsFinished g.S.Runner.ran g.S.Server.wakes a follows.0 c.follow.result (g.O.Stream.tells c.args.output.now) (g.O.Stream.tells c.send_reply.new.sink))
          (sym c.in-Ok.is) (inl (c.in-Ok-send_reply.field-0, c.in-Ok-send_reply.ensures, follows.2)),
    )

pub returns-in-Ok : goal.returns-in-Ok
returns-in-Ok g c = (
  [],
  g.met.C.Mover.stays c.args.mover.now,
  subst (λ (a : Result HttpReply Served). IsFinished g.S.Runner.ran g.S.Server.wakes a [] (Some WriteFault) (g.O.Stream.tells c.args.output.now) (g.O.Stream.tells c.send_reply.new.sink))
      (sym c.in-Ok.is) (inr (c.in-Err-send_reply.field-0, c.in-Err-send_reply.ensures, refl, refl)),
)
