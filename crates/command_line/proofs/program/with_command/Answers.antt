use Rattle.std.proofs.Common.{◌∙◌, ap}
use Rattle.std.proofs.lemmas.Result.{IfOk-weaker}
use Rattle.clap.specs.Words.{app_of, with_subcommand}
use Rattle.command_line.proofs.program.with_command.Goals as goal

pub returns : goal.returns
returns c =
    IfOk-weaker c.subcommand.result _ _
    (λ after added. record { is = added.shape c.in_ok-added.ensures.local ∙ ap (with_subcommand (app_of c.args.program)) c.in_ok-added.ensures.words }) c.subcommand.ensures
