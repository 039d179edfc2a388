use Rattle.std.proofs.Common.{◌≡◌, ◌∙◌, ap}
use Rattle.std.proofs.lemmas.Result.{IfOk-weaker}
use Rattle.clap.specs.Words.{App, app_of, with_subcommand}
use Rattle.clap.specs.Simple.{app_of_fields, on_top}
use Rattle.clap.specs.declared.builder.command.Command.{Command}
use Rattle.command_line.specs.CommandTellings.{HasNextCommand}
use Rattle.command_line.specs.Forms.{CommandForm, needing_subcommand, shape}
use Rattle.command_line.proofs.program.program.Goals as goal

-- one more command, behind those that are known
behind : {before after : Command} {form : CommandForm} {known : App} → HasNextCommand before form after → app_of before ≡ known → app_of after ≡ with_subcommand known (shape form)
behind {form = form} next same = next.is ∙ ap (λ app. with_subcommand app (shape form)) same

pub returns : goal.returns
returns c =
    let top = ap app_of_fields c.subcommand_required-program.ensures ∙ ap (on_top needing_subcommand) c.new.ensures.app in
    let one = behind c.in_ok-program.ensures top in
    let two = behind c.in_ok-program-2.ensures one in
    let three = behind c.in_ok-program-3.ensures two in
    let four = behind c.in_ok-program-4.ensures three in
    let five = behind c.in_ok-program-5.ensures four in
    let six = behind c.in_ok-program-6.ensures five in
    IfOk-weaker c.with_command-7.result _ _ (λ command next. behind next six) c.with_command-7.ensures
