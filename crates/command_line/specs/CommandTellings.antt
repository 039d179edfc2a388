-- What `clap` was told of a command.
use Rattle.std.specs.Prelude.{◌≡◌, false}
use Rattle.clap.specs.Words.{app_of, shape_of, with_subcommand}
use Rattle.clap.specs.declared.builder.command.Command.TheViews.{out-Command as fields_of}
use Rattle.clap.specs.declared.builder.command.Command.{Command}
use Rattle.command_line.specs.Forms.{CommandForm, shape}

-- it has the words of this form, and none that is also another command's
pub record IsToldForm (form : CommandForm) (command : Command) : Type 0 where
  pub words : shape_of command ≡ shape form
  pub local : (fields_of command).has_globals ≡ false

-- it is what it was before, with the command of this form behind those that it had
pub record HasNextCommand (before : Command) (form : CommandForm) (after : Command) : Type 0 where
  pub is : app_of after ≡ with_subcommand (app_of before) (shape form)
