-- The program's commands and their words, as `clap` is told them.
use Rattle.std.specs.Prelude.{true, List, [], ◌∷◌, ◌++◌, Some, codes, fold, map}
use Rattle.clap.specs.Words.{App, Rule, Text, new_app, new_rule, with_subcommand}
use Rattle.clap.specs.Simple.{Shape, new_shape, on_top}
use Rattle.clap.specs.declared.builder.action.ArgAction.TheVariants.{Set}

-- a command: its name, the names of the words that it needs, in their order, of those that may be given behind their names, and of those that may stand alone
pub record CommandForm : Type 0 where
  pub name : Text
  pub needed : List Text
  pub named : List Text
  pub flags : List Text

-- the commands
abbrev pub forms : List CommandForm
forms = record { name = codes "session"; needed = []; named = codes "journal" ∷ []; flags = [] }
    ∷ record { name = codes "check"; needed = codes "osil" ∷ codes "osrl" ∷ []; named = []; flags = [] }
    ∷ record { name = codes "solve"; needed = codes "osil" ∷ []; named = codes "options" ∷ codes "result" ∷ codes "seconds" ∷ codes "halt" ∷ []; flags = codes "safe" ∷ [] }
    ∷ record { name = codes "generate"; needed = codes "variables" ∷ []; named = []; flags = [] }
    ∷ record { name = codes "call"; needed = codes "name" ∷ codes "host" ∷ codes "port" ∷ []; named = codes "osil" ∷ codes "osol" ∷ codes "ospl" ∷ []; flags = [] }
    ∷ record { name = codes "compact"; needed = codes "old" ∷ codes "new" ∷ []; named = []; flags = [] }
    ∷ record { name = codes "serve"; needed = codes "host" ∷ codes "port" ∷ []; named = codes "workers" ∷ codes "servers" ∷ codes "connections" ∷ codes "patience" ∷ codes "first" ∷ codes "journal" ∷ []; flags = [] }
    ∷ []

-- a word that must be given
abbrev pub needed_word : Text → Rule
needed_word id = record (new_rule id) { required = true }

-- a word that may be given behind `--` and its name
abbrev pub named_word : Text → Rule
named_word id = record (new_rule id) { long = Some id }

-- a word that may stand alone, as `--` and its name; its text is then the name
abbrev pub flag_word : Text → Rule
flag_word id = record (new_rule id) { long = Some id; action = Some Set; range = Some (record { start_inclusive = 0; end_inclusive = 0 }); missing = id ∷ [] }

-- what `clap` is told of a command
abbrev pub shape : CommandForm → Shape
shape form = record (new_shape form.name) { rules = map needed_word form.needed ++ map named_word form.named ++ map flag_word form.flags }

-- a command that goes by one of its subcommands
abbrev pub needing_subcommand : Shape → Shape
needing_subcommand command = record command { subcommand_required = true }

-- the program's command line: it goes by one of the commands
abbrev pub program_form : App
program_form = fold with_subcommand (on_top needing_subcommand (new_app (codes "os_app"))) (map shape forms)
