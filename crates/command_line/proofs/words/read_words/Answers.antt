use Rattle.std.proofs.Common.{◌∙◌, sym, arith}
use Rattle.std.proofs.lemmas.List.{length-map}
use Rattle.std.specs.String.{string_bytes}
use Rattle.command_line.proofs.Commands.{name_asks_nothing}
use Rattle.command_line.proofs.Meanings.{asks_by_subcommand, asks_nothing}
use Rattle.command_line.proofs.words.read_words.Goals as goal

pub returns-then-words-le1-clause-asked : goal.returns-then-words-le1-clause-asked
returns-then-words-le1-clause-asked c = sym (name_asks_nothing _ (omega (arith, length-map c.args.words.now string_bytes, c.if-words-le1.true)))

pub returns-in-Ok-clause-asked : goal.returns-in-Ok-clause-asked
returns-in-Ok-clause-asked c =
    c.subcommand_asked.ensures ∙ asks_by_subcommand _ _ c.in-Ok.matches c.in_ok-program.ensures c.in-Ok.ensures.kinds c.in-Ok.ensures.matches

pub returns-clause-asked : goal.returns-clause-asked
returns-clause-asked c =
    asks_nothing _ _ c.in-Err.error c.in_ok-program.ensures c.in-Err.ensures.kinds
    (λ memory. c.in_default.not-OutOfMemory (c.kind.ensures ∙ memory))
