use Rattle.std.proofs.Common.{◌++◌, take}
use Rattle.std.specs.Prelude.{map}
use Rattle.command_line.specs.Forms.{flag_word, named_word, needed_word}
use Rattle.command_line.proofs.Forms.{IsTold}
use Rattle.command_line.proofs.program.command.Given as goal

abbrev pub invariant-loop-id : goal.invariant-loop-id
invariant-loop-id l = IsTold l.name (map needed_word (map (λ id. id.now) (take l.id-index l.needed))) l.command

abbrev pub invariant-loop-id-2 : goal.invariant-loop-id-2
invariant-loop-id-2 l = IsTold l.name (map needed_word (map (λ id. id.now) l.needed) ++ map named_word (map (λ id. id.now) (take l.id-index l.named))) l.command

abbrev pub invariant-loop-id-3 : goal.invariant-loop-id-3
invariant-loop-id-3 l = IsTold l.name (map needed_word (map (λ id. id.now) l.needed) ++ map named_word (map (λ id. id.now) l.named) ++ map flag_word (map (λ id. id.now) (take l.id-index l.flags))) l.command
