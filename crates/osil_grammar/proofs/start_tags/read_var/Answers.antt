use Rattle.osil_grammar.proofs.Words.{[], ◌∷◌, told_refusal, no_type, low_infinite, high_infinite, too_many, SaysTimes, SaysVar}
use Rattle.osil_grammar.specs.declared.elements.Place.TheVariants as places
use Rattle.osil_grammar.proofs.StartTagTests.{front_numbers, behind_numbers}
use Rattle.osil_grammar.proofs.VarTags.{VarNumbers, AreVarNumbers}
use Rattle.osil_grammar.proofs.start_tags.read_var.Goals as goal

pub returns-in-Ok : goal.returns-in-Ok
returns-in-Ok c s name at = behind_numbers {X = VarNumbers} s name c.args.attributes.now places.Var (no_type ∷ low_infinite ∷ high_infinite ∷ too_many places.Var ∷ []) c.in-Ok.numbers (AreVarNumbers c.args.attributes.now) c.var_of.result (λ x. SaysVar c.args.attributes.now x.0 × SaysTimes c.args.attributes.now x.1) c.in-Ok.ensures (c.var_of.ensures s name at)

pub returns-in-Err : goal.returns-in-Err
returns-in-Err c s name at = front_numbers {X = VarNumbers} s name c.args.attributes.now places.Var (no_type ∷ low_infinite ∷ high_infinite ∷ too_many places.Var ∷ []) c.in-Err.unread (AreVarNumbers c.args.attributes.now) (told_refusal c.refusal.result) c.in-Err.ensures c.refusal.ensures
