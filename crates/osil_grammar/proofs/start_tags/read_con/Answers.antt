use Rattle.osil_grammar.proofs.Words.{ℕ, [], ◌∷◌, codes, Frac, End, told_refusal, great_end, low_infinite, high_infinite, too_many, SaysTimes, SaysConstant, SaysRowLow, SaysHigh, SaysRow}
use Rattle.osil_grammar.specs.declared.elements.Place.TheVariants as places
use Rattle.osil_grammar.proofs.StartTagTests.{front_numbers, behind_numbers}
use Rattle.osil_grammar.proofs.start_tags.read_con.Goals as goal

pub returns-in-Ok : goal.returns-in-Ok
returns-in-Ok c s name at = behind_numbers {X = (End × End) × (Frac × ℕ)} s name c.args.attributes.now places.Con (great_end (codes "lb") ∷ great_end (codes "ub") ∷ low_infinite ∷ high_infinite ∷ too_many places.Con ∷ []) (c.in-Ok.ends, (c.in-Ok.constant, c.in-Ok.times)) (λ x. (SaysRowLow c.args.attributes.now x.0.0 × SaysHigh c.args.attributes.now x.0.1) × (SaysConstant c.args.attributes.now x.1.0 × SaysTimes c.args.attributes.now x.1.1)) c.row_of.result (λ x. SaysRow c.args.attributes.now x.0 × SaysTimes c.args.attributes.now x.1) c.in-Ok.ensures (c.row_of.ensures s name at)

pub returns-in-Err : goal.returns-in-Err
returns-in-Err c s name at = front_numbers {X = (End × End) × (Frac × ℕ)} s name c.args.attributes.now places.Con (great_end (codes "lb") ∷ great_end (codes "ub") ∷ low_infinite ∷ high_infinite ∷ too_many places.Con ∷ []) c.in-Err.unread (λ x. (SaysRowLow c.args.attributes.now x.0.0 × SaysHigh c.args.attributes.now x.0.1) × (SaysConstant c.args.attributes.now x.1.0 × SaysTimes c.args.attributes.now x.1.1)) (told_refusal c.refusal.result) c.in-Err.ensures c.refusal.ensures
