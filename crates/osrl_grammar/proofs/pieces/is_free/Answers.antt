use Rattle.osrl_grammar.proofs.Names.{◌≡◌, false, true}
use Rattle.osrl_grammar.proofs.Wholes.{was_cut}
use Rattle.osrl_grammar.proofs.pieces.is_free.Goals as goal

pub returns-in_default-Some : goal.returns-in_default-Some
returns-in_default-Some c = (λ h. absurd (let k : false ≡ true = h in cc), λ free. absurd (was_cut c.args.byte c.args.text.now c.cut.result.0.now c.cut.result.1 c.in_default-Some.field-0-1 c.in_default-Some.is-1 c.cut.ensures.parts free))
