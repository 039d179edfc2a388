use Rattle.osil_grammar.proofs.Words.{[], ◌∷◌, ◌++◌, codes, Start, first_front, told_refusal, no_index, has, no_variable, numbers, refusal, Fails}
use Rattle.osil_grammar.specs.declared.elements.Place.TheVariants as places
use Rattle.osil_grammar.proofs.StartTagTests.{behind_tests}
use Rattle.osil_grammar.proofs.start_tags.read_coef.Goals as goal

pub returns-in-Ok-clause-reads : goal.returns-in-Ok-clause-reads
returns-in-Ok-clause-reads c s name at =
    let front = c.in-Ok.ensures s name tt in
    behind_tests s name c.args.attributes.now (no_index ∷ has (codes "mult") ∷ has (codes "incr") ∷ []) (numbers places.Coef ++ (no_variable ∷ [])) c.index_of.result _ front.0 (c.index_of.ensures.reads s name (at, front.0.0))

pub returns-in-Err-clause-reads : goal.returns-in-Err-clause-reads
returns-in-Err-clause-reads c s name at = first_front (Fails s (Start name c.args.attributes.now)) (refusal s (Start name c.args.attributes.now)) (no_index ∷ has (codes "mult") ∷ has (codes "incr") ∷ []) (numbers places.Coef ++ (no_variable ∷ [])) (told_refusal c.in-Err.refusal) (c.in-Err.ensures s name tt)
