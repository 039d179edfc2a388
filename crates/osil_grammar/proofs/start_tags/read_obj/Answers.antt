use Rattle.osil_grammar.proofs.Words.{[], ◌∷◌, ◌++◌, inl, refl, codes, value_of, no_sense, too_many, numbers}
use Rattle.osil_grammar.specs.declared.elements.Place.TheVariants as places
use Rattle.osil_grammar.proofs.StartTagTests.{behind_tests, sense_among}
use Rattle.osil_grammar.proofs.start_tags.read_obj.Goals as goal

pub returns-in-Some : goal.returns-in-Some
returns-in-Some c s name at = behind_tests s name c.args.attributes.now (no_sense ∷ []) (numbers places.Obj ++ (too_many places.Obj ∷ [])) c.obj_of.result _ (sense_among (value_of (codes "maxOrMin") c.args.attributes.now) c.in-Some.sense c.in-Some.ensures, tt) (c.obj_of.ensures s name at)

pub returns-in-None : goal.returns-in-None
returns-in-None c s name at = inl (c.in-None.ensures, refl)
