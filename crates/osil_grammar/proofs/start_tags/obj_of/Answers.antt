use Rattle.osil_grammar.proofs.Words.{ℕ, [], ◌∷◌, Option, codes, Frac, told_refusal, too_many, SaysCount, SaysTimes, SaysConstant}
use Rattle.osil_grammar.specs.declared.elements.Place.TheVariants as places
use Rattle.osil_grammar.proofs.StartTagTests.{front_numbers, behind_numbers}
use Rattle.osil_grammar.proofs.start_tags.obj_of.Goals as goal

pub returns-in-Ok : goal.returns-in-Ok
returns-in-Ok c s name at =
    behind_numbers {X = (Frac × Option ℕ) × ℕ} s name c.args.attributes.now places.Obj (too_many places.Obj ∷ []) ((c.in-Ok.constant, c.in-Ok.declared), c.in-Ok.times) (λ x. (SaysConstant c.args.attributes.now x.0.0 × SaysCount c.args.attributes.now (codes "numberOfObjCoef") x.0.1) × SaysTimes c.args.attributes.now x.1)
    c.goal_of.result _ c.in-Ok.ensures (c.goal_of.ensures s name at)

pub returns-in-Err : goal.returns-in-Err
returns-in-Err c s name at =
    front_numbers {X = (Frac × Option ℕ) × ℕ} s name c.args.attributes.now places.Obj (too_many places.Obj ∷ []) c.in-Err.unread (λ x. (SaysConstant c.args.attributes.now x.0.0 × SaysCount c.args.attributes.now (codes "numberOfObjCoef") x.0.1) × SaysTimes c.args.attributes.now x.1)
    (told_refusal c.refusal.result) c.in-Err.ensures c.refusal.ensures
