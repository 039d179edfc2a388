use Rattle.osil_grammar.proofs.Words.{◌≡◌, ℕ, [], ◌∷◌, Option, None, Ok, Err, codes, told_refusal, no_variable, count, IsDeclared, SaysCount}
use Rattle.osil_grammar.specs.declared.elements.Place.TheVariants as places
use Rattle.osil_grammar.proofs.TagNumbers.{count_read, field_read}
use Rattle.osil_grammar.proofs.StartTagTests.{front_numbers, behind_numbers}
use Rattle.osil_grammar.proofs.start_tags.index_of.Goals as goal

pub returns-in-Ok-clause-reads : goal.returns-in-Ok-clause-reads
returns-in-Ok-clause-reads c s name at =
    let as' = c.args.attributes.now in
    behind_numbers s name as' places.Coef (no_variable ∷ []) c.in-Ok.index (λ x. SaysCount as' (codes "idx") x) c.variable_of.result _ (field_read as' (codes "idx") count (Ok c.in-Ok.index) (λ (y : Option ℕ). y ≡ None) IsDeclared count_read c.in-Ok.ensures) (c.variable_of.ensures.reads s name at)

pub returns-in-Err-clause-reads : goal.returns-in-Err-clause-reads
returns-in-Err-clause-reads c s name at =
    let as' = c.args.attributes.now in
    front_numbers {X = Option ℕ} s name as' places.Coef (no_variable ∷ []) c.in-Err.unread (λ x. SaysCount as' (codes "idx") x) (told_refusal c.refusal.result) (field_read as' (codes "idx") count (Err c.in-Err.unread) (λ (y : Option ℕ). y ≡ None) IsDeclared count_read c.in-Err.ensures) c.refusal.ensures
