use Rattle.osil_grammar.proofs.Words.{◌+◌, ◌<◌, ℕ, refl, sym, subst}
use Rattle.osil_grammar.specs.declared.elements.Place.TheVariants as places
use Rattle.osil_grammar.specs.Refusals as refusals
use Rattle.osil_grammar.proofs.StartTagTests.{many_fail, few_pass}
use Rattle.osil_grammar.proofs.start_tags.goal_of.Goals as goal

pub returns-then-are_too_many : goal.returns-then-are_too_many
returns-then-are_too_many c s name at = many_fail s name c.args.attributes.now places.Obj c.args.times refusals.ManyObjectives c.requires.times (subst (λ (n : ℕ). 8 < n + c.args.times) (sym at) (c.are_too_many.ensures.0 c.if-are_too_many.true)) refl

pub returns : goal.returns
returns c s name at = (
  few_pass s name c.args.attributes.now places.Obj c.args.times c.requires.times (λ many. absurd (let yes = c.are_too_many.ensures.1 (subst (λ (n : ℕ). 8 < n + c.args.times) at many) in let no = c.if-are_too_many.false in cc)),
  (c.requires.sense, c.requires.constant, c.requires.declared, c.requires.times),
)
