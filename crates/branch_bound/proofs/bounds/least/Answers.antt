use Rattle.std.proofs.Common.{Option, [], ◌∷◌, false, IsTrue, sym, subst}
use Rattle.fraction.specs.Frac.{ratio}
use Rattle.fraction.specs.declared.frac.Frac.{Frac}
use Rattle.search_rules.specs.Bounds.{IsLeast}
use Rattle.branch_bound.specs.Bounds.{numbers_before}
use Rattle.branch_bound.proofs.OpenBounds.{second_least}
use Rattle.branch_bound.proofs.bounds.least.Goals as goal

pub returns-else-is_at_most : goal.returns-else-is_at_most
returns-else-is_at_most c =
    subst (λ (b : Option Frac). IsLeast (numbers_before b (ratio c.args.number ∷ [])) (ratio c.args.number)) (sym c.in-Some.is)
    (second_least (ratio c.in-Some.before) (ratio c.args.number) (λ h. let t = c.if-is_at_most.ensures.1 h in let no : IsTrue false = t in absurd (cc)))
