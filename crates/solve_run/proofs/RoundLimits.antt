-- How many rounds options may ask for.
use Rattle.std.proofs.Common.{◌≤◌, List, [], ◌∷◌}
use Rattle.osol_grammar.specs.declared.options.Options.{Options}
use Rattle.osol_grammar.specs.Back.{ComesBack}
use Rattle.osol_grammar.specs.Limits as limits
use Rattle.osol_grammar.specs.Options.{amount}
use Rattle.solve_run.specs.Judging.{AreFewRounds}

-- what holds of a list's third element, if it has one
abbrev OfThird : {X : Type 0} (P : X → Type 0) → List X → Type 0
OfThird P [] = Unit {0}
OfThird P (a ∷ []) = Unit {0}
OfThird P (a ∷ b ∷ []) = Unit {0}
OfThird P (a ∷ b ∷ c ∷ xs) = P c

third : {X : Type 0} (P : X → Type 0) → ((x : X) → P x) → (xs : List X) → OfThird P xs
third P f [] = tt
third P f (a ∷ []) = tt
third P f (a ∷ b ∷ []) = tt
third P f (a ∷ b ∷ c ∷ xs) = f c

-- the limit of rounds is the third of all
pub few_rounds : (o : Options) → ComesBack o → AreFewRounds o.rounds
few_rounds o back = third (λ l. amount o l ≤ (limits.limit_row l).most) back.below limits.all
