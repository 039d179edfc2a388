-- What a count says of the limits that counts set.
use Rattle.std.proofs.Common.{◌≡◌, ◌⊎◌, inl, inr, ℕ, ◌≤◌, ◌↔◌, Option, None, Some, List, refl, sym, subst}
use Rattle.std.specs.Prelude.{IsSomeAnd, MatchOption, codes}
use Rattle.tree_grammar.specs.Elements.{Attribute}
use Rattle.document_tags.specs.Elements.{value_of}
use Rattle.decimal_text.specs.Count.{IsCount}
use Rattle.osol_grammar.specs.declared.limit.Limit.{Limit}
use Rattle.osol_grammar.specs.declared.limit.Limit.TheVariants.{Nodes, Turns, Rounds, Names, Form, Bound}
use Rattle.osol_grammar.specs.Limits.{limit_row}
use Rattle.osol_grammar.specs.Options.{IsAmountText, SaysAmount}

counts : (l : Limit) (text : List ℕ) (n : ℕ) → (l ≡ Form → ⊥) → IsAmountText l text n ↔ IsCount text n
counts Nodes text n other = (λ x. x, λ x. x)
counts Turns text n other = (λ x. x, λ x. x)
counts Rounds text n other = (λ x. x, λ x. x)
counts Names text n other = (λ x. x, λ x. x)
counts Bound text n other = (λ x. x, λ x. x)
counts Form text n other = absurd (other refl)

pub no_form : (l : Limit) → (l ≡ Nodes) ⊎ (l ≡ Turns) ⊎ (l ≡ Rounds) ⊎ (l ≡ Names) ⊎ (l ≡ Bound) → l ≡ Form → ⊥
no_form l (inl e) f = cc
no_form l (inr (inl e)) f = cc
no_form l (inr (inr (inl e))) f = cc
no_form l (inr (inr (inr (inl e)))) f = cc
no_form l (inr (inr (inr (inr e)))) f = cc

-- the count of a value is its amount, and none is none
pub counted : (l : Limit) (as' : List Attribute) (text : List ℕ) (r : Option ℕ) → (l ≡ Form → ⊥) → value_of (codes "value") as' ≡ Some text
    → MatchOption r ((n : ℕ) → IsCount text n → (limit_row l).least ≤ n → n ≤ (limit_row l).most → ⊥) (λ n. IsCount text n × ((limit_row l).least ≤ n) × (n ≤ (limit_row l).most))
    → MatchOption r ((n : ℕ) → SaysAmount l as' n → ⊥) (λ n. SaysAmount l as' n)
counted l as' text None other e h = λ n says. h n ((counts l text n other).0 (subst (λ (o : Option (List ℕ)). IsSomeAnd o (λ t. IsAmountText l t n)) e says.0)) says.1 says.2
counted l as' text (Some n) other e h = (subst (λ (o : Option (List ℕ)). IsSomeAnd o (λ t. IsAmountText l t n)) (sym e) ((counts l text n other).1 h.0), h.1, h.2)
