-- The values of the point that a search begins with (Optimization Services option language, `initialVariableValues`).
use Rattle.std.specs.Prelude.{ℕ, zero, suc, ◌<◌, IsTrue, Option, None, Some, IsSomeAnd, List, [], ◌∷◌, get_or, codes}
use Rattle.std.specs.Option.{is_some}
use Rattle.fraction.specs.declared.frac.Frac.{Frac}
use Rattle.tree_grammar.specs.Elements.{Attribute}
use Rattle.document_tags.specs.Elements.{value_of}
use Rattle.decimal_text.specs.Count.{IsCount}
use Rattle.osol_grammar.specs.Times.{IsAmount}

-- the most variables that an instance may have
abbrev pub most_variables : ℕ
most_variables = 1000

-- a `var` with these attributes gives a value for this variable
abbrev pub SaysIndex : List Attribute → ℕ → Type 0
SaysIndex as' n = IsSomeAnd (value_of (codes "idx") as') (λ text. IsCount text n) × (n < most_variables)

-- and this value
abbrev pub SaysValue : List Attribute → Frac → Type 0
SaysValue as' x = IsSomeAnd (value_of (codes "value") as') (λ text. IsAmount text x)

-- a value is said for this variable
abbrev pub IsSaid : List (Option Frac) → ℕ → Type 0
IsSaid vs n = IsTrue (is_some (get_or vs n None))

-- the values with one more; none is said for the variables between
abbrev pub with_value : List (Option Frac) → ℕ → Frac → List (Option Frac)
with_value [] zero x = Some x ∷ []
with_value (v ∷ vs) zero x = Some x ∷ vs
with_value [] (suc n) x = None ∷ with_value [] n x
with_value (v ∷ vs) (suc n) x = v ∷ with_value vs n x

-- those of options, where they say any
abbrev pub HasFirst : Option (List (Option Frac)) → ℕ → Type 0
HasFirst None n = ⊥
HasFirst (Some vs) n = IsSaid vs n

abbrev pub more_first : Option (List (Option Frac)) → ℕ → Frac → Option (List (Option Frac))
more_first None n x = Some (with_value [] n x)
more_first (Some vs) n x = Some (with_value vs n x)
