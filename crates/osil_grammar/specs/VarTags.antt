-- THE ATTRIBUTES OF A `var`: which of them are numbers, what they say, and as what they are written.
use Rattle.std.specs.Prelude.{◌≡◌, ℕ, Bool, true, false, List, [], ◌∷◌, codes}
use Rattle.tree_grammar.specs.Elements.{Attribute, Nodes, none, element}
use Rattle.document_tags.specs.Writing.{with_attribute}
use Rattle.fraction.specs.declared.ends.End.{End}
use Rattle.instance.specs.declared.parts.Var.{Var}
use Rattle.instance.specs.Parts.{AreEnds}
use Rattle.osil_grammar.specs.declared.domains.Domain.{Domain}
use Rattle.osil_grammar.specs.Grammars as grammars
use Rattle.osil_grammar.specs.Grammars.{Field}
use Rattle.osil_grammar.specs.Saying.{SaysDomain, IsOfDomain, SaysLow, SaysHigh, IsEndText}

-- those that are numbers
abbrev pub var_fields : List Field
var_fields = grammars.lb ∷ grammars.ub ∷ grammars.mult ∷ []

-- the variable of a `var`
pub record SaysVar (as' : List Attribute) (v : Var) : Type 0 where
  pub lb : End
  pub ub : End
  pub domain : Domain
  pub low : SaysLow as' lb
  pub high : SaysHigh as' ub
  pub type : SaysDomain as' domain
  pub is : IsOfDomain domain lb ub v

-- the type of a variable that is whole or not, and may be 0 besides or not
abbrev pub type_text : (whole semi : Bool) → List ℕ
type_text false false = codes "C"
type_text true false = codes "I"
type_text false true = codes "D"
type_text true true = codes "J"

-- those that a variable is written with, whose ends have these texts
abbrev pub var_attributes : Var → (lb ub : List ℕ) → List Attribute
var_attributes v lb ub = with_attribute (codes "type") (type_text v.whole v.zero) (with_attribute (codes "lb") lb (with_attribute (codes "ub") ub []))

-- a variable, and then more
pub record WritesVar (v : Var) (more nodes : Nodes) : Type 0 where
  pub lb : List ℕ
  pub ub : List ℕ
  pub is_lb : IsEndText v.lb lb
  pub is_ub : IsEndText v.ub ub
  pub says : nodes ≡ element (codes "var") (var_attributes v lb ub) none more

-- a variable of an instance
abbrev pub IsVar : Var → Type 0
IsVar v = AreEnds v.lb v.ub
