-- The names of variables and of rows, by their indices.
use Rattle.std.specs.Prelude.{ℕ, Option, None, get_or, IfSome, List, []}
use Rattle.tree_grammar.specs.Characters.{IsXmlText}
use Rattle.osrl_writing.specs.declared.told_names.NameLists.{NameLists}

-- a name or none for each index
abbrev pub Labels : Type 0
Labels = List (Option (List ℕ))

-- the name at this index, if there is one
abbrev pub name_at : Labels → ℕ → Option (List ℕ)
name_at ls j = get_or ls j None

-- no names
abbrev pub no_names : NameLists
no_names = record { variables = []; rows = [] }

-- characters of XML, where there is a name
abbrev pub AreXmlLabels : Labels → Type 0
AreXmlLabels ls = (j : ℕ) → IfSome (name_at ls j) IsXmlText

-- all names are of characters of XML
pub record AreXmlNames (ns : NameLists) : Type 0 where
  pub variables : AreXmlLabels ns.variables
  pub rows : AreXmlLabels ns.rows
