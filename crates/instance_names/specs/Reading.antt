-- The names that the document of an instance gives (Optimization Services instance language, the attribute `name` of `var` and of `con`).
use Rattle.std.specs.Prelude.{◌≡◌, ℕ, Bool, true, Option, None, Some, cond, bytes_eq, List, [], map, codes}
use Rattle.std.specs.List.{list_all}
use Rattle.tree_grammar.specs.Elements.{Element}
use Rattle.document_tags.specs.Documents.{OfDocument}
use Rattle.document_tags.specs.Elements.{value_of, children_named}
use Rattle.document_tags.specs.OneChild.{only_child}
use Rattle.document_tags.specs.Texts.{IsDocument}
use Rattle.osrl_writing.specs.declared.told_names.NameLists.{NameLists}
use Rattle.osrl_writing.specs.Labels.{Labels}

-- no multiple is told, or that it is one
abbrev pub is_one : Option (List ℕ) → Bool
is_one None = true
is_one (Some text) = bytes_eq text (codes "1")

-- the element stands for one variable or row, and not for several
abbrev pub is_single : Element → Bool
is_single e = is_one (value_of (codes "mult") e.attributes)

-- the name that an element gives, if it gives one
abbrev pub name_of : Element → Option (List ℕ)
name_of e = value_of (codes "name") e.attributes

-- the names of elements by their order, where each stands for one; else there are none
abbrev pub single_names : List Element → Labels
single_names es = cond (list_all is_single es) (map name_of es) []

-- the names of the items of a part, if there is one
abbrev pub names_in : (item : List ℕ) → Option Element → Labels
names_in item None = []
names_in item (Some part) = single_names (children_named item part)

-- the names of the items of the one part of this name, if there is one
abbrev pub part_names : (part item : List ℕ) → Option Element → Labels
part_names part item None = []
part_names part item (Some all) = names_in item (only_child all part)

-- the names of the variables and of the rows of the document with this root
abbrev pub document_names : Element → NameLists
document_names root =
    let holder : Option Element = only_child root (codes "instanceData") in
    record { variables = part_names (codes "variables") (codes "var") holder; rows = part_names (codes "constraints") (codes "con") holder }

-- the bytes are a document that gives these names
abbrev pub GivesNames : List ℕ → NameLists → Type 0
GivesNames bytes ns = OfDocument (λ root ms. ms ≡ document_names root) bytes ns

-- if the bytes are a document, it gives these names
abbrev pub MayGiveNames : List ℕ → NameLists → Type 0
MayGiveNames bytes ns = (root : Element) → IsDocument bytes root → ns ≡ document_names root
