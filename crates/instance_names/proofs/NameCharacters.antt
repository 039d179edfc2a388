-- The names that a document gives are of characters of XML.
use Rattle.std.proofs.Common.{◌≡◌, ℕ, zero, suc, Bool, true, false, cond, bytes_eq, Option, None, Some, List, [], ◌∷◌, map, refl, sym, subst}
use Rattle.std.specs.Prelude.{IfSome, codes}
use Rattle.std.specs.List.{list_all}
use Rattle.tree_grammar.specs.Characters.{IsXmlText}
use Rattle.tree_grammar.specs.Document.{Doc}
use Rattle.tree_grammar.specs.Elements.{Attribute, Nodes, none, element, chars, Element}
use Rattle.document_tags.specs.Characters.{AttributesOfCharacters, NodesOfCharacters, IsOfCharacters}
use Rattle.document_tags.specs.Elements.{value_of, named, children_named}
use Rattle.document_tags.specs.OneChild.{only_one, only_child}
use Rattle.document_tags.specs.Rests.{child_elements}
use Rattle.osrl_writing.specs.declared.told_names.NameLists.{NameLists}
use Rattle.osrl_writing.specs.Labels.{Labels, name_at, AreXmlLabels, AreXmlNames}
use Rattle.instance_names.specs.Reading.{is_single, name_of, names_in, part_names, document_names, GivesNames}

-- all these elements are of characters
abbrev AllOf : List Element → Type 0
AllOf [] = Unit {0}
AllOf (e ∷ es) = IsOfCharacters e × AllOf es

children_of : (nodes : Nodes) → NodesOfCharacters nodes → AllOf (child_elements nodes)
children_of none h = tt
children_of (element name as' children more) h = (record { name = h.0; attributes = h.1; children = h.2 }, children_of more h.3)
children_of (chars text more) h = children_of more h.1

if_named : (b : Bool) (e : Element) (es : List Element) → IsOfCharacters e → AllOf es → AllOf (cond b (e ∷ es) es)
if_named true e es h hs = (h, hs)
if_named false e es h hs = hs

named_of : (name : List ℕ) (es : List Element) → AllOf es → AllOf (named name es)
named_of name [] h = tt
named_of name (e ∷ es) h = if_named (bytes_eq e.name name) e (named name es) h.0 (named_of name es h.1)

items_of : (name : List ℕ) (e : Element) → IsOfCharacters e → AllOf (children_named name e)
items_of name e h = named_of name (child_elements e.children) (children_of e.children h.children)

one_of : (es : List Element) → AllOf es → IfSome (only_one es) IsOfCharacters
one_of [] h = tt
one_of (e ∷ []) h = h.0
one_of (e ∷ d ∷ es) h = tt

child_of : (e : Element) (name : List ℕ) → IsOfCharacters e → IfSome (only_child e name) IsOfCharacters
child_of e name h = one_of (children_named name e) (items_of name e h)

if_value : (b : Bool) (value : List ℕ) (other : Option (List ℕ)) → IsXmlText value → IfSome other IsXmlText → IfSome (cond b (Some value) other) IsXmlText
if_value true value other h k = h
if_value false value other h k = k

value_xml : (name : List ℕ) (as' : List Attribute) → AttributesOfCharacters as' → IfSome (value_of name as') IsXmlText
value_xml name [] h = tt
value_xml name (a ∷ more) h = if_value (bytes_eq a.name name) a.value (value_of name more) h.1 (value_xml name more h.2)

none_xml : AreXmlLabels []
none_xml j = tt

names_xml : (es : List Element) → AllOf es → AreXmlLabels (map name_of es)
names_xml [] h j = tt
names_xml (e ∷ es) h zero = value_xml (codes "name") e.attributes h.0.attributes
names_xml (e ∷ es) h (suc j) = names_xml es h.1 j

singles_xml : (b : Bool) (es : List Element) → AllOf es → AreXmlLabels (cond b (map name_of es) [])
singles_xml true es h = names_xml es h
singles_xml false es h = none_xml

in_xml : (item : List ℕ) (o : Option Element) → IfSome o IsOfCharacters → AreXmlLabels (names_in item o)
in_xml item None h = none_xml
in_xml item (Some e) h = let es = children_named item e in singles_xml (list_all is_single es) es (items_of item e h)

part_xml : (part item : List ℕ) (o : Option Element) → IfSome o IsOfCharacters → AreXmlLabels (part_names part item o)
part_xml part item None h = none_xml
part_xml part item (Some all) h = in_xml item (only_child all part) (child_of all part h)

root_xml : (root : Element) → IsOfCharacters root → AreXmlNames (document_names root)
root_xml root h =
    let holder = child_of root (codes "instanceData") h in
    record { variables = part_xml (codes "variables") (codes "var") _ holder; rows = part_xml (codes "constraints") (codes "con") _ holder }

pub given_xml : ((bytes : List ℕ) (root : Element) → Doc bytes root → IsOfCharacters root) → (bytes : List ℕ) (ns : NameLists) → GivesNames bytes ns → AreXmlNames ns
given_xml of_characters bytes ns h = subst AreXmlNames (sym h.is) (root_xml h.root (of_characters bytes h.root h.document.document))
