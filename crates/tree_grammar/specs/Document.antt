-- Documents of XML 1.0 without a document type: what the bytes are, and the element that they hold.
use Rattle.std.specs.Prelude.{◌≡◌, ℕ, Bool, true, false, List, [], ◌∷◌}
use Rattle.tree_grammar.specs.Elements.{Element}
use Rattle.tree_grammar.specs.Characters.{IsXmlText, normal_lines, local_part}
use Rattle.tree_grammar.specs.Tags.{Tag, tag_text, attribute_list}
use Rattle.tree_grammar.specs.Content.{Body, body_text, body_nodes, IsBodyClear, Misc, misc_text}
use Rattle.tree_grammar.specs.Declaration.{Declaration, declaration_text, IsDeclarationReadable}

-- A byte order mark (section 4.3.3, appendix F), or none.
abbrev pub mark_text : Bool → List ℕ → List ℕ
mark_text false k = k
mark_text true k = 239 ∷ 187 ∷ 191 ∷ k

-- Productions 1 and 22, without a document type.
pub record Document : Type 0 where
  pub mark : Bool
  pub declaration : Declaration
  pub before : Misc
  pub tag : Tag
  pub body : Body
  pub clear : IsBodyClear body
  pub after : Misc

-- Its bytes, with normal line ends.
abbrev pub document_text : Document → List ℕ
document_text d = mark_text d.mark (declaration_text d.declaration (misc_text d.before (60 ∷ tag_text d.tag (body_text d.body d.tag.name (misc_text d.after [])))))

-- The root.
abbrev pub document_element : Document → Element
document_element d = record { name = local_part d.tag.name; attributes = attribute_list d.tag.attributes; children = body_nodes d.body }

-- The bytes are a document with this root.
pub record Doc (bytes : List ℕ) (root : Element) : Type 0 where
  pub characters : IsXmlText bytes
  pub document : Document
  pub text : normal_lines bytes ≡ document_text document
  pub readable : IsDeclarationReadable document.declaration
  pub says : root ≡ document_element document
