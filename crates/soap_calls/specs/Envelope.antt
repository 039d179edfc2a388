-- Envelopes (SOAP 1.1, section 4).
use Rattle.std.specs.Prelude.{Option, None, Some, cond, bytes_eq, codes}
use Rattle.tree_grammar.specs.Elements.{Element}
use Rattle.document_tags.specs.OneChild.{only_child, only_element}

-- the one element in a body, if there is one body
abbrev pub held_in : Option Element → Option Element
held_in None = None
held_in (Some body) = only_element body

-- the one element in the one body of an envelope, if there is one; headers are passed over
abbrev pub held : Element → Option Element
held root = cond (bytes_eq root.name (codes "Envelope")) (held_in (only_child root (codes "Body"))) None
