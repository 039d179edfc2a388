-- Marks that leave one state after another, and what is found in the envelope whose marks they are.
use Rattle.std.specs.Prelude.{◌≡◌, ℕ, List}
use Rattle.tree_grammar.specs.Elements.{Element, events}
use Rattle.document_tags.specs.Texts.{document_limit}
use Rattle.doc_tree.specs.Marks.{Mark, spread}
use Rattle.doc_tree.specs.Feeding as feedings
use Rattle.soap_calls.specs.declared.parse_state.Found.{Found}
use Rattle.soap_calls.specs.declared.parse_state.ParseState.{ParseState}
use Rattle.soap_calls.specs.Listening.{Listening}
use Rattle.soap_calls.specs.Marked.{start, left}

-- behind these marks the one is the other
abbrev pub Leaves : ParseState → ParseState → List Mark → Type 0
Leaves old new marks = new ≡ left old marks

-- these bytes were fed, and what they say was heard or waits
pub record WasHeard (l : Listening) (bytes : List ℕ) : Type 0 where
  pub limit : l.reading.limit ≡ document_limit
  pub heard : feedings.WasHeard (λ ms. Leaves start l.parse_state ms) l.reading bytes

-- behind the marks of a document with this root this is found
abbrev pub FindsIn : Element → Found → Type 0
FindsIn root found = found ≡ (left start (spread (events root))).found
