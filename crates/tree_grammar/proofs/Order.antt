-- The written text of an element is that of its events.
use Rattle.std.proofs.Common.{◌≡◌, ℕ, List, [], ◌∷◌, ◌++◌, refl, ap, ◌∙◌, false, true}
use Rattle.tree_grammar.specs.Elements.{Attribute, Nodes, none, element, chars, Element, Event, Close, nodes_events, events}
use Rattle.tree_grammar.specs.WrittenText.{escaped, written_attributes, children_begin, children_end, written_nodes, written_element, written_events}

-- Both ways to stand before nodes: no start tag is open, or that of the element whose children they are.
pub record InOrder (nodes : Nodes) : Type 0 where
  pub between : (k : List Event) → written_events false (nodes_events nodes k) ≡ written_nodes nodes (written_events false k)
  pub inside : (name : List ℕ) (k : List Event) → written_events true (nodes_events nodes (Close name ∷ k)) ≡ children_begin nodes (written_nodes nodes (children_end nodes name (written_events false k)))

start : (name : List ℕ) (attributes : List Attribute) (x y : List ℕ) → x ≡ y → 60 ∷ (name ++ written_attributes attributes x) ≡ 60 ∷ (name ++ written_attributes attributes y)
start name attributes x y e = ap (λ z. 60 ∷ (name ++ written_attributes attributes z)) e

child : (name : List ℕ) (attributes : List Attribute) (children more : Nodes) → InOrder children → InOrder more → (k : List Event) → written_events false (nodes_events (element name attributes children more) k) ≡ written_nodes (element name attributes children more) (written_events false k)
child name attributes children more c m k = start name attributes _ _ (c.inside name (nodes_events more k) ∙ ap (λ z. children_begin children (written_nodes children (children_end children name z))) (m.between k))

pub in_order : (nodes : Nodes) → InOrder nodes
in_order none = record { between = λ k. refl; inside = λ name k. refl }
in_order (element name attributes children more) = let c = in_order children in let m = in_order more in record {
  between = child name attributes children more c m;
  inside = λ n k. ap (λ z. 62 ∷ z) (child name attributes children more c m (Close n ∷ k));
}
in_order (chars text more) = let m = in_order more in record {
  between = λ k. ap (λ z. escaped text ++ z) (m.between k);
  inside = λ n k. ap (λ z. 62 ∷ (escaped text ++ z)) (m.between (Close n ∷ k));
}

pub element_in_order : (e : Element) → written_events false (events e) ≡ written_element e
element_in_order e = start e.name e.attributes _ _ ((in_order e.children).inside e.name [])
