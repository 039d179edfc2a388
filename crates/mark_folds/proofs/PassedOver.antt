-- What elements leave that are passed over, whatever is in them: the state as it was, which counts how many are open.
use Rattle.std.proofs.Common.{◌≡◌, ◌∙◌, ℕ, suc, List, [], ◌∷◌, ◌++◌, map, refl, ap}
use Rattle.tree_grammar.specs.Elements.{Attribute, Nodes, none, element, chars, Event, Close, nodes_events}
use Rattle.doc_tree.specs.Marks.{Mark, Start, Char, Finish, spread}
use Rattle.mark_folds.specs.Folds.{folded}

module _ {S : Type 0} (after : S → Mark → S) (over : ℕ → S) (heard : (d c : ℕ) → after (over d) (Char c) ≡ over d) (began : (d : ℕ) (name : List ℕ) (as' : List Attribute) → after (over d) (Start name as') ≡ over (suc d)) (ended : (d : ℕ) (name : List ℕ) → after (over (suc d)) (Finish name) ≡ over d) where
  chars_passed : (cs : List ℕ) (d : ℕ) (k : List Mark) → folded after (over d) (map Char cs ++ k) ≡ folded after (over d) k
  chars_passed [] d k = refl
  chars_passed (c ∷ cs) d k = ap (λ (s : S). folded after s (map Char cs ++ k)) (heard d c) ∙ chars_passed cs d k

  pub nodes_passed : (ns : Nodes) (d : ℕ) (k : List Event) → folded after (over d) (spread (nodes_events ns k)) ≡ folded after (over d) (spread k)
  nodes_passed none d k = refl
  nodes_passed (chars text more) d k = chars_passed text d (spread (nodes_events more k)) ∙ nodes_passed more d k
  nodes_passed (element name as' inside more) d k =
      let inner : List Event = nodes_events inside (Close name ∷ nodes_events more k) in
      let outer : List Event = nodes_events more k in
      ap (λ (s : S). folded after s (spread inner)) (began d name as')
      ∙ nodes_passed inside (suc d) (Close name ∷ outer)
      ∙ ap (λ (s : S). folded after s (spread outer)) (ended d name)
      ∙ nodes_passed more d k
