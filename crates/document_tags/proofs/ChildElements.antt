-- Child elements gathered event by event.
use Rattle.std.proofs.Common.{◌≡◌, ◌∙◌, ℕ, zero, suc, ◌+◌, ◌<◌, ◌≤◌, Option, None, Some, List, [], ◌∷◌, ◌++◌, length, drop, refl, sym, subst, append_assoc, append-nil, arith}
use Rattle.tree_grammar.specs.Elements.{Attribute, Nodes, none, element, chars, Element, Event, Open, Chars, Close, nodes_events}
use Rattle.element_tree.specs.Items.{event_at}
use Rattle.document_tags.specs.declared.spot.Spot.{Spot}
use Rattle.document_tags.specs.Rests.{child_elements}
use Rattle.document_tags.specs.Passages.{Pending}
use Rattle.document_tags.specs.Spots.{StandsAt, AreSpots}
use Rattle.document_tags.proofs.Passages.{same_heads, never, one_pending, from_event, step_chars, over_end}
use Rattle.document_tags.proofs.Spots.{each_more, behind_event}
use Rattle.std.specs.Prelude.{IfSome}
use Rattle.document_tags.specs.ChildElements.{GathersChildren, AreGathered}

-- nothing was passed yet
pub gathers_none : (s : Spot) (e : Element) (found : List Spot) → found ≡ [] → StandsAt s e → GathersChildren e 0 (drop (s.at + 1) s.tree.now) found
gathers_none s e found is (rest, at) = record {
  more = e.children;
  rest = rest;
  so_far = [];
  pending = behind_event s.tree.now s.at (Open e.name e.attributes) (nodes_events e.children (Close e.name ∷ rest)) at;
  spots = subst (λ (l : List Spot). AreSpots l []) (sym is) tt;
  total = refl;
}

-- inside a child element the nodes that come then stay
pub deeper : (e : Element) (depth now : ℕ) (before after : List Event) (found : List Spot) → ((rest : List Event) → Pending depth before rest → Pending now after rest) → GathersChildren e depth before found → GathersChildren e now after found
deeper e depth now before after found step g = record { more = g.more; rest = g.rest; so_far = g.so_far; pending = step (nodes_events g.more (Close e.name ∷ g.rest)) g.pending; spots = g.spots; total = g.total }

-- a child element begins
child_from : (e : Element) (more : Nodes) (rest es : List Event) (so_far : List Element) (n : List ℕ) (attributes : List Attribute) (s : Spot) (old new : List Spot) → drop s.at s.tree.now ≡ Open n attributes ∷ es → new ≡ old ++ s ∷ []
    → Open n attributes ∷ es ≡ nodes_events more (Close e.name ∷ rest) → AreSpots old so_far → so_far ++ child_elements more ≡ child_elements e.children → GathersChildren e 1 es new
child_from e none rest es so_far n attributes s old new at is here spots total = absurd (let h : Open n attributes ≡ Close e.name = (same_heads _ _ _ _ here).0 in cc)
child_from e (chars t more) rest es so_far n attributes s old new at is here spots total = absurd (let h : Open n attributes ≡ Chars t = (same_heads _ _ _ _ here).0 in cc)
child_from e (element m a children more) rest es so_far n attributes s old new at is here spots total =
    let child : Element = record { name = m; attributes = a; children = children } in
    let behind : List Event = nodes_events more (Close e.name ∷ rest) in
    record {
      more = more;
      rest = rest;
      so_far = so_far ++ child ∷ [];
      pending = one_pending children m es behind (same_heads _ _ _ _ here).1;
      spots = subst (λ (l : List Spot). AreSpots l (so_far ++ child ∷ [])) (sym is) (each_more StandsAt old so_far s child spots (behind, at ∙ here));
      total = append_assoc so_far (child ∷ []) (child_elements more) ∙ total;
    }

one_begins : (e : Element) (es : List Event) (n : List ℕ) (attributes : List Attribute) (s : Spot) (old new : List Spot) → drop s.at s.tree.now ≡ Open n attributes ∷ es → new ≡ old ++ s ∷ [] → GathersChildren e 0 (drop s.at s.tree.now) old → GathersChildren e 1 es new
one_begins e es n attributes s old new at is g = child_from e g.more g.rest es g.so_far n attributes s old new at is (sym at ∙ g.pending) g.spots g.total

-- characters are passed
chars_from : (e : Element) (more : Nodes) (rest es : List Event) (so_far : List Element) (text : List ℕ) (found : List Spot) → Chars text ∷ es ≡ nodes_events more (Close e.name ∷ rest) → AreSpots found so_far → so_far ++ child_elements more ≡ child_elements e.children → GathersChildren e 0 es found
chars_from e none rest es so_far text found here spots total = absurd (let h : Chars text ≡ Close e.name = (same_heads _ _ _ _ here).0 in cc)
chars_from e (element m a children more) rest es so_far text found here spots total = absurd (let h : Chars text ≡ Open m a = (same_heads _ _ _ _ here).0 in cc)
chars_from e (chars t more) rest es so_far text found here spots total = record { more = more; rest = rest; so_far = so_far; pending = (same_heads _ _ _ _ here).1; spots = spots; total = total }

chars_by : (e : Element) (depth : ℕ) (events es : List Event) (text : List ℕ) (found : List Spot) → events ≡ Chars text ∷ es → (0 < depth → (rest : List Event) → Pending depth events rest → Pending depth es rest) → GathersChildren e depth events found → GathersChildren e depth es found
chars_by e zero events es text found at inside g = chars_from e g.more g.rest es g.so_far text found (sym at ∙ g.pending) g.spots g.total
chars_by e (suc d) events es text found at inside g = deeper e (suc d) (suc d) events es found (inside (omega arith)) g

pub chars_pass : (e : Element) (tree : List Event) (at depth : ℕ) (text : List ℕ) (found : List Spot) → at < length tree → event_at tree at ≡ Chars text → GathersChildren e depth (drop at tree) found → GathersChildren e depth (drop (at + 1) tree) found
chars_pass e tree at depth text found inside is g = chars_by e depth (drop at tree) (drop (at + 1) tree) text found (from_event tree at (Chars text) inside is) (λ some rest. step_chars tree rest at depth text inside some is) g

-- its own end comes
end_from : (e : Element) (more : Nodes) (rest es : List Event) (so_far : List Element) (n : List ℕ) (found : List Spot) → Close n ∷ es ≡ nodes_events more (Close e.name ∷ rest) → AreSpots found so_far → so_far ++ child_elements more ≡ child_elements e.children → AreSpots found (child_elements e.children)
end_from e (element m a children more) rest es so_far n found here spots total = absurd (let h : Close n ≡ Open m a = (same_heads _ _ _ _ here).0 in cc)
end_from e (chars t more) rest es so_far n found here spots total = absurd (let h : Close n ≡ Chars t = (same_heads _ _ _ _ here).0 in cc)
end_from e none rest es so_far n found here spots total = subst (AreSpots found) (sym (append-nil so_far) ∙ total) spots

all_gathered : (e : Element) (events es : List Event) (n : List ℕ) (found : List Spot) → events ≡ Close n ∷ es → GathersChildren e 0 events found → AreSpots found (child_elements e.children)
all_gathered e events es n found at g = end_from e g.more g.rest es g.so_far n found (sym at ∙ g.pending) g.spots g.total

-- the events don't end before it
ends_by : (e : Element) (depth : ℕ) (events : List Event) (found : List Spot) → events ≡ [] → (0 < depth → (rest : List Event) → Pending depth events rest → ⊥) → GathersChildren e depth events found → ⊥
ends_by e zero events found over inside g = never g.more e.name g.rest (sym over ∙ g.pending)
ends_by e (suc d) events found over inside g = inside (omega arith) _ g.pending

pub never_over : (e : Element) (tree : List Event) (at depth : ℕ) (found : List Spot) → length tree ≤ at → drop at tree ≡ [] → GathersChildren e depth (drop at tree) found → ⊥
never_over e tree at depth found far over g = ends_by e depth (drop at tree) found over (λ some rest. over_end tree rest at depth some far) g

-- where none is still to be ended
pub at_own_start : (e : Element) (depth : ℕ) (es : List Event) (n : List ℕ) (attributes : List Attribute) (s : Spot) (old new : List Spot) → depth ≤ 0 → drop s.at s.tree.now ≡ Open n attributes ∷ es → new ≡ old ++ s ∷ [] → GathersChildren e depth (drop s.at s.tree.now) old → GathersChildren e 1 es new
at_own_start e zero es n attributes s old new low at is g = one_begins e es n attributes s old new at is g
at_own_start e (suc d) es n attributes s old new low at is g = absurd (omega (arith, low))

pub at_own_end : (e : Element) (depth : ℕ) (events es : List Event) (n : List ℕ) (found : List Spot) → depth ≤ 0 → events ≡ Close n ∷ es → GathersChildren e depth events found → AreSpots found (child_elements e.children)
at_own_end e zero events es n found low at g = all_gathered e events es n found at g
at_own_end e (suc d) events es n found low at g = absurd (omega (arith, low))

-- at what was answered
pub gathered_none : (e : Element) (events : List Event) (found : List Spot) (o : Option ℕ) → o ≡ None → AreGathered e events found o → AreSpots found (child_elements e.children)
gathered_none e events found o is h = subst (AreGathered e events found) is h

pub gathered_some : (e : Element) (events : List Event) (found : List Spot) (o : Option ℕ) (depth : ℕ) → o ≡ Some depth → AreGathered e events found o → GathersChildren e depth events found
gathered_some e events found o depth is h = subst (AreGathered e events found) is h

pub depth_near : (o : Option ℕ) (depth at : ℕ) → o ≡ Some depth → IfSome o (λ d. d ≤ at) → depth ≤ at
depth_near o depth at is h = subst (λ (p : Option ℕ). IfSome p (λ d. d ≤ at)) is h
