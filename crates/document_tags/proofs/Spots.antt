-- Elements found at their places.
use Rattle.std.proofs.Common.{◌≡◌, ◌∙◌, ℕ, suc, ◌+◌, Bool, true, false, cond, bytes_eq, List, [], ◌∷◌, ◌++◌, Some, slice_get, drop, drop-drop, add-one, refl, ap, sym, subst, append_assoc, append-nil}
use Rattle.tree_grammar.specs.Elements.{Attribute, Nodes, none, element, chars, Element, Event, Open, Chars, Close, nodes_events}
use Rattle.document_tags.specs.Rests.{child_elements}
use Rattle.document_tags.specs.declared.spot.Spot.{Spot}
use Rattle.document_tags.specs.Elements.{named, children_named, characters}
use Rattle.std.specs.List.{AllZip}
use Rattle.document_tags.specs.Spots.{StandsAt, AreSpots}
use Rattle.tree_writing.proofs.Texts.{drop-slice_get}
use Rattle.document_tags.specs.Elements.{value_of}
use Rattle.document_tags.proofs.Passages.{same_heads, never}

-- one more of each
pub each_more : {X Y : Type 0} (Is : X → Y → Type 0) (xs : List X) (ys : List Y) (x : X) (y : Y) → AllZip Is xs ys → Is x y → AllZip Is (xs ++ x ∷ []) (ys ++ y ∷ [])
each_more Is [] [] x y h i = (i, tt)
each_more Is (a ∷ xs) (b ∷ ys) x y h i = (h.0, each_more Is xs ys x y h.1 i)
each_more Is [] (b ∷ ys) x y h i = absurd h
each_more Is (a ∷ xs) [] x y h i = absurd h

by_test : (b : Bool) (e : Element) (es : List Element) → cond b (e ∷ es) es ≡ cond b (e ∷ []) [] ++ es
by_test true e es = refl
by_test false e es = refl

-- the first by its name, and then those behind it
pub named_first : (name : List ℕ) (e : Element) (es : List Element) → named name (e ∷ es) ≡ named name (e ∷ []) ++ named name es
named_first name e es = by_test (bytes_eq e.name name) e (named name es)

-- what is behind an event
pub behind_event : (es : List Event) (at : ℕ) (e : Event) (more : List Event) → drop at es ≡ e ∷ more → drop (at + 1) es ≡ more
behind_event es at e more is = sym (drop-drop 1 at es) ∙ ap (drop 1) is

-- the child elements of a name that were found so far, and this comes then
pub record Finds (e : Element) (name : List ℕ) (es : List Element) (events : List Event) (found : List Spot) : Type 0 where
  pub more : Nodes
  pub rest : List Event
  pub so_far : List Element
  pub here : events ≡ nodes_events more (Close e.name ∷ rest)
  pub spots : AreSpots found so_far
  pub total : so_far ++ named name (child_elements more) ≡ es ++ children_named name e

-- nothing was found yet
pub finds_none : (s : Spot) (e : Element) (name : List ℕ) (es : List Element) (found : List Spot) → StandsAt s e → AreSpots found es → Finds e name es (drop (s.at + 1) s.tree.now) found
finds_none s e name es found (rest, is) spots = record {
  more = e.children;
  rest = rest;
  so_far = es;
  here = behind_event s.tree.now s.at (Open e.name e.attributes) (nodes_events e.children (Close e.name ∷ rest)) is;
  spots = spots;
  total = refl;
}

-- one child more
pub finds_more : (e child : Element) (name : List ℕ) (es so_far : List Element) (more after : Nodes) (events rest : List Event) (found : List Spot)
    → child_elements more ≡ child ∷ child_elements after → so_far ++ named name (child_elements more) ≡ es ++ children_named name e
    → events ≡ nodes_events after (Close e.name ∷ rest) → AreSpots found (so_far ++ named name (child ∷ [])) → Finds e name es events found
finds_more e child name es so_far more after events rest found first total here spots = record {
  more = after;
  rest = rest;
  so_far = so_far ++ named name (child ∷ []);
  here = here;
  spots = spots;
  total = append_assoc so_far (named name (child ∷ [])) (named name (child_elements after)) ∙ ap (λ (l : List Element). so_far ++ l) (sym (ap (named name) first ∙ named_first name child (child_elements after))) ∙ total;
}

-- all were found
pub finds_all : (e : Element) (name : List ℕ) (es so_far : List Element) (more : Nodes) (found : List Spot) → child_elements more ≡ [] → so_far ++ named name (child_elements more) ≡ es ++ children_named name e → AreSpots found so_far → AreSpots found (es ++ children_named name e)
finds_all e name es so_far more found over total spots =
    subst (λ (l : List Element). AreSpots found l) (sym (append-nil so_far) ∙ ap (λ (l : List Element). so_far ++ named name l) (sym over) ∙ total) spots

-- the characters that were collected so far, and this comes then
pub record Collects (e : Element) (events : List Event) (out : List ℕ) : Type 0 where
  pub more : Nodes
  pub rest : List Event
  pub here : events ≡ nodes_events more (Close e.name ∷ rest)
  pub total : out ++ characters more ≡ characters e.children

pub collects_none : (s : Spot) (e : Element) (out : List ℕ) → out ≡ [] → StandsAt s e → Collects e (drop (s.at + 1) s.tree.now) out
collects_none s e out is_empty (rest, is) = record {
  more = e.children;
  rest = rest;
  here = behind_event s.tree.now s.at (Open e.name e.attributes) (nodes_events e.children (Close e.name ∷ rest)) is;
  total = ap (λ (l : List ℕ). l ++ characters e.children) is_empty;
}

-- characters
chars_from : (e : Element) (more : Nodes) (rest es : List Event) (text out new : List ℕ) → new ≡ out ++ text → out ++ characters more ≡ characters e.children → Chars text ∷ es ≡ nodes_events more (Close e.name ∷ rest) → Collects e es new
chars_from e none rest es text out new is total here = absurd (let h : Chars text ≡ Close e.name = (same_heads _ _ _ _ here).0 in cc)
chars_from e (element m a children more) rest es text out new is total here = absurd (let h : Chars text ≡ Open m a = (same_heads _ _ _ _ here).0 in cc)
chars_from e (chars t more) rest es text out new is total here =
    let h : Chars text ≡ Chars t = (same_heads _ _ _ _ here).0 in
    let same : text ≡ t = cc in
    record { more = more; rest = rest; here = (same_heads _ _ _ _ here).1; total = ap (λ (l : List ℕ). l ++ characters more) (is ∙ ap (λ (l : List ℕ). out ++ l) same) ∙ append_assoc out t (characters more) ∙ total }

pub collects_chars : (e : Element) (events es : List Event) (text out new : List ℕ) → new ≡ out ++ text → Collects e events out → events ≡ Chars text ∷ es → Collects e es new
collects_chars e events es text out new is c e2 = chars_from e c.more c.rest es text out new is c.total (sym e2 ∙ c.here)

-- a child element is passed
child_from : (e : Element) (more : Nodes) (rest es after : List Event) (n : List ℕ) (attributes : List Attribute) (out : List ℕ) → out ++ characters more ≡ characters e.children → Open n attributes ∷ es ≡ nodes_events more (Close e.name ∷ rest)
    → ((name : List ℕ) (content : Nodes) (behind : List Event) → es ≡ nodes_events content (Close name ∷ behind) → after ≡ behind) → Collects e after out
child_from e none rest es after n attributes out total here passes = absurd (let h : Open n attributes ≡ Close e.name = (same_heads _ _ _ _ here).0 in cc)
child_from e (element m a children more) rest es after n attributes out total here passes = record { more = more; rest = rest; here = passes m children (nodes_events more (Close e.name ∷ rest)) (same_heads _ _ _ _ here).1; total = total }
child_from e (chars t more) rest es after n attributes out total here passes = absurd (let h : Open n attributes ≡ Chars t = (same_heads _ _ _ _ here).0 in cc)

pub collects_child : (e : Element) (events es after : List Event) (n : List ℕ) (attributes : List Attribute) (out : List ℕ) → Collects e events out → events ≡ Open n attributes ∷ es
    → ((name : List ℕ) (content : Nodes) (behind : List Event) → es ≡ nodes_events content (Close name ∷ behind) → after ≡ behind) → Collects e after out
collects_child e events es after n attributes out c e2 passes = child_from e c.more c.rest es after n attributes out c.total (sym e2 ∙ c.here) passes

-- the end
end_from : (e : Element) (more : Nodes) (rest es : List Event) (n out : List ℕ) → out ++ characters more ≡ characters e.children → Close n ∷ es ≡ nodes_events more (Close e.name ∷ rest) → out ≡ characters e.children
end_from e none rest es n out total here = sym (append-nil out) ∙ total
end_from e (element m a children more) rest es n out total here = absurd (let h : Close n ≡ Open m a = (same_heads _ _ _ _ here).0 in cc)
end_from e (chars t more) rest es n out total here = absurd (let h : Close n ≡ Chars t = (same_heads _ _ _ _ here).0 in cc)

pub collects_end : (e : Element) (events es : List Event) (n out : List ℕ) → Collects e events out → events ≡ Close n ∷ es → out ≡ characters e.children
collects_end e events es n out c e2 = end_from e c.more c.rest es n out c.total (sym e2 ∙ c.here)

pub collects_some : (e : Element) (events : List Event) (out : List ℕ) → Collects e events out → events ≡ [] → ⊥
collects_some e events out c over = never c.more e.name c.rest (sym over ∙ c.here)

-- an element that has the name is added, and another isn't
pub kept : (b : Bool) (old new : List Spot) (es : List Element) (s : Spot) (e : Element) → b ≡ true → new ≡ old ++ s ∷ [] → AreSpots old es → StandsAt s e → AreSpots new (es ++ cond b (e ∷ []) [])
kept true old new es s e same is spots stands = subst (λ (l : List Spot). AreSpots l (es ++ e ∷ [])) (sym is) (each_more StandsAt old es s e spots stands)
kept false old new es s e same is spots stands = absurd (let h : false ≡ true = same in cc)

pub passed_over : (b : Bool) (old : List Spot) (es : List Element) (e : Element) → b ≡ false → AreSpots old es → AreSpots old (es ++ cond b (e ∷ []) [])
passed_over false old es e other spots = subst (λ (l : List Element). AreSpots old l) (sym (append-nil es)) spots
passed_over true old es e other spots = absurd (let h : true ≡ false = other in cc)

-- the value of the first attribute of a name
pub value_found : (name : List ℕ) (as' : List Attribute) (k : ℕ) (a : Attribute) → slice_get as' k ≡ Some a → bytes_eq a.name name ≡ true → value_of name (drop k as') ≡ value_of name as' → value_of name as' ≡ Some a.value
value_found name as' k a at same before =
    sym before ∙ ap (value_of name) (drop-slice_get as' k a at) ∙ ap (λ (b : Bool). cond b (Some a.value) (value_of name (drop (suc k) as'))) same

pub value_passed : (name : List ℕ) (as' : List Attribute) (k : ℕ) (a : Attribute) → slice_get as' k ≡ Some a → bytes_eq a.name name ≡ false → value_of name (drop k as') ≡ value_of name as' → value_of name (drop (k + 1) as') ≡ value_of name as'
value_passed name as' k a at other before =
    let step : value_of name (drop k as') ≡ value_of name (drop (suc k) as') = ap (value_of name) (drop-slice_get as' k a at) ∙ ap (λ (b : Bool). cond b (Some a.value) (value_of name (drop (suc k) as'))) other in
    ap (λ n. value_of name (drop n as')) (add-one k) ∙ sym step ∙ before
