-- The parts of a tree's text.
use Rattle.std.proofs.Common.{◌≡◌, ℕ, suc, zero, ◌+◌, ◌<◌, List, [], ◌∷◌, ◌++◌, Bool, true, false, slice_get, drop, add-one, length, Some, refl, sym, ◌∙◌, ap, append_assoc}
use Rattle.std.proofs.Math.Seq.{drop-cons}
use Rattle.tree_grammar.specs.Elements.{Attribute, Element, Event, Open, Chars, Close, events}
use Rattle.tree_grammar.specs.WrittenText.{escaped, escaped_value, tag_end, element_end, written_attributes, written_events, written_element, written_declaration, written}
use Rattle.element_tree.specs.Items.{event_at, attributes_of}
use Rattle.tree_writing.specs.TextParts.{is_open_behind, event_text}

-- what stands from an index on
pub drop-slice_get : {X : Type 0} (xs : List X) (k : ℕ) (x : X) → slice_get xs k ≡ Some x → drop k xs ≡ x ∷ drop (suc k) xs
drop-slice_get [] k x e = cc
drop-slice_get (y ∷ ys) zero x e = let h : y ≡ x = cc in ap (λ z. z ∷ ys) h
drop-slice_get (y ∷ ys) (suc k) x e = drop-slice_get ys k x e

-- one attribute, and what stands behind it
pub attribute_end : (a : Attribute) (k : List ℕ) → 32 ∷ (a.name ++ (61 ∷ 34 ∷ (escaped_value a.value ++ (34 ∷ k)))) ≡ written_attributes (a ∷ []) [] ++ k
attribute_end a k = ap (λ z. 32 ∷ z) (sym (append_assoc a.name (61 ∷ 34 ∷ (escaped_value a.value ++ (34 ∷ []))) k ∙ ap (λ z. a.name ++ (61 ∷ 34 ∷ z)) (append_assoc (escaped_value a.value) (34 ∷ []) k)))

-- attributes, and what stands behind them
pub attributes_end : (list : List Attribute) (k : List ℕ) → written_attributes list k ≡ written_attributes list [] ++ k
attributes_end [] k = refl
attributes_end (a ∷ more) k =
    let w = written_attributes more [] in
    ap (λ z. 32 ∷ (a.name ++ (61 ∷ 34 ∷ (escaped_value a.value ++ (34 ∷ z))))) (attributes_end more k)
    ∙ ap (λ z. 32 ∷ z) (sym (append_assoc a.name (61 ∷ 34 ∷ (escaped_value a.value ++ (34 ∷ w))) k ∙ ap (λ z. a.name ++ (61 ∷ 34 ∷ z)) (append_assoc (escaped_value a.value) (34 ∷ w) k)))

-- the text of one attribute
abbrev pub attribute_text : Attribute → List ℕ
attribute_text a = written_attributes (a ∷ []) []

-- one attribute, and those behind it
pub attribute_rest : (list : List Attribute) (k : ℕ) (a : Attribute) → slice_get list k ≡ Some a → written_attributes (drop k list) [] ≡ attribute_text a ++ written_attributes (drop (k + 1) list) []
attribute_rest list k a found =
    let behind = drop (suc k) list in
    ap (λ z. written_attributes z []) (drop-slice_get list k a found)
    ∙ (attribute_end a (written_attributes behind []) ∙ ap (λ n. attribute_text a ++ written_attributes (drop n list) []) (sym (add-one k)))

-- the end of a start tag before a text in two parts
pub tag_end_more : (is_open : Bool) (x k : List ℕ) → tag_end is_open (x ++ k) ≡ tag_end is_open x ++ k
tag_end_more false x k = refl
tag_end_more true x k = refl

-- the end of an element, and what stands behind it
pub element_end_more : (is_open : Bool) (name k : List ℕ) → element_end is_open name k ≡ element_end is_open name [] ++ k
element_end_more false name k = ap (λ z. 60 ∷ 47 ∷ z) (sym (append_assoc name (62 ∷ []) k))
element_end_more true name k = refl

-- one event, and those behind it
pub event_rest : (is_open : Bool) (e : Event) (more : List Event) → written_events is_open (e ∷ more) ≡ event_text is_open e ++ written_events (is_open_behind e) more
event_rest is_open (Open name list) more =
    let w = written_events true more in
    ap (λ z. tag_end is_open (60 ∷ (name ++ z))) (attributes_end list w)
    ∙ (ap (λ z. tag_end is_open (60 ∷ z)) (sym (append_assoc name (written_attributes list []) w)) ∙ tag_end_more is_open (60 ∷ (name ++ written_attributes list [])) w)
event_rest is_open (Chars text) more = tag_end_more is_open (escaped text) (written_events false more)
event_rest is_open (Close name) more = element_end_more is_open name (written_events false more)

-- the beginning of a start tag, behind the end of one that is open
pub open_text : (is_open : Bool) (end name : List ℕ) → end ≡ tag_end is_open [] → end ++ (60 ∷ name) ≡ tag_end is_open (60 ∷ name)
open_text is_open end name p = ap (λ z. z ++ (60 ∷ name)) p ∙ sym (tag_end_more is_open [] (60 ∷ name))

-- the text of a start tag
pub tag_text : (is_open : Bool) (e : Event) (name : List ℕ) → e ≡ Open name (attributes_of e) → tag_end is_open (60 ∷ name) ++ written_attributes (attributes_of e) [] ≡ event_text is_open e
tag_text is_open e name same =
    let attributes = written_attributes (attributes_of e) [] in
    sym (tag_end_more is_open (60 ∷ name) attributes) ∙ ap (event_text is_open) (sym same)

-- the text of characters, behind the end of a start tag that is open
pub chars_text : (is_open : Bool) (end text : List ℕ) → end ≡ tag_end is_open [] → end ++ escaped text ≡ tag_end is_open (escaped text)
chars_text is_open end text p = ap (λ z. z ++ escaped text) p ∙ sym (tag_end_more is_open [] (escaped text))

-- the event at an index, and those behind it
pub event_step : (told : List Event) (i : ℕ) (is_open : Bool) → i < length told → written_events is_open (drop i told) ≡ event_text is_open (event_at told i) ++ written_events (is_open_behind (event_at told i)) (drop (i + 1) told)
event_step told i is_open below =
    ap (written_events is_open) (drop-cons told i (Close []) below)
    ∙ (event_rest is_open (event_at told i) (drop (suc i) told) ∙ ap (λ n. event_text is_open (event_at told i) ++ written_events (is_open_behind (event_at told i)) (drop n told)) (sym (add-one i)))

-- the text of all events, behind the declaration, is that of their element
pub whole_text : (told : List Event) (e : Element) → told ≡ events e → ((x : Element) → written_events false (events x) ≡ written_element x) → written_declaration ++ written_events false told ≡ written e
whole_text told e same law = ap (λ z. written_declaration ++ z) (ap (written_events false) same ∙ law e)
