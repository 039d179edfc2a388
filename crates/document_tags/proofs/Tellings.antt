-- What a builder is told one thing after another.
use Rattle.std.proofs.Common.{◌≡◌, ◌∙◌, ℕ, List, [], ◌∷◌, ◌++◌, Result, Ok, Err, refl, ap, sym, subst, append-nil}
use Rattle.std.specs.Prelude.{OnOk}
use Rattle.tree_grammar.specs.Elements.{Attribute, Nodes, none, element, chars, Element, Event, events, nodes_events}
use Rattle.element_tree.specs.Building.{Building, said}
use Rattle.element_tree.specs.Nesting.{IsOneElement}
use Rattle.document_tags.specs.Writing.{text_nodes}
use Rattle.document_tags.specs.Telling.{Told, ToldAttributes, opening, closing}

-- one thing told, and then another
pub told_then : (a b c : Building) (f g : List Event → List Event) → Told a b f → Told b c g → Told a c (λ k. f (g k))
told_then a b c f g first second = record { told = λ behind. second.told behind ∙ first.told (g behind); waiting = second.waiting }

-- the last thing told is the call's own
pub ends_told : {X E : Type 0} (r : Result X E) (a b c : Building) (f g : List Event → List Event) → Told a b f → OnOk r (Told b c g) → OnOk r (Told a c (λ k. f (g k)))
ends_told (Ok x) a b c f g first second = told_then a b c f g first second
ends_told (Err e) a b c f g first second = tt

-- what is told is the same in other words
pub told_as : (a b : Building) (f g : List Event → List Event) → ((k : List Event) → f k ≡ g k) → Told a b f → Told a b g
told_as a b f g same tells = record { told = λ behind. tells.told behind ∙ ap (λ more. said a ++ more) (same behind); waiting = tells.waiting }

pub ok_told_as : {X E : Type 0} (r : Result X E) (a b : Building) (f g : List Event → List Event) → ((k : List Event) → f k ≡ g k) → OnOk r (Told a b f) → OnOk r (Told a b g)
ok_told_as (Ok x) a b f g same tells = told_as a b f g same tells
ok_told_as (Err e) a b f g same tells = tt

-- nothing told
pub told_nothing : (a : Building) → a.attributes ≡ [] → Told a a (λ k. k)
told_nothing a waiting = record { told = λ behind. refl; waiting = waiting }

-- one of several things was told, and those behind it are still to be told
pub one_told : (start a b : Building) (all_of one_of one more : List Event → List Event) → ((k : List Event) → one_of k ≡ one (more k)) → Told a b one
    → ((behind : List Event) → said a ++ one_of behind ≡ said start ++ all_of behind) → (behind : List Event) → said b ++ more behind ≡ said start ++ all_of behind
one_told start a b all_of one_of one more same tells before behind = tells.told (more behind) ∙ ap (λ events. said a ++ events) (sym (same behind)) ∙ before behind

-- an element with what stands in it
pub told_around : (a b c d : Building) (name : List ℕ) (attributes : List Attribute) (inner : Nodes) → Told a b (opening name attributes) → Told b c (nodes_events inner) → Told c d (closing name) → Told a d (nodes_events (element name attributes inner none))
told_around a b c d name attributes inner begins inside ends = told_then a c d (λ k. opening name attributes (nodes_events inner k)) (closing name) (told_then a b c (opening name attributes) (nodes_events inner) begins inside) ends

-- what was told before only attributes were told
pub told_after : (a b c : Building) (f : List Event → List Event) → said b ≡ said a → Told b c f → Told a c f
told_after a b c f same tells = record { told = λ behind. tells.told behind ∙ ap (λ (l : List Event). l ++ f behind) same; waiting = tells.waiting }

-- an element with the attributes that waited
pub content_told : (a b c : Building) (name : List ℕ) (waits attributes : List Attribute) (children : Nodes) → said b ≡ said a → waits ≡ attributes → Told b c (nodes_events (element name waits children none)) → Told a c (nodes_events (element name attributes children none))
content_told a b c name waits attributes children same is tells = told_after a b c (nodes_events (element name attributes children none)) same (subst (λ (l : List Attribute). Told b c (nodes_events (element name l children none))) is tells)

-- attributes, and then more of them
pub attributes_then : (a b c : Building) (xs ys : List Attribute) → ToldAttributes a b xs → ToldAttributes b c ys → said c ≡ said a
attributes_then a b c xs ys first second = second.told ∙ first.told

-- a text that isn't empty is one run of characters
pub some_text : (text : List ℕ) → (text ≡ [] → ⊥) → text_nodes text ≡ chars text none
some_text [] some = absurd (some refl)
some_text (c ∷ cs) some = refl

-- what was told from nothing is the element whose events it is
pub told_element : (start b : Building) (f : List Event → List Event) (e : Element) → start ≡ record { events = []; attributes = []; text = [] } → Told start b f → f [] ≡ events e → said b ≡ events e
told_element start b f e is_new tells is = sym (append-nil (said b)) ∙ tells.told [] ∙ ap (λ (s : Building). said s ++ f []) is_new ∙ is

-- and so is one element
pub told_one : (start b : Building) (f : List Event → List Event) (e : Element) → start ≡ record { events = []; attributes = []; text = [] } → Told start b f → f [] ≡ events e → IsOneElement (said b)
told_one start b f e is_new tells is = record { element = e; same = told_element start b f e is_new tells is }
