-- What was told is the envelope under a name, with its parts.
use Rattle.std.proofs.Common.{◌≡◌, ◌∙◌, ℕ, Bool, true, false, cond, List, [], Result, refl, ap, sym, subst}
use Rattle.std.specs.Prelude.{OnOk}
use Rattle.tree_grammar.specs.Elements.{Nodes, none, Event, nodes_events}
use Rattle.element_tree.specs.Building.{Building}
use Rattle.document_tags.specs.Telling.{Told, whole_element, marked}
use Rattle.document_tags.specs.Writing.{leaf}
use Rattle.document_tags.proofs.Tellings.{told_nothing, told_as, ok_told_as}
use Rattle.six_calls.specs.declared.part.Part.{Part}
use Rattle.six_calls.specs.declared.part.Part.TheVariants.{Osil, Osol, Ospl}
use Rattle.six_calls.specs.Names.{part_text, has}
use Rattle.soap_calls.specs.declared.call.SoapCall.{SoapCall}
use Rattle.soap_calls.specs.Calls.{text_of}
use Rattle.soap_calls.specs.Writing.{frame, ours_around, part_node, part_nodes, response_nodes, fault_nodes}

pub named_so : (a b : Building) (name other : List ℕ) (inside : Nodes) → name ≡ other → Told a b (whole_element (frame (ours_around name inside))) → Told a b (whole_element (frame (ours_around other inside)))
named_so a b name other inside is told = subst (λ (n : List ℕ). Told a b (whole_element (frame (ours_around n inside)))) is told

pub responds_so : (a b : Building) (response value one other text : List ℕ) → response ≡ one → value ≡ other → Told a b (whole_element (frame (response_nodes response value text))) → Told a b (whole_element (frame (response_nodes one other text)))
responds_so a b response value one other text is same told =
    subst (λ (v : List ℕ). Told a b (whole_element (frame (response_nodes one v text)))) same (subst (λ (r : List ℕ). Told a b (whole_element (frame (response_nodes r value text)))) is told)

pub fails_so : (a b : Building) (code other text : List ℕ) → code ≡ other → Told a b (whole_element (frame (fault_nodes code text))) → Told a b (whole_element (frame (fault_nodes other text)))
fails_so a b code other text is told = subst (λ (c : List ℕ). Told a b (whole_element (frame (fault_nodes c text)))) is told

-- a part that the call doesn't have
pub part_passed : (a : Building) (c : SoapCall) (p : Part) (had : Bool) → had ≡ has c.kind p → had ≡ false → a.attributes ≡ [] → Told a a (nodes_events (part_node c p none))
part_passed a c p had is off waiting =
    subst (λ (h : Bool). Told a a (nodes_events (cond h (leaf (part_text p) (text_of c.parts p) none) none))) (sym off ∙ is) (told_as a a (λ k. k) (nodes_events none) (λ k. refl) (told_nothing a waiting))

-- and one that it has
pub part_told : {X E : Type 0} (r : Result X E) (a b : Building) (c : SoapCall) (p : Part) (had : Bool) (name text : List ℕ) → had ≡ has c.kind p → had ≡ true → name ≡ part_text p → text ≡ text_of c.parts p
    → OnOk r (Told a b (marked name [] text)) → OnOk r (Told a b (nodes_events (part_node c p none)))
part_told r a b c p had name text is on named says told =
    ok_told_as r a b (marked name [] text) (nodes_events (part_node c p none)) (λ k.
    ap (λ (n : List ℕ). marked n [] text k) named ∙ ap (λ (t : List ℕ). marked (part_text p) [] t k) says
    ∙ ap (λ (h : Bool). nodes_events (cond h (leaf (part_text p) (text_of c.parts p) none) none) k) (sym on ∙ is)) told

node_then : (had : Bool) (name text : List ℕ) (more : Nodes) (k : List Event) → nodes_events (cond had (leaf name text none) none) (nodes_events more k) ≡ nodes_events (cond had (leaf name text more) more) k
node_then true name text more k = refl
node_then false name text more k = refl

-- all parts, one after another
pub parts_told : (c : SoapCall) (k : List Event) → nodes_events (part_node c Osil none) (nodes_events (part_node c Ospl none) (nodes_events (part_node c Osol none) k)) ≡ nodes_events (part_nodes c) k
parts_told c k =
    ap (nodes_events (part_node c Osil none)) (node_then (has c.kind Ospl) (part_text Ospl) c.parts.ospl (part_node c Osol none) k)
    ∙ node_then (has c.kind Osil) (part_text Osil) c.parts.osil (part_node c Ospl (part_node c Osol none)) k
