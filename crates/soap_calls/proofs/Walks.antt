-- What the marks of nodes leave, whatever marks come behind them: place by place, from the innermost.
use Rattle.std.proofs.Common.{◌≡◌, ◌∙◌, ℕ, zero, suc, ◌+◌, ◌-◌, Bool, true, false, cond, bytes_eq, Option, None, Some, List, [], ◌∷◌, ◌++◌, map, refl, ap, sym, arith, add-one, append_assoc, append-nil}
use Rattle.std.specs.Prelude.{codes}
use Rattle.tree_grammar.specs.Elements.{Nodes, none, element, chars, Element, Event, Close, events, nodes_events}
use Rattle.doc_tree.specs.Marks.{Mark, Char, spread}
use Rattle.six_calls.specs.declared.part.Part.{Part}
use Rattle.six_calls.specs.declared.part.Part.TheVariants.{Osil, Osol, Ospl}
use Rattle.soap_calls.specs.declared.parse_state.Told.{Told}
use Rattle.soap_calls.specs.declared.parse_state.Told.TheVariants.{Nothing, Plainly, Badly}
use Rattle.soap_calls.specs.declared.parse_state.PartsTold.{PartsTold}
use Rattle.soap_calls.specs.declared.parse_state.Found.{Found}
use Rattle.soap_calls.specs.declared.parse_state.Found.TheVariants.{NoBody, NoElement, Other, Call, NoEnvelope}
use Rattle.soap_calls.specs.declared.parse_state.Place.{Place}
use Rattle.soap_calls.specs.declared.parse_state.Place.TheVariants.{Outside, InEnvelope, InBody, InElement, InPart}
use Rattle.soap_calls.specs.declared.parse_state.ParseState.{ParseState}
use Rattle.soap_calls.specs.Marked.{begun, longer, spoilt, changed, element_named, body_begun, element_begun, part_in, with_part, start, part_begun, said_in, said_over, said, left_by, left}
use Rattle.mark_folds.specs.Folds.{folded_both}
use Rattle.mark_folds.proofs.PassedOver.{nodes_passed}

abbrev pub at : Place → ℕ → Found → ParseState
at place over found = record { place = place; over = over; found = found }

-- ---- characters

longer_none : (t : Told) → longer [] t ≡ t
longer_none Nothing = refl
longer_none (Plainly text) = ap (λ (x : List ℕ). Plainly x) (append-nil text)
longer_none Badly = refl

longer_both : (a b : List ℕ) (t : Told) → longer b (longer a t) ≡ longer (a ++ b) t
longer_both a b Nothing = refl
longer_both a b (Plainly text) = ap (λ (x : List ℕ). Plainly x) (append_assoc text a b)
longer_both a b Badly = refl

told_none : (p : Part) (t : PartsTold) → changed p (longer []) t ≡ t
told_none Osil t = ap (λ (x : Told). record { osil = x; osol = t.osol; ospl = t.ospl }) (longer_none t.osil)
told_none Osol t = ap (λ (x : Told). record { osil = t.osil; osol = x; ospl = t.ospl }) (longer_none t.osol)
told_none Ospl t = ap (λ (x : Told). record { osil = t.osil; osol = t.osol; ospl = x }) (longer_none t.ospl)

told_both : (p : Part) (a b : List ℕ) (t : PartsTold) → changed p (longer b) (changed p (longer a) t) ≡ changed p (longer (a ++ b)) t
told_both Osil a b t = ap (λ (x : Told). record { osil = x; osol = t.osol; ospl = t.ospl }) (longer_both a b t.osil)
told_both Osol a b t = ap (λ (x : Told). record { osil = t.osil; osol = x; ospl = t.ospl }) (longer_both a b t.osol)
told_both Ospl a b t = ap (λ (x : Told). record { osil = t.osil; osol = t.osol; ospl = x }) (longer_both a b t.ospl)

with_none : (p : Part) (f : Found) → with_part p (longer []) f ≡ f
with_none p NoBody = refl
with_none p NoElement = refl
with_none p (Other name) = refl
with_none p (Call kind told) = ap (λ (t : PartsTold). Call kind t) (told_none p told)
with_none p NoEnvelope = refl

with_both : (p : Part) (a b : List ℕ) (f : Found) → with_part p (longer b) (with_part p (longer a) f) ≡ with_part p (longer (a ++ b)) f
with_both p a b NoBody = refl
with_both p a b NoElement = refl
with_both p a b (Other name) = refl
with_both p a b (Call kind told) = ap (λ (t : PartsTold). Call kind t) (told_both p a b told)
with_both p a b NoEnvelope = refl

in_none : (place : Place) (f : Found) → said_in place [] f ≡ f
in_none Outside f = refl
in_none InEnvelope f = refl
in_none InBody f = refl
in_none InElement f = refl
in_none (InPart p) f = with_none p f

in_both : (place : Place) (a b : List ℕ) (f : Found) → said_in place b (said_in place a f) ≡ said_in place (a ++ b) f
in_both Outside a b f = refl
in_both InEnvelope a b f = refl
in_both InBody a b f = refl
in_both InElement a b f = refl
in_both (InPart p) a b f = with_both p a b f

over_none : (over : ℕ) (place : Place) (f : Found) → said_over over place [] f ≡ f
over_none zero place f = in_none place f
over_none (suc d) place f = refl

over_both : (over : ℕ) (place : Place) (a b : List ℕ) (f : Found) → said_over over place b (said_over over place a f) ≡ said_over over place (a ++ b) f
over_both zero place a b f = in_both place a b f
over_both (suc d) place a b f = refl

-- characters one by one are all at once
pub chars_left : (text : List ℕ) (s : ParseState) → left s (map Char text) ≡ said s text
chars_left [] s = ap (λ (f : Found). at s.place s.over f) (sym (over_none s.over s.place s.found))
chars_left (c ∷ cs) s = chars_left cs (said s (c ∷ [])) ∙ ap (λ (f : Found). at s.place s.over f) (over_both s.over s.place (c ∷ []) cs s.found)

-- and so before others
chars_then : (text : List ℕ) (s : ParseState) (k : List Mark) → left s (map Char text ++ k) ≡ left (said s text) k
chars_then text s k = folded_both left_by s (map Char text) k ∙ ap (λ (z : ParseState). left z k) (chars_left text s)

-- ---- nodes: in an element that is passed over

over_left : (ns : Nodes) (place : Place) (d : ℕ) (f : Found) (k : List Event) → left (at place (suc d) f) (spread (nodes_events ns k)) ≡ left (at place (suc d) f) (spread k)
over_left ns place d f k =
    nodes_passed left_by (λ n. at place (suc n) f) (λ n c. refl) (λ n name as'. ap (λ (m : ℕ). at place m f) (add-one (suc n)))
    (λ n name. let one_less : suc (suc n) - 1 ≡ suc n = omega arith in ap (λ (m : ℕ). at place m f) one_less) ns d k

-- one whole element that is passed over
pub passed_left : (inside : Nodes) (name : List ℕ) (place : Place) (f : Found) (k : List Event) → left (at place 1 f) (spread (nodes_events inside (Close name ∷ k))) ≡ left (at place 0 f) (spread k)
passed_left inside name place f k = over_left inside place 0 f (Close name ∷ k)

-- ---- in a part

abbrev pub part_nodes : Part → Found → Nodes → Found
part_nodes p f none = f
part_nodes p f (chars text more) = part_nodes p (with_part p (longer text) f) more
part_nodes p f (element name as' inside more) = part_nodes p (with_part p spoilt f) more

part_left : (ns : Nodes) (p : Part) (f : Found) (k : List Event) → left (at (InPart p) 0 f) (spread (nodes_events ns k)) ≡ left (at (InPart p) 0 (part_nodes p f ns)) (spread k)
part_left none p f k = refl
part_left (chars text more) p f k = chars_then text (at (InPart p) 0 f) (spread (nodes_events more k)) ∙ part_left more p (with_part p (longer text) f) k
part_left (element name as' inside more) p f k = passed_left inside name (InPart p) (with_part p spoilt f) (nodes_events more k) ∙ part_left more p (with_part p spoilt f) k

-- ---- in the element in a body

abbrev pub child_nodes : Option Part → Found → Nodes → Found
child_nodes None f inside = f
child_nodes (Some p) f inside = part_nodes p (with_part p begun f) inside

abbrev pub element_nodes : Found → Nodes → Found
element_nodes f none = f
element_nodes f (chars text more) = element_nodes f more
element_nodes f (element name as' inside more) = element_nodes (child_nodes (part_in f name) f inside) more

child_left : (o : Option Part) (inside : Nodes) (name : List ℕ) (f : Found) (k : List Event) → left (part_begun (at InElement 0 f) o) (spread (nodes_events inside (Close name ∷ k))) ≡ left (at InElement 0 (child_nodes o f inside)) (spread k)
child_left None inside name f k = passed_left inside name InElement f k
child_left (Some p) inside name f k = part_left inside p (with_part p begun f) (Close name ∷ k)

element_left : (ns : Nodes) (f : Found) (k : List Event) → left (at InElement 0 f) (spread (nodes_events ns k)) ≡ left (at InElement 0 (element_nodes f ns)) (spread k)
element_left none f k = refl
element_left (chars text more) f k = chars_then text (at InElement 0 f) (spread (nodes_events more k)) ∙ element_left more f k
element_left (element name as' inside more) f k = child_left (part_in f name) inside name f (nodes_events more k) ∙ element_left more (child_nodes (part_in f name) f inside) k

-- ---- in a body

abbrev pub body_nodes : Found → Nodes → Found
body_nodes f none = f
body_nodes f (chars text more) = body_nodes f more
body_nodes f (element name as' inside more) = body_nodes (element_nodes (element_begun (element_named name) f) inside) more

body_left : (ns : Nodes) (f : Found) (k : List Event) → left (at InBody 0 f) (spread (nodes_events ns k)) ≡ left (at InBody 0 (body_nodes f ns)) (spread k)
body_left none f k = refl
body_left (chars text more) f k = chars_then text (at InBody 0 f) (spread (nodes_events more k)) ∙ body_left more f k
body_left (element name as' inside more) f k =
    element_left inside (element_begun (element_named name) f) (Close name ∷ nodes_events more k) ∙ body_left more (element_nodes (element_begun (element_named name) f) inside) k

-- ---- in the envelope

abbrev pub envelope_child : Bool → Found → Nodes → Found
envelope_child true f inside = body_nodes (body_begun f) inside
envelope_child false f inside = f

abbrev pub envelope_nodes : Found → Nodes → Found
envelope_nodes f none = f
envelope_nodes f (chars text more) = envelope_nodes f more
envelope_nodes f (element name as' inside more) = envelope_nodes (envelope_child (bytes_eq name (codes "Body")) f inside) more

begun_left : (b : Bool) (inside : Nodes) (name : List ℕ) (f : Found) (k : List Event)
    → left (cond b (at InBody 0 (body_begun f)) (at InEnvelope 1 f)) (spread (nodes_events inside (Close name ∷ k))) ≡ left (at InEnvelope 0 (envelope_child b f inside)) (spread k)
begun_left true inside name f k = body_left inside (body_begun f) (Close name ∷ k)
begun_left false inside name f k = passed_left inside name InEnvelope f k

envelope_left : (ns : Nodes) (f : Found) (k : List Event) → left (at InEnvelope 0 f) (spread (nodes_events ns k)) ≡ left (at InEnvelope 0 (envelope_nodes f ns)) (spread k)
envelope_left none f k = refl
envelope_left (chars text more) f k = chars_then text (at InEnvelope 0 f) (spread (nodes_events more k)) ∙ envelope_left more f k
envelope_left (element name as' inside more) f k =
    begun_left (bytes_eq name (codes "Body")) inside name f (nodes_events more k) ∙ envelope_left more (envelope_child (bytes_eq name (codes "Body")) f inside) k

-- ---- the document

abbrev pub root_found : Element → Found
root_found root = envelope_nodes (cond (bytes_eq root.name (codes "Envelope")) NoBody NoEnvelope) root.children

pub root_left : (root : Element) → (left start (spread (events root))).found ≡ root_found root
root_left root = ap (λ (s : ParseState). s.found) (envelope_left root.children (cond (bytes_eq root.name (codes "Envelope")) NoBody NoEnvelope) (Close root.name ∷ []))
