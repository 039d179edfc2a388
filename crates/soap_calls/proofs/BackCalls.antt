-- The envelope that a call is written as is that call's.
use Rattle.std.proofs.Common.{◌≡◌, ℕ, suc, ◌≤◌, Bool, true, false, cond, bytes_eq, Some, List, [], ◌∷◌, length, append-nil, refl, ap, sym, subst, lit≤}
use Rattle.std.specs.Prelude.{codes}
use Rattle.std.specs.List.{list_all}
use Rattle.std.proofs.lemmas.Slice.Eq.{bytes_eq-Decides}
use Rattle.tree_grammar.specs.Characters.{IsXmlText, local_part}
use Rattle.tree_grammar.specs.Elements.{Nodes, none, element, Element}
use Rattle.document_tags.specs.Elements.{characters, children_named}
use Rattle.document_tags.specs.Rests.{child_elements}
use Rattle.document_tags.specs.Texts.{document_limit, IsDocument}
use Rattle.document_tags.specs.Writing.{text_nodes, leaf, group}
use Rattle.document_tags.proofs.PrintableTexts.{fixed_text}
use Rattle.document_tags.proofs.XmlNodes.{is_tag, AreFlat, none_flat, text_flat, element_flat, still_flat, written_is_document}
use Rattle.document_tags.specs.OneChild.{unless_elements}
use Rattle.six_calls.specs.declared.call.CallKind.{CallKind}
use Rattle.six_calls.specs.declared.part.Part.{Part}
use Rattle.six_calls.specs.declared.part.Part.TheVariants.{Osil, Osol, Ospl}
use Rattle.soap_calls.specs.declared.call.Parts.{Parts}
use Rattle.soap_calls.specs.declared.call.SoapCall.{SoapCall}
use Rattle.six_calls.specs.Names.{kind_text, part_text, has, all_kinds}
use Rattle.six_calls.proofs.Names.{each_passes}
use Rattle.soap_calls.specs.Calls.{text_among, text_of, IsCallIn, IsCallText}
use Rattle.soap_calls.specs.Writing.{ours, frame, ours_around, part_node, part_nodes, call_text}
use Rattle.soap_calls.specs.Back.{AreTexts}

-- the envelope that is read, without prefixes and namespaces
abbrev pub read_frame : Nodes → Element
read_frame inside = record { name = codes "Envelope"; attributes = []; children = group (codes "Body") inside none }

abbrev pub bare : List ℕ → Nodes → Nodes
bare name inside = element name [] inside none

-- what an element says that holds a text
pub plain_leaf : (text : List ℕ) → unless_elements (child_elements (text_nodes text)) (characters (text_nodes text)) ≡ Some text
plain_leaf [] = refl
plain_leaf (c ∷ cs) = ap (λ (t : List ℕ). Some t) (append-nil (c ∷ cs))

-- an element of letters that holds a text, and then more
pub leaf_flat : (n : ℕ) (name text : List ℕ) (more : Nodes) → is_tag name [] ≡ true → local_part name ≡ name → IsXmlText text → AreFlat (suc n) more more → AreFlat (suc n) (leaf name text more) (leaf name text more)
leaf_flat n name text more is plain xml rest =
    let flat = element_flat n name [] (text_nodes text) more (text_nodes text) more is tt (text_flat n text xml) rest in
    subst (λ (m : List ℕ). AreFlat (suc n) (leaf name text more) (leaf m text more)) plain flat

-- an element in the namespace of the Optimization Services
pub ours_flat : (n : ℕ) (name : List ℕ) (inside : Nodes) → is_tag name ours ≡ true → local_part name ≡ name → AreFlat n inside inside → AreFlat (suc n) (ours_around name inside) (bare name inside)
ours_flat n name inside is plain flat =
    let one = element_flat n name ours inside none inside none is (fixed_text (codes "os.optimizationservices.org") refl, tt) flat (none_flat (suc n)) in
    subst (λ (m : List ℕ). AreFlat (suc n) (ours_around name inside) (bare m inside)) plain one

-- a body
pub body_flat : (n : ℕ) (inside kept : Nodes) → AreFlat n inside kept → AreFlat (suc n) (group (codes "soap:Body") inside none) (group (codes "Body") kept none)
body_flat n inside kept flat = element_flat n (codes "soap:Body") [] inside none kept none refl tt flat (none_flat (suc n))

pub soap_text : IsXmlText (codes "http://schemas.xmlsoap.org/soap/envelope/")
soap_text = fixed_text (codes "http://schemas.xmlsoap.org/soap/envelope/") refl

-- the name of a part, and the name of a call or of what answers one, are those of elements, without a prefix
abbrev is_plain : List ℕ → Bool
is_plain name = cond (is_tag name []) (cond (is_tag name ours) (bytes_eq (local_part name) name) false) false

pub record IsPlain (name : List ℕ) : Type 0 where
  pub bare : is_tag name [] ≡ true
  pub named : is_tag name ours ≡ true
  pub local : local_part name ≡ name

both : (a b : Bool) → cond a b false ≡ true → (a ≡ true) × (b ≡ true)
both true b is = (refl, is)
both false b is = cc

plain : (name : List ℕ) → is_plain name ≡ true → IsPlain name
plain name is =
    let a = both (is_tag name []) (cond (is_tag name ours) (bytes_eq (local_part name) name) false) is in
    let b = both (is_tag name ours) (bytes_eq (local_part name) name) a.1 in
    record { bare = a.0; named = b.0; local = (bytes_eq-Decides (local_part name) name).0 b.1 }

plain_part : (p : Part) → IsPlain (part_text p)
plain_part Osil = plain (part_text Osil) refl
plain_part Osol = plain (part_text Osol) refl
plain_part Ospl = plain (part_text Ospl) refl

-- what stands behind a call's name is given
pub plain_kind : (behind : List ℕ → List ℕ) → list_all (λ k. is_plain (behind (kind_text k))) all_kinds ≡ true → (k : CallKind) → IsPlain (behind (kind_text k))
plain_kind behind is k = plain (behind (kind_text k)) (each_passes (λ k. is_plain (behind (kind_text k))) is k)

pub named_flat : (n : ℕ) (name : List ℕ) (inside : Nodes) → IsPlain name → AreFlat n inside inside → AreFlat (suc n) (ours_around name inside) (bare name inside)
named_flat n name inside is flat = ours_flat n name inside is.named is.local flat

-- ---- the parts

module _ (c : SoapCall) (texts : AreTexts c) where
  part_flat : (p : Part) (more : Nodes) → AreFlat 1 more more → AreFlat 1 (part_node c p more) (part_node c p more)
  part_flat p more rest =
      elim (has c.kind p) as (λ b. AreFlat 1 (cond b (leaf (part_text p) (text_of c.parts p) more) more) (cond b (leaf (part_text p) (text_of c.parts p) more) more)) [
        | true ↦ leaf_flat 0 (part_text p) (text_of c.parts p) more (plain_part p).bare (plain_part p).local (texts.xml p) rest
        | false ↦ rest
      ]

  parts_flat : AreFlat 1 (part_nodes c) (part_nodes c)
  parts_flat = part_flat Osil (part_node c Ospl (part_node c Osol none)) (part_flat Ospl (part_node c Osol none) (part_flat Osol none (none_flat 1)))

  call_document : length (call_text c) ≤ document_limit → IsDocument (call_text c) (read_frame (bare (kind_text c.kind) (part_nodes c)))
  call_document short =
      written_is_document (frame (ours_around (kind_text c.kind) (part_nodes c))) (group (codes "Body") (bare (kind_text c.kind) (part_nodes c)) none) refl (soap_text, tt)
      (still_flat 3 31 _ _ (lit≤ tt) (body_flat 2 _ _ (named_flat 1 (kind_text c.kind) (part_nodes c) (plain_kind (λ name. name) refl c.kind) parts_flat))) short

-- the parts of a call that has an instance, or a process, or not
abbrev nodes_by : Bool → Bool → Parts → Nodes
nodes_by osil ospl ps = cond osil (leaf (codes "osil") ps.osil (cond ospl (leaf (codes "ospl") ps.ospl (leaf (codes "osol") ps.osol none)) (leaf (codes "osol") ps.osol none)))
    (cond ospl (leaf (codes "ospl") ps.ospl (leaf (codes "osol") ps.osol none)) (leaf (codes "osol") ps.osol none))

abbrev holds : List ℕ → Nodes → Element
holds name inside = record { name = name; attributes = []; children = inside }

module _ (name : List ℕ) (ps : Parts) where
  osil_said : (osil ospl : Bool) → (osil ≡ false → ps.osil ≡ []) → cond osil (text_among true (children_named (codes "osil") (holds name (nodes_by osil ospl ps)))) (Some []) ≡ Some ps.osil
  osil_said true true own = plain_leaf ps.osil
  osil_said true false own = plain_leaf ps.osil
  osil_said false ospl own = ap (λ (t : List ℕ). Some t) (sym (own refl))

  osol_said : (osil ospl : Bool) → text_among false (children_named (codes "osol") (holds name (nodes_by osil ospl ps))) ≡ Some ps.osol
  osol_said true true = plain_leaf ps.osol
  osol_said true false = plain_leaf ps.osol
  osol_said false true = plain_leaf ps.osol
  osol_said false false = plain_leaf ps.osol

  ospl_said : (osil ospl : Bool) → (ospl ≡ false → ps.ospl ≡ []) → cond ospl (text_among false (children_named (codes "ospl") (holds name (nodes_by osil ospl ps)))) (Some []) ≡ Some ps.ospl
  ospl_said true true own = plain_leaf ps.ospl
  ospl_said false true own = plain_leaf ps.ospl
  ospl_said osil false own = ap (λ (t : List ℕ). Some t) (sym (own refl))

call_said : (c : SoapCall) → AreTexts c → IsCallIn (read_frame (bare (kind_text c.kind) (part_nodes c))) c
call_said c texts = record {
  named = refl;
  are = record {
    osil = osil_said (kind_text c.kind) c.parts (has c.kind Osil) (has c.kind Ospl) (texts.own Osil);
    osol = osol_said (kind_text c.kind) c.parts (has c.kind Osil) (has c.kind Ospl);
    ospl = ospl_said (kind_text c.kind) c.parts (has c.kind Osil) (has c.kind Ospl) (texts.own Ospl);
  };
}

pub call_is : (c : SoapCall) → AreTexts c → length (call_text c) ≤ document_limit → IsCallText (call_text c) c
call_is c texts short = record { root = read_frame (bare (kind_text c.kind) (part_nodes c)); document = call_document c texts short; is = call_said c texts }
