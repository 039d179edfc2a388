-- The text of an element is a document.
use Rattle.std.proofs.Common.{◌≡◌, ℕ, Bool, true, false, cond, eqb, List, [], ◌∷◌, ◌++◌, refl, ap, ◌∙◌, sym, inl, inr, lit≤, codes}
use Rattle.tree_grammar.specs.Characters.{local_part, behind_colon, has_prefix}
use Rattle.tree_grammar.specs.Elements.{Attribute, Nodes, none, element, chars, Element}
use Rattle.tree_grammar.specs.Content.{Body, closed, opened, body_text, body_nodes, IsBodyClear, misc_over}
use Rattle.tree_grammar.specs.Declaration.{Declaration, declared, encoded, no_standalone}
use Rattle.tree_grammar.specs.Document.{Document, document_element, Doc}
use Rattle.tree_grammar.specs.WrittenText.{written_attributes, children_begin, children_end, written_nodes, written_declaration, written_element, written}
use Rattle.tree_writing.specs.WritableElements.{IsWritable, NodesWritable, kept_attributes, local_nodes, local_element, AreInDocument, NodesLocal, IsLocal}
use Rattle.tree_writing.proofs.WrittenParts.{tagged, shown_nodes, no_equals}
use Rattle.tree_writing.proofs.CleanTexts.{clean_nodes}
use Rattle.tree_grammar.proofs.XmlTexts.{clean_append, clean_fixed, clean_nothing, lines_kept}

-- What stands behind the start tag's name and attributes.
pub record Bodied (name : List ℕ) (children : Nodes) : Type 0 where
  pub body : Body
  pub text_is : (k : List ℕ) → body_text body name k ≡ children_begin children (written_nodes children (children_end children name k))
  pub nodes_are : body_nodes body ≡ local_nodes children
  pub clear : IsBodyClear body

pub bodied : (name : List ℕ) (children : Nodes) → NodesWritable children → Bodied name children
bodied name none w = record { body = closed; text_is = λ k. refl; nodes_are = refl; clear = tt }
bodied name (element n l i m) w =
    let r = shown_nodes (element n l i m) w in
    record { body = opened r.content [] tt; text_is = λ k. ap (λ z. 62 ∷ z) (r.text_is (60 ∷ 47 ∷ (name ++ (62 ∷ k)))); nodes_are = r.nodes_are; clear = r.clear 0 }
bodied name (chars t m) w =
    let r = shown_nodes (chars t m) w in
    record { body = opened r.content [] tt; text_is = λ k. ap (λ z. 62 ∷ z) (r.text_is (60 ∷ 47 ∷ (name ++ (62 ∷ k)))); nodes_are = r.nodes_are; clear = r.clear 0 }

abbrev pub the_declaration : Declaration
the_declaration =
    declared
    (record { space = 32 ∷ []; spaced = (inl refl, tt); equals = no_equals; quote = 34; quoted = inl refl; digits = 48 ∷ []; numbered = ((lit≤ tt, lit≤ tt), tt) })
    (encoded (32 ∷ []) (inl refl, tt) no_equals 34 (inl refl) (codes "UTF-8") (inl (lit≤ tt, lit≤ tt), (inl (inl (lit≤ tt, lit≤ tt)), (inl (inl (lit≤ tt, lit≤ tt)), (inr (inr (inr (inr refl))), (inr (inl (lit≤ tt, lit≤ tt)), tt))))))
    no_standalone [] tt

pub written_doc : (e : Element) → IsWritable e → Doc (written e) (local_element e)
written_doc e w =
    let t = tagged e.name e.attributes w.0 in
    let b = bodied e.name e.children w.1 in
    let clean = clean_append written_declaration (written_element e) (clean_fixed written_declaration refl) (clean_nodes (element e.name e.attributes e.children none) [] (w.0, w.1, tt) clean_nothing) in
    let document : Document = record { mark = false; declaration = the_declaration; before = misc_over; tag = t.tag; body = b.body; clear = b.clear; after = misc_over } in
    let body : body_text b.body t.tag.name [] ≡ children_begin e.children (written_nodes e.children (children_end e.children e.name [])) = ap (λ z. body_text b.body z []) t.named_so ∙ b.text_is [] in
    let name : local_part t.tag.name ≡ local_part e.name = ap local_part t.named_so in
    let list = t.list_is in
    let nodes = b.nodes_are in
    let says : local_element e ≡ document_element document = cc in
    record {
      characters = clean.text;
      document = document;
      text = lines_kept (written e) clean.lines ∙ sym (ap (λ z. written_declaration ++ (60 ∷ z)) (t.text_is (body_text b.body t.tag.name []) ∙ ap (λ z. e.name ++ written_attributes e.attributes z) body));
      readable = inl refl;
      says = says;
    }

-- a name without a prefix is its own local part
pub by_colon : (b : Bool) (prefixed : Bool) (cs behind whole : List ℕ) → cond b true prefixed ≡ false → (prefixed ≡ false → behind ≡ whole) → cond b cs behind ≡ whole
by_colon true prefixed cs behind whole h f = cc
by_colon false prefixed cs behind whole h f = f h

pub behind_none : (whole name : List ℕ) → has_prefix name ≡ false → behind_colon whole name ≡ whole
behind_none whole [] e = refl
behind_none whole (c ∷ cs) e = by_colon (eqb c 58) (has_prefix cs) cs (behind_colon whole cs) whole e (λ h. behind_none whole cs h)

pub all_kept : (list : List Attribute) → AreInDocument list → kept_attributes list ≡ list
all_kept [] k = refl
all_kept (a ∷ more) k = rw k.0 (ap (λ z. a ∷ z) (all_kept more k.1))

pub nodes_local : (nodes : Nodes) → NodesLocal nodes → local_nodes nodes ≡ nodes
nodes_local none h = refl
nodes_local (chars text more) h = ap (chars text) (nodes_local more h)
nodes_local (element name list children more) h =
    let n : local_part name ≡ name = behind_none name name h.0 in
    let l = all_kept list h.1 in
    let c = nodes_local children h.2 in
    let m = nodes_local more h.3 in
    cc

pub element_local : (e : Element) → IsLocal e → local_element e ≡ e
element_local e h =
    let n : local_part e.name ≡ e.name = behind_none e.name e.name h.0 in
    let l = all_kept e.attributes h.1 in
    let c = nodes_local e.children h.2 in
    let same : local_element e ≡ record { name = e.name; attributes = e.attributes; children = e.children } = cc in
    same
