-- Nodes that are written as XML: names are decided by computation, values are texts of XML, and few elements stand in one another.
use Rattle.std.proofs.Common.{◌≡◌, ◌∙◌, ℕ, suc, ◌≤◌, Bool, true, false, cond, List, [], ◌∷◌, leb, bytes_eq, length, map, refl, sym, ap, arith, inl, inr, subst, rules}
use Rattle.std.specs.Prelude.{codes}
use Rattle.std.proofs.lemmas.Bool.{leb-true}
use Rattle.tree_grammar.specs.Characters.{IsXmlText, IsNameStart, IsNameChar, IsName, IsQName, IsQNameRest, Each, local_part}
use Rattle.tree_grammar.specs.Tags.{IsAmong}
use Rattle.tree_grammar.specs.Elements.{Attribute, Nodes, none, element, Element, nodes_depth}
use Rattle.tree_grammar.specs.Document.{Doc}
use Rattle.tree_grammar.specs.WrittenText.{written}
use Rattle.tree_writing.specs.WritableElements.{AreWritable, NamesDiffer, NodesWritable, IsWritable, kept_attributes, local_nodes}
use Rattle.tree_writing.proofs.Documents.{written_doc}
use Rattle.document_tags.specs.Texts.{document_limit, IsDocument}
use Rattle.document_tags.specs.Writing.{text_nodes, rooted, bare_root, only}
use Rattle.document_tags.proofs.PrintableTexts.{fixed_text}

-- letters, capitals or small
abbrev is_letter : ℕ → Bool
is_letter c = cond (leb c 90) (leb 65 c) (cond (leb 97 c) (leb c 122) false)

abbrev are_letters : List ℕ → Bool
are_letters [] = true
are_letters (c ∷ cs) = cond (is_letter c) (are_letters cs) false

-- one letter at least, and nothing else
abbrev is_plain : List ℕ → Bool
is_plain [] = false
is_plain (c ∷ cs) = are_letters (c ∷ cs)

-- letters, and then nothing, or `:` and a name of letters
abbrev is_rest : List ℕ → Bool
is_rest [] = true
is_rest (c ∷ cs) = cond (is_letter c) (is_rest cs) (cond (leb c 58) (cond (leb 58 c) (is_plain cs) false) false)

-- a name of letters, with a prefix or without
abbrev pub is_name : List ℕ → Bool
is_name [] = false
is_name (c ∷ cs) = cond (is_letter c) (is_rest cs) false

letter_by : (c : ℕ) (capital low small high : Bool) → capital ≡ leb c 90 → low ≡ leb 65 c → small ≡ leb 97 c → high ≡ leb c 122 → cond capital low (cond small high false) ≡ true → IsNameStart c
letter_by c true low small high a b d e is = inl (inl (leb-true 65 c (sym b ∙ is), leb-true c 90 (sym a)))
letter_by c false low true high a b d e is = inl (inr (leb-true 97 c (sym d), leb-true c 122 (sym e ∙ is)))
letter_by c false low false high a b d e is = absurd (let clash : false ≡ true = is in cc)

letter : (c : ℕ) → is_letter c ≡ true → IsNameStart c
letter c is = letter_by c (leb c 90) (leb 65 c) (leb 97 c) (leb c 122) refl refl refl refl is

both : (a b : Bool) → cond a b false ≡ true → (a ≡ true) × (b ≡ true)
both true b is = (refl, is)
both false b is = absurd (let clash : false ≡ true = is in cc)

letters_each : (cs : List ℕ) → are_letters cs ≡ true → Each IsNameChar cs
letters_each [] is = tt
letters_each (c ∷ cs) is = let h = both (is_letter c) (are_letters cs) is in (inl (letter c h.0), letters_each cs h.1)

plain_name : (cs : List ℕ) → is_plain cs ≡ true → IsName cs
plain_name [] is = absurd (let clash : false ≡ true = is in cc)
plain_name (c ∷ cs) is = let h = both (is_letter c) (are_letters cs) is in (letter c h.0, letters_each cs h.1)

-- a letter and what follows it, or `:` and a name
rest_by : (c : ℕ) (cs : List ℕ) (b : Bool) (more : Bool) → is_letter c ≡ b → (more ≡ true → IsQNameRest cs) → cond b more (cond (leb c 58) (cond (leb 58 c) (is_plain cs) false) false) ≡ true → IsQNameRest (c ∷ cs)
rest_by c cs true more letters rest is = inl (inl (letter c letters), rest is)
rest_by c cs false more letters rest is =
    let low = both (leb c 58) (cond (leb 58 c) (is_plain cs) false) is in
    let high = both (leb 58 c) (is_plain cs) low.1 in
    let l = leb-true c 58 low.0 in
    let h = leb-true 58 c high.0 in
    inr (omega (arith, l, h), plain_name cs high.1)

name_rest : (cs : List ℕ) → is_rest cs ≡ true → IsQNameRest cs
name_rest [] is = tt
name_rest (c ∷ cs) is = rest_by c cs (is_letter c) (is_rest cs) refl (name_rest cs) is

pub name_by : (name : List ℕ) → is_name name ≡ true → IsQName name
name_by [] is = absurd (let clash : false ≡ true = is in cc)
name_by (c ∷ cs) is = let h = both (is_letter c) (is_rest cs) is in (letter c h.0, name_rest cs h.1)

-- the name is one of these
abbrev is_among : List ℕ → List Attribute → Bool
is_among name [] = false
is_among name (a ∷ more) = cond (bytes_eq name a.name) true (is_among name more)

-- names of letters, none twice
abbrev are_names : List Attribute → Bool
are_names [] = true
are_names (a ∷ more) = cond (is_name a.name) (cond (is_among a.name more) false (are_names more)) false

-- a start tag, by its names
abbrev pub is_tag : (name : List ℕ) → List Attribute → Bool
is_tag name attributes = cond (is_name name) (are_names attributes) false

-- each value is a text of XML
abbrev pub AreTexts : List Attribute → Type 0
AreTexts [] = Unit {0}
AreTexts (a ∷ more) = IsXmlText a.value × AreTexts more

same_bytes : (name : List ℕ) → bytes_eq name name ≡ true
same_bytes name = search rules

among_by : (b more : Bool) → b ≡ true → cond b true more ≡ true
among_by true more is = refl
among_by false more is = absurd (let clash : false ≡ true = is in cc)

among_more : (b more : Bool) → more ≡ true → cond b true more ≡ true
among_more true more is = refl
among_more false more is = is

found_among : (name : List ℕ) (attributes : List Attribute) → IsAmong name (map (λ b. b.name) attributes) → is_among name attributes ≡ true
found_among name [] among = absurd among
found_among name (a ∷ more) (inl same) = among_by (bytes_eq name a.name) (is_among name more) (subst (λ (n : List ℕ). bytes_eq name n ≡ true) same (same_bytes name))
found_among name (a ∷ more) (inr among) = among_more (bytes_eq name a.name) (is_among name more) (found_among name more among)

neither : (a b : Bool) → cond a false b ≡ true → (a ≡ false) × (b ≡ true)
neither false b is = (refl, is)
neither true b is = absurd (let clash : false ≡ true = is in cc)

names_by : (attributes : List Attribute) → are_names attributes ≡ true → AreTexts attributes → AreWritable attributes × NamesDiffer attributes
names_by [] is texts = (tt, tt)
names_by (a ∷ more) is texts =
    let first = both (is_name a.name) (cond (is_among a.name more) false (are_names more)) is in
    let rest = neither (is_among a.name more) (are_names more) first.1 in
    let h = names_by more rest.1 texts.1 in
    ((name_by a.name first.0, texts.0, h.0), ((λ among. let found = found_among a.name more among in let none_found = rest.0 in cc), h.1))

-- a start tag of XML
abbrev pub IsTag : List ℕ → List Attribute → Type 0
IsTag name attributes = IsQName name × AreWritable attributes × NamesDiffer attributes

pub tag_by : (name : List ℕ) (attributes : List Attribute) → is_tag name attributes ≡ true → AreTexts attributes → IsTag name attributes
tag_by name attributes is texts = let h = both (is_name name) (are_names attributes) is in let k = names_by attributes h.1 texts in (name_by name h.0, k.0, k.1)

-- nodes of XML, of which at most so many stand in one another, and what of them belongs to the tree that is read
pub record AreFlat (n : ℕ) (nodes kept : Nodes) : Type 0 where
  pub writable : NodesWritable nodes
  pub here : local_nodes nodes ≡ kept
  pub low : nodes_depth kept ≤ n

pub none_flat : (n : ℕ) → AreFlat n none none
none_flat n = record { writable = tt; here = refl; low = omega arith }

pub text_flat : (n : ℕ) (text : List ℕ) → IsXmlText text → AreFlat n (text_nodes text) (text_nodes text)
text_flat n [] is = none_flat n
text_flat n (c ∷ cs) is = record { writable = ((λ e. cc), is, tt, tt); here = refl; low = omega arith }

-- an element with what stands in it, and then more
pub element_flat : (n : ℕ) (name : List ℕ) (attributes : List Attribute) (children more inside behind : Nodes) → is_tag name attributes ≡ true → AreTexts attributes → AreFlat n children inside → AreFlat (suc n) more behind
    → AreFlat (suc n) (element name attributes children more) (element (local_part name) (kept_attributes attributes) inside behind)
element_flat n name attributes children more inside behind is texts flat rest = record {
  writable = (tag_by name attributes is texts, flat.writable, rest.writable);
  here = ap (λ (c : Nodes). element (local_part name) (kept_attributes attributes) c (local_nodes more)) flat.here ∙ ap (λ (m : Nodes). element (local_part name) (kept_attributes attributes) inside m) rest.here;
  low = let k = flat.low in let l = rest.low in omega (arith, k, l);
}

-- where fewer stand in one another, not more do
pub still_flat : (m n : ℕ) (nodes kept : Nodes) → m ≤ n → AreFlat m nodes kept → AreFlat n nodes kept
still_flat m n nodes kept less flat = record { writable = flat.writable; here = flat.here; low = let k = flat.low in omega (arith, k, less) }

-- an element of which few stand in one another, and whose text is short enough, is the document of what belongs to its tree
pub written_is_document : (e : Element) (inside : Nodes) → is_tag e.name e.attributes ≡ true → AreTexts e.attributes → AreFlat 31 e.children inside → length (written e) ≤ document_limit
    → IsDocument (written e) (record { name = local_part e.name; attributes = kept_attributes e.attributes; children = inside })
written_is_document e inside is texts flat short =
    let writable : IsWritable e = (tag_by e.name e.attributes is texts, flat.writable) in
    let root : Nodes → Element = λ c. record { name = local_part e.name; attributes = kept_attributes e.attributes; children = c } in
    let doc : Doc (written e) (root inside) = subst (λ (c : Nodes). Doc (written e) (root c)) flat.here (written_doc e writable) in
    record { document = doc; short = short; shallow = let low = flat.low in omega (arith, low) }

-- the document of a root of the Optimization Services
pub root_is_document : (name : List ℕ) (children : Nodes) → is_tag name [] ≡ true → local_part name ≡ name → AreFlat 31 children children → length (written (rooted name children)) ≤ document_limit → IsDocument (written (rooted name children)) (bare_root name children)
root_is_document name children is plain flat short =
    let one : is_name name ≡ true = (both (is_name name) true is).0 in
    let tag : is_tag name (only (codes "xmlns") (codes "os.optimizationservices.org")) ≡ true = ap (λ (b : Bool). cond b true false) one in
    subst (λ (n : List ℕ). IsDocument (written (rooted name children)) (bare_root n children)) plain
    (written_is_document (rooted name children) children tag (fixed_text (codes "os.optimizationservices.org") refl, tt) flat short)
