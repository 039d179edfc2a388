-- What the reader's answers come from.
use Rattle.doc_tree.proofs.Words.{Declaration, Doc, Document, Element, Event, IsApart, IsDeclarationRead, IsDeclarationReadable, IsNoDocument, IsShallow, IsXmlText, List, NoneWithin, ReadsDocument, Whole, ap, arith, body_nodes, bounds, declared, document_element, drop, drop-cons, encoded, gather, get_or, length, nodes_depth, normal_lines, readable, refl, spread, subst, suc, sym, take, take-append-drop, ℕ, ◌++◌, ◌+◌, ◌<◌, ◌∙◌, ◌∷◌, ◌≡◌, ◌≤◌}
use Rattle.doc_tree.proofs.TextTrees.MarkEvents.{spread_gathers}
use Rattle.doc_tree.proofs.TextTrees.Wholes.{Held, held_of, whole_of, document_marks, document_gathers}

-- both say that the encoding is read
to_read : (d : Declaration) → IsDeclarationReadable d → IsDeclarationRead readable d
to_read (declared v (encoded b p e quote i name n) s space sp) r = r
to_read _ r = tt

of_read : (d : Declaration) → IsDeclarationRead readable d → IsDeclarationReadable d
of_read (declared v (encoded b p e quote i name n) s space sp) r = r
of_read _ r = tt

-- a document that isn't deep is a whole
pub document_whole : (bytes : List ℕ) (e : Element) (s : Doc bytes e) → IsShallow e → Whole bounds (normal_lines bytes) (document_marks s.document)
document_whole bytes e s shallow =
    let d : Document = s.document in
    let says : e ≡ document_element d = s.says in
    let depth : nodes_depth (body_nodes d.body) ≤ 31 = let h : suc (nodes_depth (body_nodes d.body)) ≤ 32 = subst IsShallow says shallow in omega arith in
    subst (λ z. Whole bounds z (document_marks d)) (sym s.text) (whole_of bounds d (omega arith) depth (to_read d.declaration s.readable))

-- what no document is
pub none_refuses : (limit : ℕ) (bytes : List ℕ) → IsNoDocument bytes → NoneWithin limit bytes
none_refuses limit bytes n = λ e s w shallow. n (document_marks s.document) (document_whole bytes e s shallow)

-- what is too long
pub long_refuses : (limit : ℕ) (bytes : List ℕ) → (length bytes ≤ limit → ⊥) → NoneWithin limit bytes
long_refuses limit bytes n = λ e s w shallow. n w

-- what has other characters
pub text_refuses : (limit : ℕ) (bytes : List ℕ) → (IsXmlText bytes → ⊥) → NoneWithin limit bytes
text_refuses limit bytes n = λ e s w shallow. n s.characters

-- The events told are those of an element that the bytes hold.
pub read_so : (limit : ℕ) (bytes : List ℕ) (told : List Event) → IsXmlText bytes → length bytes ≤ limit → Whole bounds (normal_lines bytes) (spread told) → IsApart told → ReadsDocument limit bytes told
read_so limit bytes told text within w apart =
    let s : Held bounds (normal_lines bytes) (spread told) = held_of bounds (normal_lines bytes) (spread told) (λ i. i) w in
    let d = s.document in
    let deep = s.deep in
    record {
      element = document_element d;
      same = sym (spread_gathers told apart) ∙ (ap gather s.says ∙ document_gathers d);
      document = record { characters = text; document = d; text = s.same; readable = of_read d.declaration s.read; says = refl };
      within = within;
      shallow = omega arith;
    }

-- the bytes before one, it, and those behind it
pub split_at : (bytes : List ℕ) (at d : ℕ) → at < length bytes → bytes ≡ take at bytes ++ (get_or bytes at d ∷ drop (at + 1) bytes)
split_at bytes at d l =
    let a : suc at ≡ at + 1 = omega arith in
    sym (take-append-drop at bytes) ∙ ap (λ z. take at bytes ++ z) (drop-cons bytes at d l ∙ ap (λ z. get_or bytes at d ∷ drop z bytes) a)
