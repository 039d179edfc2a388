-- What a whole text says, and the document that it is.
use Rattle.doc_tree.proofs.Words.{After, Before, BodyRest, Bool, Declaration, Document, Finish, ForeignRest, IsDeclarationRead, IsSpecial, List, Mark, Marked, Misc, RootOrType, RootRest, Start, TreeTerms, Version, VersionRest, Whole, [], ap, attribute_list, body_marks, body_nodes, body_text, codes, declaration_text, depth_left, document_element, document_text, events, gather, inl, inr, local_part, mark_text, misc_text, nodes_depth, refl, tag_text, version_text, ℕ, ◌++◌, ◌-◌, ◌∙◌, ◌∷◌, ◌≡◌, ◌≤◌}
use Rattle.doc_tree.proofs.TextTrees.Depths.{body_plain, body_fit}
use Rattle.doc_tree.proofs.TextTrees.MarkEvents.{body_gathers}

-- what a document says
abbrev pub document_marks : Document → List Mark
document_marks d = Start (local_part d.tag.name) (attribute_list d.tag.attributes) ∷ body_marks d.body (Finish (local_part d.tag.name) ∷ [])

pub document_gathers : (d : Document) → gather (document_marks d) ≡ events (document_element d)
document_gathers d = body_gathers d.body (local_part d.tag.name) (attribute_list d.tag.attributes)

-- A document that meets the terms, which this text is.
pub record Held (t : TreeTerms) (text : List ℕ) (marks : List Mark) : Type 0 where
  pub document : Document
  pub room : 1 ≤ depth_left t []
  pub deep : nodes_depth (body_nodes document.body) ≤ depth_left t [] - 1
  pub same : text ≡ document_text document
  pub read : IsDeclarationRead t.aim document.declaration
  pub says : marks ≡ document_marks document

-- The text ends with the `D` of a document type.
pub record Typed (t : TreeTerms) (text : List ℕ) (marks : List Mark) : Type 0 where
  pub special : IsSpecial t.aim
  pub mark : Bool
  pub declaration : Declaration
  pub misc : Misc
  pub same : text ≡ mark_text mark (declaration_text declaration (misc_text misc (codes "<!D")))
  pub says : marks ≡ []

-- It ends with the closing quote of an encoding that isn't read.
pub record Foreigned (t : TreeTerms) (text : List ℕ) (marks : List Mark) : Type 0 where
  pub mark : Bool
  pub version : Version
  pub behind : List ℕ
  pub same : text ≡ mark_text mark (codes "<?xml" ++ version_text version behind)
  pub after : ForeignRest t behind marks

-- Which of them a text is.
pub data Texts (t : TreeTerms) (text : List ℕ) (marks : List Mark) : Type 0 where
  held : Held t text marks → Texts t text marks
  typed : Typed t text marks → Texts t text marks
  foreign : Foreigned t text marks → Texts t text marks

root_text : (t : TreeTerms) (mark : Bool) (d : Declaration) → IsDeclarationRead t.aim d → (m : Misc) (x text : List ℕ) (marks : List Mark) → text ≡ mark_text mark (declaration_text d (misc_text m (60 ∷ x))) → RootOrType t x marks → Texts t text marks
root_text t mark d read m x text marks e (inl b) =
    let r : BodyRest (depth_left t [] - 1) b.tag.name (attribute_list b.tag.attributes) (After t) b.behind marks = b.after in
    let a : After t r.behind r.later = r.after in
    let p = body_plain (depth_left t [] - 1) r.body r.fit in
    held (record {
      document = record { mark = mark; declaration = d; before = m; tag = b.tag; body = r.body; clear = p.0; after = a.misc };
      room = b.room;
      deep = p.1;
      same = e ∙ ap (λ z. mark_text mark (declaration_text d (misc_text m (60 ∷ z)))) (b.text ∙ ap (tag_text b.tag) (r.text ∙ ap (body_text r.body b.tag.name) a.text));
      read = read;
      says = r.says ∙ ap (λ z. Start (local_part b.tag.name) (attribute_list b.tag.attributes) ∷ body_marks r.body (Finish (local_part b.tag.name) ∷ z)) a.says;
    })
root_text t mark d read m x text marks e (inr k) = typed (record { special = k.special; mark = mark; declaration = d; misc = m; same = e ∙ ap (λ z. mark_text mark (declaration_text d (misc_text m (60 ∷ z)))) k.text; says = k.says })

marked_text : (t : TreeTerms) (mark : Bool) (x text : List ℕ) (marks : List Mark) → text ≡ mark_text mark x → Marked t x marks → Texts t text marks
marked_text t mark x text marks e (inl m) =
    let b : Before t m.behind marks = m.after in
    root_text t mark m.declaration m.read b.misc b.behind text marks (e ∙ ap (mark_text mark) (m.text ∙ ap (declaration_text m.declaration) b.text)) b.after
marked_text t mark x text marks e (inr m) =
    let v : VersionRest t m.behind marks = m.after in
    foreign (record { mark = mark; version = v.version; behind = v.behind; same = e ∙ ap (mark_text mark) (m.text ∙ ap (λ z. codes "<?xml" ++ z) v.text); after = v.after })

pub texts_of : (t : TreeTerms) (text : List ℕ) (marks : List Mark) → Whole t text marks → Texts t text marks
texts_of t text marks w = marked_text t w.mark w.behind text marks w.text w.after

only_held : (t : TreeTerms) (text : List ℕ) (marks : List Mark) → (IsSpecial t.aim → ⊥) → Texts t text marks → Held t text marks
only_held t text marks n (held h) = h
only_held t text marks n (typed h) = absurd (n h.special)
only_held t text marks n (foreign h) = let k : ForeignRest t h.behind marks = h.after in absurd (n k.special)

pub held_of : (t : TreeTerms) (text : List ℕ) (marks : List Mark) → (IsSpecial t.aim → ⊥) → Whole t text marks → Held t text marks
held_of t text marks n w = only_held t text marks n (texts_of t text marks w)

pub whole_of : (t : TreeTerms) (d : Document) → 1 ≤ depth_left t [] → nodes_depth (body_nodes d.body) ≤ depth_left t [] - 1 → IsDeclarationRead t.aim d.declaration → Whole t (document_text d) (document_marks d)
whole_of t d room l read =
    let body_rest = body_text d.body d.tag.name (misc_text d.after []) in
    let root = misc_text d.before (60 ∷ tag_text d.tag body_rest) in
    let after : After t (misc_text d.after []) [] = record { misc = d.after; text = refl; says = refl } in
    let body : BodyRest (depth_left t [] - 1) d.tag.name (attribute_list d.tag.attributes) (After t) body_rest (document_marks d) = record { body = d.body; fit = body_fit (depth_left t [] - 1) d.body d.clear l; behind = misc_text d.after []; later = []; text = refl; says = refl; after = after } in
    let first : RootRest t (tag_text d.tag body_rest) (document_marks d) = record { room = room; tag = d.tag; behind = body_rest; text = refl; after = body } in
    let before : Before t root (document_marks d) = record { misc = d.before; behind = tag_text d.tag body_rest; text = refl; after = inl first } in
    record {
      mark = d.mark;
      behind = declaration_text d.declaration root;
      text = refl;
      after = inl (record { declaration = d.declaration; read = read; behind = root; text = refl; after = before });
    }
