-- A text is at most one document.
use Rattle.doc_tree.proofs.Words.{Doc, Document, Element, Finish, IsQName, List, Mark, Start, TagRest, Then, [], ap, arith, attribute_list, attributes_text, body_marks, body_nodes, body_text, declaration_text, document_element, document_text, element_same, gather, local_part, misc_text, nodes_depth, refl, subst, sym, tag_text, ℕ, ◌++◌, ◌∙◌, ◌∷◌, ◌≡◌}
use Rattle.doc_tree.proofs.TextTrees.Depths.{body_fit}
use Rattle.doc_tree.proofs.TextTrees.Wholes.{document_marks, document_gathers}
use Rattle.doc_tree.proofs.OneDocument.Contents.{body_ends, start_says, body_says}
use Rattle.doc_tree.proofs.OneDocument.Prologs.{qname_named, misc_same, declaration_same, misc_undeclared, declaration_unmarked, mark_same}

-- what stands behind the root, where its tag is over
abbrev body_on : Document → List ℕ
body_on d = body_text d.body d.tag.name (misc_text d.after [])

-- what stands behind the root's `<`
abbrev root_text : Document → List ℕ
root_text d = tag_text d.tag (body_on d)

-- from the root's `<` on, with what stands before it
abbrev before_text : Document → List ℕ
before_text d = misc_text d.before (60 ∷ root_text d)

root_same : (d f : Document) → document_text d ≡ document_text f → root_text d ≡ root_text f
root_same d f e =
    let n = qname_named d.tag.name (attributes_text d.tag.attributes (d.tag.space ++ body_on d)) d.tag.named in
    let m = qname_named f.tag.name (attributes_text f.tag.attributes (f.tag.space ++ body_on f)) f.tag.named in
    let a = mark_same d.mark f.mark (declaration_text d.declaration (before_text d)) (declaration_text f.declaration (before_text f)) (declaration_unmarked d.declaration d.before (root_text d)) (declaration_unmarked f.declaration f.before (root_text f)) e in
    let b = declaration_same d.declaration f.declaration (before_text d) (before_text f) (misc_undeclared d.before (root_text d) n) (misc_undeclared f.before (root_text f) m) a in
    misc_same d.before f.before (root_text d) (root_text f) n m b

-- behind the root nothing more is said
abbrev Silent : List ℕ → List Mark → Type 0
Silent bytes marks = marks ≡ []

-- the root is read, with room for its own depth
root_reads : (f : Document) → Then IsQName (λ n. TagRest (nodes_depth (body_nodes f.body)) n [] [] Silent) (root_text f) (document_marks f)
root_reads f = record {
  run = f.tag.name;
  is = f.tag.named;
  behind = attributes_text f.tag.attributes (f.tag.space ++ body_on f);
  text = refl;
  after = record {
    attributes = f.tag.attributes;
    fresh = f.tag.fresh;
    space = f.tag.space;
    spaced = f.tag.spaced;
    behind = body_on f;
    text = refl;
    after = record { body = f.body; fit = body_fit (nodes_depth (body_nodes f.body)) f.body f.clear (omega arith); behind = misc_text f.after []; later = []; text = refl; says = refl; after = refl };
  };
}

marks_same : (d f : Document) → document_text d ≡ document_text f → document_marks d ≡ document_marks f
marks_same d f e =
    let room = nodes_depth (body_nodes f.body) in
    let h = subst (λ z. Then IsQName (λ n. TagRest room n [] [] Silent) z (document_marks f)) (sym (root_same d f e)) (root_reads f) in
    let b = start_says room Silent d.tag (body_on d) (document_marks f) (body_ends d.body d.tag.name (misc_text d.after [])) h in
    let r = body_says d.body room d.tag.name (attribute_list d.tag.attributes) Silent (misc_text d.after []) (document_marks f) b in
    sym (r.1 ∙ ap (λ z. Start (local_part d.tag.name) (attribute_list d.tag.attributes) ∷ body_marks d.body (Finish (local_part d.tag.name) ∷ z)) r.2)

pub one_tree : (bytes : List ℕ) (a b : Element) → Doc bytes a → Doc bytes b → a ≡ b
one_tree bytes a b s t =
    let d : Document = s.document in
    let g : Document = t.document in
    let same = marks_same d g (sym s.text ∙ t.text) in
    let told = sym (document_gathers d) ∙ (ap gather same ∙ document_gathers g) in
    s.says ∙ (element_same (document_element d) (document_element g) told ∙ sym t.says)
