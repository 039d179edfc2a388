-- What content says is found from the text.
use Rattle.doc_tree.proofs.Words.{Attribute, Body, BodyRest, Char, CommentRest, Content, Each, EndRest, Finish, Inside, IsQName, IsSpace, List, Mark, RefRest, Saying, SectionRest, Start, Tag, TagRest, Then, Word, [], ap, append_cancel_left, arith, attribute_list, attributes_text, body_marks, body_text, brackets, char, closed, comment, comment_text, content_marks, content_text, empty, end_text, inl, inr, instruction, instruction_text, local_part, map, nested, nothing, opened, reference, reference_chars, reference_text, refl, section, subst, sym, tag_text, ℕ, ◌++◌, ◌-◌, ◌∙◌, ◌∷◌, ◌≡◌}
use Rattle.doc_tree.proofs.ByteGrammar.{LessCases, body_close, body_open, end_to, inside_amp, inside_char_to, inside_dash, inside_less, inside_question, inside_square, not_space, start_range, tag_to, word_last}
use Rattle.doc_tree.proofs.OneDocument.Spans.{spaces_same}
use Rattle.doc_tree.proofs.OneDocument.References.{reference_same}
use Rattle.doc_tree.proofs.OneDocument.Tags.{IsTagEnd, tag_same}
use Rattle.doc_tree.proofs.OneDocument.Asides.{behind_comment, behind_instruction, section_says}

pub body_ends : (body : Body) (name k : List ℕ) → IsTagEnd (body_text body name k)
body_ends closed name k = inr refl
body_ends (opened inner space s) name k = inl refl

module _ (room : ℕ) (K : List ℕ → List Mark → Type 0) where
  -- a start tag
  pub start_says : (tag : Tag) (k : List ℕ) (es : List Mark) → IsTagEnd k → Then IsQName (λ n. TagRest room n [] [] K) (tag_text tag k) es → BodyRest room tag.name (attribute_list tag.attributes) K k es
  start_says tag k es t h =
      let r : TagRest room h.run [] [] K h.behind es = h.after in
      let b : BodyRest room h.run (attribute_list r.attributes) K r.behind es = r.after in
      let last : IsTagEnd r.behind = subst IsTagEnd (sym b.text) (body_ends b.body h.run b.behind) in
      let e1 : tag_text tag k ≡ h.run ++ h.behind = h.text in
      let e2 : h.behind ≡ attributes_text r.attributes (r.space ++ r.behind) = r.text in
      let same = tag_same tag.name h.run tag.attributes r.attributes tag.space r.space k r.behind tag.named h.is tag.spaced r.spaced t last (e1 ∙ ap (λ z. h.run ++ z) e2) in
      subst (λ z. BodyRest room tag.name (attribute_list tag.attributes) K z es) (sym same.2) (subst (λ z. BodyRest room tag.name z K r.behind es) (sym same.1) (subst (λ z. BodyRest room z (attribute_list r.attributes) K r.behind es) (sym same.0) b))

  module _ (name : List ℕ) (kept : List Attribute) where
    pub closed_says : (x : List ℕ) (es : List Mark) → BodyRest room name kept K (47 ∷ 62 ∷ x) es → Saying (Start (local_part name) kept ∷ Finish (local_part name) ∷ []) K x es
    closed_says x es h = (word_last (Saying (Start (local_part name) kept ∷ Finish (local_part name) ∷ []) K) 62 x es).0 ((body_close room name kept K (62 ∷ x) es).0 h)

    pub opened_says : (x : List ℕ) (es : List Mark) → BodyRest room name kept K (62 ∷ x) es → Saying (Start (local_part name) kept ∷ []) (Inside room 0 name K) x es
    opened_says x es h = (body_open room name kept K x es).0 h

-- What content says before K goes on.
pub record Leaves (content : Content) (name : List ℕ) (K : List ℕ → List Mark → Type 0) (k : List ℕ) (es : List Mark) : Type 0 where
  pub later : List Mark
  pub says : es ≡ content_marks content (Finish (local_part name) ∷ later)
  pub after : K k later

module _ (room : ℕ) (name : List ℕ) (K : List ℕ → List Mark → Type 0) where
  -- an end tag
  end_over : (space : List ℕ) → Each IsSpace space → (k : List ℕ) (es : List Mark) → Word name (EndRest name K) (name ++ (space ++ (62 ∷ k))) es → Leaves nothing name K k es
  end_over space s k es w =
      let r : EndRest name K w.behind es = w.after in
      let b : Word (62 ∷ []) (Saying (Finish (local_part name) ∷ []) K) r.behind es = r.after in
      let f : Saying (Finish (local_part name) ∷ []) K b.behind es = b.after in
      let e1 = append_cancel_left name (space ++ (62 ∷ k)) w.behind w.text in
      let e2 : space ++ (62 ∷ k) ≡ r.run ++ (62 ∷ b.behind) = e1 ∙ (r.text ∙ ap (λ z. r.run ++ z) b.text) in
      let e3 = spaces_same space r.run (62 ∷ k) (62 ∷ b.behind) s r.is (λ x. not_space 62 (omega arith) x) (λ x. not_space 62 (omega arith) x) e2 in
      let e4 : k ≡ b.behind = cc in
      record { later = f.later; says = f.says; after = subst (λ z. K z f.later) (sym e4) f.after }

  tag_over : (n r : List ℕ) (es : List Mark) → IsQName n → LessCases room name K (n ++ r) es → Then IsQName (λ m. TagRest (room - 1) m [] [] (Inside room 0 name K)) (n ++ r) es
  tag_over [] r es i h = absurd i
  tag_over (c ∷ cs) r es i h = let l = (start_range c i.0).0 in (tag_to room name K c (cs ++ r) es (λ e. omega arith) (λ e. omega arith) (λ e. omega arith) h).1

  pub tag_says : (count : ℕ) (tag : Tag) (k : List ℕ) (es : List Mark) → IsTagEnd k → Inside room count name K (60 ∷ tag_text tag k) es → BodyRest (room - 1) tag.name (attribute_list tag.attributes) (Inside room 0 name K) k es
  tag_says count tag k es t h =
      let l = inside_less room name K count (tag_text tag k) es h in
      start_says (room - 1) (Inside room 0 name K) tag k es t (tag_over tag.name (attributes_text tag.attributes (tag.space ++ k)) es tag.named l)

  pub end_says : (count : ℕ) (space : List ℕ) → Each IsSpace space → (k : List ℕ) (es : List Mark) → Inside room count name K (60 ∷ 47 ∷ (name ++ (space ++ (62 ∷ k)))) es → Leaves nothing name K k es
  end_says count space s k es h =
      let l = inside_less room name K count (47 ∷ (name ++ (space ++ (62 ∷ k)))) es h in
      end_over space s k es (end_to room name K (name ++ (space ++ (62 ∷ k))) es l)

pub content_says : (content : Content) (room count : ℕ) (name : List ℕ) (K : List ℕ → List Mark → Type 0) (space : List ℕ) → Each IsSpace space → (k : List ℕ) (es : List Mark) → Inside room count name K (content_text content (end_text name space k)) es → Leaves content name K k es
content_says nothing room count name K space s k es h = end_says room name K count space s k es h
content_says (char c l a more) room count name K space s k es h =
    let g : Saying (Char c ∷ []) (Inside room (brackets count c) name K) (content_text more (end_text name space k)) es = (inside_char_to room count name K c (content_text more (end_text name space k)) es l a h).1 in
    let r = content_says more room (brackets count c) name K space s k g.later g.after in
    record { later = r.later; says = g.says ∙ ap (λ z. Char c ∷ z) r.says; after = r.after }
content_says (reference t more) room count name K space s k es h =
    let x = content_text more (end_text name space k) in
    let f : RefRest (λ chars. Saying (map Char chars) (Inside room 0 name K)) (reference_text t x) es = (inside_amp room count name K (reference_text t x) es).0 h in
    let same = reference_same t f.to x f.behind f.text in
    let g : Saying (map Char (reference_chars f.to)) (Inside room 0 name K) f.behind es = f.after in
    let i : Inside room 0 name K x g.later = subst (λ z. Inside room 0 name K z g.later) (sym same.1) g.after in
    let r = content_says more room 0 name K space s k g.later i in
    record { later = r.later; says = g.says ∙ (ap (λ z. map Char z ++ g.later) (sym same.0) ∙ ap (λ z. map Char (reference_chars t) ++ z) r.says); after = r.after }
content_says (section text t more) room count name K space s k es h =
    let x = content_text more (end_text name space k) in
    let w = (inside_square room name K count (67 ∷ 68 ∷ 65 ∷ 84 ∷ 65 ∷ 91 ∷ (text ++ (93 ∷ 93 ∷ 62 ∷ x))) es).0 h in
    let e = append_cancel_left (67 ∷ 68 ∷ 65 ∷ 84 ∷ 65 ∷ 91 ∷ []) (text ++ (93 ∷ 93 ∷ 62 ∷ x)) w.behind w.text in
    let g = section_says (Inside room 0 name K) text t x es (subst (λ z. SectionRest 0 (Inside room 0 name K) z es) (sym e) w.after) in
    let r = content_says more room 0 name K space s k g.later g.after in
    record { later = r.later; says = g.says ∙ ap (λ z. map Char text ++ z) r.says; after = r.after }
content_says (comment t more) room count name K space s k es h =
    let x = content_text more (end_text name space k) in
    let w = (inside_dash room name K count (45 ∷ comment_text t x) es).0 h in
    let c = (word_last (CommentRest (Inside room 0 name K)) 45 (comment_text t x) es).0 w in
    let r = content_says more room 0 name K space s k es (behind_comment (Inside room 0 name K) t x es c) in
    record { later = r.later; says = r.says; after = r.after }
content_says (instruction i more) room count name K space s k es h =
    let x = content_text more (end_text name space k) in
    let p = (inside_question room name K count (instruction_text i x) es).0 h in
    let r = content_says more room 0 name K space s k es (behind_instruction (Inside room 0 name K) i x es p) in
    record { later = r.later; says = r.says; after = r.after }
content_says (empty tag more) room count name K space s k es h =
    let x = content_text more (end_text name space k) in
    let b = tag_says room name K count tag (47 ∷ 62 ∷ x) es (inr refl) h in
    let g = closed_says (room - 1) (Inside room 0 name K) tag.name (attribute_list tag.attributes) x es b in
    let r = content_says more room 0 name K space s k g.later g.after in
    record { later = r.later; says = g.says ∙ ap (λ z. Start (local_part tag.name) (attribute_list tag.attributes) ∷ Finish (local_part tag.name) ∷ z) r.says; after = r.after }
content_says (nested tag inner sp ss more) room count name K space s k es h =
    let x = content_text more (end_text name space k) in
    let y = content_text inner (end_text tag.name sp x) in
    let b = tag_says room name K count tag (62 ∷ y) es (inl refl) h in
    let g = opened_says (room - 1) (Inside room 0 name K) tag.name (attribute_list tag.attributes) y es b in
    let i = content_says inner (room - 1) 0 tag.name (Inside room 0 name K) sp ss x g.later g.after in
    let r = content_says more room 0 name K space s k i.later i.after in
    record { later = r.later; says = g.says ∙ ap (λ z. Start (local_part tag.name) (attribute_list tag.attributes) ∷ z) (i.says ∙ ap (λ z. content_marks inner (Finish (local_part tag.name) ∷ z)) r.says); after = r.after }

-- What a body says before K goes on.
pub body_says : (body : Body) (room : ℕ) (name : List ℕ) (kept : List Attribute) (K : List ℕ → List Mark → Type 0) (k : List ℕ) (es : List Mark) → BodyRest room name kept K (body_text body name k) es → (later : List Mark) × (es ≡ Start (local_part name) kept ∷ body_marks body (Finish (local_part name) ∷ later)) × K k later
body_says closed room name kept K k es h = let g = closed_says room K name kept k es h in (g.later, g.says, g.after)
body_says (opened inner space s) room name kept K k es h =
    let g = opened_says room K name kept (content_text inner (end_text name space k)) es h in
    let i = content_says inner room 0 name K space s k g.later g.after in
    (i.later, g.says ∙ ap (λ z. Start (local_part name) kept ∷ z) i.says, i.after)
