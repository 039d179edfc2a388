-- The content of an element, byte by byte.
use Rattle.doc_tree.proofs.Words.{Between, Body, BodyRest, Char, CommentRest, Content, Each, EndRest, Finish, Inside, Insides, IsBodyFit, IsFit, IsQName, IsSpace, List, Mark, PiRest, RefRest, SaidByReference, Saying, SectionRest, Start, Tag, TagFirst, TagRest, TreeTerms, Then, Word, [], ap, arith, attribute_list, attributes_text, body_marks, body_text, brackets, char, closed, comment, comment_text, content_marks, content_text, depth_left, empty, end_text, instruction, instruction_text, local_part, map, nested, nothing, opened, reference, reference_chars, refl, section, subst, sym, tag_text, ℕ, ◌++◌, ◌-◌, ◌<◌, ◌↔◌, ◌∙◌, ◌∷◌, ◌≡◌, ◌≢◌, ◌≤◌}
use Rattle.doc_tree.proofs.ByteGrammar.Asides.{instruction_to, instruction_of}
use Rattle.doc_tree.proofs.ByteGrammar.Bytes.{start_range}

module _ (room count : ℕ) (name : List ℕ) (K : List ℕ → List Mark → Type 0) where
  char_to : (b : ℕ) (r : List ℕ) (es : List Mark) → b ≢ 60 → b ≢ 38 → (content : Content) → IsFit room count content → (space : List ℕ) → Each IsSpace space → (y : List ℕ) (k : List Mark) → b ∷ r ≡ content_text content (end_text name space y) → es ≡ content_marks content (Finish (local_part name) ∷ k) → K y k → (2 ≤ count → b ≢ 62) × Saying (Char b ∷ []) (Inside room (brackets count b) name K) r es
  char_to b r es nl na nothing f space s y k e q a = absurd (nl (cc))
  char_to b r es nl na (char c l p more) f space s y k e q a = let h : c ≡ b = cc in (
    subst (λ z. 2 ≤ count → z ≢ 62) h f.0,
    record { later = content_marks more (Finish (local_part name) ∷ k); says = cc; after = record { content = more; fit = subst (λ z. IsFit room (brackets count z) more) h f.1; space = space; spaced = s; behind = y; later = k; text = cc; says = refl; after = a } },
  )
  char_to b r es nl na (reference t more) f space s y k e q a = absurd (na (cc))
  char_to b r es nl na (section t n more) f space s y k e q a = absurd (nl (cc))
  char_to b r es nl na (comment t more) f space s y k e q a = absurd (nl (cc))
  char_to b r es nl na (instruction t more) f space s y k e q a = absurd (nl (cc))
  char_to b r es nl na (empty tag more) f space s y k e q a = absurd (nl (cc))
  char_to b r es nl na (nested tag inner sp ss more) f space s y k e q a = absurd (nl (cc))

  pub inside_char_to : (b : ℕ) (r : List ℕ) (es : List Mark) → b ≢ 60 → b ≢ 38 → Inside room count name K (b ∷ r) es → (2 ≤ count → b ≢ 62) × Saying (Char b ∷ []) (Inside room (brackets count b) name K) r es
  inside_char_to b r es nl na h = char_to b r es nl na h.content h.fit h.space h.spaced h.behind h.later h.text h.says h.after

  pub inside_char_from : (b : ℕ) (r : List ℕ) (es : List Mark) → b ≢ 60 → b ≢ 38 → (2 ≤ count → b ≢ 62) → Saying (Char b ∷ []) (Inside room (brackets count b) name K) r es → Inside room count name K (b ∷ r) es
  inside_char_from b r es nl na g h = let i : Inside room (brackets count b) name K r h.later = h.after in let e1 = h.says in let e2 = i.says in record { content = char b nl na i.content; fit = (g, i.fit); space = i.space; spaced = i.spaced; behind = i.behind; later = i.later; text = ap (λ z. b ∷ z) i.text; says = cc; after = i.after }

  -- a reference
  amp_to : (x : List ℕ) (es : List Mark) → (content : Content) → IsFit room count content → (space : List ℕ) → Each IsSpace space → (y : List ℕ) (k : List Mark) → 38 ∷ x ≡ content_text content (end_text name space y) → es ≡ content_marks content (Finish (local_part name) ∷ k) → K y k → RefRest (λ chars. Saying (map Char chars) (Inside room 0 name K)) x es
  amp_to x es (char c l p more) f space s y k e q a = absurd (p (cc))
  amp_to x es (reference t more) f space s y k e q a = record { to = t; behind = content_text more (end_text name space y); text = cc; after = record { later = content_marks more (Finish (local_part name) ∷ k); says = q; after = record { content = more; fit = f; space = space; spaced = s; behind = y; later = k; text = refl; says = refl; after = a } } }
  amp_to x es _ f space s y k e q a = absurd (grind arith)

  pub inside_amp : (x : List ℕ) (es : List Mark) → Inside room count name K (38 ∷ x) es ↔ RefRest (λ chars. Saying (map Char chars) (Inside room 0 name K)) x es
  inside_amp x es = (
    λ h. amp_to x es h.content h.fit h.space h.spaced h.behind h.later h.text h.says h.after,
    λ h. let g : Saying (map Char (reference_chars h.to)) (Inside room 0 name K) h.behind es = h.after in let i : Inside room 0 name K h.behind g.later = g.after in let e1 = h.text in let e2 = i.text in let e3 = g.says in let e4 = i.says in record { content = reference h.to i.content; fit = i.fit; space = i.space; spaced = i.spaced; behind = i.behind; later = i.later; text = cc; says = cc; after = i.after },
  )

-- what stands behind `<`
pub data LessCases (room : ℕ) (name : List ℕ) (K : List ℕ → List Mark → Type 0) (x : List ℕ) (es : List Mark) : Type 0 where
  is_end : (t : List ℕ) → x ≡ 47 ∷ t → Word name (EndRest name K) t es → LessCases room name K x es
  is_comment : (t : List ℕ) → x ≡ 33 ∷ 45 ∷ 45 ∷ t → CommentRest (Inside room 0 name K) t es → LessCases room name K x es
  is_section : (t : List ℕ) → x ≡ 33 ∷ 91 ∷ 67 ∷ 68 ∷ 65 ∷ 84 ∷ 65 ∷ 91 ∷ t → SectionRest 0 (Inside room 0 name K) t es → LessCases room name K x es
  is_pi : (t : List ℕ) → x ≡ 63 ∷ t → PiRest (Inside room 0 name K) t es → LessCases room name K x es
  is_tag : 1 ≤ room → Then IsQName (λ n. TagRest (room - 1) n [] [] (Inside room 0 name K)) x es → LessCases room name K x es

module _ (room : ℕ) (name : List ℕ) (K : List ℕ → List Mark → Type 0) where
  less_to : (count : ℕ) (x : List ℕ) (es : List Mark) → (content : Content) → IsFit room count content → (space : List ℕ) → Each IsSpace space → (y : List ℕ) (k : List Mark) → 60 ∷ x ≡ content_text content (end_text name space y) → es ≡ content_marks content (Finish (local_part name) ∷ k) → K y k → LessCases room name K x es
  less_to count x es nothing f space s y k e q a = is_end (name ++ (space ++ (62 ∷ y))) (cc) (record { behind = space ++ (62 ∷ y); text = refl; after = record { run = space; is = s; behind = 62 ∷ y; text = refl; after = record { behind = y; text = refl; after = record { later = k; says = q; after = a } } } })
  less_to count x es (char c l p more) f space s y k e q a = absurd (l (cc))
  less_to count x es (reference t more) f space s y k e q a = let h : ◌≡◌ {A = ℕ} 60 38 = cc in absurd (omega arith)
  less_to count x es (section t n more) f space s y k e q a =
      let z = content_text more (end_text name space y) in
      let i : Inside room 0 name K z (content_marks more (Finish (local_part name) ∷ k)) = record { content = more; fit = f; space = space; spaced = s; behind = y; later = k; text = refl; says = refl; after = a } in
      is_section (t ++ (93 ∷ 93 ∷ 62 ∷ z)) (cc) (record { run = t; is = n; behind = 93 ∷ 93 ∷ 62 ∷ z; text = refl; after = record { behind = z; text = refl; after = record { later = content_marks more (Finish (local_part name) ∷ k); says = q; after = i } } })
  less_to count x es (comment t more) f space s y k e q a =
      let z = content_text more (end_text name space y) in
      is_comment (comment_text t z) (cc) (record { comment = t; behind = z; text = refl; after = record { content = more; fit = f; space = space; spaced = s; behind = y; later = k; text = refl; says = q; after = a } })
  less_to count x es (instruction t more) f space s y k e q a =
      let z = content_text more (end_text name space y) in
      is_pi (instruction_text t z) (cc) (instruction_to (Inside room 0 name K) t z (instruction_text t z) es refl (record { content = more; fit = f; space = space; spaced = s; behind = y; later = k; text = refl; says = q; after = a }))
  less_to count x es (empty tag more) f space s y k e q a = is_tag f.0 (record {
    run = tag.name;
    is = tag.named;
    behind = attributes_text tag.attributes (tag.space ++ (47 ∷ 62 ∷ content_text more (end_text name space y)));
    text = cc;
    after = record {
      attributes = tag.attributes;
      fresh = tag.fresh;
      space = tag.space;
      spaced = tag.spaced;
      behind = 47 ∷ 62 ∷ content_text more (end_text name space y);
      text = refl;
      after = record {
        body = closed;
        fit = tt;
        behind = content_text more (end_text name space y);
        later = content_marks more (Finish (local_part name) ∷ k);
        text = refl;
        says = q;
        after = record { content = more; fit = f.1; space = space; spaced = s; behind = y; later = k; text = refl; says = refl; after = a };
      };
    };
  })
  less_to count x es (nested tag inner sp ss more) f space s y k e q a = is_tag f.0 (record {
    run = tag.name;
    is = tag.named;
    behind = attributes_text tag.attributes (tag.space ++ (62 ∷ content_text inner (end_text tag.name sp (content_text more (end_text name space y)))));
    text = cc;
    after = record {
      attributes = tag.attributes;
      fresh = tag.fresh;
      space = tag.space;
      spaced = tag.spaced;
      behind = 62 ∷ content_text inner (end_text tag.name sp (content_text more (end_text name space y)));
      text = refl;
      after = record {
        body = opened inner sp ss;
        fit = f.1;
        behind = content_text more (end_text name space y);
        later = content_marks more (Finish (local_part name) ∷ k);
        text = refl;
        says = q;
        after = record { content = more; fit = f.2; space = space; spaced = s; behind = y; later = k; text = refl; says = refl; after = a };
      };
    };
  })

  pub inside_less : (count : ℕ) (x : List ℕ) (es : List Mark) → Inside room count name K (60 ∷ x) es → LessCases room name K x es
  inside_less count x es h = less_to count x es h.content h.fit h.space h.spaced h.behind h.later h.text h.says h.after

  pub inside_end : (count : ℕ) (t : List ℕ) (es : List Mark) → Word name (EndRest name K) t es → Inside room count name K (60 ∷ 47 ∷ t) es
  inside_end count t es h =
      let r : EndRest name K h.behind es = h.after in let w : Word (62 ∷ []) (Saying (Finish (local_part name) ∷ []) K) r.behind es = r.after in let d : Saying (Finish (local_part name) ∷ []) K w.behind es = w.after in
      let e1 = h.text in let e2 = r.text in let e3 = w.text in
      record { content = nothing; fit = tt; space = r.run; spaced = r.is; behind = w.behind; later = d.later; text = cc; says = d.says; after = d.after }

  pub inside_comment : (count : ℕ) (t : List ℕ) (es : List Mark) → CommentRest (Inside room 0 name K) t es → Inside room count name K (60 ∷ 33 ∷ 45 ∷ 45 ∷ t) es
  inside_comment count t es h =
      let i : Inside room 0 name K h.behind es = h.after in
      let e1 = h.text in let e2 = i.text in
      record { content = comment h.comment i.content; fit = i.fit; space = i.space; spaced = i.spaced; behind = i.behind; later = i.later; text = cc; says = i.says; after = i.after }

  pub inside_section : (count : ℕ) (t : List ℕ) (es : List Mark) → SectionRest 0 (Inside room 0 name K) t es → Inside room count name K (60 ∷ 33 ∷ 91 ∷ 67 ∷ 68 ∷ 65 ∷ 84 ∷ 65 ∷ 91 ∷ t) es
  inside_section count t es h =
      let w : Word (93 ∷ 93 ∷ 62 ∷ []) (Saying (map Char h.run) (Inside room 0 name K)) h.behind es = h.after in
      let g : Saying (map Char h.run) (Inside room 0 name K) w.behind es = w.after in
      let i : Inside room 0 name K w.behind g.later = g.after in
      let e1 = h.text in let e2 = w.text in let e3 = i.text in
      record { content = section h.run h.is i.content; fit = i.fit; space = i.space; spaced = i.spaced; behind = i.behind; later = i.later; text = cc; says = g.says ∙ ap (λ z. map Char h.run ++ z) i.says; after = i.after }

  pub inside_pi : (count : ℕ) (t : List ℕ) (es : List Mark) → PiRest (Inside room 0 name K) t es → Inside room count name K (60 ∷ 63 ∷ t) es
  inside_pi count t es h =
      let o = instruction_of (Inside room 0 name K) t es h in
      let i : Inside room 0 name K o.1 es = o.3 in
      let e1 = o.2 in let e2 = i.text in
      record { content = instruction o.0 i.content; fit = i.fit; space = i.space; spaced = i.spaced; behind = i.behind; later = i.later; text = cc; says = i.says; after = i.after }

  child : (tag : Tag) (body : Body) (x y : List ℕ) (es k : List Mark) → 1 ≤ room → IsBodyFit (room - 1) body → x ≡ tag_text tag (body_text body tag.name y) → es ≡ Start (local_part tag.name) (attribute_list tag.attributes) ∷ body_marks body (Finish (local_part tag.name) ∷ k) → (count : ℕ) → Inside room 0 name K y k → Inside room count name K (60 ∷ x) es
  child tag closed x y es k n f e q count h = let e1 = h.text in let e2 = h.says in record { content = empty tag h.content; fit = (n, h.fit); space = h.space; spaced = h.spaced; behind = h.behind; later = h.later; text = cc; says = cc; after = h.after }
  child tag (opened inner sp ss) x y es k n f e q count h = let e1 = h.text in let e2 = h.says in record { content = nested tag inner sp ss h.content; fit = (n, f, h.fit); space = h.space; spaced = h.spaced; behind = h.behind; later = h.later; text = cc; says = cc; after = h.after }

  pub inside_tag : (count : ℕ) (x : List ℕ) (es : List Mark) → 1 ≤ room → Then IsQName (λ n. TagRest (room - 1) n [] [] (Inside room 0 name K)) x es → Inside room count name K (60 ∷ x) es
  inside_tag count x es n h =
      let t : TagRest (room - 1) h.run [] [] (Inside room 0 name K) h.behind es = h.after in
      let d : BodyRest (room - 1) h.run (attribute_list t.attributes) (Inside room 0 name K) t.behind es = t.after in
      let e1 = h.text in let e2 = t.text in let e3 = d.text in
      child (record { name = h.run; named = h.is; attributes = t.attributes; fresh = t.fresh; space = t.space; spaced = t.spaced }) d.body x d.behind es d.later n d.fit (cc) d.says count d.after

again : (room : ℕ) (n : List ℕ) (K : List ℕ → List Mark → Type 0) (a b : ℕ) (r : List ℕ) (es : List Mark) → Inside room a n K (60 ∷ r) es → Inside room b n K (60 ∷ r) es
again room n K a b r es h = elim (inside_less room n K a r es h) [
  | is_end t e w ↦ subst (λ z. Inside room b n K (60 ∷ z) es) (sym e) (inside_end room n K b t es w)
  | is_comment t e w ↦ subst (λ z. Inside room b n K (60 ∷ z) es) (sym e) (inside_comment room n K b t es w)
  | is_section t e w ↦ subst (λ z. Inside room b n K (60 ∷ z) es) (sym e) (inside_section room n K b t es w)
  | is_pi t e w ↦ subst (λ z. Inside room b n K (60 ∷ z) es) (sym e) (inside_pi room n K b t es w)
  | is_tag l t ↦ inside_tag room n K b r es l t
]

-- a start tag in content
pub tag_to : (room : ℕ) (n : List ℕ) (K : List ℕ → List Mark → Type 0) (b : ℕ) (r : List ℕ) (es : List Mark) → b ≢ 47 → b ≢ 33 → b ≢ 63 → LessCases room n K (b ∷ r) es → (1 ≤ room) × Then IsQName (λ m. TagRest (room - 1) m [] [] (Inside room 0 n K)) (b ∷ r) es
tag_to room n K b r es no_end no_bang no_mark (is_end t e w) = absurd (no_end (cc))
tag_to room n K b r es no_end no_bang no_mark (is_comment t e w) = absurd (no_bang (cc))
tag_to room n K b r es no_end no_bang no_mark (is_section t e w) = absurd (no_bang (cc))
tag_to room n K b r es no_end no_bang no_mark (is_pi t e w) = absurd (no_mark (cc))
tag_to room n K b r es no_end no_bang no_mark (is_tag l t) = (l, t)

-- an end tag in content
slash : (r run : List ℕ) → IsQName run → (y : List ℕ) → 47 ∷ r ≡ run ++ y → ⊥
slash r [] q y e = q
slash r (c ∷ cs) q y e = let h : 47 ≡ c = cc in let l = (start_range c q.0).0 in omega arith

pub end_to : (room : ℕ) (n : List ℕ) (K : List ℕ → List Mark → Type 0) (r : List ℕ) (es : List Mark) → LessCases room n K (47 ∷ r) es → Word n (EndRest n K) r es
end_to room n K r es (is_end t e w) = let q : t ≡ r = cc in subst (λ z. Word n (EndRest n K) z es) q w
end_to room n K r es (is_comment t e w) = let h : ◌≡◌ {A = ℕ} 47 33 = cc in absurd (omega arith)
end_to room n K r es (is_section t e w) = let h : ◌≡◌ {A = ℕ} 47 33 = cc in absurd (omega arith)
end_to room n K r es (is_pi t e w) = let h : ◌≡◌ {A = ℕ} 47 63 = cc in absurd (omega arith)
end_to room n K r es (is_tag l t) = absurd (slash r t.run t.is t.behind t.text)

-- a name begins with no mark
pub no_name : (b : ℕ) (r run : List ℕ) → b < 65 → IsQName run → (y : List ℕ) → b ∷ r ≡ run ++ y → ⊥
no_name b r [] l q y e = q
no_name b r (c ∷ cs) l q y e = let h : b ≡ c = cc in let k = (start_range c q.0).0 in omega arith

-- a comment, a section, an instruction in content
module _ (room : ℕ) (n : List ℕ) (K : List ℕ → List Mark → Type 0) where
  dash_to : (r : List ℕ) (es : List Mark) → LessCases room n K (33 ∷ 45 ∷ r) es → Word (45 ∷ []) (CommentRest (Inside room 0 n K)) r es
  dash_to r es (is_end t e w) = let h : ◌≡◌ {A = ℕ} 33 47 = cc in absurd (omega arith)
  dash_to r es (is_comment t e w) = record { behind = t; text = cc; after = w }
  dash_to r es (is_section t e w) = let h : ◌≡◌ {A = ℕ} 45 91 = cc in absurd (omega arith)
  dash_to r es (is_pi t e w) = let h : ◌≡◌ {A = ℕ} 33 63 = cc in absurd (omega arith)
  dash_to r es (is_tag l t) = absurd (no_name 33 (45 ∷ r) t.run (omega arith) t.is t.behind t.text)

  pub inside_dash : (count : ℕ) (r : List ℕ) (es : List Mark) → Inside room count n K (60 ∷ 33 ∷ 45 ∷ r) es ↔ Word (45 ∷ []) (CommentRest (Inside room 0 n K)) r es
  inside_dash count r es = (
    λ h. dash_to r es (inside_less room n K count (33 ∷ 45 ∷ r) es h),
    λ w. subst (λ z. Inside room count n K (60 ∷ 33 ∷ 45 ∷ z) es) (sym w.text) (inside_comment room n K count w.behind es w.after),
  )

  square_to : (r : List ℕ) (es : List Mark) → LessCases room n K (33 ∷ 91 ∷ r) es → Word (67 ∷ 68 ∷ 65 ∷ 84 ∷ 65 ∷ 91 ∷ []) (SectionRest 0 (Inside room 0 n K)) r es
  square_to r es (is_end t e w) = let h : ◌≡◌ {A = ℕ} 33 47 = cc in absurd (omega arith)
  square_to r es (is_comment t e w) = let h : ◌≡◌ {A = ℕ} 91 45 = cc in absurd (omega arith)
  square_to r es (is_section t e w) = record { behind = t; text = cc; after = w }
  square_to r es (is_pi t e w) = let h : ◌≡◌ {A = ℕ} 33 63 = cc in absurd (omega arith)
  square_to r es (is_tag l t) = absurd (no_name 33 (91 ∷ r) t.run (omega arith) t.is t.behind t.text)

  pub inside_square : (count : ℕ) (r : List ℕ) (es : List Mark) → Inside room count n K (60 ∷ 33 ∷ 91 ∷ r) es ↔ Word (67 ∷ 68 ∷ 65 ∷ 84 ∷ 65 ∷ 91 ∷ []) (SectionRest 0 (Inside room 0 n K)) r es
  inside_square count r es = (
    λ h. square_to r es (inside_less room n K count (33 ∷ 91 ∷ r) es h),
    λ w. subst (λ z. Inside room count n K (60 ∷ 33 ∷ 91 ∷ z) es) (sym w.text) (inside_section room n K count w.behind es w.after),
  )

  bang_none : (b : ℕ) (r : List ℕ) (es : List Mark) → b ≢ 45 → b ≢ 91 → LessCases room n K (33 ∷ b ∷ r) es → ⊥
  bang_none b r es d q (is_end t e w) = let h : ◌≡◌ {A = ℕ} 33 47 = cc in absurd (omega arith)
  bang_none b r es d q (is_comment t e w) = d (cc)
  bang_none b r es d q (is_section t e w) = q (cc)
  bang_none b r es d q (is_pi t e w) = let h : ◌≡◌ {A = ℕ} 33 63 = cc in absurd (omega arith)
  bang_none b r es d q (is_tag l t) = no_name 33 (b ∷ r) t.run (omega arith) t.is t.behind t.text

  pub inside_bang : (count b : ℕ) (r : List ℕ) (es : List Mark) → b ≢ 45 → b ≢ 91 → Inside room count n K (60 ∷ 33 ∷ b ∷ r) es → ⊥
  inside_bang count b r es d q h = bang_none b r es d q (inside_less room n K count (33 ∷ b ∷ r) es h)

  question_to : (r : List ℕ) (es : List Mark) → LessCases room n K (63 ∷ r) es → PiRest (Inside room 0 n K) r es
  question_to r es (is_end t e w) = let h : ◌≡◌ {A = ℕ} 63 47 = cc in absurd (omega arith)
  question_to r es (is_comment t e w) = let h : ◌≡◌ {A = ℕ} 63 33 = cc in absurd (omega arith)
  question_to r es (is_section t e w) = let h : ◌≡◌ {A = ℕ} 63 33 = cc in absurd (omega arith)
  question_to r es (is_pi t e w) = let h : t ≡ r = cc in subst (λ z. PiRest (Inside room 0 n K) z es) h w
  question_to r es (is_tag l t) = absurd (no_name 63 r t.run (omega arith) t.is t.behind t.text)

  pub inside_question : (count : ℕ) (r : List ℕ) (es : List Mark) → Inside room count n K (60 ∷ 63 ∷ r) es ↔ PiRest (Inside room 0 n K) r es
  inside_question count r es = (λ h. question_to r es (inside_less room n K count (63 ∷ r) es h), λ h. inside_pi room n K count r es h)

module _ (u : TreeTerms) where
  -- in the content of some element
  pub content_char : (count : ℕ) (names : List (List ℕ)) (b : ℕ) (r : List ℕ) (es : List Mark) → b ≢ 60 → b ≢ 38 → (2 ≤ count → b ≢ 62) → Insides count names u (b ∷ r) es ↔ Saying (Char b ∷ []) (Insides (brackets count b) names u) r es
  content_char count [] b r es nl na g = (λ h. absurd h, λ h. absurd (h.after))
  content_char count (n ∷ names) b r es nl na g = (
    λ h. let k = (inside_char_to (depth_left u (n ∷ names)) count n (Between 0 names u) b r es nl na h).1 in record { later = k.later; says = k.says; after = k.after },
    λ h. inside_char_from (depth_left u (n ∷ names)) count n (Between 0 names u) b r es nl na g (record { later = h.later; says = h.says; after = h.after }),
  )

  pub content_close : (count : ℕ) (names : List (List ℕ)) (r : List ℕ) (es : List Mark) → 2 ≤ count → Insides count names u (62 ∷ r) es → ⊥
  content_close count [] r es l h = h
  content_close count (n ∷ names) r es l h = (inside_char_to (depth_left u (n ∷ names)) count n (Between 0 names u) 62 r es (λ e. omega arith) (λ e. omega arith) h).0 l refl

  pub content_amp : (count : ℕ) (names : List (List ℕ)) (r : List ℕ) (es : List Mark) → Insides count names u (38 ∷ r) es ↔ RefRest (SaidByReference names u) r es
  content_amp count [] r es = (λ h. absurd h, λ h. absurd (h.after.after))
  content_amp count (n ∷ names) r es = let i = inside_amp (depth_left u (n ∷ names)) count n (Between 0 names u) r es in (
    λ h. let k = i.0 h in let s = k.after in record { to = k.to; behind = k.behind; text = k.text; after = record { later = s.later; says = s.says; after = s.after } },
    λ k. let s : SaidByReference (n ∷ names) u (reference_chars k.to) k.behind es = k.after in i.1 (record { to = k.to; behind = k.behind; text = k.text; after = record { later = s.later; says = s.says; after = s.after } }),
  )

  pub content_less : (count : ℕ) (names : List (List ℕ)) (r : List ℕ) (es : List Mark) → Insides count names u (60 ∷ r) es ↔ Insides 0 names u (60 ∷ r) es
  content_less count [] r es = (λ h. h, λ h. h)
  content_less count (n ∷ names) r es = (again (depth_left u (n ∷ names)) n (Between 0 names u) count 0 r es, again (depth_left u (n ∷ names)) n (Between 0 names u) 0 count r es)

  pub content_tag : (names : List (List ℕ)) (b : ℕ) (r : List ℕ) (es : List Mark) → b ≢ 47 → b ≢ 33 → b ≢ 63 → Insides 0 names u (60 ∷ b ∷ r) es → TagFirst names u (b ∷ r) es
  content_tag [] b r es e f g h = absurd h
  content_tag (n ∷ names) b r es e f g h = let p = tag_to (depth_left u (n ∷ names)) n (Between 0 names u) b r es e f g (inside_less (depth_left u (n ∷ names)) n (Between 0 names u) 0 (b ∷ r) es h) in record { room = p.0; rest = p.1 }

  pub content_end : (n : List ℕ) (names : List (List ℕ)) (r : List ℕ) (es : List Mark) → Insides 0 (n ∷ names) u (60 ∷ 47 ∷ r) es ↔ Word n (EndRest n (Between 0 names u)) r es
  content_end n names r es = (
    λ h. end_to (depth_left u (n ∷ names)) n (Between 0 names u) r es (inside_less (depth_left u (n ∷ names)) n (Between 0 names u) 0 (47 ∷ r) es h),
    λ h. inside_end (depth_left u (n ∷ names)) n (Between 0 names u) 0 r es h,
  )

  pub content_tag_from : (n : List ℕ) (names : List (List ℕ)) (x : List ℕ) (es : List Mark) → TagFirst (n ∷ names) u x es → Insides 0 (n ∷ names) u (60 ∷ x) es
  content_tag_from n names x es h = inside_tag (depth_left u (n ∷ names)) n (Between 0 names u) 0 x es h.room h.rest

  pub content_dash : (names : List (List ℕ)) (r : List ℕ) (es : List Mark) → Insides 0 names u (60 ∷ 33 ∷ 45 ∷ r) es ↔ Word (45 ∷ []) (CommentRest (Insides 0 names u)) r es
  content_dash [] r es = (λ h. absurd h, λ w. w.after.after)
  content_dash (n ∷ names) r es = inside_dash (depth_left u (n ∷ names)) n (Between 0 names u) 0 r es

  pub content_square : (names : List (List ℕ)) (r : List ℕ) (es : List Mark) → Insides 0 names u (60 ∷ 33 ∷ 91 ∷ r) es ↔ Word (67 ∷ 68 ∷ 65 ∷ 84 ∷ 65 ∷ 91 ∷ []) (SectionRest 0 (Insides 0 names u)) r es
  content_square [] r es = (λ h. absurd h, λ w. w.after.after.after.after)
  content_square (n ∷ names) r es = inside_square (depth_left u (n ∷ names)) n (Between 0 names u) 0 r es

  pub content_bang : (names : List (List ℕ)) (b : ℕ) (r : List ℕ) (es : List Mark) → b ≢ 45 → b ≢ 91 → Insides 0 names u (60 ∷ 33 ∷ b ∷ r) es → ⊥
  content_bang [] b r es d q h = h
  content_bang (n ∷ names) b r es d q h = inside_bang (depth_left u (n ∷ names)) n (Between 0 names u) 0 b r es d q h

  pub content_question : (names : List (List ℕ)) (r : List ℕ) (es : List Mark) → Insides 0 names u (60 ∷ 63 ∷ r) es ↔ PiRest (Insides 0 names u) r es
  content_question [] r es = (λ h. absurd h, λ h. (instruction_of (Insides 0 [] u) r es h).3)
  content_question (n ∷ names) r es = inside_question (depth_left u (n ∷ names)) n (Between 0 names u) 0 r es
