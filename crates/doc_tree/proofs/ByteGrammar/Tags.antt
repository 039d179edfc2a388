-- Start tags, byte by byte.
use Rattle.doc_tree.proofs.Words.{AreUniqueNames, Attribute, AttributeValue, Attributes, Between, Body, BodyRest, Bool, Each, Equals, EqualsRest, Finish, InKey, InTag, Inside, IsBodyFit, IsQuote, IsSpace, List, Mark, QuoteRest, Quoted, Saying, Start, MachineState, TagChoice, TagRest, TreeTerms, Then, Word, [], ap, append-nil, append_assoc, arith, attribute, attribute_list, attributes_text, body_marks, body_text, closed, cond, content_marks, depth_left, equals_text, false, inl, inr, is_kept, keep, local_part, no_attribute, opened, refl, subst, sym, true, value_chars, value_text, ℕ, ◌++◌, ◌-◌, ◌↔◌, ◌∷◌, ◌≡◌, ◌⊎◌}
use Rattle.doc_tree.proofs.ByteGrammar.Bytes.{space_low}

-- `=` with white space round it, and a quote
module _ (K : ℕ → List ℕ → List Mark → Type 0) where
  pub equals_to : (e : Equals) (quote : ℕ) → IsQuote quote → (y x : List ℕ) (es : List Mark) → x ≡ equals_text e (quote ∷ y) → K quote y es → EqualsRest K x es
  equals_to e quote q y x es t k = record { run = e.before; is = e.spaced_before; behind = 61 ∷ (e.after ++ (quote ∷ y)); text = t; after = record { behind = e.after ++ (quote ∷ y); text = refl; after = record { run = e.after; is = e.spaced_after; behind = quote ∷ y; text = refl; after = record { quote = quote; is = q; behind = y; text = refl; after = k } } } }

  pub equals_of : (x : List ℕ) (es : List Mark) → EqualsRest K x es → (e : Equals) × (quote : ℕ) × IsQuote quote × (y : List ℕ) × (x ≡ equals_text e (quote ∷ y)) × K quote y es
  equals_of x es h =
      let w : Word (61 ∷ []) (QuoteRest K) h.behind es = h.after in let r : QuoteRest K w.behind es = w.after in let q : Quoted K r.behind es = r.after in
      let e1 = h.text in let e2 = w.text in let e3 = r.text in let e4 = q.text in
      (record { before = h.run; spaced_before = h.is; after = r.run; spaced_after = r.is }, q.quote, q.is, q.behind, (cc), q.after)

keep_more : (b : Bool) (a : Attribute) (kept rest : List Attribute) → (kept ++ cond b (a ∷ []) []) ++ rest ≡ kept ++ cond b (a ∷ rest) rest
keep_more true a kept rest = append_assoc kept (a ∷ []) rest
keep_more false a kept rest = ap (λ z. z ++ rest) (append-nil kept)

module _ (room : ℕ) (name : List ℕ) (kept : List Attribute) (K : List ℕ → List Mark → Type 0) where
  -- the tag's end
  body_first : (b : ℕ) (x : List ℕ) (body : Body) (y : List ℕ) → b ∷ x ≡ body_text body name y → (b ≡ 47) ⊎ (b ≡ 62)
  body_first b x closed y e = inl (cc)
  body_first b x (opened i sp ss) y e = inr (cc)

  pub body_begins : (b : ℕ) (x : List ℕ) (es : List Mark) → BodyRest room name kept K (b ∷ x) es → (b ≡ 47) ⊎ (b ≡ 62)
  body_begins b x es h = body_first b x h.body h.behind h.text

  pub body_space : (b : ℕ) (x : List ℕ) (es : List Mark) → IsSpace b → BodyRest room name kept K (b ∷ x) es → ⊥
  body_space b x es s h = let l = space_low b s in elim (body_begins b x es h) [ inl e ↦ omega arith | inr e ↦ omega arith ]

  open_to : (x : List ℕ) (es : List Mark) → (body : Body) → IsBodyFit room body → (y : List ℕ) (k : List Mark) → 62 ∷ x ≡ body_text body name y → es ≡ Start (local_part name) kept ∷ body_marks body (Finish (local_part name) ∷ k) → K y k → Saying (Start (local_part name) kept ∷ []) (Inside room 0 name K) x es
  open_to x es closed f y k e q a = let h : ◌≡◌ {A = ℕ} 62 47 = cc in absurd (omega arith)
  open_to x es (opened i sp ss) f y k e q a = record { later = content_marks i (Finish (local_part name) ∷ k); says = q; after = record { content = i; fit = f; space = sp; spaced = ss; behind = y; later = k; text = cc; says = refl; after = a } }

  close_to : (x : List ℕ) (es : List Mark) → (body : Body) (y : List ℕ) (k : List Mark) → 47 ∷ x ≡ body_text body name y → es ≡ Start (local_part name) kept ∷ body_marks body (Finish (local_part name) ∷ k) → K y k → Word (62 ∷ []) (Saying (Start (local_part name) kept ∷ Finish (local_part name) ∷ []) K) x es
  close_to x es closed y k e q a = record { behind = y; text = cc; after = record { later = k; says = q; after = a } }
  close_to x es (opened i sp ss) y k e q a = let h : ◌≡◌ {A = ℕ} 47 62 = cc in absurd (omega arith)

  pub body_close : (x : List ℕ) (es : List Mark) → BodyRest room name kept K (47 ∷ x) es ↔ Word (62 ∷ []) (Saying (Start (local_part name) kept ∷ Finish (local_part name) ∷ []) K) x es
  body_close x es = (
    λ h. close_to x es h.body h.behind h.later h.text h.says h.after,
    λ h. let s : Saying (Start (local_part name) kept ∷ Finish (local_part name) ∷ []) K h.behind es = h.after in record { body = closed; fit = tt; behind = h.behind; later = s.later; text = ap (λ z. 47 ∷ z) h.text; says = s.says; after = s.after },
  )

  pub body_open : (x : List ℕ) (es : List Mark) → BodyRest room name kept K (62 ∷ x) es ↔ Saying (Start (local_part name) kept ∷ []) (Inside room 0 name K) x es
  body_open x es = (
    λ h. open_to x es h.body h.fit h.behind h.later h.text h.says h.after,
    λ h. let i : Inside room 0 name K x h.later = h.after in let e1 = h.says in let e2 = i.says in record { body = opened i.content i.space i.spaced; fit = i.fit; behind = i.behind; later = i.later; text = ap (λ z. 62 ∷ z) i.text; says = cc; after = i.after },
  )

-- the fields of the tag that is read
module _ (u : TreeTerms) (s : MachineState) where
  abbrev R : ℕ
  R = depth_left u s.names - 1

  abbrev K0 : List ℕ → List Mark → Type 0
  K0 = Between 0 s.names u

  -- behind white space
  space_to : (b : ℕ) (r : List ℕ) (es : List Mark) → IsSpace b → (attributes : Attributes) → AreUniqueNames s.keys attributes → (space : List ℕ) → Each IsSpace space → (y : List ℕ) → b ∷ r ≡ attributes_text attributes (space ++ y) → BodyRest R s.name (s.kept ++ attribute_list attributes) K0 y es → Then (Each IsSpace) (λ _. TagChoice s u) r es
  space_to b r es sb no_attribute f [] sp y e a = absurd (body_space R s.name (s.kept ++ []) K0 b r es sb (subst (λ z. BodyRest R s.name (s.kept ++ []) K0 z es) (sym e) a))
  space_to b r es sb no_attribute f (c ∷ cs) sp y e a = record { run = cs; is = sp.1; behind = y; text = cc; after = inl (subst (λ z. BodyRest R s.name z K0 y es) (append-nil s.kept) a) }
  space_to b r es sb (attribute [] n p o q quote i v more) f space sp y e a = absurd p
  space_to b r es sb (attribute (c ∷ cs) n p o q quote i v more) f space sp y e a = record { run = cs; is = p.1; behind = n ++ equals_text q (quote ∷ value_text v (attributes_text more (space ++ y))); text = cc; after = inr (record { run = n; is = o; behind = equals_text q (quote ∷ value_text v (attributes_text more (space ++ y))); text = refl; after = record { new = f.0; over = equals_to (λ z. AttributeValue R s.name s.keys s.kept K0 n z []) q quote i (value_text v (attributes_text more (space ++ y))) (equals_text q (quote ∷ value_text v (attributes_text more (space ++ y)))) es refl (record { value = v; behind = attributes_text more (space ++ y); text = refl; after = record { attributes = more; fresh = f.1; space = space; spaced = sp; behind = y; text = refl; after = subst (λ z. BodyRest R s.name z K0 y es) (sym (keep_more (is_kept n) (record { name = n; value = value_chars v }) s.kept (attribute_list more))) a } }) } }) }

  choice_from : (b : ℕ) → IsSpace b → (run : List ℕ) → Each IsSpace run → (y x : List ℕ) (es : List Mark) → x ≡ run ++ y → TagChoice s u y es → InTag s s.name u (b ∷ x) es
  choice_from b sb run p y x es e (inl h) = record { attributes = no_attribute; fresh = tt; space = b ∷ run; spaced = (sb, p); behind = y; text = ap (λ z. b ∷ z) e; after = subst (λ z. BodyRest R s.name z K0 y es) (sym (append-nil s.kept)) h }
  choice_from b sb run p y x es e (inr h) =
      let k : InKey s u h.run h.behind es = h.after in
      let q = equals_of (λ z. AttributeValue R s.name s.keys s.kept K0 h.run z []) h.behind es k.over in
      let v : AttributeValue R s.name s.keys s.kept K0 h.run q.1 [] q.3 es = q.5 in
      let t : TagRest R s.name (s.keys ++ (h.run ∷ [])) (keep h.run (value_chars v.value) s.kept) K0 v.behind es = v.after in
      let e1 = h.text in let e2 = q.4 in let e3 = v.text in let e4 = t.text in
      record { attributes = attribute (b ∷ run) h.run (sb, p) h.is q.0 q.1 q.2 v.value t.attributes; fresh = (k.new, t.fresh); space = t.space; spaced = t.spaced; behind = t.behind; text = cc; after = subst (λ z. BodyRest R s.name z K0 t.behind es) (keep_more (is_kept h.run) (record { name = h.run; value = value_chars v.value }) s.kept (attribute_list t.attributes)) t.after }

  pub tag_space : (b : ℕ) (r : List ℕ) (es : List Mark) → IsSpace b → InTag s s.name u (b ∷ r) es ↔ Then (Each IsSpace) (λ _. TagChoice s u) r es
  tag_space b r es sb = (
    λ h. space_to b r es sb h.attributes h.fresh h.space h.spaced h.behind h.text h.after,
    λ h. choice_from b sb h.run h.is h.behind r es h.text h.after,
  )

  -- behind no white space
  plain_to : (b : ℕ) (r : List ℕ) (es : List Mark) → (IsSpace b → ⊥) → (attributes : Attributes) → (space : List ℕ) → Each IsSpace space → (y : List ℕ) → b ∷ r ≡ attributes_text attributes (space ++ y) → BodyRest R s.name (s.kept ++ attribute_list attributes) K0 y es → BodyRest R s.name s.kept K0 (b ∷ r) es
  plain_to b r es ns no_attribute [] sp y e a = subst (λ z. BodyRest R s.name z K0 (b ∷ r) es) (append-nil s.kept) (subst (λ z. BodyRest R s.name (s.kept ++ []) K0 z es) (sym e) a)
  plain_to b r es ns no_attribute (c ∷ cs) sp y e a = let h : c ≡ b = cc in absurd (ns (subst IsSpace h sp.0))
  plain_to b r es ns (attribute [] n p o q quote i v more) space sp y e a = absurd p
  plain_to b r es ns (attribute (c ∷ cs) n p o q quote i v more) space sp y e a = let h : c ≡ b = cc in absurd (ns (subst IsSpace h p.0))

  pub tag_plain : (b : ℕ) (r : List ℕ) (es : List Mark) → (IsSpace b → ⊥) → InTag s s.name u (b ∷ r) es ↔ BodyRest R s.name s.kept K0 (b ∷ r) es
  tag_plain b r es ns = (
    λ h. plain_to b r es ns h.attributes h.space h.spaced h.behind h.text h.after,
    λ h. record { attributes = no_attribute; fresh = tt; space = []; spaced = tt; behind = b ∷ r; text = refl; after = subst (λ z. BodyRest R s.name z K0 (b ∷ r) es) (sym (append-nil s.kept)) h },
  )
