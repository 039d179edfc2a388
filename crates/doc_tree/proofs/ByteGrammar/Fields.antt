-- The fields of the declaration.
use Rattle.doc_tree.proofs.ByteGrammar.Printables.{some_each}
use Rattle.doc_tree.proofs.Words.{Aim, Before, Each, Encoding, EndsDeclaration, Equals, Field, FieldOver, FieldRest, FieldValue, Foreign, ForeignRest, Gap, GapRest, IsEncodingRead, IsFieldValue, IsQuote, IsReadEncoding, IsSpace, IsSpecial, List, Mark, Never, Next1, Next2, Or, Some1, Standalone, TreeTerms, Valued, Version, VersionRest, Word, [], ap, encoded, encoding_text, equals_text, field_name, inl, inr, no_encoding, no_standalone, readable, refl, standalone_text, standing, version_text, ℕ, ◌++◌, ◌∙◌, ◌∷◌, ◌≡◌, ◌≢◌, ◌⊎◌}
use Rattle.doc_tree.specs.declared.declaration.Field.TheVariants as fields
use Rattle.doc_tree.proofs.ByteGrammar.Spans.{then_map}
use Rattle.doc_tree.proofs.ByteGrammar.Tags.{equals_to, equals_of}

of_special : (aim : Aim) (name : List ℕ) → IsSpecial aim → IsReadEncoding aim name
of_special readable name h = absurd h
of_special _ name h = tt

module _ (u : TreeTerms) where
  -- the end behind a field
  end_gap : (Next : List ℕ → List Mark → Type 0) (space : List ℕ) → Each IsSpace space → (y x : List ℕ) (es : List Mark) → x ≡ space ++ (63 ∷ 62 ∷ y) → Before u y es → GapRest u Next x es
  end_gap Next [] s y x es e a = inl (record { behind = y; text = e; after = a })
  end_gap Next (c ∷ cs) s y x es e a = inr (record { run = c ∷ cs; is = s; behind = 63 ∷ 62 ∷ y; text = e; after = inl (record { behind = y; text = refl; after = a }) })

  -- a field, with what stands in it
  module _ (field : Field) (G : List ℕ → List Mark → Type 0) where
    valued_to : (word : List ℕ) (e : Equals) (quote : ℕ) → IsQuote quote → (value : List ℕ) → IsFieldValue u.aim field value → (y x : List ℕ) (es : List Mark) → x ≡ word ++ equals_text e (quote ∷ (value ++ (quote ∷ y))) → Valued u field G value y es → Word word (FieldOver u field G) x es
    valued_to word e quote i value v y x es t g = record { behind = equals_text e (quote ∷ (value ++ (quote ∷ y))); text = t; after = equals_to (FieldValue u field G []) e quote i (value ++ (quote ∷ y)) (equals_text e (quote ∷ (value ++ (quote ∷ y)))) es refl (record { run = value; is = v; behind = quote ∷ y; text = refl; after = record { behind = y; text = refl; after = g } }) }

    field_to : (word : List ℕ) (e : Equals) (quote : ℕ) → IsQuote quote → (value : List ℕ) → IsFieldValue u.aim field value → (y x : List ℕ) (es : List Mark) → x ≡ word ++ equals_text e (quote ∷ (value ++ (quote ∷ y))) → G y es → Word word (FieldOver u field G) x es
    field_to word e quote i value v y x es t g = valued_to word e quote i value v y x es t (inl g)

    field_of : (word x : List ℕ) (es : List Mark) → Word word (FieldOver u field G) x es → (e : Equals) × (quote : ℕ) × IsQuote quote × (value : List ℕ) × IsFieldValue u.aim field value × (y : List ℕ) × (x ≡ word ++ equals_text e (quote ∷ (value ++ (quote ∷ y)))) × Valued u field G value y es
    field_of word x es h =
        let q = equals_of (FieldValue u field G []) h.behind es h.after in
        let v : FieldValue u field G [] q.1 q.3 es = q.5 in
        let w : Word (q.1 ∷ []) (Valued u field G v.run) v.behind es = v.after in
        let e1 = h.text in let e2 = q.4 in let e3 = v.text in let e4 = w.text in
        (q.0, q.1, q.2, v.run, v.is, w.behind, (cc), w.after)

    -- what stands behind another field than the encoding
    valued_plain : (value y : List ℕ) (es : List Mark) → field ≢ fields.Encoding → Valued u field G value y es → G y es
    valued_plain value y es n (inl g) = g
    valued_plain value y es n (inr k) = absurd (n k.is)

  -- behind the encoding
  standalone_to : (s : Standalone) (space : List ℕ) → Each IsSpace space → (y x : List ℕ) (es : List Mark) → x ≡ standalone_text s (space ++ (63 ∷ 62 ∷ y)) → Before u y es → GapRest u (Next2 u) x es
  standalone_to no_standalone space sp y x es t a = end_gap (Next2 u) space sp y x es t a
  standalone_to (standing b p e quote i word w) space sp y x es t a = inr (record { run = b; is = p; behind = field_name fields.Standalone ++ equals_text e (quote ∷ (word ++ (quote ∷ (space ++ (63 ∷ 62 ∷ y))))); text = t; after = inr (field_to fields.Standalone (GapRest u Never) (field_name fields.Standalone) e quote i word w (space ++ (63 ∷ 62 ∷ y)) (field_name fields.Standalone ++ equals_text e (quote ∷ (word ++ (quote ∷ (space ++ (63 ∷ 62 ∷ y)))))) es refl (end_gap Never space sp y (space ++ (63 ∷ 62 ∷ y)) es refl a)) })

  -- what ends the declaration
  pub record Over (x : List ℕ) (es : List Mark) : Type 0 where
    pub space : List ℕ
    pub spaced : Each IsSpace space
    pub behind : List ℕ
    pub text : x ≡ space ++ (63 ∷ 62 ∷ behind)
    pub after : Before u behind es

  ends_over : (space : List ℕ) → Each IsSpace space → (y x : List ℕ) (es : List Mark) → x ≡ space ++ y → EndsDeclaration u y es → Over x es
  ends_over space s y x es e h = let e2 = h.text in record { space = space; spaced = s; behind = h.behind; text = cc; after = h.after }

  last_of : (x : List ℕ) (es : List Mark) → GapRest u Never x es → Over x es
  last_of x es (inl h) = ends_over [] tt x x es refl h
  last_of x es (inr h) = elim h.after [ inl k ↦ ends_over h.run (some_each IsSpace h.run h.is) h.behind x es h.text k | inr k ↦ absurd k ]

  pub record Over2 (x : List ℕ) (es : List Mark) : Type 0 where
    pub standalone : Standalone
    pub rest : List ℕ
    pub text : x ≡ standalone_text standalone rest
    pub over : Over rest es

  next2_of : (b : List ℕ) → Some1 IsSpace b → (y x : List ℕ) (es : List Mark) → x ≡ b ++ y → Next2 u y es → Over2 x es
  next2_of b p y x es t h = let f = field_of fields.Standalone (GapRest u Never) (field_name fields.Standalone) y es h in let e2 = f.6 in record { standalone = standing b p f.0 f.1 f.2 f.3 f.4; rest = f.5; text = cc; over = last_of f.5 es (valued_plain fields.Standalone (GapRest u Never) f.3 f.5 es (λ e. cc) f.7) }

  standalone_of : (x : List ℕ) (es : List Mark) → GapRest u (Next2 u) x es → Over2 x es
  standalone_of x es (inl h) = record { standalone = no_standalone; rest = x; text = refl; over = ends_over [] tt x x es refl h }
  standalone_of x es (inr h) = elim h.after [ inl k ↦ record { standalone = no_standalone; rest = x; text = refl; over = ends_over h.run (some_each IsSpace h.run h.is) h.behind x es h.text k } | inr k ↦ next2_of h.run h.is h.behind x es h.text k ]

  -- behind the version
  widen_or : (x : List ℕ) (es : List Mark) → Or (EndsDeclaration u) (Next2 u) x es → Or (EndsDeclaration u) (Next1 u) x es
  widen_or x es (inl h) = inl h
  widen_or x es (inr h) = inr (inr h)

  widen : (x : List ℕ) (es : List Mark) → GapRest u (Next2 u) x es → GapRest u (Next1 u) x es
  widen x es (inl h) = inl h
  widen x es (inr h) = inr (then_map (Some1 IsSpace) (Some1 IsSpace) (λ _. Or (EndsDeclaration u) (Next2 u)) (λ _. Or (EndsDeclaration u) (Next1 u)) (λ run i. i) (λ run y fs k. widen_or y fs k) x es h)

  encoding_to : (n : Encoding) → IsEncodingRead u.aim n → (s : Standalone) (space : List ℕ) → Each IsSpace space → (y x : List ℕ) (es : List Mark) → x ≡ encoding_text n (standalone_text s (space ++ (63 ∷ 62 ∷ y))) → Before u y es → GapRest u (Next1 u) x es
  encoding_to no_encoding f s space sp y x es t a = widen x es (standalone_to s space sp y x es t a)
  encoding_to (encoded b p e quote i name n) f s space sp y x es t a = let r = standalone_text s (space ++ (63 ∷ 62 ∷ y)) in inr (record { run = b; is = p; behind = field_name fields.Encoding ++ equals_text e (quote ∷ (name ++ (quote ∷ r))); text = t; after = inr (inl (field_to fields.Encoding (GapRest u (Next2 u)) (field_name fields.Encoding) e quote i name (n, f) r (field_name fields.Encoding ++ equals_text e (quote ∷ (name ++ (quote ∷ r)))) es refl (standalone_to s space sp y r es refl a))) })

  pub record Over1 (x : List ℕ) (es : List Mark) : Type 0 where
    pub encoding : Encoding
    pub readable : IsEncodingRead u.aim encoding
    pub rest : List ℕ
    pub text : x ≡ encoding_text encoding rest
    pub over : Over2 rest es

  encoded_of : (b : List ℕ) → Some1 IsSpace b → (e : Equals) (quote : ℕ) → IsQuote quote → (name : List ℕ) → IsFieldValue u.aim fields.Encoding name → (y x : List ℕ) (es : List Mark) → x ≡ b ++ (field_name fields.Encoding ++ equals_text e (quote ∷ (name ++ (quote ∷ y)))) → Valued u fields.Encoding (GapRest u (Next2 u)) name y es → Over1 x es ⊎ ForeignRest u x es
  encoded_of b p e quote i name n y x es t (inl g) = inl (record { encoding = encoded b p e quote i name n.0; readable = n.1; rest = y; text = t; over = standalone_of y es g })
  encoded_of b p e quote i name n y x es t (inr k) = inr (record { special = k.special; space = b; spaced = p; equals = e; quote = quote; quoted = i; name = name; named = n.0; other = k.other; text = t ∙ ap (λ z. b ++ (field_name fields.Encoding ++ equals_text e (quote ∷ (name ++ (quote ∷ z))))) k.text; says = k.says })

  next1_of : (b : List ℕ) → Some1 IsSpace b → (y x : List ℕ) (es : List Mark) → x ≡ b ++ y → Next1 u y es → Over1 x es ⊎ ForeignRest u x es
  next1_of b p y x es t (inl h) = let f = field_of fields.Encoding (GapRest u (Next2 u)) (field_name fields.Encoding) y es h in encoded_of b p f.0 f.1 f.2 f.3 f.4 f.5 x es (t ∙ ap (λ z. b ++ z) f.6) f.7
  next1_of b p y x es t (inr h) = inl (record { encoding = no_encoding; readable = tt; rest = x; text = refl; over = next2_of b p y x es t h })

  encoding_of : (x : List ℕ) (es : List Mark) → GapRest u (Next1 u) x es → Over1 x es ⊎ ForeignRest u x es
  encoding_of x es (inl h) = inl (record { encoding = no_encoding; readable = tt; rest = x; text = refl; over = standalone_of x es (inl h) })
  encoding_of x es (inr h) = elim h.after [ inl k ↦ inl (record { encoding = no_encoding; readable = tt; rest = x; text = refl; over = standalone_of x es (inr (record { run = h.run; is = h.is; behind = h.behind; text = h.text; after = inl k })) }) | inr k ↦ next1_of h.run h.is h.behind x es h.text k ]

  -- such an encoding, behind the version
  foreign_to : (x : List ℕ) (es : List Mark) → ForeignRest u x es → GapRest u (Next1 u) x es
  foreign_to x es h =
      let k : Foreign u fields.Encoding h.name [] es = record { special = h.special; is = refl; other = h.other; text = refl; says = h.says } in
      inr (record { run = h.space; is = h.spaced; behind = field_name fields.Encoding ++ equals_text h.equals (h.quote ∷ (h.name ++ (h.quote ∷ []))); text = h.text; after = inr (inl (valued_to fields.Encoding (GapRest u (Next2 u)) (field_name fields.Encoding) h.equals h.quote h.quoted h.name (h.named, of_special u.aim h.name h.special) [] (field_name fields.Encoding ++ equals_text h.equals (h.quote ∷ (h.name ++ (h.quote ∷ [])))) es refl (inr k))) })

  -- behind `<?xml`
  version_to : (v : Version) (y x : List ℕ) (es : List Mark) → x ≡ version_text v y → GapRest u (Next1 u) y es → Gap fields.Before u x es
  version_to v y x es t g = inr (record { run = v.space; is = v.spaced; behind = field_name fields.Version ++ equals_text v.equals (v.quote ∷ 49 ∷ 46 ∷ (v.digits ++ (v.quote ∷ y))); text = t; after = inr (field_to fields.Version (GapRest u (Next1 u)) (field_name fields.Version) v.equals v.quote v.quoted (49 ∷ 46 ∷ v.digits) (v.digits, refl, v.numbered) y (field_name fields.Version ++ equals_text v.equals (v.quote ∷ 49 ∷ 46 ∷ (v.digits ++ (v.quote ∷ y)))) es refl g) })

  pub gap_to : (v : Version) (n : Encoding) (s : Standalone) (space : List ℕ) → Each IsSpace space → IsEncodingRead u.aim n → (y x : List ℕ) (es : List Mark) → x ≡ version_text v (encoding_text n (standalone_text s (space ++ (63 ∷ 62 ∷ y)))) → Before u y es → Gap fields.Before u x es
  gap_to v n s space sp f y x es t a = let r = encoding_text n (standalone_text s (space ++ (63 ∷ 62 ∷ y))) in version_to v r x es t (encoding_to n f s space sp y r es refl a)

  pub gap_foreign : (x : List ℕ) (es : List Mark) → VersionRest u x es → Gap fields.Before u x es
  gap_foreign x es h = version_to h.version h.behind x es h.text (foreign_to h.behind es h.after)

  -- a whole declaration, and what stands behind it
  pub record Over0 (x : List ℕ) (es : List Mark) : Type 0 where
    pub version : Version
    pub rest : List ℕ
    pub text : x ≡ version_text version rest
    pub over : Over1 rest es ⊎ ForeignRest u rest es

  version_of : (b : List ℕ) → Some1 IsSpace b → (y x : List ℕ) (es : List Mark) → x ≡ b ++ y → FieldRest u fields.Version (GapRest u (Next1 u)) y es → Over0 x es
  version_of b p y x es t h =
      let f = field_of fields.Version (GapRest u (Next1 u)) (field_name fields.Version) y es h in
      record {
        version = record { space = b; spaced = p; equals = f.0; quote = f.1; quoted = f.2; digits = f.4.0; numbered = f.4.2 };
        rest = f.5;
        text = t ∙ ap (λ z. b ++ z) (f.6 ∙ ap (λ v. field_name fields.Version ++ equals_text f.0 (f.1 ∷ (v ++ (f.1 ∷ f.5)))) f.4.1);
        over = encoding_of f.5 es (valued_plain fields.Version (GapRest u (Next1 u)) f.3 f.5 es (λ e. cc) f.7);
      }

  gap_over : (x : List ℕ) (es : List Mark) → Gap fields.Before u x es → Over0 x es
  gap_over x es (inl h) = absurd h
  gap_over x es (inr h) = elim h.after [ inl k ↦ absurd k | inr k ↦ version_of h.run h.is h.behind x es h.text k ]

  pub gap_of : (x : List ℕ) (es : List Mark) → Gap fields.Before u x es → ((v : Version) × (n : Encoding) × (s : Standalone) × (space : List ℕ) × Each IsSpace space × (y : List ℕ) × (x ≡ version_text v (encoding_text n (standalone_text s (space ++ (63 ∷ 62 ∷ y))))) × IsEncodingRead u.aim n × Before u y es) ⊎ VersionRest u x es
  gap_of x es h =
      let o = gap_over x es h in
      elim o.over [
        | inl r ↦ (let s = r.over in let l = s.over in let e1 = o.text in let e2 = r.text in let e3 = s.text in let e4 = l.text in inl (o.version, r.encoding, s.standalone, l.space, l.spaced, l.behind, (cc), r.readable, l.after))
        | inr r ↦ inr (record { version = o.version; behind = o.rest; text = o.text; after = r })
      ]
