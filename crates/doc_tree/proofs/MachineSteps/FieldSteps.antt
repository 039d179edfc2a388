-- The declaration, byte by byte.
use Rattle.doc_tree.proofs.Words.{Before, Choice, Each, EndsBehind, Field, FieldOver, FieldRest, FieldValue, Foreign, Gap, GapRest, IsDigit, IsEncodingChar, IsFieldValue, IsNextField, IsQuote, IsSpace, IsYesOrNo, List, Mark, Never, Next1, Next2, NextFields, NoNextField, Some1, TreeTerms, Then, Valued, Word, [], append-nil, append_assoc, arith, field_name, first_letter, inl, inr, refl, subst, sym, ℕ, ◌++◌, ◌↔◌, ◌∷◌, ◌≡◌, ◌≢◌, ◌≤◌}
use Rattle.doc_tree.specs.declared.declaration.Field.TheVariants as fields
use Rattle.doc_tree.proofs.ByteGrammar.{each_right, some_more, some_stuck, space_low, then_back, then_here, then_map, then_next, then_over, word_back, word_first, word_last}

module _ (u : TreeTerms) where
  pub ends_first : (f : Field) (b : ℕ) (r : List ℕ) (es : List Mark) → EndsBehind f u (b ∷ r) es → b ≡ 63
  ends_first fields.Before b r es h = absurd h
  ends_first _ b r es h = (word_first (Before u) 63 (62 ∷ []) b r es h).0

  pub ends_next : (f : Field) (r : List ℕ) (es : List Mark) → f ≢ fields.Before → EndsBehind f u (63 ∷ r) es ↔ Word (62 ∷ []) (Before u) r es
  ends_next fields.Before r es n = absurd (n refl)
  ends_next _ r es n = (λ h. (word_first (Before u) 63 (62 ∷ []) 63 r es h).1, λ h. word_back (Before u) 63 (62 ∷ []) r es h)

  ends_space : (f : Field) (b : ℕ) (r : List ℕ) (es : List Mark) → IsSpace b → EndsBehind f u (b ∷ r) es → ⊥
  ends_space f b r es s h = let l = space_low b s in let e = ends_first f b r es h in omega arith

  pub gap_space : (f : Field) (b : ℕ) (r : List ℕ) (es : List Mark) → IsSpace b → Gap f u (b ∷ r) es ↔ Then (Each IsSpace) (λ _. Choice f u) r es
  gap_space f b r es s = (
    λ h. elim h [ inl k ↦ absurd (ends_space f b r es s k) | inr k ↦ (some_more (Choice f u) b r es s).0 k ],
    λ h. inr ((some_more (Choice f u) b r es s).1 h),
  )

  pub gap_plain : (f : Field) (b : ℕ) (r : List ℕ) (es : List Mark) → (IsSpace b → ⊥) → Gap f u (b ∷ r) es ↔ EndsBehind f u (b ∷ r) es
  gap_plain f b r es n = (λ h. elim h [ inl k ↦ k | inr k ↦ absurd (some_stuck (Choice f u) b r es n k) ], λ h. inl h)

  -- the first letter of what may come
  rest_first : (g : Field) (w : ℕ) (ws : List ℕ) (K : List ℕ → List Mark → Type 0) (b : ℕ) (r : List ℕ) (es : List Mark) → field_name g ≡ w ∷ ws → FieldRest u g K (b ∷ r) es → b ≡ w
  rest_first g w ws K b r es e h = (word_first (FieldOver u g K) w ws b r es (subst (λ z. Word z (FieldOver u g K) (b ∷ r) es) e h)).0

  pub next_first : (f : Field) (b : ℕ) (r : List ℕ) (es : List Mark) → NextFields f u (b ∷ r) es → (g : Field) × IsNextField f g × (b ≡ first_letter g)
  next_first fields.Before b r es h = (fields.Version, tt, (word_first (FieldOver u fields.Version (GapRest u (Next1 u))) 118 (101 ∷ 114 ∷ 115 ∷ 105 ∷ 111 ∷ 110 ∷ []) b r es h).0)
  next_first fields.Version b r es (inl h) = (fields.Encoding, tt, (word_first (FieldOver u fields.Encoding (GapRest u (Next2 u))) 101 (110 ∷ 99 ∷ 111 ∷ 100 ∷ 105 ∷ 110 ∷ 103 ∷ []) b r es h).0)
  next_first fields.Version b r es (inr h) = (fields.Standalone, tt, (word_first (FieldOver u fields.Standalone (GapRest u Never)) 115 (116 ∷ 97 ∷ 110 ∷ 100 ∷ 97 ∷ 108 ∷ 111 ∷ 110 ∷ 101 ∷ []) b r es h).0)
  next_first fields.Encoding b r es h = (fields.Standalone, tt, (word_first (FieldOver u fields.Standalone (GapRest u Never)) 115 (116 ∷ 97 ∷ 110 ∷ 100 ∷ 97 ∷ 108 ∷ 111 ∷ 110 ∷ 101 ∷ []) b r es h).0)
  next_first fields.Standalone b r es h = absurd h

  letter_high : (f g : Field) → IsNextField f g → 101 ≤ first_letter g
  letter_high fields.Before fields.Version h = omega arith
  letter_high fields.Version fields.Encoding h = omega arith
  letter_high fields.Version fields.Standalone h = omega arith
  letter_high fields.Encoding fields.Standalone h = omega arith
  letter_high _ _ h = absurd h

  pub choice_not_space : (f : Field) (b : ℕ) (r : List ℕ) (es : List Mark) → IsSpace b → Choice f u (b ∷ r) es → ⊥
  choice_not_space f b r es s (inl h) = ends_space f b r es s h
  choice_not_space f b r es s (inr h) = let p = next_first f b r es h in let l = letter_high f p.0 p.1 in let e = p.2 in let k = space_low b s in omega arith

  pub choice_ends : (f : Field) (b : ℕ) (r : List ℕ) (es : List Mark) → NoNextField f b → Choice f u (b ∷ r) es ↔ EndsBehind f u (b ∷ r) es
  choice_ends f b r es n = (λ h. elim h [ inl k ↦ k | inr k ↦ (let p = next_first f b r es k in absurd (n p.0 p.1 p.2)) ], λ h. inl h)

  -- a field that may come
  field_both : (g : Field) (K : List ℕ → List Mark → Type 0) (w : ℕ) (ws r : List ℕ) (es : List Mark) → field_name g ≡ w ∷ ws → FieldRest u g K (w ∷ r) es ↔ Word ws (FieldOver u g K) r es
  field_both g K w ws r es e = (
    λ h. (word_first (FieldOver u g K) w ws w r es (subst (λ z. Word z (FieldOver u g K) (w ∷ r) es) e h)).1,
    λ h. subst (λ z. Word z (FieldOver u g K) (w ∷ r) es) (sym e) (word_back (FieldOver u g K) w ws r es h),
  )

  next_both : (f g : Field) (ws r : List ℕ) (es : List Mark) → IsNextField f g → field_name g ≡ first_letter g ∷ ws → NextFields f u (first_letter g ∷ r) es ↔ Word ws (FieldOver u g (Gap g u)) r es
  next_both fields.Before fields.Version ws r es i e = field_both fields.Version (GapRest u (Next1 u)) 118 ws r es e
  next_both fields.Version fields.Encoding ws r es i e = let k = field_both fields.Encoding (GapRest u (Next2 u)) 101 ws r es e in (
    λ h. elim h [ inl x ↦ k.0 x | inr x ↦ (let z = rest_first fields.Standalone 115 (116 ∷ 97 ∷ 110 ∷ 100 ∷ 97 ∷ 108 ∷ 111 ∷ 110 ∷ 101 ∷ []) (GapRest u Never) 101 r es refl x in absurd (omega arith)) ],
    λ h. inl (k.1 h),
  )
  next_both fields.Version fields.Standalone ws r es i e = let k = field_both fields.Standalone (GapRest u Never) 115 ws r es e in (
    λ h. elim h [ inl x ↦ (let z = rest_first fields.Encoding 101 (110 ∷ 99 ∷ 111 ∷ 100 ∷ 105 ∷ 110 ∷ 103 ∷ []) (GapRest u (Next2 u)) 115 r es refl x in absurd (omega arith)) | inr x ↦ k.0 x ],
    λ h. inr (k.1 h),
  )
  next_both fields.Encoding fields.Standalone ws r es i e = field_both fields.Standalone (GapRest u Never) 115 ws r es e
  next_both _ _ ws r es i e = absurd i

  pub choice_next : (f g : Field) (ws r : List ℕ) (es : List Mark) → IsNextField f g → field_name g ≡ first_letter g ∷ ws → Choice f u (first_letter g ∷ r) es ↔ Word ws (FieldOver u g (Gap g u)) r es
  choice_next f g ws r es i e = let k = next_both f g ws r es i e in (
    λ h. elim h [ inl x ↦ (let l = letter_high f g i in let z = ends_first f (first_letter g) r es x in absurd (omega arith)) | inr x ↦ k.0 x ],
    λ h. inr (k.1 h),
  )

  -- values
  letters : (c : ℕ) → 97 ≤ c → c ≤ 122 → IsEncodingChar c
  letters c l h = inl (inr (l, h))

  digits_each : (ds : List ℕ) → Each IsDigit ds → Each IsEncodingChar ds
  digits_each [] h = tt
  digits_each (d ∷ ds) h = (inr (inl h.0), digits_each ds h.1)

  digits_some : (ds : List ℕ) → Some1 IsDigit ds → Each IsEncodingChar ds
  digits_some [] h = tt
  digits_some (d ∷ ds) h = digits_each (d ∷ ds) h

  word_each : (w : List ℕ) → IsYesOrNo w → Each IsEncodingChar w
  word_each w (inl e) = let h : Each IsEncodingChar (121 ∷ 101 ∷ 115 ∷ []) = (letters 121 (omega arith) (omega arith), (letters 101 (omega arith) (omega arith), (letters 115 (omega arith) (omega arith), tt))) in subst (Each IsEncodingChar) (sym e) h
  word_each w (inr e) = let h : Each IsEncodingChar (110 ∷ 111 ∷ []) = (letters 110 (omega arith) (omega arith), (letters 111 (omega arith) (omega arith), tt)) in subst (Each IsEncodingChar) (sym e) h

  pub field_each : (f : Field) (v : List ℕ) → IsFieldValue u.aim f v → Each IsEncodingChar v
  field_each fields.Before v h = absurd h
  field_each fields.Version v h = let k : Each IsEncodingChar (49 ∷ 46 ∷ h.0) = (inr (inl (omega arith, omega arith)), (inr (inr (inl refl)), digits_some h.0 h.2)) in subst (Each IsEncodingChar) (sym h.1) k
  field_each fields.Encoding [] h = tt
  field_each fields.Encoding (c ∷ cs) h = (inl h.0.0, h.0.1)
  field_each fields.Standalone v h = word_each v h

  no_quote : (q : ℕ) → IsQuote q → IsEncodingChar q → ⊥
  no_quote q i h = grind arith

  module _ (f : Field) (K : List ℕ → List Mark → Type 0) (v : List ℕ) (q : ℕ) where
    abbrev P : List ℕ → Type 0
    P more = IsFieldValue u.aim f (v ++ more)

    abbrev N : ℕ → List ℕ → Type 0
    N b more = IsFieldValue u.aim f ((v ++ (b ∷ [])) ++ more)

    abbrev L : List ℕ → List ℕ → List Mark → Type 0
    L more = Word (q ∷ []) (Valued u f K (v ++ more))

    -- the value with this byte
    longer : (b : ℕ) (run : List ℕ) → (v ++ (b ∷ [])) ++ run ≡ v ++ (b ∷ run)
    longer b run = append_assoc v (b ∷ []) run

    pub value_more : (b : ℕ) (r : List ℕ) (es : List Mark) → b ≢ q → FieldValue u f K v q (b ∷ r) es ↔ FieldValue u f K (v ++ (b ∷ [])) q r es
    value_more b r es n = (
      λ h. then_map (N b) (N b) (λ run. L (b ∷ run)) (λ run. Word (q ∷ []) (Valued u f K ((v ++ (b ∷ [])) ++ run))) (λ run i. i) (λ run x fs k. subst (λ z. Word (q ∷ []) (Valued u f K z) x fs) (sym (longer b run)) k) r es
          (then_next P (N b) L b r es (λ run i. subst (IsFieldValue u.aim f) (sym (longer b run)) i) (λ i k. n (word_first (Valued u f K (v ++ [])) q [] b r es k).0) h),
      λ h. then_back P (N b) L b r es (λ run i. subst (IsFieldValue u.aim f) (longer b run) i)
          (then_map (N b) (N b) (λ run. Word (q ∷ []) (Valued u f K ((v ++ (b ∷ [])) ++ run))) (λ run. L (b ∷ run)) (λ run i. i) (λ run x fs k. subst (λ z. Word (q ∷ []) (Valued u f K z) x fs) (longer b run) k) r es h),
    )

    value_done : (r : List ℕ) (es : List Mark) → IsQuote q → FieldValue u f K v q (q ∷ r) es → P [] × Word (q ∷ []) (Valued u f K (v ++ [])) (q ∷ r) es
    value_done r es i h = then_over P L q r es (λ run k. no_quote q i (each_right IsEncodingChar v (q ∷ run) (field_each f (v ++ (q ∷ run)) k)).0) h

    -- the same without the nothing behind
    pub value_valued : (r : List ℕ) (es : List Mark) → IsQuote q → FieldValue u f K v q (q ∷ r) es → Valued u f K v r es
    value_valued r es i h = subst (λ z. Valued u f K z r es) (append-nil v) ((word_last (Valued u f K (v ++ [])) q r es).0 (value_done r es i h).1)

    pub value_back : (r : List ℕ) (es : List Mark) → IsFieldValue u.aim f v → Valued u f K v r es → FieldValue u f K v q (q ∷ r) es
    value_back r es g k = then_here P L (q ∷ r) es (subst (IsFieldValue u.aim f) (sym (append-nil v)) g) ((word_last (Valued u f K (v ++ [])) q r es).1 (subst (λ z. Valued u f K z r es) (sym (append-nil v)) k))

    pub value_over : (r : List ℕ) (es : List Mark) → IsQuote q → IsFieldValue u.aim f v → (Foreign u f v r es → ⊥) → FieldValue u f K v q (q ∷ r) es ↔ K r es
    value_over r es i g n = (
      λ h. elim (value_valued r es i h) [ inl k ↦ k | inr k ↦ absurd (n k) ],
      λ k. value_back r es g (inl k),
    )

    pub value_stuck : (r : List ℕ) (es : List Mark) → IsQuote q → (IsFieldValue u.aim f v → ⊥) → FieldValue u f K v q (q ∷ r) es → ⊥
    value_stuck r es i n h = n (subst (IsFieldValue u.aim f) (append-nil v) (value_done r es i h).0)
