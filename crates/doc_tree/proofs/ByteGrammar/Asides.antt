-- Comments, instructions and CDATA sections, byte by byte.
use Rattle.doc_tree.proofs.Words.{BeginsWith, Char, Comment, CommentRest, Each, Instruction, IsInstructionText, IsName, IsNameChar, IsNameRest, IsNameStart, IsSectionText, IsSpace, List, Mark, PiOver, PiRest, PiSpace, PiText, Saying, SectionRest, Then, Word, [], ap, append_assoc, arith, bare, brackets, codes, comment_dash, comment_over, comment_plain, comment_text, inl, inr, instruction_text, map, refl, subst, sym, to_ascii_lowercase, with_text, ℕ, ◌++◌, ◌↔◌, ◌∙◌, ◌∷◌, ◌≡◌, ◌≢◌, ◌≤◌, ◌⊎◌, pending_brackets, zero, suc}
use Rattle.doc_tree.specs.declared.names.Part.TheVariants as parts
use Rattle.doc_tree.proofs.ByteGrammar.Spans.{then_over, then_next, then_back, word_first, word_back, word_last}
use Rattle.doc_tree.proofs.ByteGrammar.Bytes.{IsHigh, high_not_space, not_space, space_low}

not_begins : (b : ℕ) (r run y : List ℕ) → b ≢ 62 → b ∷ r ≡ run ++ y → BeginsWith 62 run → ⊥
not_begins b r [] y n e h = h
not_begins b r (c ∷ cs) y n e h = n (cc)

module _ (K : List ℕ → List Mark → Type 0) where
  -- a comment
  comment_to : (b : ℕ) (r : List ℕ) (es : List Mark) (c : Comment) (y : List ℕ) → b ∷ r ≡ comment_text c y → b ≢ 45 → K y es → CommentRest K r es
  comment_to b r es (comment_plain c o t) y e n k = record { comment = t; behind = y; text = cc; after = k }
  comment_to b r es _ y e n k = absurd (n (cc))

  pub comment_plain_byte : (b : ℕ) (r : List ℕ) (es : List Mark) → b ≢ 45 → CommentRest K (b ∷ r) es ↔ CommentRest K r es
  comment_plain_byte b r es n = (
    λ h. comment_to b r es h.comment h.behind h.text n h.after,
    λ h. record { comment = comment_plain b n h.comment; behind = h.behind; text = ap (λ z. b ∷ z) h.text; after = h.after },
  )

  dash_to : (b : ℕ) (r : List ℕ) (es : List Mark) (c : Comment) (y : List ℕ) → 45 ∷ b ∷ r ≡ comment_text c y → b ≢ 45 → K y es → CommentRest K r es
  dash_to b r es comment_over y e n k = absurd (n (cc))
  dash_to b r es (comment_plain c o t) y e n k = absurd (o (cc))
  dash_to b r es (comment_dash c o t) y e n k = record { comment = t; behind = y; text = cc; after = k }

  pub comment_dash_byte : (b : ℕ) (r : List ℕ) (es : List Mark) → b ≢ 45 → CommentRest K (45 ∷ b ∷ r) es ↔ CommentRest K r es
  comment_dash_byte b r es n = (
    λ h. dash_to b r es h.comment h.behind h.text n h.after,
    λ h. record { comment = comment_dash b n h.comment; behind = h.behind; text = ap (λ z. 45 ∷ b ∷ z) h.text; after = h.after },
  )

  dashes_to : (r : List ℕ) (es : List Mark) (c : Comment) (y : List ℕ) → 45 ∷ 45 ∷ r ≡ comment_text c y → K y es → Word (62 ∷ []) K r es
  dashes_to r es comment_over y e k = record { behind = y; text = cc; after = k }
  dashes_to r es (comment_plain c o t) y e k = absurd (o (cc))
  dashes_to r es (comment_dash c o t) y e k = absurd (o (cc))

  pub comment_end : (r : List ℕ) (es : List Mark) → CommentRest K (45 ∷ 45 ∷ r) es ↔ Word (62 ∷ []) K r es
  comment_end r es = (
    λ h. dashes_to r es h.comment h.behind h.text h.after,
    λ w. record { comment = comment_over; behind = w.behind; text = ap (λ z. 45 ∷ 45 ∷ z) w.text; after = w.after },
  )

  -- an instruction's text
  pub pi_plain : (b : ℕ) (r : List ℕ) (es : List Mark) → b ≢ 63 → PiText K (b ∷ r) es ↔ PiText K r es
  pi_plain b r es n = (
    then_next IsInstructionText IsInstructionText (λ _. Word (63 ∷ 62 ∷ []) K) b r es (λ run p. p.1) (λ p w. n (word_first K 63 (62 ∷ []) b r es w).0),
    then_back IsInstructionText IsInstructionText (λ _. Word (63 ∷ 62 ∷ []) K) b r es (λ run p. (λ e. absurd (n e), p)),
  )

  end_to : (r : List ℕ) (es : List Mark) (run : List ℕ) → IsInstructionText run → (y : List ℕ) → 63 ∷ 62 ∷ r ≡ run ++ y → Word (63 ∷ 62 ∷ []) K y es → K r es
  end_to r es [] i y e w = let v = subst (λ z. Word (63 ∷ 62 ∷ []) K z es) (sym e) w in (word_last K 62 r es).0 (word_first K 63 (62 ∷ []) 63 (62 ∷ r) es v).1
  end_to r es (c ∷ []) i y e w = let q : y ≡ 62 ∷ r = cc in let h = (word_first K 63 (62 ∷ []) 62 r es (subst (λ z. Word (63 ∷ 62 ∷ []) K z es) q w)).0 in absurd (omega arith)
  end_to r es (c ∷ d ∷ cs) i y e w = absurd (i.0 (cc) (cc))

  pub pi_end : (r : List ℕ) (es : List Mark) → PiText K (63 ∷ 62 ∷ r) es ↔ K r es
  pi_end r es = (
    λ h. end_to r es h.run h.is h.behind h.text h.after,
    λ k. record { run = []; is = tt; behind = 63 ∷ 62 ∷ r; text = refl; after = record { behind = r; text = refl; after = k } },
  )

  mark_to : (b : ℕ) (r : List ℕ) (es : List Mark) → b ≢ 62 → (run : List ℕ) → IsInstructionText run → (y : List ℕ) → 63 ∷ b ∷ r ≡ run ++ y → Word (63 ∷ 62 ∷ []) K y es → PiText K (b ∷ r) es
  mark_to b r es n [] i y e w = let v = subst (λ z. Word (63 ∷ 62 ∷ []) K z es) (sym e) w in absurd (n (word_first K 62 [] b r es (word_first K 63 (62 ∷ []) 63 (b ∷ r) es v).1).0)
  mark_to b r es n (c ∷ cs) i y e w = record { run = cs; is = i.1; behind = y; text = cc; after = w }

  pub pi_mark : (b : ℕ) (r : List ℕ) (es : List Mark) → b ≢ 62 → PiText K (63 ∷ b ∷ r) es ↔ PiText K (b ∷ r) es
  pi_mark b r es n = (
    λ h. mark_to b r es n h.run h.is h.behind h.text h.after,
    λ h. record { run = 63 ∷ h.run; is = (λ e f. not_begins b r h.run h.behind n h.text f, h.is); behind = h.behind; text = ap (λ z. 63 ∷ z) h.text; after = h.after },
  )

  -- behind an instruction's name
  over_end : (n r : List ℕ) (es : List Mark) → Word (63 ∷ 62 ∷ []) K (63 ∷ r) es ⊎ PiSpace K (63 ∷ r) es → Word (62 ∷ []) K r es
  over_end n r es (inl w) = (word_first K 63 (62 ∷ []) 63 r es w).1
  over_end n r es (inr s) = let e = s.text in let h : s.space ≡ 63 = cc in absurd (not_space s.space (omega arith) s.is)

  pub pi_over_end : (n r : List ℕ) (es : List Mark) → map to_ascii_lowercase n ≢ codes "xml" → PiOver n K (63 ∷ r) es ↔ Word (62 ∷ []) K r es
  pi_over_end n r es o = (λ h. over_end n r es h.rest, λ w. record { other = o; rest = inl (word_back K 63 (62 ∷ []) r es w) })

  over_space : (b : ℕ) (r : List ℕ) (es : List Mark) → IsSpace b → Word (63 ∷ 62 ∷ []) K (b ∷ r) es ⊎ PiSpace K (b ∷ r) es → PiText K r es
  over_space b r es i (inl w) = let e = (word_first K 63 (62 ∷ []) b r es w).0 in let l = space_low b i in absurd (omega arith)
  over_space b r es i (inr s) = let e = s.text in let h : s.behind ≡ r = cc in subst (λ z. PiText K z es) h s.after

  pub pi_over_space : (n : List ℕ) (b : ℕ) (r : List ℕ) (es : List Mark) → map to_ascii_lowercase n ≢ codes "xml" → IsSpace b → PiOver n K (b ∷ r) es ↔ PiText K r es
  pi_over_space n b r es o i = (λ h. over_space b r es i h.rest, λ h. record { other = o; rest = inr (record { space = b; is = i; behind = r; text = refl; after = h }) })

  over_stuck : (b : ℕ) (r : List ℕ) (es : List Mark) → (IsSpace b → ⊥) → b ≢ 63 → Word (63 ∷ 62 ∷ []) K (b ∷ r) es ⊎ PiSpace K (b ∷ r) es → ⊥
  over_stuck b r es s n (inl w) = n (word_first K 63 (62 ∷ []) b r es w).0
  over_stuck b r es s n (inr p) = let e = p.text in let h : p.space ≡ b = cc in s (subst IsSpace h p.is)

  pub pi_over_stuck : (n : List ℕ) (b : ℕ) (r : List ℕ) (es : List Mark) → (IsSpace b → ⊥) → b ≢ 63 → PiOver n K (b ∷ r) es → ⊥
  pi_over_stuck n b r es s m h = over_stuck b r es s m h.rest

  pub pi_over_high : (b : ℕ) (n r : List ℕ) (es : List Mark) → IsHigh b → PiOver n K (b ∷ r) es → ⊥
  pi_over_high b n r es i h = pi_over_stuck n b r es (high_not_space b i) (λ e. grind arith) h

  -- a whole instruction
  pub instruction_to : (i : Instruction) (y x : List ℕ) (es : List Mark) → x ≡ instruction_text i y → K y es → PiRest K x es
  instruction_to (bare name n o) y x es e k = record { run = name; is = n; behind = 63 ∷ 62 ∷ y; text = e; after = record { other = o; rest = inl (record { behind = y; text = refl; after = k }) } }
  instruction_to (with_text name n o c s text t) y x es e k = record { run = name; is = n; behind = c ∷ (text ++ (63 ∷ 62 ∷ y)); text = e; after = record { other = o; rest = inr (record { space = c; is = s; behind = text ++ (63 ∷ 62 ∷ y); text = refl; after = record { run = text; is = t; behind = 63 ∷ 62 ∷ y; text = refl; after = record { behind = y; text = refl; after = k } } }) } }

  over_of : (name : List ℕ) → IsName name → map to_ascii_lowercase name ≢ codes "xml" → (z x : List ℕ) (es : List Mark) → x ≡ name ++ z → Word (63 ∷ 62 ∷ []) K z es ⊎ PiSpace K z es → (i : Instruction) × (y : List ℕ) × (x ≡ instruction_text i y) × K y es
  over_of name n o z x es e (inl w) = let e1 = w.text in (bare name n o, w.behind, (cc), w.after)
  over_of name n o z x es e (inr s) =
      let t : PiText K s.behind es = s.after in
      let w : Word (63 ∷ 62 ∷ []) K t.behind es = t.after in
      let e1 = s.text in let e2 = t.text in let e3 = w.text in
      (with_text name n o s.space s.is t.run t.is, w.behind, (cc), w.after)

  pub instruction_of : (x : List ℕ) (es : List Mark) → PiRest K x es → (i : Instruction) × (y : List ℕ) × (x ≡ instruction_text i y) × K y es
  instruction_of x es h = let o : PiOver h.run K h.behind es = h.after in over_of h.run h.is o.other h.behind x es h.text o.rest

-- the first byte of a name
pub name_first : (L : List ℕ → List ℕ → List Mark → Type 0) (b : ℕ) (r : List ℕ) (es : List Mark) → IsNameStart b → Then IsName L (b ∷ r) es ↔ Then (IsNameRest parts.Local) (λ run. L (b ∷ run)) r es
name_first L b r es s = (
  then_next IsName (Each IsNameChar) L b r es (λ run i. i.1) (λ i k. i),
  then_back IsName (Each IsNameChar) L b r es (λ run i. (s, i)),
)

pub name_none : (L : List ℕ → List ℕ → List Mark → Type 0) (b : ℕ) (r : List ℕ) (es : List Mark) → (IsNameStart b → ⊥) → Then IsName L (b ∷ r) es → ⊥
name_none L b r es n h = (then_over IsName L b r es (λ run i. n i.0) h).0

-- CDATA sections
pub no_brackets : (n b : ℕ) → b ≢ 93 → brackets n b ≡ 0
no_brackets n b m = grind arith

module _ (K : List ℕ → List Mark → Type 0) where
  abbrev E : List ℕ → List ℕ → List Mark → Type 0
  E run = Word (93 ∷ 93 ∷ 62 ∷ []) (Saying (map Char run) K)

  char_to : (n b : ℕ) (r : List ℕ) (es : List Mark) → (E [] (b ∷ r) es → ⊥) → (run : List ℕ) → IsSectionText n run → (y : List ℕ) → b ∷ r ≡ run ++ y → E run y es → Saying (Char b ∷ []) (SectionRest (brackets n b) K) r es
  char_to n b r es f [] i y e w = absurd (f (subst (λ z. E [] z es) (sym e) w))
  char_to n b r es f (c ∷ cs) i y e w =
      let h : c ≡ b = cc in
      let s : Saying (Char c ∷ map Char cs) K w.behind es = w.after in
      let e1 = w.text in
      record { later = map Char cs ++ s.later; says = subst (λ z. es ≡ Char z ∷ (map Char cs ++ s.later)) h s.says; after = record { run = cs; is = subst (λ z. IsSectionText (brackets n z) cs) h i.1; behind = y; text = cc; after = record { behind = w.behind; text = w.text; after = record { later = s.later; says = refl; after = s.after } } } }

  pub section_char : (n b : ℕ) (r : List ℕ) (es : List Mark) → (2 ≤ n → b ≢ 62) → (E [] (b ∷ r) es → ⊥) → SectionRest n K (b ∷ r) es ↔ Saying (Char b ∷ []) (SectionRest (brackets n b) K) r es
  section_char n b r es g f = (
    λ h. char_to n b r es f h.run h.is h.behind h.text h.after,
    λ h. let t : SectionRest (brackets n b) K r h.later = h.after in
        let w : E t.run t.behind h.later = t.after in
        let s : Saying (map Char t.run) K w.behind h.later = w.after in
        let e1 = h.says in let e2 = s.says in
        record { run = b ∷ t.run; is = (g, t.is); behind = t.behind; text = ap (λ z. b ∷ z) t.text; after = record { behind = w.behind; text = w.text; after = record { later = s.later; says = cc; after = s.after } } },
  )

  -- the section's end
  section_end_to : (r : List ℕ) (es : List Mark) (run : List ℕ) → IsSectionText 0 run → (y : List ℕ) → 93 ∷ 93 ∷ 62 ∷ r ≡ run ++ y → E run y es → K r es
  section_end_to r es [] i y e w =
      let s : Saying [] K w.behind es = w.after in
      let e1 = w.text in let q : w.behind ≡ r = cc in
      subst (λ z. K z es) q (subst (λ z. K w.behind z) (sym s.says) s.after)
  section_end_to r es (a ∷ b ∷ c ∷ cs) i y e w = let p : a ≡ 93 = cc in let q : b ≡ 93 = cc in let t : c ≡ 62 = cc in absurd (grind arith)
  section_end_to r es _ i y e w = let e1 = w.text in let h : ◌≡◌ {A = ℕ} 62 93 = cc in absurd (omega arith)

  pub section_end : (r : List ℕ) (es : List Mark) → SectionRest 0 K (93 ∷ 93 ∷ 62 ∷ r) es ↔ K r es
  section_end r es = (
    λ h. section_end_to r es h.run h.is h.behind h.text h.after,
    λ k. record { run = []; is = tt; behind = 93 ∷ 93 ∷ 62 ∷ r; text = refl; after = record { behind = r; text = refl; after = record { later = es; says = refl; after = k } } },
  )

  -- what two say together
  both : (x y : List Mark) (L : List ℕ → List Mark → Type 0) (r : List ℕ) (es : List Mark) → Saying x (Saying y L) r es ↔ Saying (x ++ y) L r es
  both x y L r es = (
    λ h. let k : Saying y L r h.later = h.after in record { later = k.later; says = h.says ∙ ap (λ z. x ++ z) k.says ∙ sym (append_assoc x y k.later); after = k.after },
    λ h. record { later = y ++ h.later; says = h.says ∙ append_assoc x y h.later; after = record { later = h.later; says = refl; after = h.after } },
  )

  under : (x : List Mark) (A B : List ℕ → List Mark → Type 0) (p q : List ℕ) (es : List Mark) → ((fs : List Mark) → A p fs ↔ B q fs) → Saying x A p es ↔ Saying x B q es
  under x A B p q es f = (
    λ h. record { later = h.later; says = h.says; after = (f h.later).0 h.after },
    λ h. record { later = h.later; says = h.says; after = (f h.later).1 h.after },
  )

  -- a character behind none, one or two `]` that wait
  last_run : (n b : ℕ) (r : List ℕ) (es : List Mark) → b ≢ 93 → (2 ≤ n → b ≢ 62) → SectionRest n K (b ∷ r) es ↔ Saying (Char b ∷ []) (SectionRest 0 K) r es
  last_run n b r es nb ng = subst (λ z. SectionRest n K (b ∷ r) es ↔ Saying (Char b ∷ []) (SectionRest z K) r es) (no_brackets n b nb) (section_char n b r es ng (λ w. let e = w.text in nb (cc)))

  bracket_run : (n m b : ℕ) (r : List ℕ) (es : List Mark) → (E [] (93 ∷ pending_brackets n (b ∷ r)) es → ⊥) → ((fs : List Mark) → SectionRest (brackets m 93) K (pending_brackets n (b ∷ r)) fs ↔ Saying (map Char (pending_brackets n (b ∷ []))) (SectionRest 0 K) r fs) → SectionRest m K (93 ∷ pending_brackets n (b ∷ r)) es ↔ Saying (map Char (93 ∷ pending_brackets n (b ∷ []))) (SectionRest 0 K) r es
  bracket_run n m b r es f rest =
      let a = section_char m 93 (pending_brackets n (b ∷ r)) es (λ l e. omega arith) f in
      let c = under (Char 93 ∷ []) (SectionRest (brackets m 93) K) (Saying (map Char (pending_brackets n (b ∷ []))) (SectionRest 0 K)) (pending_brackets n (b ∷ r)) r es rest in
      let d = both (Char 93 ∷ []) (map Char (pending_brackets n (b ∷ []))) (SectionRest 0 K) r es in
      (λ h. d.0 (c.0 (a.0 h)), λ h. a.1 (c.1 (d.1 h)))

  pub section_run : (n b : ℕ) (r : List ℕ) (es : List Mark) → n ≤ 2 → b ≢ 93 → (2 ≤ n → b ≢ 62) → SectionRest 0 K (pending_brackets n (b ∷ r)) es ↔ Saying (map Char (pending_brackets n (b ∷ []))) (SectionRest 0 K) r es
  section_run zero b r es l nb ng = last_run 0 b r es nb (λ h. absurd (omega arith))
  section_run (suc zero) b r es l nb ng = bracket_run 0 0 b r es (λ w. let e = w.text in nb (cc)) (λ fs. last_run 1 b r fs nb (λ h. absurd (omega arith)))
  section_run (suc (suc zero)) b r es l nb ng = bracket_run 1 0 b r es (λ w. let e = w.text in ng (omega arith) (cc)) (λ fs. bracket_run 0 1 b r fs (λ w. let e = w.text in nb (cc)) (λ gs. last_run 2 b r gs nb ng))
  section_run (suc (suc (suc n))) b r es l nb ng = absurd (omega arith)

  -- a third `]`
  fewer : (r : List ℕ) (es : List Mark) (run : List ℕ) → IsSectionText 1 run → (y : List ℕ) → 93 ∷ 93 ∷ r ≡ run ++ y → E run y es → SectionRest 0 K (93 ∷ 93 ∷ r) es
  fewer r es [] i y e w = record { run = []; is = tt; behind = y; text = e; after = w }
  fewer r es (a ∷ []) i y e w = record { run = a ∷ []; is = (λ l. absurd (omega arith), tt); behind = y; text = e; after = w }
  fewer r es (a ∷ b ∷ cs) i y e w =
      let p : a ≡ 93 = cc in let q : b ≡ 93 = cc in
      let t : IsSectionText (brackets (brackets 1 93) 93) cs = subst (λ z. IsSectionText (brackets (brackets 1 93) z) cs) q (subst (λ z. IsSectionText (brackets (brackets 1 z) b) cs) p i.1.1) in
      record { run = 93 ∷ 93 ∷ cs; is = (λ l. absurd (omega arith), (λ l. absurd (omega arith), t)); behind = y; text = cc; after = subst (λ z. E (z ∷ 93 ∷ cs) y es) p (subst (λ z. E (a ∷ z ∷ cs) y es) q w) }

  more : (r : List ℕ) (es : List Mark) (run : List ℕ) → IsSectionText 0 run → (y : List ℕ) → 93 ∷ 93 ∷ r ≡ run ++ y → E run y es → SectionRest 1 K (93 ∷ 93 ∷ r) es
  more r es [] i y e w = record { run = []; is = tt; behind = y; text = e; after = w }
  more r es (a ∷ []) i y e w = record { run = a ∷ []; is = (λ l. absurd (omega arith), tt); behind = y; text = e; after = w }
  more r es (a ∷ b ∷ cs) i y e w =
      let p : a ≡ 93 = cc in let q : b ≡ 93 = cc in
      let t : IsSectionText (brackets (brackets 0 93) 93) cs = subst (λ z. IsSectionText (brackets (brackets 0 93) z) cs) q (subst (λ z. IsSectionText (brackets (brackets 0 z) b) cs) p i.1.1) in
      record { run = 93 ∷ 93 ∷ cs; is = (λ l. absurd (omega arith), (λ l h. absurd (omega arith), t)); behind = y; text = cc; after = subst (λ z. E (z ∷ 93 ∷ cs) y es) p (subst (λ z. E (a ∷ z ∷ cs) y es) q w) }

  pub section_three : (r : List ℕ) (es : List Mark) → SectionRest 0 K (93 ∷ 93 ∷ 93 ∷ r) es ↔ Saying (map Char (93 ∷ [])) (SectionRest 0 K) (93 ∷ 93 ∷ r) es
  section_three r es =
      let a = section_char 0 93 (93 ∷ 93 ∷ r) es (λ l. absurd (omega arith)) (λ w. let e = w.text in let h : ◌≡◌ {A = ℕ} 93 62 = cc in absurd (omega arith)) in
      let c = under (Char 93 ∷ []) (SectionRest 1 K) (SectionRest 0 K) (93 ∷ 93 ∷ r) (93 ∷ 93 ∷ r) es (λ fs. (λ h. fewer r fs h.run h.is h.behind h.text h.after, λ h. more r fs h.run h.is h.behind h.text h.after)) in
      (λ h. c.0 (a.0 h), λ h. a.1 (c.1 h))
