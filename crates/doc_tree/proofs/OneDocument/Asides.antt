-- What stands behind a comment, an instruction or a CDATA section, and what a section says, are found from the text.
use Rattle.doc_tree.proofs.Words.{Char, Comment, CommentRest, Instruction, IsInstructionText, IsName, IsSectionText, IsSpace, List, Mark, PiRest, Saying, SectionRest, Word, [], ap, arith, bare, brackets, comment_dash, comment_over, comment_plain, comment_text, instruction_text, map, refl, subst, sym, with_text, ℕ, ◌++◌, ◌∙◌, ◌∷◌, ◌≡◌}
use Rattle.doc_tree.proofs.ByteGrammar.{IsHigh, comment_dash_byte, comment_end, comment_plain_byte, instruction_of, not_space, pi_end, word_last}
use Rattle.doc_tree.proofs.OneDocument.Spans.{Stops, each_same, name_high, space_not_high}

-- a comment
pub behind_comment : (K : List ℕ → List Mark → Type 0) (t : Comment) (x : List ℕ) (es : List Mark) → CommentRest K (comment_text t x) es → K x es
behind_comment K comment_over x es h = (word_last K 62 x es).0 ((comment_end K (62 ∷ x) es).0 h)
behind_comment K (comment_plain c o t) x es h = behind_comment K t x es ((comment_plain_byte K c (comment_text t x) es o).0 h)
behind_comment K (comment_dash c o t) x es h = behind_comment K t x es ((comment_dash_byte K c (comment_text t x) es o).0 h)

-- an instruction's text
text_end : (b x y : List ℕ) → IsInstructionText b → 63 ∷ 62 ∷ x ≡ b ++ (63 ∷ 62 ∷ y) → x ≡ y
text_end b x y i e =
    let w : Word (63 ∷ 62 ∷ []) (λ z fs. z ≡ y) (63 ∷ 62 ∷ y) [] = record { behind = y; text = refl; after = refl } in
    (pi_end (λ z fs. z ≡ y) x []).0 (record { run = b; is = i; behind = 63 ∷ 62 ∷ y; text = e; after = w })

text_same : (a b x y : List ℕ) → IsInstructionText a → IsInstructionText b → a ++ (63 ∷ 62 ∷ x) ≡ b ++ (63 ∷ 62 ∷ y) → x ≡ y
text_same [] b x y i j e = text_end b x y j e
text_same (c ∷ cs) [] x y i j e = sym (text_end (c ∷ cs) y x i (sym e))
text_same (c ∷ cs) (d ∷ ds) x y i j e = text_same cs ds x y i.1 j.1 (cc)

-- an instruction
pub mark_not_high : IsHigh 63 → ⊥
mark_not_high h = grind arith

mark_not_space : (c : ℕ) → 63 ≡ c → IsSpace c → ⊥
mark_not_space c e s = not_space c (omega arith) s

plain_names_same : (n m k l : List ℕ) → IsName n → IsName m → Stops IsHigh k → Stops IsHigh l → n ++ k ≡ m ++ l → k ≡ l
plain_names_same n m k l i j s t e = (each_same IsHigh n m k l (name_high n i) (name_high m j) s t e).1

pub instruction_same : (i j : Instruction) (x y : List ℕ) → instruction_text i x ≡ instruction_text j y → x ≡ y
instruction_same (bare n a o) (bare m b p) x y e =
    let r = plain_names_same n m (63 ∷ 62 ∷ x) (63 ∷ 62 ∷ y) a b mark_not_high mark_not_high e in
    cc
instruction_same (bare n a o) (with_text m b p c s text t) x y e =
    let r = plain_names_same n m (63 ∷ 62 ∷ x) (c ∷ (text ++ (63 ∷ 62 ∷ y))) a b mark_not_high (space_not_high c s) e in
    let h : 63 ≡ c = cc in
    absurd (mark_not_space c h s)
instruction_same (with_text n a o c s text t) (bare m b p) x y e =
    let r = plain_names_same n m (c ∷ (text ++ (63 ∷ 62 ∷ x))) (63 ∷ 62 ∷ y) a b (space_not_high c s) mark_not_high e in
    let h : 63 ≡ c = cc in
    absurd (mark_not_space c h s)
instruction_same (with_text n a o c s text t) (with_text m b p d q word w) x y e =
    let r = plain_names_same n m (c ∷ (text ++ (63 ∷ 62 ∷ x))) (d ∷ (word ++ (63 ∷ 62 ∷ y))) a b (space_not_high c s) (space_not_high d q) e in
    text_same text word x y t w (cc)

pub behind_instruction : (K : List ℕ → List Mark → Type 0) (i : Instruction) (x : List ℕ) (es : List Mark) → PiRest K (instruction_text i x) es → K x es
behind_instruction K i x es h =
    let o = instruction_of K (instruction_text i x) es h in
    subst (λ z. K z es) (sym (instruction_same i o.0 x o.1 o.2)) o.3

-- a CDATA section
section_goes : (n c : ℕ) (cs x y : List ℕ) → IsSectionText n (c ∷ cs) → 93 ∷ 93 ∷ 62 ∷ x ≡ c ∷ (cs ++ (93 ∷ 93 ∷ 62 ∷ y)) → ⊥
section_goes n c (d ∷ f ∷ fs) x y i e = let p : c ≡ 93 = cc in let q : d ≡ 93 = cc in let t : f ≡ 62 = cc in grind arith
section_goes n c _ x y i e = grind arith

section_same : (n : ℕ) (a b x y : List ℕ) → IsSectionText n a → IsSectionText n b → a ++ (93 ∷ 93 ∷ 62 ∷ x) ≡ b ++ (93 ∷ 93 ∷ 62 ∷ y) → (a ≡ b) × (x ≡ y)
section_same n [] [] x y i j e = (refl, cc)
section_same n [] (d ∷ ds) x y i j e = absurd (section_goes n d ds x y j e)
section_same n (c ∷ cs) [] x y i j e = absurd (section_goes n c cs y x i (sym e))
section_same n (c ∷ cs) (d ∷ ds) x y i j e =
    let h : c ≡ d = cc in
    let r = section_same (brackets n c) cs ds x y i.1 (subst (λ z. IsSectionText (brackets n z) ds) (sym h) j.1) (cc) in
    let t = r.0 in
    ((cc), r.1)

pub section_says : (K : List ℕ → List Mark → Type 0) (text : List ℕ) → IsSectionText 0 text → (x : List ℕ) (es : List Mark) → SectionRest 0 K (text ++ (93 ∷ 93 ∷ 62 ∷ x)) es → Saying (map Char text) K x es
section_says K text t x es h =
    let w : Word (93 ∷ 93 ∷ 62 ∷ []) (Saying (map Char h.run) K) h.behind es = h.after in
    let r = section_same 0 text h.run x w.behind t h.is (h.text ∙ ap (λ z. h.run ++ z) w.text) in
    subst (λ z. Saying (map Char z) K x es) (sym r.0) (subst (λ z. Saying (map Char h.run) K z es) (sym r.1) w.after)
