-- A reference is found from the text.
use Rattle.doc_tree.proofs.Words.{AllDigits, Each, Entity, IsNumeral, List, Mark, RefRest, Reference, Word, [], amp, ap, apos, arith, decimal, digit_value, digits_value, encode_utf8, entity_text, gt, hexadecimal, lt, named, quot, reference_chars, reference_text, refl, subst, sym, ℕ, ◌++◌, ◌<◌, ◌∷◌, ◌≡◌}
use Rattle.doc_tree.proofs.ByteGrammar.{ref_amp, ref_apos, ref_gt, ref_lt, ref_quot}
use Rattle.doc_tree.proofs.OneDocument.Spans.{each_same}

-- these characters, and then these bytes
abbrev Stands : List ℕ → List ℕ → List ℕ → List ℕ → List Mark → Type 0
Stands says l chars rest marks = (chars ≡ says) × (rest ≡ l)

held : (s : Reference) (l x : List ℕ) → x ≡ reference_text s l → RefRest (Stands (reference_chars s) l) x []
held s l x e = record { to = s; behind = l; text = e; after = (refl, refl) }

read : (w says k l : List ℕ) (c : ℕ) → Word w (Stands says l (c ∷ [])) (w ++ k) [] → (c ∷ [] ≡ says) × (k ≡ l)
read [] says k l c h = let e = h.text in let p = h.after in (p.0, (cc))
read (x ∷ w) says k l c h = let e = h.text in read w says k l c (record { behind = h.behind; text = cc; after = h.after })

entity_same : (n : Entity) (s : Reference) (k l : List ℕ) → entity_text n k ≡ reference_text s l → (reference_chars (named n) ≡ reference_chars s) × (k ≡ l)
entity_same amp s k l e = read (112 ∷ 59 ∷ []) (reference_chars s) k l 38 ((ref_amp (Stands (reference_chars s) l) (112 ∷ 59 ∷ k) []).0 (held s l (97 ∷ 109 ∷ 112 ∷ 59 ∷ k) e))
entity_same lt s k l e = read (116 ∷ 59 ∷ []) (reference_chars s) k l 60 ((ref_lt (Stands (reference_chars s) l) (116 ∷ 59 ∷ k) []).0 (held s l (108 ∷ 116 ∷ 59 ∷ k) e))
entity_same gt s k l e = read (116 ∷ 59 ∷ []) (reference_chars s) k l 62 ((ref_gt (Stands (reference_chars s) l) (116 ∷ 59 ∷ k) []).0 (held s l (103 ∷ 116 ∷ 59 ∷ k) e))
entity_same quot s k l e = read (117 ∷ 111 ∷ 116 ∷ 59 ∷ []) (reference_chars s) k l 34 ((ref_quot (Stands (reference_chars s) l) (117 ∷ 111 ∷ 116 ∷ 59 ∷ k) []).0 (held s l (113 ∷ 117 ∷ 111 ∷ 116 ∷ 59 ∷ k) e))
entity_same apos s k l e = read (111 ∷ 115 ∷ 59 ∷ []) (reference_chars s) k l 39 ((ref_apos (Stands (reference_chars s) l) (111 ∷ 115 ∷ 59 ∷ k) []).0 (held s l (97 ∷ 112 ∷ 111 ∷ 115 ∷ 59 ∷ k) e))

-- digits, and then `;`

all_each : (radix : ℕ) (ds : List ℕ) → AllDigits radix ds → Each (λ c. digit_value c < radix) ds
all_each radix [] d = tt
all_each radix (c ∷ cs) d = (d.0, all_each radix cs d.1)

digits_same : (radix : ℕ) (x y k l : List ℕ) → (digit_value 59 < radix → ⊥) → IsNumeral radix x → IsNumeral radix y → x ++ (59 ∷ k) ≡ y ++ (59 ∷ l) → (x ≡ y) × (k ≡ l)
digits_same radix x y k l n p q e =
    let r = each_same (λ c. digit_value c < radix) x y (59 ∷ k) (59 ∷ l) (all_each radix x p.1) (all_each radix y q.1) n n e in
    let b = r.1 in
    (r.0, (cc))

first_digit : (x k l : List ℕ) → IsNumeral 10 x → x ++ k ≡ 120 ∷ l → ⊥
first_digit [] k l n e = let z = n.0 in omega arith
first_digit (d ∷ ds) k l n e = let h : d ≡ 120 = cc in let b : digit_value 120 < 10 = subst (λ z. digit_value z < 10) h n.1.0 in omega arith

ten : digit_value 59 < 10 → ⊥
ten l = omega arith

sixteen : digit_value 59 < 16 → ⊥
sixteen l = omega arith

abbrev pub Same : Reference → Reference → List ℕ → List ℕ → Type 0
Same r s k l = (reference_chars r ≡ reference_chars s) × (k ≡ l)

turned : (r s : Reference) (k l : List ℕ) → Same s r l k → Same r s k l
turned r s k l p = (sym p.0, sym p.1)

pub reference_same : (r s : Reference) (k l : List ℕ) → reference_text r k ≡ reference_text s l → (reference_chars r ≡ reference_chars s) × (k ≡ l)
reference_same (named n) s k l e = entity_same n s k l e
reference_same (decimal x p i) (named n) k l e = turned (decimal x p i) (named n) k l (entity_same n (decimal x p i) l k (sym e))
reference_same (hexadecimal x p i) (named n) k l e = turned (hexadecimal x p i) (named n) k l (entity_same n (hexadecimal x p i) l k (sym e))
reference_same (decimal x p i) (decimal y q j) k l e = let r = digits_same 10 x y k l ten p q (cc) in (ap (λ z. encode_utf8 (digits_value 10 z)) r.0, r.1)
reference_same (decimal x p i) (hexadecimal y q j) k l e = absurd (first_digit x (59 ∷ k) (y ++ (59 ∷ l)) p (cc))
reference_same (hexadecimal x p i) (decimal y q j) k l e = absurd (first_digit y (59 ∷ l) (x ++ (59 ∷ k)) q (cc))
reference_same (hexadecimal x p i) (hexadecimal y q j) k l e = let r = digits_same 16 x y k l sixteen p q (cc) in (ap (λ z. encode_utf8 (digits_value 16 z)) r.0, r.1)
