-- Values, attributes and start tags are found from the text.
use Rattle.doc_tree.proofs.Words.{Attributes, Each, Equals, IsQName, IsQuote, IsSpace, List, Some1, Value, [], arith, attribute, attribute_list, attributes_text, equals_text, inl, inr, no_attribute, refl, subst, sym, value_chars, value_over, value_plain, value_reference, value_text, value_white, ℕ, ◌++◌, ◌∷◌, ◌≡◌, ◌≤◌, ◌⊎◌, Mark, ValueRest, append-nil, append_assoc, reference_chars, reference_text}
use Rattle.doc_tree.proofs.ByteGrammar.{value_amp, value_char, value_end, value_space, IsHigh, some_each}
use Rattle.doc_tree.proofs.OneDocument.Spans.{Stops, qname_begins, letter_not_space, spaces_stop, space_not_high, spaces_same, names_same, equals_stop, equals_same, quote_not_space}
use Rattle.doc_tree.proofs.OneDocument.References.{reference_same}

module _ (q : ℕ) (i : IsQuote q) where
  value_says : (K : List ℕ → List ℕ → List Mark → Type 0) (v : Value q) (before k : List ℕ) (es : List Mark) → ValueRest q before K (value_text v k) es → K (before ++ value_chars v) k es
  value_says K value_over before k es h = subst (λ z. K z k es) (sym (append-nil before)) ((value_end q before K k es i).0 h)
  value_says K (value_plain c nq nl na ns v) before k es h = subst (λ z. K z k es) (append_assoc before (c ∷ []) (value_chars v)) (value_says K v (before ++ (c ∷ [])) k es ((value_char q before K c (value_text v k) es nq nl na ns).0 h))
  value_says K (value_white c s v) before k es h = subst (λ z. K z k es) (append_assoc before (32 ∷ []) (value_chars v)) (value_says K v (before ++ (32 ∷ [])) k es ((value_space q before K c (value_text v k) es i s).0 h))
  value_says K (value_reference r v) before k es h =
      let f = (value_amp q before K (reference_text r (value_text v k)) es i).0 h in
      let a = reference_same r f.to (value_text v k) f.behind f.text in
      let g : ValueRest q (before ++ reference_chars r) K (value_text v k) es = subst (λ z. ValueRest q (before ++ z) K (value_text v k) es) (sym a.0) (subst (λ z. ValueRest q (before ++ reference_chars f.to) K z es) (sym a.1) f.after) in
      subst (λ z. K z k es) (append_assoc before (reference_chars r) (value_chars v)) (value_says K v (before ++ reference_chars r) k es g)

  pub quoted_same : (p : ℕ) (v : Value q) (w : Value p) (k l : List ℕ) → q ∷ value_text v k ≡ p ∷ value_text w l → (value_chars v ≡ value_chars w) × (k ≡ l)
  quoted_same p v w k l e =
      let h : q ≡ p = cc in
      subst (λ z. (u : Value z) → value_text v k ≡ value_text u l → (value_chars v ≡ value_chars u) × (k ≡ l)) h (λ u f. value_says (λ c y fs. (c ≡ value_chars u) × (y ≡ l)) v [] k [] (record { value = u; behind = l; text = f; after = (refl, refl) })) w (cc)

-- `>` or `/` stands first
abbrev pub IsTagEnd : List ℕ → Type 0
IsTagEnd [] = ⊥
IsTagEnd (c ∷ cs) = (c ≡ 62) ⊎ (c ≡ 47)

end_not_space : (c : ℕ) → (c ≡ 62) ⊎ (c ≡ 47) → IsSpace c → ⊥
end_not_space c i s = grind arith

end_not_high : (c : ℕ) → (c ≡ 62) ⊎ (c ≡ 47) → IsHigh c → ⊥
end_not_high c i s = grind arith

pub end_stops_space : (k : List ℕ) → IsTagEnd k → Stops IsSpace k
end_stops_space [] t = absurd t
end_stops_space (c ∷ cs) t = end_not_space c t

pub end_stops_high : (k : List ℕ) → IsTagEnd k → Stops IsHigh k
end_stops_high [] t = absurd t
end_stops_high (c ∷ cs) t = end_not_high c t

not_name : (name k l : List ℕ) → IsQName name → IsTagEnd l → l ≡ name ++ k → ⊥
not_name [] k l n t e = n
not_name (c ∷ cs) k [] n t e = t
not_name (c ∷ cs) k (d ∷ ds) n t e = let h : d ≡ c = cc in let s = qname_begins (λ z. (z ≡ 62) ⊎ (z ≡ 47)) (c ∷ cs) k n low in s (subst (λ z. (z ≡ 62) ⊎ (z ≡ 47)) h t)
  where
    low : (z : ℕ) → 65 ≤ z → (z ≡ 62) ⊎ (z ≡ 47) → ⊥
    low z a (inl b) = omega arith
    low z a (inr b) = omega arith

-- behind its attributes a tag is over
over : (space t name k l : List ℕ) → Each IsSpace space → Each IsSpace t → IsQName name → IsTagEnd k → space ++ k ≡ t ++ (name ++ l) → ⊥
over space t name k l s p n e h =
    let r = spaces_same space t k (name ++ l) s p (end_stops_space k e) (qname_begins IsSpace name l n letter_not_space) h in
    not_name name l k n e r

-- One attribute is found, and what stands behind it.
one_same : (s t n m : List ℕ) → Some1 IsSpace s → Some1 IsSpace t → IsQName n → IsQName m → (e f : Equals) (q p : ℕ) → IsQuote q → IsQuote p → (v : Value q) (w : Value p) (k l : List ℕ) → s ++ (n ++ equals_text e (q ∷ value_text v k)) ≡ t ++ (m ++ equals_text f (p ∷ value_text w l)) → (n ≡ m) × (value_chars v ≡ value_chars w) × (k ≡ l)
one_same s t n m a b i j e f q p x y v w k l h =
    let kn = equals_text e (q ∷ value_text v k) in
    let km = equals_text f (p ∷ value_text w l) in
    let spaces = spaces_same s t (n ++ kn) (m ++ km) (some_each IsSpace s a) (some_each IsSpace t b) (qname_begins IsSpace n kn i letter_not_space) (qname_begins IsSpace m km j letter_not_space) h in
    let names = names_same n m kn km i j (equals_stop e (q ∷ value_text v k)) (equals_stop f (p ∷ value_text w l)) spaces in
    let quotes = equals_same e f (q ∷ value_text v k) (p ∷ value_text w l) (quote_not_space q x) (quote_not_space p y) names.1 in
    let values = quoted_same q x p v w k l quotes in
    (names.0, values.0, values.1)

pub attributes_same : (a b : Attributes) (s t k l : List ℕ) → Each IsSpace s → Each IsSpace t → IsTagEnd k → IsTagEnd l → attributes_text a (s ++ k) ≡ attributes_text b (t ++ l) → (attribute_list a ≡ attribute_list b) × (k ≡ l)
attributes_same no_attribute no_attribute s t k l p q x y e = (refl, spaces_same s t k l p q (end_stops_space k x) (end_stops_space l y) e)
attributes_same no_attribute (attribute g n i j f u o w b) s t k l p q x y e = absurd (over s g n k (equals_text f (u ∷ value_text w (attributes_text b (t ++ l)))) p (some_each IsSpace g i) j x e)
attributes_same (attribute g n i j f u o v a) no_attribute s t k l p q x y e = absurd (over t g n l (equals_text f (u ∷ value_text v (attributes_text a (s ++ k)))) q (some_each IsSpace g i) j y (sym e))
attributes_same (attribute g n i j f u o v a) (attribute g' n' i' j' f' u' o' w b) s t k l p q x y e =
    let one = one_same g g' n n' i i' j j' f f' u u' o o' v w (attributes_text a (s ++ k)) (attributes_text b (t ++ l)) e in
    let more = attributes_same a b s t k l p q x y one.2 in
    let name = one.0 in
    let value = one.1 in
    let list = more.0 in
    ((cc), more.1)

attributes_stop : (a : Attributes) (s k : List ℕ) → Each IsSpace s → IsTagEnd k → Stops IsHigh (attributes_text a (s ++ k))
attributes_stop no_attribute s k p e = spaces_stop IsHigh s k p space_not_high (end_stops_high k e)
attributes_stop (attribute g n i j f u o v a) s k p e = some_stop g i (n ++ equals_text f (u ∷ value_text v (attributes_text a (s ++ k))))
  where
    some_stop : (g : List ℕ) → Some1 IsSpace g → (r : List ℕ) → Stops IsHigh (g ++ r)
    some_stop [] i r = absurd i
    some_stop (c ∷ cs) i r = space_not_high c i.0

-- A start tag's name and attributes, and what ends it.
pub tag_same : (n m : List ℕ) (a b : Attributes) (s t k l : List ℕ) → IsQName n → IsQName m → Each IsSpace s → Each IsSpace t → IsTagEnd k → IsTagEnd l → n ++ attributes_text a (s ++ k) ≡ m ++ attributes_text b (t ++ l) → (n ≡ m) × (attribute_list a ≡ attribute_list b) × (k ≡ l)
tag_same n m a b s t k l i j p q x y e =
    let names = names_same n m (attributes_text a (s ++ k)) (attributes_text b (t ++ l)) i j (attributes_stop a s k p x) (attributes_stop b t l q y) e in
    let r = attributes_same a b s t k l p q x y names.1 in
    (names.0, r.0, r.1)
