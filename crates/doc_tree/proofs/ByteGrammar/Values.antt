-- Attribute values, byte by byte.
use Rattle.doc_tree.proofs.Words.{IsQuote, IsSpace, List, Mark, RefRest, Value, ValueRest, [], ap, append-nil, append_assoc, arith, inl, inr, reference_chars, refl, subst, sym, value_chars, value_over, value_plain, value_reference, value_text, value_white, ℕ, ◌++◌, ◌↔◌, ◌∙◌, ◌∷◌, ◌≡◌, ◌≢◌}
use Rattle.doc_tree.proofs.ByteGrammar.Bytes.{space_low}

quote_not : (q b : ℕ) → IsQuote q → b ≢ 34 → b ≢ 39 → b ≢ q
quote_not q b (inl e) n m h = n (h ∙ e)
quote_not q b (inr e) n m h = m (h ∙ e)

pub space_not_quote : (q b : ℕ) → IsQuote q → IsSpace b → b ≢ q
space_not_quote q b i s = let l = space_low b s in quote_not q b i (λ e. omega arith) (λ e. omega arith)

module _ (q : ℕ) (before : List ℕ) (K : List ℕ → List ℕ → List Mark → Type 0) where
  end_to : (r : List ℕ) (es : List Mark) → IsQuote q → (v : Value q) (y : List ℕ) → q ∷ r ≡ value_text v y → K (before ++ value_chars v) y es → K before r es
  end_to r es i value_over y e k = let h : y ≡ r = cc in subst (λ z. K z r es) (append-nil before) (subst (λ z. K (before ++ []) z es) h k)
  end_to r es i (value_plain c a b d s more) y e k = absurd (a (cc))
  end_to r es i (value_white c s more) y e k = absurd (space_not_quote q c i s (cc))
  end_to r es i (value_reference t more) y e k = absurd (quote_not q 38 i (λ h. omega arith) (λ h. omega arith) (cc))

  pub value_end : (r : List ℕ) (es : List Mark) → IsQuote q → ValueRest q before K (q ∷ r) es ↔ K before r es
  value_end r es i = (
    λ h. end_to r es i h.value h.behind h.text h.after,
    λ k. record { value = value_over; behind = r; text = refl; after = subst (λ z. K z r es) (sym (append-nil before)) k },
  )

  assoc_to : (c : ℕ) (cs y : List ℕ) (es : List Mark) → K (before ++ (c ∷ cs)) y es → K ((before ++ (c ∷ [])) ++ cs) y es
  assoc_to c cs y es k = subst (λ z. K z y es) (sym (append_assoc before (c ∷ []) cs)) k

  assoc_from : (c : ℕ) (cs y : List ℕ) (es : List Mark) → K ((before ++ (c ∷ [])) ++ cs) y es → K (before ++ (c ∷ cs)) y es
  assoc_from c cs y es k = subst (λ z. K z y es) (append_assoc before (c ∷ []) cs) k

  char_to : (b : ℕ) (r : List ℕ) (es : List Mark) → b ≢ q → b ≢ 38 → (IsSpace b → ⊥) → (v : Value q) (y : List ℕ) → b ∷ r ≡ value_text v y → K (before ++ value_chars v) y es → ValueRest q (before ++ (b ∷ [])) K r es
  char_to b r es nq na ns value_over y e k = absurd (nq (cc))
  char_to b r es nq na ns (value_plain c a l d s more) y e k = let h : c ≡ b = cc in record { value = more; behind = y; text = cc; after = assoc_to b (value_chars more) y es (subst (λ z. K (before ++ (z ∷ value_chars more)) y es) h k) }
  char_to b r es nq na ns (value_white c s more) y e k = let h : c ≡ b = cc in absurd (ns (subst IsSpace h s))
  char_to b r es nq na ns (value_reference t more) y e k = absurd (na (cc))

  pub value_char : (b : ℕ) (r : List ℕ) (es : List Mark) → b ≢ q → b ≢ 60 → b ≢ 38 → (IsSpace b → ⊥) → ValueRest q before K (b ∷ r) es ↔ ValueRest q (before ++ (b ∷ [])) K r es
  value_char b r es nq nl na ns = (
    λ h. char_to b r es nq na ns h.value h.behind h.text h.after,
    λ h. record { value = value_plain b nq nl na ns h.value; behind = h.behind; text = ap (λ z. b ∷ z) h.text; after = assoc_from b (value_chars h.value) h.behind es h.after },
  )

  space_to : (b : ℕ) (r : List ℕ) (es : List Mark) → IsQuote q → IsSpace b → (v : Value q) (y : List ℕ) → b ∷ r ≡ value_text v y → K (before ++ value_chars v) y es → ValueRest q (before ++ (32 ∷ [])) K r es
  space_to b r es i sb value_over y e k = absurd (space_not_quote q b i sb (cc))
  space_to b r es i sb (value_plain c a l d s more) y e k = let h : b ≡ c = cc in absurd (s (subst IsSpace h sb))
  space_to b r es i sb (value_white c s more) y e k = record { value = more; behind = y; text = cc; after = assoc_to 32 (value_chars more) y es k }
  space_to b r es i sb (value_reference t more) y e k = let h : b ≡ 38 = cc in let l = space_low b sb in absurd (omega arith)

  pub value_space : (b : ℕ) (r : List ℕ) (es : List Mark) → IsQuote q → IsSpace b → ValueRest q before K (b ∷ r) es ↔ ValueRest q (before ++ (32 ∷ [])) K r es
  value_space b r es i sb = (
    λ h. space_to b r es i sb h.value h.behind h.text h.after,
    λ h. record { value = value_white b sb h.value; behind = h.behind; text = ap (λ z. b ∷ z) h.text; after = assoc_from 32 (value_chars h.value) h.behind es h.after },
  )

  amp_to : (r : List ℕ) (es : List Mark) → IsQuote q → (v : Value q) (y : List ℕ) → 38 ∷ r ≡ value_text v y → K (before ++ value_chars v) y es → RefRest (λ chars. ValueRest q (before ++ chars) K) r es
  amp_to r es i value_over y e k = absurd (quote_not q 38 i (λ h. omega arith) (λ h. omega arith) (cc))
  amp_to r es i (value_plain c a l d s more) y e k = absurd (d (cc))
  amp_to r es i (value_white c s more) y e k = let h : c ≡ 38 = cc in let l = space_low c s in absurd (omega arith)
  amp_to r es i (value_reference t more) y e k = record { to = t; behind = value_text more y; text = cc; after = record { value = more; behind = y; text = refl; after = subst (λ z. K z y es) (sym (append_assoc before (reference_chars t) (value_chars more))) k } }

  pub value_amp : (r : List ℕ) (es : List Mark) → IsQuote q → ValueRest q before K (38 ∷ r) es ↔ RefRest (λ chars. ValueRest q (before ++ chars) K) r es
  value_amp r es i = (
    λ h. amp_to r es i h.value h.behind h.text h.after,
    λ h. let v : ValueRest q (before ++ reference_chars h.to) K h.behind es = h.after in let e1 = h.text in let e2 = v.text in record { value = value_reference h.to v.value; behind = v.behind; text = cc; after = subst (λ z. K z v.behind es) (append_assoc before (reference_chars h.to) (value_chars v.value)) v.after },
  )

  less_to : (r : List ℕ) → IsQuote q → (v : Value q) (y : List ℕ) → 60 ∷ r ≡ value_text v y → ⊥
  less_to r i value_over y e = quote_not q 60 i (λ h. omega arith) (λ h. omega arith) (cc)
  less_to r i (value_plain c a l d s more) y e = l (cc)
  less_to r i (value_white c s more) y e = let h : c ≡ 60 = cc in let l = space_low c s in omega arith
  less_to r i (value_reference t more) y e = let h : ◌≡◌ {A = ℕ} 60 38 = cc in omega arith

  pub value_less : (r : List ℕ) (es : List Mark) → IsQuote q → ValueRest q before K (60 ∷ r) es → ⊥
  value_less r es i h = less_to r i h.value h.behind h.text
