-- How the value of a field may go on.
use Rattle.doc_tree.proofs.ByteGrammar.{each_last, some_each}
use Rattle.doc_tree.proofs.Words.{Aim, Each, EncodingNext, Field, IsDigit, IsEncodingChar, IsFieldValue, IsNextField, IsValueBegun, IsYesOrNo, List, Some1, VersionNext, WordNext, [], any, ap, append-nil, arith, inl, inr, length, refl, subst, sym, ℕ, ◌++◌, ◌↔◌, ◌∙◌, ◌∷◌, ◌≡◌, ◌≢◌, each_append}
use Rattle.doc_tree.specs.declared.declaration.Field.TheVariants as fields

-- a value that may stand where an encoding is asked for may stand where none is
pub any_aim : (aim : Aim) (f : Field) (v : List ℕ) → IsFieldValue aim f v → IsFieldValue any f v
any_aim aim fields.Encoding v h = (h.0, tt)
any_aim aim _ v h = h

-- each field has some value
pub begun_nothing : (f : Field) → f ≢ fields.Before → IsValueBegun f []
begun_nothing fields.Before n = absurd (n refl)
begun_nothing fields.Version n = (49 ∷ 46 ∷ 48 ∷ [], (48 ∷ [], refl, ((omega arith, omega arith), tt)))
begun_nothing fields.Encoding n = (97 ∷ [], ((inr (omega arith, omega arith), tt), tt))
begun_nothing fields.Standalone n = (110 ∷ 111 ∷ [], inr refl)

pub next_not_before : (f g : Field) → IsNextField f g → g ≢ fields.Before
next_not_before fields.Before fields.Before i e = i
next_not_before _ fields.Before i e = i
next_not_before _ _ i e = absurd (cc)

-- texts of a kind
pub each_left : (P : ℕ → Type 0) (xs ys : List ℕ) → Each P (xs ++ ys) → Each P xs
each_left P [] ys h = tt
each_left P (x ∷ xs) ys h = (h.0, each_left P xs ys h.1)

pub each_longer : (P : ℕ → Type 0) (xs : List ℕ) (b : ℕ) → Each P xs → P b → Each P (xs ++ (b ∷ []))
each_longer P xs b h p = each_append P xs (b ∷ []) h (p, tt)

each_some : (P : ℕ → Type 0) (xs : List ℕ) (b : ℕ) → Each P xs → P b → Some1 P (xs ++ (b ∷ []))
each_some P [] b h p = (p, tt)
each_some P (x ∷ xs) b h p = (h.0, each_longer P xs b h.1 p)

-- a version
digits_of : (c d : ℕ) (ds more : List ℕ) (digits : List ℕ) → (c ∷ d ∷ ds) ++ more ≡ 49 ∷ 46 ∷ digits → Some1 IsDigit digits → Each IsDigit (ds ++ more)
digits_of c d ds more digits e h = let q : ds ++ more ≡ digits = cc in subst (Each IsDigit) (sym q) (some_each IsDigit digits h)

pub version_next : (v : List ℕ) (b : ℕ) → IsValueBegun fields.Version v → IsValueBegun fields.Version (v ++ (b ∷ [])) ↔ VersionNext (length v) b
version_next [] b g = (
  λ h. let e = h.1.1 in inl (refl, (cc)),
  λ n. elim n [ inl p ↦ (46 ∷ 48 ∷ [], (48 ∷ [], ap (λ z. z ∷ 46 ∷ 48 ∷ []) p.1, ((omega arith, omega arith), tt))) | inr p ↦ absurd (elim p [ inl q ↦ (let e = q.0 in omega arith) | inr q ↦ (let e = q.0 in omega arith) ]) ],
)
version_next (c ∷ []) b g = (
  λ h. let e = h.1.1 in inr (inl (refl, (cc))),
  λ n. elim n [ inl p ↦ (let e = p.0 in absurd (omega arith)) | inr p ↦ elim p [ inl q ↦ (let e = g.1.1 in let k : c ≡ 49 = cc in let m : b ≡ 46 = q.1 in (48 ∷ [], (48 ∷ [], ap (λ z. z ∷ b ∷ 48 ∷ []) k ∙ ap (λ z. 49 ∷ z ∷ 48 ∷ []) m, ((omega arith, omega arith), tt)))) | inr q ↦ (let e = q.0 in absurd (omega arith)) ] ],
)
version_next (c ∷ d ∷ ds) b g = (
  λ h. inr (inr (omega arith, each_last IsDigit ds b h.0 (digits_of c d (ds ++ (b ∷ [])) h.0 h.1.0 h.1.1 h.1.2))),
  λ n. elim n [
    | inl p ↦ (let e = p.0 in absurd (omega arith))
    | inr p ↦ elim p [
      | inl q ↦ (let e = q.0 in absurd (omega arith))
      | inr q ↦ (
          let e = g.1.1 in let k : c ≡ 49 = cc in let m : d ≡ 46 = cc in
          let f : Each IsDigit ds = each_left IsDigit ds g.0 (digits_of c d ds g.0 g.1.0 g.1.1 g.1.2) in
          ([], (ds ++ (b ∷ []), append-nil (c ∷ d ∷ (ds ++ (b ∷ []))) ∙ ap (λ z. z ∷ d ∷ (ds ++ (b ∷ []))) k ∙ ap (λ z. 49 ∷ z ∷ (ds ++ (b ∷ []))) m, each_some IsDigit ds b f q.1)))
    ]
  ],
)

-- an encoding
pub encoding_next : (v : List ℕ) (b : ℕ) → IsValueBegun fields.Encoding v → IsValueBegun fields.Encoding (v ++ (b ∷ [])) ↔ EncodingNext (length v) b
encoding_next [] b g = (
  λ h. inl (refl, h.1.0.0),
  λ n. elim n [ inl p ↦ ([], ((p.1, tt), tt)) | inr p ↦ (let e = p.0 in absurd (omega arith)) ],
)
encoding_next (c ∷ cs) b g = (
  λ h. inr (omega arith, each_last IsEncodingChar cs b h.0 h.1.0.1),
  λ n. elim n [ inl p ↦ (let e = p.0 in absurd (omega arith)) | inr p ↦ ([], ((g.1.0.0, subst (Each IsEncodingChar) (sym (append-nil (cs ++ (b ∷ [])))) (each_longer IsEncodingChar cs b (each_left IsEncodingChar cs g.0 g.1.0.1) p.1)), tt)) ],
)

-- `yes` or `no`
too_long : (vs : List ℕ) (b : ℕ) (more : List ℕ) → (vs ++ (b ∷ [])) ++ more ≡ [] → ⊥
too_long [] b more e = absurd (cc)
too_long (x ∷ xs) b more e = absurd (cc)

word_to : (v : List ℕ) (b : ℕ) (more : List ℕ) → IsYesOrNo ((v ++ (b ∷ [])) ++ more) → WordNext v b
word_to [] b more (inl e) = inl (refl, inl (cc))
word_to [] b more (inr e) = inl (refl, inr (cc))
word_to (c ∷ []) b more (inl e) = let k : c ≡ 121 = cc in inr (inl (ap (λ z. z ∷ []) k, (cc)))
word_to (c ∷ []) b more (inr e) = let k : c ≡ 110 = cc in inr (inr (inr (ap (λ z. z ∷ []) k, (cc))))
word_to (c ∷ d ∷ []) b more (inl e) = let k : c ≡ 121 = cc in let m : d ≡ 101 = cc in inr (inr (inl (ap (λ z. z ∷ d ∷ []) k ∙ ap (λ z. 121 ∷ z ∷ []) m, (cc))))
word_to (c ∷ d ∷ x ∷ vs) b more (inl e) = absurd (too_long vs b more (cc))
word_to (c ∷ d ∷ []) b more (inr e) = absurd (cc)
word_to (c ∷ d ∷ x ∷ vs) b more (inr e) = absurd (cc)

word_from : (v : List ℕ) (b : ℕ) → WordNext v b → IsValueBegun fields.Standalone (v ++ (b ∷ []))
word_from v b (inl p) = subst (λ z. IsValueBegun fields.Standalone (z ++ (b ∷ []))) (sym p.0) (elim p.1 [ inl e ↦ (101 ∷ 115 ∷ [], inl (ap (λ z. z ∷ 101 ∷ 115 ∷ []) e)) | inr e ↦ (111 ∷ [], inr (ap (λ z. z ∷ 111 ∷ []) e)) ])
word_from v b (inr (inl p)) = subst (λ z. IsValueBegun fields.Standalone (z ++ (b ∷ []))) (sym p.0) (115 ∷ [], inl (ap (λ z. 121 ∷ z ∷ 115 ∷ []) p.1))
word_from v b (inr (inr (inl p))) = subst (λ z. IsValueBegun fields.Standalone (z ++ (b ∷ []))) (sym p.0) ([], inl (ap (λ z. 121 ∷ 101 ∷ z ∷ []) p.1))
word_from v b (inr (inr (inr p))) = subst (λ z. IsValueBegun fields.Standalone (z ++ (b ∷ []))) (sym p.0) ([], inr (ap (λ z. 110 ∷ z ∷ []) p.1))

pub word_next : (v : List ℕ) (b : ℕ) → IsValueBegun fields.Standalone (v ++ (b ∷ [])) ↔ WordNext v b
word_next v b = (λ h. word_to v b h.0 h.1, λ n. word_from v b n)

-- whichever field it is
pub goes : (f g : Field) (v : List ℕ) (b : ℕ) (T N : Type 0) → f ≡ g → (IsValueBegun g v → IsValueBegun g (v ++ (b ∷ [])) ↔ N) → IsValueBegun f v → T ↔ N → T ↔ IsValueBegun f (v ++ (b ∷ []))
goes f g v b T N e next begun t =
    let n = next (subst (λ z. IsValueBegun z v) e begun) in
    (λ x. subst (λ z. IsValueBegun z (v ++ (b ∷ []))) (sym e) (n.1 (t.0 x)), λ h. t.1 (n.0 (subst (λ z. IsValueBegun z (v ++ (b ∷ []))) e h)))
