-- What white space, comments and instructions stand in, round the root.
use Rattle.doc_tree.proofs.Words.{CommentRest, IsSpace, List, Mark, PiRest, Word, [], arith, inl, inr, subst, sym, ℕ, ◌↔◌, ◌∷◌, ◌≡◌, ◌≢◌, ◌≤◌, ◌⊎◌}
use Rattle.doc_tree.proofs.ByteGrammar.Bytes.{space_low}

-- How it goes on.
pub data Cases (K : List ℕ → List Mark → Type 0) (b : ℕ) (r : List ℕ) (es : List Mark) : Type 0 where
  at_space : IsSpace b → K r es → Cases K b r es
  at_comment : (x : List ℕ) → b ≡ 60 → r ≡ 33 ∷ 45 ∷ 45 ∷ x → CommentRest K x es → Cases K b r es
  at_pi : (x : List ℕ) → b ≡ 60 → r ≡ 63 ∷ x → PiRest K x es → Cases K b r es

-- What is so read.
pub record IsRound (K Other : List ℕ → List Mark → Type 0) : Type 0 where
  pub cases : (b : ℕ) (r : List ℕ) (es : List Mark) → K (b ∷ r) es → Cases K b r es ⊎ ((b ≡ 60) × Other r es)
  pub named : (b : ℕ) (r : List ℕ) (es : List Mark) → Other (b ∷ r) es → (65 ≤ b) ⊎ ((b ≡ 33) × (r ≡ 68 ∷ []))
  pub from_comment : (x : List ℕ) (es : List Mark) → CommentRest K x es → K (60 ∷ 33 ∷ 45 ∷ 45 ∷ x) es
  pub from_pi : (x : List ℕ) (es : List Mark) → PiRest K x es → K (60 ∷ 63 ∷ x) es

module _ (K Other : List ℕ → List Mark → Type 0) (round : IsRound K Other) where
  -- no other begins so
  other_bang : (b : ℕ) (r : List ℕ) (es : List Mark) → b ≢ 68 → Other (33 ∷ b ∷ r) es → ⊥
  other_bang b r es n h = elim (round.named 33 (b ∷ r) es h) [ inl l ↦ (omega arith) | inr p ↦ (let e = p.1 in n (cc)) ]

  other_mark : (r : List ℕ) (es : List Mark) → Other (63 ∷ r) es → ⊥
  other_mark r es h = elim (round.named 63 r es h) [ inl l ↦ (omega arith) | inr p ↦ (let e = p.0 in omega arith) ]

  space_to : (b : ℕ) (r : List ℕ) (es : List Mark) → IsSpace b → Cases K b r es ⊎ ((b ≡ 60) × Other r es) → K r es
  space_to b r es s (inl (at_space t k)) = k
  space_to b r es s (inl (at_comment x e q k)) = let l = space_low b s in absurd (omega arith)
  space_to b r es s (inl (at_pi x e q k)) = let l = space_low b s in absurd (omega arith)
  space_to b r es s (inr p) = let l = space_low b s in let e = p.0 in absurd (omega arith)

  pub round_space : (b : ℕ) (r : List ℕ) (es : List Mark) → IsSpace b → K (b ∷ r) es → K r es
  round_space b r es s h = space_to b r es s (round.cases b r es h)

  none_to : (b : ℕ) (r : List ℕ) (es : List Mark) → (IsSpace b → ⊥) → b ≢ 60 → Cases K b r es ⊎ ((b ≡ 60) × Other r es) → ⊥
  none_to b r es s n (inl (at_space t k)) = s t
  none_to b r es s n (inl (at_comment x e q k)) = n e
  none_to b r es s n (inl (at_pi x e q k)) = n e
  none_to b r es s n (inr p) = n p.0

  pub round_stuck : (b : ℕ) (r : List ℕ) (es : List Mark) → (IsSpace b → ⊥) → b ≢ 60 → K (b ∷ r) es → ⊥
  round_stuck b r es s n h = none_to b r es s n (round.cases b r es h)

  tag_to : (b : ℕ) (r : List ℕ) (es : List Mark) → b ≢ 33 → b ≢ 63 → Cases K 60 (b ∷ r) es ⊎ ((◌≡◌ {A = ℕ} 60 60) × Other (b ∷ r) es) → Other (b ∷ r) es
  tag_to b r es n m (inl (at_space t k)) = let l = space_low 60 t in absurd (omega arith)
  tag_to b r es n m (inl (at_comment x e q k)) = absurd (n (cc))
  tag_to b r es n m (inl (at_pi x e q k)) = absurd (m (cc))
  tag_to b r es n m (inr p) = p.1

  pub round_tag : (b : ℕ) (r : List ℕ) (es : List Mark) → b ≢ 33 → b ≢ 63 → K (60 ∷ b ∷ r) es → Other (b ∷ r) es
  round_tag b r es n m h = tag_to b r es n m (round.cases 60 (b ∷ r) es h)

  dash_to : (r : List ℕ) (es : List Mark) → Cases K 60 (33 ∷ 45 ∷ r) es ⊎ ((◌≡◌ {A = ℕ} 60 60) × Other (33 ∷ 45 ∷ r) es) → Word (45 ∷ []) (CommentRest K) r es
  dash_to r es (inl (at_space t k)) = let l = space_low 60 t in absurd (omega arith)
  dash_to r es (inl (at_comment x e q k)) = record { behind = x; text = cc; after = k }
  dash_to r es (inl (at_pi x e q k)) = let h : ◌≡◌ {A = ℕ} 33 63 = cc in absurd (omega arith)
  dash_to r es (inr p) = absurd (other_bang 45 r es (λ e. omega arith) p.1)

  pub round_dash : (r : List ℕ) (es : List Mark) → K (60 ∷ 33 ∷ 45 ∷ r) es ↔ Word (45 ∷ []) (CommentRest K) r es
  round_dash r es = (
    λ h. dash_to r es (round.cases 60 (33 ∷ 45 ∷ r) es h),
    λ w. subst (λ z. K (60 ∷ 33 ∷ 45 ∷ z) es) (sym w.text) (round.from_comment w.behind es w.after),
  )

  bang_to : (b : ℕ) (r : List ℕ) (es : List Mark) → b ≢ 45 → (Other (33 ∷ b ∷ r) es → ⊥) → Cases K 60 (33 ∷ b ∷ r) es ⊎ ((◌≡◌ {A = ℕ} 60 60) × Other (33 ∷ b ∷ r) es) → ⊥
  bang_to b r es n m (inl (at_space t k)) = let l = space_low 60 t in omega arith
  bang_to b r es n m (inl (at_comment x e q k)) = n (cc)
  bang_to b r es n m (inl (at_pi x e q k)) = let h : ◌≡◌ {A = ℕ} 33 63 = cc in omega arith
  bang_to b r es n m (inr p) = m p.1

  pub round_bang : (b : ℕ) (r : List ℕ) (es : List Mark) → b ≢ 45 → (Other (33 ∷ b ∷ r) es → ⊥) → K (60 ∷ 33 ∷ b ∷ r) es → ⊥
  round_bang b r es n m h = bang_to b r es n m (round.cases 60 (33 ∷ b ∷ r) es h)

  mark_to : (r : List ℕ) (es : List Mark) → Cases K 60 (63 ∷ r) es ⊎ ((◌≡◌ {A = ℕ} 60 60) × Other (63 ∷ r) es) → PiRest K r es
  mark_to r es (inl (at_space t k)) = let l = space_low 60 t in absurd (omega arith)
  mark_to r es (inl (at_comment x e q k)) = let h : ◌≡◌ {A = ℕ} 63 33 = cc in absurd (omega arith)
  mark_to r es (inl (at_pi x e q k)) = let h : x ≡ r = cc in subst (λ z. PiRest K z es) h k
  mark_to r es (inr p) = absurd (other_mark r es p.1)

  pub round_question : (r : List ℕ) (es : List Mark) → K (60 ∷ 63 ∷ r) es ↔ PiRest K r es
  round_question r es = (λ h. mark_to r es (round.cases 60 (63 ∷ r) es h), λ h. round.from_pi r es h)
