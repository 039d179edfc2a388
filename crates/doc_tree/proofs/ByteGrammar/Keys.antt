-- Names, and what stands behind an attribute's or a field's name, byte by byte.
use Rattle.doc_tree.proofs.Words.{AttributeValue, Between, BodyRest, EqualsRest, InKey, InTag, IsNameRest, IsNameStart, IsQName, IsQNameRest, IsQuote, IsSpace, List, Mark, Part, QuoteRest, Quoted, MachineState, TagChoice, TagFirst, TagRest, TreeTerms, Then, Word, [], append-nil, append_assoc, arith, depth_left, inl, inr, subst, sym, ℕ, ◌++◌, ◌-◌, ◌↔◌, ◌∷◌, ◌≢◌, ◌≤◌}
use Rattle.doc_tree.specs.declared.names.Part.TheVariants as parts
use Rattle.doc_tree.proofs.ByteGrammar.Spans.{then_over, then_here, then_next, then_back, then_map, spaces_more, spaces_over, word_first, word_last, quoted_first, quoted_back}
use Rattle.doc_tree.proofs.ByteGrammar.Tags.{tag_plain, body_begins, body_space}
use Rattle.doc_tree.proofs.ByteGrammar.Bytes.{IsHigh, high_not_space, not_space, part_high, quote_range, some_run, space_low, start_range}

module _ (K : ℕ → List ℕ → List Mark → Type 0) where
  pub equals_space : (b : ℕ) (r : List ℕ) (es : List Mark) → IsSpace b → EqualsRest K (b ∷ r) es ↔ EqualsRest K r es
  equals_space b r es s = spaces_more (Word (61 ∷ []) (QuoteRest K)) b r es s (λ w. let e = (word_first (QuoteRest K) 61 [] b r es w).0 in let l = space_low b s in omega arith)

  pub equals_sign : (r : List ℕ) (es : List Mark) → EqualsRest K (61 ∷ r) es ↔ QuoteRest K r es
  equals_sign r es = let o = spaces_over (Word (61 ∷ []) (QuoteRest K)) 61 r es (not_space 61 (omega arith)) in let w = word_last (QuoteRest K) 61 r es in (λ h. w.0 (o.0 h), λ h. o.1 (w.1 h))

  pub equals_stuck : (b : ℕ) (r : List ℕ) (es : List Mark) → (IsSpace b → ⊥) → b ≢ 61 → EqualsRest K (b ∷ r) es → ⊥
  equals_stuck b r es s n h = n (word_first (QuoteRest K) 61 [] b r es ((spaces_over (Word (61 ∷ []) (QuoteRest K)) b r es s).0 h)).0

  pub quote_space : (b : ℕ) (r : List ℕ) (es : List Mark) → IsSpace b → QuoteRest K (b ∷ r) es ↔ QuoteRest K r es
  quote_space b r es s = spaces_more (Quoted K) b r es s (λ q. let i = (quote_range b (quoted_first K b r es q).0).0 in let l = space_low b s in omega arith)

  pub quote_over : (b : ℕ) (r : List ℕ) (es : List Mark) → IsQuote b → QuoteRest K (b ∷ r) es ↔ K b r es
  quote_over b r es i = let o = spaces_over (Quoted K) b r es (not_space b ((quote_range b i).0)) in (λ h. (quoted_first K b r es (o.0 h)).1, λ k. o.1 (quoted_back K b r es i k))

  pub quote_stuck : (b : ℕ) (r : List ℕ) (es : List Mark) → (IsSpace b → ⊥) → (IsQuote b → ⊥) → QuoteRest K (b ∷ r) es → ⊥
  quote_stuck b r es s n h = n (quoted_first K b r es ((spaces_over (Quoted K) b r es s).0 h)).0

-- a name, and what L says of the whole name
module _ (L : List ℕ → List ℕ → List Mark → Type 0) (n : List ℕ) where
  pub name_next : (p q : Part) (b : ℕ) (r : List ℕ) (es : List Mark) → ((run : List ℕ) → IsNameRest p (b ∷ run) ↔ IsNameRest q run) → ((m x : List ℕ) (fs : List Mark) → IsHigh b → L m (b ∷ x) fs → ⊥) → Then (IsNameRest p) (λ run. L (n ++ run)) (b ∷ r) es ↔ Then (IsNameRest q) (λ run. L ((n ++ (b ∷ [])) ++ run)) r es
  name_next p q b r es f g = (
    λ h. then_map (IsNameRest q) (IsNameRest q) (λ run. L (n ++ (b ∷ run))) (λ run. L ((n ++ (b ∷ [])) ++ run)) (λ run i. i) (λ run x fs k. subst (λ z. L z x fs) (sym (append_assoc n (b ∷ []) run)) k) r es (then_next (IsNameRest p) (IsNameRest q) (λ run. L (n ++ run)) b r es (λ run. (f run).0) (λ i k. g (n ++ []) r es (let s = some_run q in part_high p b s.0 ((f s.0).1 s.1)) k) h),
    λ h. then_back (IsNameRest p) (IsNameRest q) (λ run. L (n ++ run)) b r es (λ run. (f run).1) (then_map (IsNameRest q) (IsNameRest q) (λ run. L ((n ++ (b ∷ [])) ++ run)) (λ run. L (n ++ (b ∷ run))) (λ run i. i) (λ run x fs k. subst (λ z. L z x fs) (append_assoc n (b ∷ []) run) k) r es h),
  )

  pub name_over : (p : Part) (b : ℕ) (r : List ℕ) (es : List Mark) → ((run : List ℕ) → IsNameRest p (b ∷ run) → ⊥) → IsNameRest p [] → Then (IsNameRest p) (λ run. L (n ++ run)) (b ∷ r) es ↔ L n (b ∷ r) es
  name_over p b r es f i = (
    λ h. subst (λ z. L z (b ∷ r) es) (append-nil n) (then_over (IsNameRest p) (λ run. L (n ++ run)) b r es f h).1,
    λ k. then_here (IsNameRest p) (λ run. L (n ++ run)) (b ∷ r) es i (subst (λ z. L z (b ∷ r) es) (sym (append-nil n)) k),
  )

-- its first byte
pub qname_first : (L : List ℕ → List ℕ → List Mark → Type 0) (b : ℕ) (r : List ℕ) (es : List Mark) → IsNameStart b → Then IsQName L (b ∷ r) es ↔ Then (IsNameRest parts.First) (λ run. L (b ∷ run)) r es
qname_first L b r es s = (
  then_next IsQName IsQNameRest L b r es (λ run i. i.1) (λ i k. i),
  then_back IsQName IsQNameRest L b r es (λ run i. (s, i)),
)

pub qname_stuck : (L : List ℕ → List ℕ → List Mark → Type 0) (b : ℕ) (r : List ℕ) (es : List Mark) → (IsNameStart b → ⊥) → Then IsQName L (b ∷ r) es → ⊥
qname_stuck L b r es n h = (then_over IsQName L b r es (λ run i. n i.0) h).0

module _ (u : TreeTerms) where
  pub tag_high : (s : MachineState) (b : ℕ) (m x : List ℕ) (es : List Mark) → IsHigh b → InTag s m u (b ∷ x) es → ⊥
  tag_high s b m x es i h = let k = body_begins (depth_left u s.names - 1) m s.kept (Between 0 s.names u) b x es ((tag_plain u (record s { name = m }) b x es (high_not_space b i)).0 h) in grind arith

  pub key_high : (s : MachineState) (b : ℕ) (m x : List ℕ) (es : List Mark) → IsHigh b → InKey s u m (b ∷ x) es → ⊥
  key_high s b m x es i h = equals_stuck (λ quote. AttributeValue (depth_left u s.names - 1) s.name s.keys s.kept (Between 0 s.names u) m quote []) b x es (high_not_space b i) (λ e. grind arith) h.over

  -- an attribute begins, or the tag ends
  choice_to : (s : MachineState) (b : ℕ) (r : List ℕ) (es : List Mark) → IsNameStart b → TagChoice s u (b ∷ r) es → Then (IsNameRest parts.First) (λ run. InKey s u (b ∷ run)) r es
  choice_to s b r es i (inl h) = let l = (start_range b i).0 in elim (body_begins (depth_left u s.names - 1) s.name s.kept (Between 0 s.names u) b r es h) [ inl e ↦ absurd (omega arith) | inr e ↦ absurd (omega arith) ]
  choice_to s b r es i (inr h) = (qname_first (InKey s u) b r es i).0 h

  ends_to : (s : MachineState) (b : ℕ) (r : List ℕ) (es : List Mark) → (IsNameStart b → ⊥) → TagChoice s u (b ∷ r) es → BodyRest (depth_left u s.names - 1) s.name s.kept (Between 0 s.names u) (b ∷ r) es
  ends_to s b r es n (inl h) = h
  ends_to s b r es n (inr h) = absurd (qname_stuck (InKey s u) b r es n h)

  no_space : (s : MachineState) (b : ℕ) (r : List ℕ) (es : List Mark) → IsSpace b → TagChoice s u (b ∷ r) es → ⊥
  no_space s b r es i (inl h) = body_space (depth_left u s.names - 1) s.name s.kept (Between 0 s.names u) b r es i h
  no_space s b r es i (inr h) = qname_stuck (InKey s u) b r es (λ q. let l = (start_range b q).0 in let k = space_low b i in omega arith) h

  pub choice_key : (s : MachineState) (b : ℕ) (r : List ℕ) (es : List Mark) → IsNameStart b → TagChoice s u (b ∷ r) es ↔ Then (IsNameRest parts.First) (λ run. InKey s u (b ∷ run)) r es
  choice_key s b r es i = (choice_to s b r es i, λ h. inr ((qname_first (InKey s u) b r es i).1 h))

  pub choice_ends : (s : MachineState) (b : ℕ) (r : List ℕ) (es : List Mark) → (IsNameStart b → ⊥) → TagChoice s u (b ∷ r) es ↔ BodyRest (depth_left u s.names - 1) s.name s.kept (Between 0 s.names u) (b ∷ r) es
  choice_ends s b r es n = (ends_to s b r es n, λ h. inl h)

  pub choice_space : (s : MachineState) (b : ℕ) (r : List ℕ) (es : List Mark) → IsSpace b → TagChoice s u (b ∷ r) es → ⊥
  choice_space s b r es i h = no_space s b r es i h

  -- an element begins
  pub first_tag : (names : List (List ℕ)) (b : ℕ) (r : List ℕ) (es : List Mark) → IsNameStart b → 1 ≤ depth_left u names → TagFirst names u (b ∷ r) es ↔ Then (IsNameRest parts.First) (λ run. TagRest (depth_left u names - 1) (b ∷ run) [] [] (Between 0 names u)) r es
  first_tag names b r es i l = let q = qname_first (λ name. TagRest (depth_left u names - 1) name [] [] (Between 0 names u)) b r es i in (λ h. q.0 h.rest, λ h. record { room = l; rest = q.1 h })

  pub first_stuck : (names : List (List ℕ)) (b : ℕ) (r : List ℕ) (es : List Mark) → (IsNameStart b → ⊥) → TagFirst names u (b ∷ r) es → ⊥
  first_stuck names b r es n h = qname_stuck (λ name. TagRest (depth_left u names - 1) name [] [] (Between 0 names u)) b r es n h.rest
