-- What stands round the root, byte by byte.
use Rattle.doc_tree.proofs.Words.{After, Before, Bool, Choice, Declaration, FirstOver, Gap, IsDeclarationRead, IsName, IsQName, IsSpace, IsSpecial, List, Mark, Marked, Misc, Never, PiOver, PiRest, RootOrType, TagFirst, TagRest, TreeTerms, Then, Whole, Word, [], ap, arith, attributes_text, codes, comment_text, declaration_text, declared, depth_left, encoding_text, false, inl, inr, instruction_text, map, mark_text, misc_comment, misc_instruction, misc_over, misc_space, misc_text, no_declaration, refl, standalone_text, subst, sym, to_ascii_lowercase, true, version_text, ℕ, ◌++◌, ◌-◌, ◌↔◌, ◌∷◌, ◌≡◌, ◌≢◌, ◌≤◌, ◌⊎◌}
use Rattle.doc_tree.specs.declared.declaration.Field.TheVariants as fields
use Rattle.doc_tree.proofs.ByteGrammar.Bytes.{IsHigh, high_not_space, space_low, start_range}
use Rattle.doc_tree.proofs.ByteGrammar.Spans.{some_stuck}
use Rattle.doc_tree.proofs.ByteGrammar.Asides.{instruction_to, instruction_of, pi_over_high}
use Rattle.doc_tree.proofs.ByteGrammar.Rounds.{Cases, at_space, at_comment, at_pi, IsRound, round_space, round_stuck, round_tag, round_question}
use Rattle.doc_tree.proofs.ByteGrammar.Fields.{gap_to, gap_of, gap_foreign}

-- a name begins with a letter or `_`
name_high : (b : ℕ) (r run : List ℕ) → IsQName run → (y : List ℕ) → b ∷ r ≡ run ++ y → 65 ≤ b
name_high b r [] q y e = absurd q
name_high b r (c ∷ cs) q y e = let h : b ≡ c = cc in let k = (start_range c q.0).0 in omega arith

module _ (u : TreeTerms) where
  -- behind the root
  after_to : (b : ℕ) (r : List ℕ) (es : List Mark) (m : Misc) → b ∷ r ≡ misc_text m [] → es ≡ [] → Cases (After u) b r es
  after_to b r es misc_over e q = absurd (cc)
  after_to b r es (misc_space c s more) e q = let h : c ≡ b = cc in at_space (subst IsSpace h s) (record { misc = more; text = cc; says = q })
  after_to b r es (misc_comment t more) e q = at_comment (comment_text t (misc_text more [])) (cc) (cc) (record { comment = t; behind = misc_text more []; text = refl; after = record { misc = more; text = refl; says = q } })
  after_to b r es (misc_instruction t more) e q = at_pi (instruction_text t (misc_text more [])) (cc) (cc) (instruction_to (After u) t (misc_text more []) (instruction_text t (misc_text more [])) es refl (record { misc = more; text = refl; says = q }))

  pub after_round : IsRound (After u) Never
  after_round = record {
    cases = λ b r es h. inl (after_to b r es h.misc h.text h.says);
    named = λ b r es h. absurd h;
    from_comment = λ x es h. let a : After u h.behind es = h.after in let e1 = h.text in let e2 = a.text in record { misc = misc_comment h.comment a.misc; text = cc; says = a.says };
    from_pi = λ x es h. let o = instruction_of (After u) x es h in let a : After u o.1 es = o.3 in let e1 = o.2 in let e2 = a.text in record { misc = misc_instruction o.0 a.misc; text = cc; says = a.says };
  }

  pub after_space : (b : ℕ) (r : List ℕ) (es : List Mark) → IsSpace b → After u (b ∷ r) es ↔ After u r es
  after_space b r es s = (
    λ h. round_space (After u) Never after_round b r es s h,
    λ h. record { misc = misc_space b s h.misc; text = ap (λ z. b ∷ z) h.text; says = h.says },
  )

  pub after_stuck : (b : ℕ) (r : List ℕ) (es : List Mark) → (IsSpace b → ⊥) → b ≢ 60 → After u (b ∷ r) es → ⊥
  after_stuck b r es n m h = round_stuck (After u) Never after_round b r es n m h

  pub after_less : (b : ℕ) (r : List ℕ) (es : List Mark) → b ≢ 33 → b ≢ 63 → After u (60 ∷ b ∷ r) es → ⊥
  after_less b r es n m h = round_tag (After u) Never after_round b r es n m h

  -- before it
  before_to : (b : ℕ) (r : List ℕ) (es : List Mark) (m : Misc) (y : List ℕ) → b ∷ r ≡ misc_text m (60 ∷ y) → RootOrType u y es → Cases (Before u) b r es ⊎ ((b ≡ 60) × RootOrType u r es)
  before_to b r es misc_over y e a = let h : y ≡ r = cc in inr ((cc), subst (λ z. RootOrType u z es) h a)
  before_to b r es (misc_space c s more) y e a = let h : c ≡ b = cc in inl (at_space (subst IsSpace h s) (record { misc = more; behind = y; text = cc; after = a }))
  before_to b r es (misc_comment t more) y e a = let z = misc_text more (60 ∷ y) in inl (at_comment (comment_text t z) (cc) (cc) (record { comment = t; behind = z; text = refl; after = record { misc = more; behind = y; text = refl; after = a } }))
  before_to b r es (misc_instruction t more) y e a = let z = misc_text more (60 ∷ y) in inl (at_pi (instruction_text t z) (cc) (cc) (instruction_to (Before u) t z (instruction_text t z) es refl (record { misc = more; behind = y; text = refl; after = a })))

  -- what may stand behind the `<`
  opens : (b : ℕ) (r : List ℕ) (es : List Mark) → RootOrType u (b ∷ r) es → (65 ≤ b) ⊎ ((b ≡ 33) × (r ≡ 68 ∷ []))
  opens b r es (inl h) = inl (name_high b r h.tag.name h.tag.named (attributes_text h.tag.attributes (h.tag.space ++ h.behind)) h.text)
  opens b r es (inr h) = let e = h.text in inr ((cc), (cc))

  pub before_round : IsRound (Before u) (RootOrType u)
  before_round = record {
    cases = λ b r es h. before_to b r es h.misc h.behind h.text h.after;
    named = opens;
    from_comment = λ x es h. let a : Before u h.behind es = h.after in let e1 = h.text in let e2 = a.text in record { misc = misc_comment h.comment a.misc; behind = a.behind; text = cc; after = a.after };
    from_pi = λ x es h. let o = instruction_of (Before u) x es h in let a : Before u o.1 es = o.3 in let e1 = o.2 in let e2 = a.text in record { misc = misc_instruction o.0 a.misc; behind = a.behind; text = cc; after = a.after };
  }

  -- a document type, whose text ends here
  pub no_type : (b : ℕ) (r : List ℕ) (es : List Mark) → (b ≡ 68 → IsSpecial u.aim → ⊥) → RootOrType u (33 ∷ b ∷ r) es → ⊥
  no_type b r es n (inl h) = let l = name_high 33 (b ∷ r) h.tag.name h.tag.named (attributes_text h.tag.attributes (h.tag.space ++ h.behind)) h.text in omega arith
  no_type b r es n (inr h) = let e = h.text in n (cc) h.special

  pub before_space : (b : ℕ) (r : List ℕ) (es : List Mark) → IsSpace b → Before u (b ∷ r) es ↔ Before u r es
  before_space b r es s = (
    λ h. round_space (Before u) (RootOrType u) before_round b r es s h,
    λ h. record { misc = misc_space b s h.misc; behind = h.behind; text = ap (λ z. b ∷ z) h.text; after = h.after },
  )

  root_of : (b : ℕ) (r : List ℕ) (es : List Mark) → b ≢ 33 → RootOrType u (b ∷ r) es → TagFirst [] u (b ∷ r) es
  root_of b r es n (inl h) = record { room = h.room; rest = record { run = h.tag.name; is = h.tag.named; behind = attributes_text h.tag.attributes (h.tag.space ++ h.behind); text = h.text; after = record { attributes = h.tag.attributes; fresh = h.tag.fresh; space = h.tag.space; spaced = h.tag.spaced; behind = h.behind; text = refl; after = h.after } } }
  root_of b r es n (inr h) = let e = h.text in absurd (n (cc))

  pub before_less : (b : ℕ) (r : List ℕ) (es : List Mark) → b ≢ 33 → b ≢ 63 → Before u (60 ∷ b ∷ r) es ↔ TagFirst [] u (b ∷ r) es
  before_less b r es n m = (
    λ h. root_of b r es n (round_tag (Before u) (RootOrType u) before_round b r es n m h),
    λ h. let q : Then IsQName (λ n. TagRest (depth_left u [] - 1) n [] [] (After u)) (b ∷ r) es = h.rest in
        let t : TagRest (depth_left u [] - 1) q.run [] [] (After u) q.behind es = q.after in
        let e1 = q.text in let e2 = t.text in
        record { misc = misc_over; behind = b ∷ r; text = refl; after = inl (record { room = h.room; tag = record { name = q.run; named = q.is; attributes = t.attributes; fresh = t.fresh; space = t.space; spaced = t.spaced }; behind = t.behind; text = cc; after = t.after }) },
  )

  pub before_stuck : (b : ℕ) (r : List ℕ) (es : List Mark) → (IsSpace b → ⊥) → b ≢ 60 → Before u (b ∷ r) es → ⊥
  before_stuck b r es n m h = round_stuck (Before u) (RootOrType u) before_round b r es n m h

  -- behind the byte order mark
  marked_to : (b : ℕ) (r : List ℕ) (es : List Mark) → (d : Declaration) → IsDeclarationRead u.aim d → (y : List ℕ) → b ∷ r ≡ declaration_text d y → Before u y es → Before u (b ∷ r) es ⊎ ((b ≡ 60) × (x : List ℕ) × (r ≡ 63 ∷ 120 ∷ 109 ∷ 108 ∷ x) × Gap fields.Before u x es)
  marked_to b r es no_declaration f y e a = inl (subst (λ z. Before u z es) (sym e) a)
  marked_to b r es (declared v n s space sp) f y e a = inr ((cc), version_text v (encoding_text n (standalone_text s (space ++ (63 ∷ 62 ∷ y)))), (cc), gap_to u v n s space sp f y (version_text v (encoding_text n (standalone_text s (space ++ (63 ∷ 62 ∷ y))))) es refl a)

  pub marked_cases : (b : ℕ) (r : List ℕ) (es : List Mark) → Marked u (b ∷ r) es → Before u (b ∷ r) es ⊎ ((b ≡ 60) × (x : List ℕ) × (r ≡ 63 ∷ 120 ∷ 109 ∷ 108 ∷ x) × Gap fields.Before u x es)
  marked_cases b r es (inl h) = marked_to b r es h.declaration h.read h.behind h.text h.after
  marked_cases b r es (inr h) = let e = h.text in inr ((cc), h.behind, (cc), gap_foreign u h.behind es h.after)

  pub marked_plain : (x : List ℕ) (es : List Mark) → Before u x es → Marked u x es
  marked_plain x es h = inl (record { declaration = no_declaration; read = tt; behind = x; text = refl; after = h })

  pub marked_space : (b : ℕ) (r : List ℕ) (es : List Mark) → IsSpace b → Marked u (b ∷ r) es ↔ Before u r es
  marked_space b r es s = (
    λ h. elim (marked_cases b r es h) [ inl p ↦ (before_space b r es s).0 p | inr p ↦ (let l = space_low b s in let e = p.0 in absurd (omega arith)) ],
    λ h. marked_plain (b ∷ r) es ((before_space b r es s).1 h),
  )

  pub marked_stuck : (b : ℕ) (r : List ℕ) (es : List Mark) → (IsSpace b → ⊥) → b ≢ 60 → Marked u (b ∷ r) es → ⊥
  marked_stuck b r es n m h = elim (marked_cases b r es h) [ inl p ↦ before_stuck b r es n m p | inr p ↦ m p.0 ]

  pub marked_less : (b : ℕ) (r : List ℕ) (es : List Mark) → b ≢ 63 → Marked u (60 ∷ b ∷ r) es ↔ Before u (60 ∷ b ∷ r) es
  marked_less b r es n = (
    λ h. elim (marked_cases 60 (b ∷ r) es h) [ inl p ↦ p | inr p ↦ (let e = p.2 in absurd (n (cc))) ],
    λ h. marked_plain (60 ∷ b ∷ r) es h,
  )

  -- the declaration, or an instruction
  xml_named : IsName (codes "xml")
  xml_named = (inl (inr (omega arith, omega arith)), (inl (inl (inr (omega arith, omega arith))), (inl (inl (inr (omega arith, omega arith))), tt)))

  first_of : (name : List ℕ) → IsName name → (y x : List ℕ) (es : List Mark) → x ≡ name ++ y → FirstOver name u y es → Marked u (60 ∷ 63 ∷ x) es
  first_of name n y x es e (inl d) = let e1 = d.is in elim (gap_of u y es d.rest) [
    | inl g ↦ (let e2 = g.6 in inl (record { declaration = declared g.0 g.1 g.2 g.3 g.4; read = g.7; behind = g.5; text = cc; after = g.8 }))
    | inr g ↦ inr (record { behind = y; text = cc; after = g })
  ]
  first_of name n y x es e (inr p) = marked_plain (60 ∷ 63 ∷ x) es ((round_question (Before u) (RootOrType u) before_round x es).1 (record { run = name; is = n; behind = y; text = e; after = p }))

  pub marked_question : (r : List ℕ) (es : List Mark) → Marked u (60 ∷ 63 ∷ r) es ↔ Then IsName (λ name. FirstOver name u) r es
  marked_question r es = (
    λ h. elim (marked_cases 60 (63 ∷ r) es h) [
      | inl p ↦ (let q : PiRest (Before u) r es = (round_question (Before u) (RootOrType u) before_round r es).0 p in record { run = q.run; is = q.is; behind = q.behind; text = q.text; after = inr q.after })
      | inr p ↦ (let e = p.2 in record { run = codes "xml"; is = xml_named; behind = p.1; text = cc; after = inl (record { is = refl; rest = p.3 }) })
    ],
    λ h. first_of h.run h.is h.behind r es h.text h.after,
  )

  gap_spaced : (b : ℕ) (x : List ℕ) (es : List Mark) → (IsSpace b → ⊥) → Gap fields.Before u (b ∷ x) es → ⊥
  gap_spaced b x es n (inl h) = h
  gap_spaced b x es n (inr h) = some_stuck (Choice fields.Before u) b x es n h

  pub first_over_high : (b : ℕ) (n x : List ℕ) (es : List Mark) → IsHigh b → FirstOver n u (b ∷ x) es → ⊥
  first_over_high b n x es i (inl d) = gap_spaced b x es (high_not_space b i) d.rest
  first_over_high b n x es i (inr p) = pi_over_high (Before u) b n x es i p

  pub first_declares : (n x : List ℕ) (es : List Mark) → n ≡ codes "xml" → FirstOver n u x es ↔ Gap fields.Before u x es
  first_declares n x es e = (
    λ h. elim h [ inl d ↦ d.rest | inr p ↦ absurd (p.other (ap (map to_ascii_lowercase) e)) ],
    λ h. inl (record { is = e; rest = h }),
  )

  pub first_instructs : (n x : List ℕ) (es : List Mark) → n ≢ codes "xml" → FirstOver n u x es ↔ PiOver n (Before u) x es
  first_instructs n x es m = (λ h. elim h [ inl d ↦ absurd (m d.is) | inr p ↦ p ], λ h. inr h)

  -- the whole
  whole_to : (b : ℕ) (r : List ℕ) (es : List Mark) → (m : Bool) (y : List ℕ) → b ∷ r ≡ mark_text m y → Marked u y es → Marked u (b ∷ r) es ⊎ ((b ≡ 239) × Word (187 ∷ 191 ∷ []) (Marked u) r es)
  whole_to b r es false y e a = inl (subst (λ z. Marked u z es) (sym e) a)
  whole_to b r es true y e a = inr ((cc), record { behind = y; text = cc; after = a })

  pub whole_mark : (r : List ℕ) (es : List Mark) → Whole u (239 ∷ r) es ↔ Word (187 ∷ 191 ∷ []) (Marked u) r es
  whole_mark r es = (
    λ h. elim (whole_to 239 r es h.mark h.behind h.text h.after) [ inl p ↦ absurd (marked_stuck 239 r es (λ s. let l = space_low 239 s in omega arith) (λ e. omega arith) p) | inr p ↦ p.1 ],
    λ w. record { mark = true; behind = w.behind; text = ap (λ z. 239 ∷ z) w.text; after = w.after },
  )

  pub whole_plain : (b : ℕ) (r : List ℕ) (es : List Mark) → b ≢ 239 → Whole u (b ∷ r) es ↔ Marked u (b ∷ r) es
  whole_plain b r es n = (
    λ h. elim (whole_to b r es h.mark h.behind h.text h.after) [ inl p ↦ p | inr p ↦ absurd (n p.0) ],
    λ h. record { mark = false; behind = b ∷ r; text = refl; after = h },
  )

  pub before_less_in : (names : List (List ℕ)) (b : ℕ) (r : List ℕ) (es : List Mark) → names ≡ [] → b ≢ 33 → b ≢ 63 → Before u (60 ∷ b ∷ r) es ↔ TagFirst names u (b ∷ r) es
  before_less_in names b r es e n m = subst (λ z. Before u (60 ∷ b ∷ r) es ↔ TagFirst z u (b ∷ r) es) (sym e) (before_less b r es n m)
