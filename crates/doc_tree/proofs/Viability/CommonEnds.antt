-- Behind each byte that the machine and the characters take, some bytes complete both.
use Rattle.doc_tree.proofs.Words.{Awaited, Bool, CharacterFollows, CharacterRest, Continues, Each, Good, IsFixed, IsInMark, IsXmlText, List, Mark, Marked, MeetsBoth, PassesByte, Spells, MachineState, TreeTerms, [], ap, append-nil, arith, eqb_tells, false, inl, inr, leb_tells, normal_lines, refl, subst, sym, true, unread, ℕ, ◌++◌, ◌<◌, ◌∙◌, ◌∷◌, ◌≡◌, ◌≤◌, ByteBetween, OneMore, TwoMore, cond}
use Rattle.doc_tree.specs.declared.characters.Awaited.TheVariants as awaits
use Rattle.doc_tree.specs.declared.machine.Goal.TheVariants as goals
use Rattle.doc_tree.proofs.ByteGrammar.{IsMultibyte, marked_stuck}
use Rattle.doc_tree.proofs.Viability.Multibytes.{Fills, Marks, Met, mark_fixed, mark_says, meets}
use Rattle.doc_tree.proofs.Viability.HighBytes.{high_space}
use Rattle.doc_tree.proofs.Viability.PrintableEnds.{wide}
use Rattle.doc_tree.proofs.Viability.Endings.{marked_lasts}
use Rattle.doc_tree.proofs.Viability.Specials.{plain_line}
use Rattle.doc_tree.proofs.Utf8.{ascii_xml, first_inner, first_last, first_one, first_or_inside, no_text}

-- bytes that complete the character
abbrev pub Filling : Awaited → Type 0
Filling w = (more : List ℕ) × Each IsMultibyte more × Fills (CharacterRest w) more

filling : (w : Awaited) → Filling w
filling awaits.First = ([], tt, λ x h. h)
filling awaits.Two = (128 ∷ 128 ∷ [], (omega arith, (omega arith, tt)), λ x h. (omega arith, omega arith, (omega arith, omega arith, h)))
filling awaits.TwoHigh = (160 ∷ 128 ∷ [], (omega arith, (omega arith, tt)), λ x h. (omega arith, omega arith, (omega arith, omega arith, h)))
filling awaits.TwoLow = (128 ∷ 128 ∷ [], (omega arith, (omega arith, tt)), λ x h. (omega arith, omega arith, (omega arith, omega arith, h)))
filling awaits.TwoLast = (128 ∷ 128 ∷ [], (omega arith, (omega arith, tt)), λ x h. inl (omega arith, omega arith, (omega arith, omega arith, h)))
filling awaits.Three = (128 ∷ 128 ∷ 128 ∷ [], (omega arith, (omega arith, (omega arith, tt))), λ x h. (omega arith, omega arith, (omega arith, omega arith, (omega arith, omega arith, h))))
filling awaits.ThreeHigh = (144 ∷ 128 ∷ 128 ∷ [], (omega arith, (omega arith, (omega arith, tt))), λ x h. (omega arith, omega arith, (omega arith, omega arith, (omega arith, omega arith, h))))
filling awaits.ThreeLow = (128 ∷ 128 ∷ 128 ∷ [], (omega arith, (omega arith, (omega arith, tt))), λ x h. (omega arith, omega arith, (omega arith, omega arith, (omega arith, omega arith, h))))
filling _ = (128 ∷ [], (omega arith, tt), λ x h. (omega arith, omega arith, h))

module _ (w v : Awaited) (b : ℕ) (f : CharacterFollows w b v) where
  -- what the byte stands before
  before : CharacterRest w (b ∷ (filling v).0)
  before = let k = filling v in (f k.0).1 (subst (CharacterRest v) (append-nil k.0) (k.2 [] no_text))

  low : b < 128 → Fills (CharacterRest v) []
  low l x h = elim (first_or_inside w (b ∷ (filling v).0) before) [
    | inl e ↦ (
        let t : IsXmlText (b ∷ (filling v).0) = subst (λ z. CharacterRest z (b ∷ (filling v).0)) e before in
        let k : IsXmlText (b ∷ x) = (first_one b (ascii_xml b (filling v).0 l t) l x).1 h in
        (f x).0 (subst (λ z. CharacterRest z (b ∷ x)) (sym e) k))
    | inr k ↦ (let j = k.0 in absurd (omega arith))
  ]

  mark_first : b ≡ 239 → Fills (CharacterRest v) (187 ∷ 191 ∷ [])
  mark_first e x h = elim (first_or_inside w (b ∷ (filling v).0) before) [
    | inl q ↦ (
        let k : CharacterRest awaits.First (239 ∷ 187 ∷ 191 ∷ x) = (first_last 239 refl (187 ∷ 191 ∷ x)).1 (inl (omega arith, omega arith, (omega arith, omega arith, h))) in
        (f (187 ∷ 191 ∷ x)).0 (subst (λ z. CharacterRest w (z ∷ 187 ∷ 191 ∷ x)) (sym e) (subst (λ z. CharacterRest z (239 ∷ 187 ∷ 191 ∷ x)) (sym q) k)))
    | inr k ↦ (let j = k.1 in absurd (omega arith))
  ]

  -- in the mark no character begins
  fixed_not_first : (left : List ℕ) → IsFixed goals.Marked left → Fills IsXmlText left → ⊥
  fixed_not_first left (inl e) k = first_inner 187 (omega arith) (omega arith) (191 ∷ []) (subst (λ z. IsXmlText (z ++ [])) e (k [] no_text))
  fixed_not_first left (inr e) k = first_inner 191 (omega arith) (omega arith) [] (subst (λ z. IsXmlText (z ++ [])) e (k [] no_text))

  mark_high : (s : MachineState) → Good s.place s → Marks (CharacterRest w) s → IsInMark s.place s.goal → 128 ≤ b
  mark_high s g m i = elim (first_or_inside w (b ∷ (filling v).0) before) [
    | inl e ↦ absurd (fixed_not_first s.left (mark_fixed s g i) (subst (λ z. Fills (CharacterRest z) s.left) e (m i)))
    | inr k ↦ k.0
  ]

  pub meets_on : (s : MachineState) (r : Bool) (new : MachineState) (returns : Bool) → Good s.place s → PassesByte s r b new returns → Marks (CharacterRest w) s → Met (CharacterRest v) new returns × Marks (CharacterRest v) new
  meets_on s r new returns g p m = let k = filling v in meets (CharacterRest w) (CharacterRest v) s r b new returns f p g m (mark_high s g m) k.0 k.1 k.2 low mark_first

-- line ends leave bytes from 128 on, and no such comes from another
low_head : (d : ℕ) (ds : List ℕ) (h : ℕ) (y : List ℕ) → d ≤ 13 → normal_lines (d ∷ ds) ≡ h ∷ y → h ≤ 13
low_head d [] h y l e = grind arith
low_head d (c ∷ cs) h y l e = grind arith

head_high : (x : List ℕ) (h : ℕ) (y : List ℕ) → 128 ≤ h → normal_lines x ≡ h ∷ y → (z : List ℕ) × (x ≡ h ∷ z) × (normal_lines z ≡ y)
head_high [] h y l e = absurd (cc)
head_high (d ∷ ds) h y l e = elim (leb_tells d 13) [
  | inl k ↦ (let m = low_head d ds h y k.1 e in absurd (omega arith))
  | inr k ↦ (
      let p : d ∷ normal_lines ds ≡ h ∷ y = sym (plain_line false d ds k.1) ∙ e in
      let q : d ≡ h = cc in
      (ds, ap (λ z. z ∷ ds) q, cc))
]

head_low : (x : List ℕ) (c : ℕ) (y : List ℕ) → c < 128 → normal_lines x ≡ c ∷ y → (d : ℕ) × (z : List ℕ) × (x ≡ d ∷ z) × (d < 128)
head_low [] c y l e = absurd (cc)
head_low (d ∷ ds) c y l e = elim (leb_tells 128 d) [
  | inl k ↦ (
      let m = k.1 in
      let p : d ∷ normal_lines ds ≡ c ∷ y = sym (plain_line false d ds (omega arith)) ∙ e in
      let q : d ≡ c = cc in absurd (omega arith))
  | inr k ↦ (d, ds, refl, k.1)
]

-- behind the mark a document begins, with a byte of ASCII
marked_low : (u : TreeTerms) (y : List ℕ) (es : List Mark) → Marked u y es → (c : ℕ) × (z : List ℕ) × (y ≡ c ∷ z) × (c < 128)
marked_low u [] es h = absurd (marked_lasts u es h)
marked_low u (c ∷ z) es h = elim (leb_tells 128 c) [
  | inl k ↦ (let m = k.1 in absurd (marked_stuck u c z es (high_space c m) (λ e. omega arith) h))
  | inr k ↦ (c, z, refl, k.1)
]

-- bytes that begin no character
abbrev IsInner : ℕ → Type 0
IsInner c = (128 ≤ c) × (c < 194)

-- such bytes complete the character where a byte of ASCII goes on behind them
abbrev Cut : (List ℕ → Type 0) → Type 0
Cut C = (left : List ℕ) → Each IsInner left → (d : ℕ) (z : List ℕ) → d < 128 → C (left ++ (d ∷ z)) → Fills C left

text_cut : Cut IsXmlText
text_cut [] i d z l k = λ x h. h
text_cut (c ∷ cs) i d z l k = absurd (first_inner c i.0.0 i.0.1 (cs ++ (d ∷ z)) k)

between_cut : (low high : ℕ) (K : List ℕ → Type 0) → 128 ≤ low → Cut K → Cut (ByteBetween low high K)
between_cut low high K m f [] i d z l k = let n = k.0 in absurd (omega arith)
between_cut low high K m f (c ∷ cs) i d z l k = λ x h. (k.0, k.1, f cs i.1 d z l k.2 x h)

one_cut : Cut OneMore
one_cut = between_cut 128 191 IsXmlText (omega arith) text_cut

two_cut : Cut TwoMore
two_cut = between_cut 128 191 OneMore (omega arith) one_cut

character_cut : (w : Awaited) → Cut (CharacterRest w)
character_cut awaits.First left i d z l k = text_cut left i d z l k
character_cut awaits.One left i d z l k = one_cut left i d z l k
character_cut awaits.OneLow left i d z l k = between_cut 128 189 IsXmlText (omega arith) text_cut left i d z l k
character_cut awaits.Two left i d z l k = two_cut left i d z l k
character_cut awaits.TwoHigh left i d z l k = between_cut 160 191 OneMore (omega arith) one_cut left i d z l k
character_cut awaits.TwoLow left i d z l k = between_cut 128 159 OneMore (omega arith) one_cut left i d z l k
character_cut awaits.TwoLast left i d z l (inl k) = λ x h. inl (between_cut 128 190 OneMore (omega arith) one_cut left i d z l k x h)
character_cut awaits.TwoLast left i d z l (inr k) = λ x h. inr (between_cut 191 191 (ByteBetween 128 189 IsXmlText) (omega arith) (between_cut 128 189 IsXmlText (omega arith) text_cut) left i d z l k x h)
character_cut awaits.Three left i d z l k = between_cut 128 191 TwoMore (omega arith) two_cut left i d z l k
character_cut awaits.ThreeHigh left i d z l k = between_cut 144 191 TwoMore (omega arith) two_cut left i d z l k
character_cut awaits.ThreeLow left i d z l k = between_cut 128 143 TwoMore (omega arith) two_cut left i d z l k

-- such bytes, and one of ASCII behind them, stand in a text as they do where its line ends are normal
lines_left : (left : List ℕ) → Each IsInner left → (c : ℕ) (y rest : List ℕ) → c < 128 → normal_lines rest ≡ left ++ (c ∷ y) → (d : ℕ) × (z : List ℕ) × (rest ≡ left ++ (d ∷ z)) × (d < 128)
lines_left [] i c y rest l e = head_low rest c y l e
lines_left (b ∷ left) i c y rest l e =
    let a = head_high rest b (left ++ (c ∷ y)) i.0.0 e in
    let r = lines_left left i.1 c y a.0 l a.2 in
    (r.0, r.1, a.1 ∙ ap (λ m. b ∷ m) r.2, r.3)

-- a line feed that is left out leaves the same character to complete
unread_rest : (w : Awaited) (r : Bool) (rest : List ℕ) → CharacterRest w rest → CharacterRest w (unread r rest)
unread_rest w false rest k = k
unread_rest w true [] k = k
unread_rest w true (b ∷ bs) k = elim (eqb_tells b 10) [
  | inl q ↦ elim (first_or_inside w (b ∷ bs) k) [
    | inl f ↦ subst (λ z. CharacterRest w (cond z bs (b ∷ bs))) (sym q.0) (subst (λ z. CharacterRest z bs) (sym f) ((first_one 10 (inr (inl refl)) (omega arith) bs).0 (subst (λ n. IsXmlText (n ∷ bs)) q.1 (subst (λ z. CharacterRest z (b ∷ bs)) f k))))
    | inr i ↦ (let l = i.0 in let e = q.1 in absurd (omega arith))
  ]
  | inr q ↦ subst (λ z. CharacterRest w (cond z bs (b ∷ bs))) (sym q.0) k
]

fixed_inner : (left : List ℕ) → IsFixed goals.Marked left → Each IsInner left
fixed_inner left (inl e) = subst (Each IsInner) (sym e) ((omega arith, omega arith), ((omega arith, omega arith), tt))
fixed_inner left (inr e) = subst (Each IsInner) (sym e) ((omega arith, omega arith), tt)

marks_of : (w : Awaited) (s : MachineState) (r : Bool) → Good s.place s → Met (CharacterRest w) s r → Marks (CharacterRest w) s
marks_of w s r g m i =
    let d = m.document in
    let t = mark_says s g i (normal_lines (unread r m.rest)) d.later d.rest in
    let f = fixed_inner s.left (mark_fixed s g i) in
    let c = marked_low (wide 32) t.behind d.later t.after in
    let x = lines_left s.left f c.0 c.1 (unread r m.rest) c.3 (t.text ∙ ap (λ z. s.left ++ z) c.2) in
    character_cut w s.left f x.0 x.1 x.3 (subst (CharacterRest w) x.2 (unread_rest w r m.rest m.character))

-- What completed characters and document before the byte may be chosen so that it does behind it.
pub fed_on : (s : MachineState) (returned : Bool) (w : Awaited) (seen : List ℕ) (b : ℕ) (t : MachineState) (returns : Bool) (v : Awaited) → Continues s returned seen → Spells w seen → MeetsBoth w s returned → PassesByte s returned b t returns → CharacterFollows w b v → MeetsBoth v t returns
fed_on s returned w seen b t returns v c p m q f =
    let k = (meets_on w v b f s returned t returns c.good q (marks_of w s returned c.good (record { rest = m.rest; character = m.character; says = m.says; document = m.document }))).0 in
    record { rest = k.rest; character = k.character; says = k.says; document = k.document }
