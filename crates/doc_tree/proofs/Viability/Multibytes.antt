-- The machine behind the first bytes of a character of more than one.
use Rattle.doc_tree.proofs.Words.{Bool, Each, Finishes, Goal, Good, IsFixed, IsInMark, IsPrintable, IsXmlText, List, Mark, Marked, PassesByte, Place, ReachesGoal, RestsAt, MachineState, TreeTerms, Whole, Word, [], ap, arith, eqb_tells, inl, inr, leb_tells, refl, subst, sym, ℕ, ◌++◌, ◌<◌, ◌↔◌, ◌∙◌, ◌∷◌, ◌≡◌, ◌≢◌, ◌≤◌, ◌⊎◌, each_append}
use Rattle.doc_tree.specs.declared.machine.Goal.TheVariants as goals
use Rattle.doc_tree.specs.declared.machine.Place.TheVariants as places
use Rattle.doc_tree.proofs.Viability.HighBytes.{Absorbs, absorbs, high_space}
use Rattle.doc_tree.proofs.Viability.PrintableEnds.{wide, marked}
use Rattle.doc_tree.proofs.ByteGrammar.{IsMultibyte, each_map, marked_stuck, whole_mark, whole_plain}
use Rattle.doc_tree.proofs.Viability.Completions.{Completion}
use Rattle.doc_tree.proofs.Viability.Prefixes.{IsSteady, steady, printable_steady, mark_steady, printable_xml, Open, open_here, open_mark}

-- Whatever bytes from 128 on come, printable ones end a document behind them.
abbrev pub OpenText : MachineState → Bool → Type 0
OpenText s r = (more : List ℕ) → Each IsMultibyte more → Open 32 s r more

abbrev t : TreeTerms
t = wide 32

in_mark : (p : Place) (g : Goal) → (IsInMark p g → ⊥) ⊎ ((p ≡ places.Word) × (g ≡ goals.Marked))
in_mark places.Word goals.Marked = inr (refl, refl)
in_mark _ _ = inl (λ h. h)

at_start : (p : Place) → (p ≡ places.Start) ⊎ (p ≢ places.Start)
at_start places.Start = inl refl
at_start _ = inr (λ e. cc)

is_mark : (p : Place) (g : Goal) → p ≡ places.Word → g ≡ goals.Marked → IsInMark p g
is_mark p g e f = subst (λ z. IsInMark z g) (sym e) (subst (λ z. IsInMark places.Word z) (sym f) tt)

mark_left : (s : MachineState) → Good s.place s → s.place ≡ places.Word → s.goal ≡ goals.Marked → IsFixed goals.Marked s.left
mark_left s g p q = let k : Good places.Word s = subst (λ z. Good z s) p g in subst (λ z. IsFixed z s.left) q k.1

pub mark_fixed : (s : MachineState) → Good s.place s → IsInMark s.place s.goal → IsFixed goals.Marked s.left
mark_fixed s g m = elim (in_mark s.place s.goal) [ inl n ↦ absurd (n m) | inr q ↦ mark_left s g q.0 q.1 ]

-- what follows in the mark
mark_text : (s : MachineState) → s.place ≡ places.Word → s.goal ≡ goals.Marked → (x : List ℕ) (es : List Mark) → RestsAt s.place s t x es → Word s.left (Marked t) x es
mark_text s p q x es h = let k : Word s.left (ReachesGoal s.goal s t) x es = subst (λ z. RestsAt z s t x es) p h in subst (λ z. Word s.left (ReachesGoal z s t) x es) q k

pub mark_says : (s : MachineState) → Good s.place s → IsInMark s.place s.goal → (x : List ℕ) (es : List Mark) → RestsAt s.place s t x es → Word s.left (Marked t) x es
mark_says s g m x es h = elim (in_mark s.place s.goal) [ inl n ↦ absurd (n m) | inr q ↦ mark_text s q.0 q.1 x es h ]

fixed_first : (left x y : List ℕ) (b : ℕ) → IsFixed goals.Marked left → b ∷ x ≡ left ++ y → (b ≡ 187) ⊎ (b ≡ 191)
fixed_first left x y b (inl e) f = let k : b ∷ x ≡ (187 ∷ 191 ∷ []) ++ y = f ∙ ap (λ z. z ++ y) e in inl (cc)
fixed_first left x y b (inr e) f = let k : b ∷ x ≡ (191 ∷ []) ++ y = f ∙ ap (λ z. z ++ y) e in inr (cc)

fixed_some : (left y : List ℕ) → IsFixed goals.Marked left → [] ≡ left ++ y → ⊥
fixed_some left y (inl e) f = let k : [] ≡ (187 ∷ 191 ∷ []) ++ y = f ∙ ap (λ z. z ++ y) e in absurd (cc)
fixed_some left y (inr e) f = let k : [] ≡ (191 ∷ []) ++ y = f ∙ ap (λ z. z ++ y) e in absurd (cc)

-- printable bytes don't
printable_fixed : (left x y : List ℕ) → IsFixed goals.Marked left → Each IsPrintable x → x ≡ left ++ y → ⊥
printable_fixed left [] y i h e = fixed_some left y i e
printable_fixed left (b ∷ x) y i h e = let l = h.0.1 in elim (fixed_first left x y b i e) [ inl k ↦ omega arith | inr k ↦ omega arith ]

-- what may be left of the mark behind one of its bytes, a document behind it, and that it is left in one way
abbrev pub IsTail : List ℕ → Type 0
IsTail left = (left ≡ []) ⊎ (left ≡ 191 ∷ [])

any_document : Completion (Marked t)
any_document = marked 32 (omega arith)

tail_steady : (left : List ℕ) → IsTail left → Each IsSteady (left ++ any_document.bytes)
tail_steady left (inl e) = subst (λ z. Each IsSteady (z ++ any_document.bytes)) (sym e) (printable_steady any_document.bytes any_document.printable)
tail_steady left (inr e) = subst (λ z. Each IsSteady (z ++ any_document.bytes)) (sym e) (omega arith, printable_steady any_document.bytes any_document.printable)

tail_same : (left x y other : List ℕ) → IsTail left → IsFixed goals.Marked other → Each IsPrintable x → left ++ x ≡ other ++ y → left ≡ other
tail_same left x y other (inl a) i h e = absurd (printable_fixed other x y i h (sym (ap (λ z. z ++ x) a) ∙ e))
tail_same left x y other (inr a) (inl j) h e = let k : 191 ∷ x ≡ 187 ∷ 191 ∷ y = sym (ap (λ z. z ++ x) a) ∙ (e ∙ ap (λ z. z ++ y) j) in let v : ◌≡◌ {A = ℕ} 191 187 = cc in absurd (omega arith)
tail_same left x y other (inr a) (inr j) h e = a ∙ sym j

-- bytes that are no line ends, before and behind the layer
rests_of : (s : MachineState) (r : Bool) (x : List ℕ) (es : List Mark) → Each IsSteady x → Finishes s r t x es → (later : List Mark) × (es ≡ s.marks ++ later) × RestsAt s.place s t x later
rests_of s r x es h f = (f.later, f.whole, subst (λ z. RestsAt s.place s t z f.later) (steady r x h) f.rest)

finishes_of : (s : MachineState) (r : Bool) (x : List ℕ) (later : List Mark) → Each IsSteady x → RestsAt s.place s t x later → Finishes s r t x (s.marks ++ later)
finishes_of s r x later h k = record { later = later; whole = refl; rest = subst (λ z. RestsAt s.place s t z later) (sym (steady r x h)) k }

open_steady : (s : MachineState) (r : Bool) (more : List ℕ) (o : Open 32 s r more) → Each IsSteady more → Each IsSteady (more ++ o.bytes)
open_steady s r more o h = each_append IsSteady more o.bytes h (printable_steady o.bytes o.printable)

-- Between characters the machine isn't in the mark.
pub open_unmarked : (s : MachineState) (r : Bool) → Good s.place s → Open 32 s r [] → IsInMark s.place s.goal → ⊥
open_unmarked s r g o m = elim (in_mark s.place s.goal) [
  | inl n ↦ n m
  | inr p ↦ (
      let k = rests_of s r o.bytes o.marks (printable_steady o.bytes o.printable) o.rest in
      let w = mark_text s p.0 p.1 o.bytes k.0 k.2 in
      printable_fixed s.left o.bytes w.behind (mark_left s g p.0 p.1) o.printable w.text)
]

-- what the old state finishes where the new one does
back : (s : MachineState) (r : Bool) (b : ℕ) (new : MachineState) (returns : Bool) (more : List ℕ) → 128 ≤ b → Each IsSteady more → PassesByte s r b new returns → (o : Open 32 new returns more) → (later : List Mark) × (o.marks ≡ s.marks ++ later) × RestsAt s.place s t (b ∷ (more ++ o.bytes)) later
back s r b new returns more l h p o = rests_of s r (b ∷ (more ++ o.bytes)) o.marks (omega arith, open_steady new returns more o h) ((p.same t (omega arith) (more ++ o.bytes) o.marks).1 o.rest)

module _ (s : MachineState) (r : Bool) (b : ℕ) (new : MachineState) (returns : Bool) (l : 128 ≤ b) (p : PassesByte s r b new returns) where
  -- any others may come
  others : Absorbs (RestsAt s.place s t) b → Open 32 new returns [] → OpenText new returns
  others a o more h =
      let k = back s r b new returns [] l tt p o in
      let m = a o.bytes k.0 k.2 more h in
      let e : Each IsSteady (b ∷ (more ++ o.bytes)) = (omega arith, each_append IsSteady more o.bytes (each_map IsMultibyte IsSteady (λ c (p : 128 ≤ c). omega arith) more h) (printable_steady o.bytes o.printable)) in
      record { bytes = o.bytes; printable = o.printable; marks = s.marks ++ m.0; rest = (p.same t (omega arith) (more ++ o.bytes) (s.marks ++ m.0)).0 (finishes_of s r (b ∷ (more ++ o.bytes)) m.0 e m.1) }

  -- the mark takes no others
  not_others : Absorbs (RestsAt s.place s t) b → new.place ≡ places.Word → new.goal ≡ goals.Marked → ⊥
  not_others a e f =
      let i = mark_left new p.good e f in
      let o : Open 32 new returns new.left = open_mark 32 (omega arith) new returns p.good e f in
      let k = back s r b new returns new.left l (mark_steady new.left i) p o in
      let x : List ℕ = new.left ++ o.bytes in
      let hx : Each IsSteady x = open_steady new returns new.left o (mark_steady new.left i) in
      let m = a x k.0 k.2 (200 ∷ []) (omega arith, tt) in
      let n : Finishes new returns t (200 ∷ x) (s.marks ++ m.0) = (p.same t (omega arith) (200 ∷ x) (s.marks ++ m.0)).0 (finishes_of s r (b ∷ 200 ∷ x) m.0 (omega arith, (omega arith, hx)) m.1) in
      let q = rests_of new returns (200 ∷ x) (s.marks ++ m.0) (omega arith, hx) n in
      let w = mark_text new e f (200 ∷ x) q.0 q.2 in
      elim (fixed_first new.left x w.behind 200 i w.text) [ inl z ↦ omega arith | inr z ↦ omega arith ]

  begun_other : Absorbs (RestsAt s.place s t) b → OpenText new returns
  begun_other a = elim (in_mark new.place new.goal) [
    | inl n ↦ others a (open_here 32 (omega arith) new returns p.good n)
    | inr q ↦ absurd (not_others a q.0 q.1)
  ]

  -- the first byte of all
  start_first : s.place ≡ places.Start → (x : List ℕ) (es : List Mark) → RestsAt s.place s t (b ∷ x) es → (b ≡ 239) × Word (187 ∷ 191 ∷ []) (Marked t) x es
  start_first e x es h =
      let w : Whole t (b ∷ x) es = subst (λ z. RestsAt z s t (b ∷ x) es) e h in
      elim (eqb_tells b 239) [
        | inl q ↦ (q.1, (whole_mark t x es).0 (subst (λ z. Whole t (z ∷ x) es) q.1 w))
        | inr q ↦ absurd (marked_stuck t b x es (high_space b l) (λ f. omega arith) ((whole_plain t b x es q.1).0 w))
      ]

  start_mark : s.place ≡ places.Start → new.place ≡ places.Word → new.goal ≡ goals.Marked → (b ≡ 239) × (new.left ≡ 187 ∷ 191 ∷ [])
  start_mark e f g =
      let i = mark_left new p.good f g in
      let o : Open 32 new returns new.left = open_mark 32 (omega arith) new returns p.good f g in
      let k = back s r b new returns new.left l (mark_steady new.left i) p o in
      let w = start_first e (new.left ++ o.bytes) k.0 k.2 in
      let m : new.left ++ o.bytes ≡ 187 ∷ 191 ∷ w.1.behind = w.1.text in
      (w.0, elim i [ inl j ↦ j | inr j ↦ (let n : 191 ∷ o.bytes ≡ 187 ∷ 191 ∷ w.1.behind = sym (ap (λ z. z ++ o.bytes) j) ∙ m in let z : ◌≡◌ {A = ℕ} 191 187 = cc in absurd (omega arith)) ])

  start_not : s.place ≡ places.Start → (IsInMark new.place new.goal → ⊥) → ⊥
  start_not e n =
      let o : Open 32 new returns [] = open_here 32 (omega arith) new returns p.good n in
      let k = back s r b new returns [] l tt p o in
      let w = start_first e o.bytes k.0 k.2 in
      printable_fixed (187 ∷ 191 ∷ []) o.bytes w.1.behind (inl refl) o.printable w.1.text

  -- The first byte of a character: any others are taken, or it is the mark's.
  pub begun : Good s.place s → (IsInMark s.place s.goal → ⊥) → OpenText new returns ⊎ ((b ≡ 239) × (new.left ≡ 187 ∷ 191 ∷ []) × IsInMark new.place new.goal)
  begun g n = elim (at_start s.place) [
    | inl e ↦ elim (in_mark new.place new.goal) [
      | inl m ↦ absurd (start_not e m)
      | inr q ↦ (let k = start_mark e q.0 q.1 in inr (k.0, k.1, is_mark new.place new.goal q.0 q.1))
    ]
    | inr e ↦ inl (begun_other (absorbs t b l s.place s e g n))
  ]

  -- The mark goes on with its own bytes alone.
  mark_back : s.place ≡ places.Word → s.goal ≡ goals.Marked → (x : List ℕ) (es : List Mark) → Word s.left (Marked t) x es → RestsAt s.place s t x es
  mark_back e f x es h =
      let k : Word s.left (ReachesGoal s.goal s t) x es = subst (λ z. Word s.left (ReachesGoal z s t) x es) (sym f) h in
      subst (λ z. RestsAt z s t x es) (sym e) k

  some_open : (more : List ℕ) × Each IsSteady more × Open 32 new returns more
  some_open = elim (in_mark new.place new.goal) [
    | inl n ↦ ([], tt, open_here 32 (omega arith) new returns p.good n)
    | inr q ↦ (new.left, mark_steady new.left (mark_left new p.good q.0 q.1), open_mark 32 (omega arith) new returns p.good q.0 q.1)
  ]

  mark_left_over : Good s.place s → IsInMark s.place s.goal → (left : List ℕ) × (s.left ≡ b ∷ left) × IsTail left
  mark_left_over g m =
      let o = some_open in
      let k = back s r b new returns o.0 l o.1 p o.2 in
      let w = mark_says s g m (b ∷ (o.0 ++ o.2.bytes)) k.0 k.2 in
      elim (mark_fixed s g m) [
        | inl j ↦ (let q : b ∷ (o.0 ++ o.2.bytes) ≡ 187 ∷ 191 ∷ w.behind = w.text ∙ ap (λ z. z ++ w.behind) j in let a : b ≡ 187 = cc in (191 ∷ [], j ∙ ap (λ z. z ∷ 191 ∷ []) (sym a), inr refl))
        | inr j ↦ (let q : b ∷ (o.0 ++ o.2.bytes) ≡ 191 ∷ w.behind = w.text ∙ ap (λ z. z ++ w.behind) j in let a : b ≡ 191 = cc in ([], j ∙ ap (λ z. z ∷ []) (sym a), inl refl))
      ]

  -- behind what is left of it goes a document
  mark_document : (left : List ℕ) → s.left ≡ b ∷ left → IsTail left → IsInMark s.place s.goal → Finishes new returns t (left ++ any_document.bytes) (s.marks ++ any_document.marks)
  mark_document left e h m = elim (in_mark s.place s.goal) [
    | inl n ↦ absurd (n m)
    | inr q ↦ (
        let k = mark_back q.0 q.1 (b ∷ (left ++ any_document.bytes)) any_document.marks (record { behind = any_document.bytes; text = ap (λ z. z ++ any_document.bytes) (sym e); after = any_document.rest }) in
        (p.same t (omega arith) (left ++ any_document.bytes) (s.marks ++ any_document.marks)).0 (finishes_of s r (b ∷ (left ++ any_document.bytes)) any_document.marks (omega arith, tail_steady left h) k))
  ]

-- Some bytes complete a character, in whatever way, and a document at once.
pub record Met (C : List ℕ → Type 0) (s : MachineState) (r : Bool) : Type 0 where
  pub rest : List ℕ
  pub character : C rest
  pub says : List Mark
  pub document : Finishes s r (wide 32) rest says

-- these bytes complete the character, whatever characters follow
abbrev pub Fills : (List ℕ → Type 0) → List ℕ → Type 0
Fills C more = (x : List ℕ) → IsXmlText x → C (more ++ x)

met_of : (C : List ℕ → Type 0) (s : MachineState) (r : Bool) (more : List ℕ) → Open 32 s r more → Fills C more → Met C s r
met_of C s r more o f = record { rest = more ++ o.bytes; character = f o.bytes (printable_xml o.bytes o.printable); says = o.marks; document = o.rest }

-- In the mark, its own bytes complete the character.
abbrev pub Marks : (List ℕ → Type 0) → MachineState → Type 0
Marks C s = IsInMark s.place s.goal → Fills C s.left

-- A byte that the machine and the characters take: the character before it is completed by W, that behind it by V.
module _ (W V : List ℕ → Type 0) (s : MachineState) (r : Bool) (b : ℕ) (new : MachineState) (returns : Bool) (follows : (x : List ℕ) → W (b ∷ x) ↔ V x) (p : PassesByte s r b new returns) (g : Good s.place s) where
  abbrev Goes : Type 0
  Goes = Met V new returns × Marks V new

  goes_plain : (IsInMark new.place new.goal → ⊥) → Fills V [] → Goes
  goes_plain n f = (met_of V new returns [] (open_here 32 (omega arith) new returns p.good n) f, λ m. absurd (n m))

  goes_mark : IsInMark new.place new.goal → Fills V new.left → Goes
  goes_mark m f = elim (in_mark new.place new.goal) [
    | inl n ↦ absurd (n m)
    | inr q ↦ (met_of V new returns new.left (open_mark 32 (omega arith) new returns p.good q.0 q.1) f, λ k. f)
  ]

  -- in the mark
  goes_on : 128 ≤ b → IsInMark s.place s.goal → Fills W s.left → Goes
  goes_on l m f =
      let o = mark_left_over s r b new returns l p g m in
      let n = mark_document s r b new returns l p o.0 o.1 o.2 m in
      let k : Fills V o.0 = λ x h. (follows (o.0 ++ x)).0 (subst (λ z. W (z ++ x)) o.1 (f x h)) in (
        record { rest = o.0 ++ any_document.bytes; character = k any_document.bytes (printable_xml any_document.bytes any_document.printable); says = s.marks ++ any_document.marks; document = n },
        λ i.
            let q = rests_of new returns (o.0 ++ any_document.bytes) (s.marks ++ any_document.marks) (tail_steady o.0 o.2) n in
            let w = mark_says new p.good i (o.0 ++ any_document.bytes) q.0 q.2 in
            subst (Fills V) (tail_same o.0 any_document.bytes w.behind new.left o.2 (mark_fixed new p.good i) any_document.printable w.text) k,
      )

  goes_longer : 128 ≤ b → (IsInMark s.place s.goal → ⊥) → (more : List ℕ) → Each IsMultibyte more → Fills V more → (b ≡ 239 → Fills V (187 ∷ 191 ∷ [])) → Goes
  goes_longer l n more h f first = elim (begun s r b new returns l p g n) [
    | inl o ↦ (met_of V new returns more (o more h) f, λ m. absurd (open_unmarked new returns p.good (o [] tt) m))
    | inr q ↦ goes_mark q.2 (subst (Fills V) (sym q.1) (first q.0))
  ]

  -- It leaves something to complete both, if it leaves bytes from 128 on that complete the character, or none.
  pub meets : Marks W s → (IsInMark s.place s.goal → 128 ≤ b) → (more : List ℕ) → Each IsMultibyte more → Fills V more → (b < 128 → Fills V []) → (b ≡ 239 → Fills V (187 ∷ 191 ∷ [])) → Goes
  meets m high more h f low first = elim (in_mark s.place s.goal) [
    | inl n ↦ elim (leb_tells 128 b) [
      | inl l ↦ goes_longer l.1 n more h f first
      | inr l ↦ goes_plain (p.unmarked l.1 n) (low l.1)
    ]
    | inr q ↦ (let k : IsInMark s.place s.goal = is_mark s.place s.goal q.0 q.1 in goes_on (high k) k (m k))
  ]
