-- Steps of states in comments, instructions and CDATA sections.
use Rattle.doc_tree.proofs.Words.{After, Around, Attribute, Before, Char, CommentRest, FirstOver, FollowsByte, Good, GoodGoal, InElement, Insides, IsInMark, IsNameChar, IsNameRest, IsNameStart, IsSpecial, List, Mark, Never, PiNamed, PiOver, PiRest, Place, QuestionAt, ReachesGoal, ReachesState, RestsAt, RootOrType, Round, Saying, SectionRest, MachineState, Stuck, TreeTerms, Word, [], ap, arith, codes, inl, inr, map, pending_brackets, refl, subst, suc, sym, zero, ℕ, ◌++◌, ◌+◌, ◌<◌, ◌↔◌, ◌∙◌, ◌∷◌, ◌≡◌, ◌≢◌, ◌≤◌}
use Rattle.doc_tree.specs.declared.declaration.Field.TheVariants as fields
use Rattle.doc_tree.specs.declared.machine.Goal.TheVariants as goals
use Rattle.doc_tree.specs.declared.names.Part.TheVariants as parts
use Rattle.doc_tree.specs.declared.machine.Round.TheVariants as rounds
use Rattle.doc_tree.specs.declared.machine.Place.TheVariants as places
use Rattle.doc_tree.proofs.MachineSteps.Moves.{moves, moves_at, follows_saying, stays}
use Rattle.doc_tree.proofs.MachineSteps.Steps.{at_byte, at_place}
use Rattle.doc_tree.proofs.ByteGrammar.{after_round, before_round, content_bang, content_dash, content_question, first_declares, first_instructs, first_over_high, marked_question, name_first, name_next, name_none, name_over, no_type, pi_over_high, round_bang, round_dash, round_question, section_end, section_run, section_three}

-- behind `<!` and `<?`, wherever they stand
module _ (u : TreeTerms) where
  pub around_dash : (round : Round) (names : List (List ℕ)) (x : List ℕ) (es : List Mark) → Around round names u (60 ∷ 33 ∷ 45 ∷ x) es ↔ Word (45 ∷ []) (CommentRest (Around round names u)) x es
  around_dash rounds.Prolog names x es = round_dash (Before u) (RootOrType u) (before_round u) x es
  around_dash rounds.Content names x es = content_dash u names x es
  around_dash rounds.Epilog names x es = round_dash (After u) Never (after_round u) x es

  pub around_no : (round : Round) (names : List (List ℕ)) (b : ℕ) (x : List ℕ) (es : List Mark) → b ≢ 45 → b ≢ 91 → (round ≡ rounds.Prolog → b ≡ 68 → IsSpecial u.aim → ⊥) → Around round names u (60 ∷ 33 ∷ b ∷ x) es → ⊥
  around_no rounds.Prolog names b x es n m k h = round_bang (Before u) (RootOrType u) (before_round u) b x es n (no_type u b x es (k refl)) h
  around_no rounds.Content names b x es n m k h = content_bang u names b x es n m h
  around_no rounds.Epilog names b x es n m k h = round_bang (After u) Never (after_round u) b x es n (λ z. z) h

  pub around_outside : (round : Round) (names : List (List ℕ)) (x : List ℕ) (es : List Mark) → round ≢ rounds.Content → Around round names u (60 ∷ 33 ∷ 91 ∷ x) es → ⊥
  around_outside rounds.Prolog names x es n h = round_bang (Before u) (RootOrType u) (before_round u) 91 x es (λ e. omega arith) (no_type u 91 x es (λ e i. omega arith)) h
  around_outside rounds.Content names x es n h = n refl
  around_outside rounds.Epilog names x es n h = round_bang (After u) Never (after_round u) 91 x es (λ e. omega arith) (λ z. z) h

  pub around_mark : (round : Round) (names : List (List ℕ)) (x : List ℕ) (es : List Mark) → Around round names u (60 ∷ 63 ∷ x) es ↔ PiRest (Around round names u) x es
  around_mark rounds.Prolog names x es = round_question (Before u) (RootOrType u) (before_round u) x es
  around_mark rounds.Content names x es = content_question u names x es
  around_mark rounds.Epilog names x es = round_question (After u) Never (after_round u) x es

pub bang_no : (u : TreeTerms) (s : MachineState) (b : ℕ) → b ≢ 45 → b ≢ 91 → (s.round ≡ rounds.Prolog → b ≡ 68 → IsSpecial u.aim → ⊥) → (x : List ℕ) (es : List Mark) → RestsAt places.Bang s u (b ∷ x) es → ⊥
bang_no u s b n m k x es h = around_no u s.round s.names b x es n m k h

-- a section
pending_more : (n : ℕ) (x : List ℕ) → pending_brackets n (93 ∷ x) ≡ pending_brackets (suc n) x
pending_more zero x = refl
pending_more (suc n) x = ap (λ z. 93 ∷ z) (pending_more n x)

abbrev S : MachineState → ℕ → TreeTerms → List ℕ → List Mark → Type 0
S s n u bytes = SectionRest 0 (Insides 0 s.names u) (pending_brackets n bytes)

at_count : (s : MachineState) (n : ℕ) (b : ℕ) (new : MachineState) → s.count ≡ n → FollowsByte s.marks (S s n) b new → FollowsByte s.marks (RestsAt places.Section s) b new
at_count s n b new e h = subst (λ z. FollowsByte s.marks (S s z) b new) (sym e) h

pub section_waits : (s : MachineState) (count : ℕ) → count ≡ s.count + 1 → s.count < 2 → s.place ≡ places.Section → Good places.Section s → FollowsByte s.marks (RestsAt places.Section s) 93 (record s { count = count })
section_waits s count e l p g =
    let k : suc s.count ≡ count = omega arith in
    moves_at s.marks (RestsAt places.Section s) 93 (record s { count = count }) places.Section p refl (λ l h. h) (g.0, omega arith) (λ u d x es. subst (λ z. SectionRest 0 (Insides 0 s.names u) (pending_brackets s.count (93 ∷ x)) es ↔ SectionRest 0 (Insides 0 s.names u) z es) (pending_more s.count x ∙ ap (λ z. pending_brackets z x) k) (λ h. h, λ h. h))

pub section_over : (s : MachineState) (b : ℕ) → b ≡ 62 → 2 ≤ s.count → Good places.Section s → FollowsByte s.marks (RestsAt places.Section s) b (record s { count = 0; place = places.Content })
section_over s b e l g =
    let k = g.1 in
    let T : MachineState = record s { count = 0; place = places.Content } in
    at_byte s.marks (RestsAt places.Section s) b 62 T e (at_count s 2 62 T (omega arith) (moves s.marks (S s 2) 62 T refl (λ l h. h) g.0 (λ u d x es. section_end (Insides 0 s.names u) x es)))

section_here : (t : MachineState) (n : ℕ) → t.place ≡ places.Section → t.count ≡ n → n ≤ 2 → InElement t.names t.kept → ReachesState t.marks (S t n) t
section_here t n p c l k = stays t.marks (S t n) t refl (λ h. subst (λ z. IsInMark z t.goal) p h) (at_place (λ z. Good z t) t.place places.Section p (k, subst (λ z. z ≤ 2) (sym c) l)) (λ u d x es. at_place (λ z. S t n u x es ↔ RestsAt z t u x es) t.place places.Section p (subst (λ z. S t n u x es ↔ S t z u x es) (sym c) (λ h. h, λ h. h)))

-- what is told goes on in the section
says_on : (s : MachineState) (n m b : ℕ) (text : List ℕ) (marks : List Mark) (kept : List Attribute) → s.count ≡ n → m ≤ 2 → marks ≡ s.marks ++ map Char text → InElement s.names kept → s.place ≡ places.Section → ((u : TreeTerms) (x : List ℕ) (es : List Mark) → S s n u (b ∷ x) es ↔ Saying (map Char text) (S s m u) x es) → FollowsByte s.marks (RestsAt places.Section s) b (record s { count = m; kept = kept; marks = marks })
says_on s n m b text marks kept c l e k p f =
    let t : MachineState = record s { count = m; kept = kept; marks = marks } in
    at_count s n b t c (follows_saying s.marks (map Char text) (S s n) (S s m) b t (λ u d x es. f u x es) (subst (λ z. ReachesState z (S s m) t) e (section_here t m p refl l k)))

pub section_third : (s : MachineState) (marks : List Mark) (kept : List Attribute) → marks ≡ s.marks ++ map Char (93 ∷ []) → InElement s.names kept → (s.count < 2 → ⊥) → s.place ≡ places.Section → Good places.Section s → FollowsByte s.marks (RestsAt places.Section s) 93 (record s { kept = kept; marks = marks })
section_third s marks kept e k n p g =
    let l = g.1 in let c : s.count ≡ 2 = omega arith in
    let t : MachineState = record s { kept = kept; marks = marks } in
    at_count s 2 93 t c (follows_saying s.marks (map Char (93 ∷ [])) (S s 2) (S s 2) 93 t (λ u d x es. let k = section_three (Insides 0 s.names u) x es in (λ h. let a = k.0 h in record { later = a.later; says = a.says; after = a.after }, λ h. k.1 (record { later = h.later; says = h.says; after = h.after }))) (subst (λ z. ReachesState z (S s 2) t) e (section_here t 2 p c (omega arith) k)))

pub section_said : (s : MachineState) (b : ℕ) (marks : List Mark) (kept : List Attribute) → marks ≡ s.marks ++ map Char (b ∷ []) → InElement s.names kept → s.count ≡ 0 → s.place ≡ places.Section → b ≢ 93 → FollowsByte s.marks (RestsAt places.Section s) b (record s { kept = kept; marks = marks })
section_said s b marks kept e k c p n =
    let t : MachineState = record s { kept = kept; marks = marks } in
    at_count s 0 b t c (follows_saying s.marks (map Char (b ∷ [])) (S s 0) (S s 0) b t (λ u d x es. section_run (Insides 0 s.names u) 0 b x es (omega arith) n (λ h. absurd (omega arith))) (subst (λ z. ReachesState z (S s 0) t) e (section_here t 0 p c (omega arith) k)))

pub section_said_one : (s : MachineState) (b : ℕ) (marks : List Mark) (kept : List Attribute) → marks ≡ s.marks ++ map Char (93 ∷ b ∷ []) → InElement s.names kept → s.count ≡ 1 → s.place ≡ places.Section → b ≢ 93 → FollowsByte s.marks (RestsAt places.Section s) b (record s { count = 0; kept = kept; marks = marks })
section_said_one s b marks kept e k c p n = says_on s 1 0 b (93 ∷ b ∷ []) marks kept c (omega arith) e k p (λ u x es. section_run (Insides 0 s.names u) 1 b x es (omega arith) n (λ h. absurd (omega arith)))

pub section_said_two : (s : MachineState) (b : ℕ) (marks : List Mark) (kept : List Attribute) → marks ≡ s.marks ++ map Char (93 ∷ 93 ∷ b ∷ []) → InElement s.names kept → s.count ≡ 2 → s.place ≡ places.Section → b ≢ 93 → b ≢ 62 → FollowsByte s.marks (RestsAt places.Section s) b (record s { count = 0; kept = kept; marks = marks })
section_said_two s b marks kept e k c p n m = says_on s 2 0 b (93 ∷ 93 ∷ b ∷ []) marks kept c (omega arith) e k p (λ u x es. section_run (Insides 0 s.names u) 2 b x es (omega arith) n (λ h. m))

-- the first byte of an instruction's name
pub question_goes : (s : MachineState) (to : Place) (b : ℕ) (name : List ℕ) → name ≡ b ∷ [] → QuestionAt s to → IsNameStart b → FollowsByte s.marks (RestsAt s.place s) b (record s { name = name; place = to })
question_goes s to b name e (inl p) i =
    let N : List ℕ → MachineState = λ n. record s { name = n; place = to } in
    subst (λ n. FollowsByte s.marks (RestsAt s.place s) b (N n)) (sym e) (at_place (λ z. FollowsByte s.marks (RestsAt z s) b (N (b ∷ []))) s.place places.FirstQuestion p.0 (moves_at s.marks (RestsAt places.FirstQuestion s) b (N (b ∷ [])) places.FirstName p.1 refl (λ l h. h) p.2 (λ u d x es.
    let a = marked_question u (b ∷ x) es in let c = name_first (λ n. FirstOver n u) b x es i in (λ h. c.0 (a.0 h), λ h. a.1 (c.1 h)))))
question_goes s to b name e (inr p) i =
    let N : List ℕ → MachineState = λ n. record s { name = n; place = to } in
    subst (λ n. FollowsByte s.marks (RestsAt s.place s) b (N n)) (sym e) (at_place (λ z. FollowsByte s.marks (RestsAt z s) b (N (b ∷ []))) s.place places.Question p.0 (moves_at s.marks (RestsAt places.Question s) b (N (b ∷ [])) places.PiName p.1 refl (λ l h. h) p.2 (λ u d x es.
    let a = around_mark u s.round s.names (b ∷ x) es in let c = name_first (λ n. PiOver n (Around s.round s.names u)) b x es i in (λ h. c.0 (a.0 h), λ h. a.1 (c.1 h)))))

pub question_no : (s : MachineState) (to : Place) (b : ℕ) → QuestionAt s to → (IsNameStart b → ⊥) → Stuck (RestsAt s.place s) b
question_no s to b (inl p) n = at_place (λ z. Stuck (RestsAt z s) b) s.place places.FirstQuestion p.0 (record { none = λ u d x es h. name_none (λ m. FirstOver m u) b x es n ((marked_question u (b ∷ x) es).0 h) })
question_no s to b (inr p) n = at_place (λ z. Stuck (RestsAt z s) b) s.place places.Question p.0 (record { none = λ u d x es h. name_none (λ m. PiOver m (Around s.round s.names u)) b x es n ((around_mark u s.round s.names (b ∷ x) es).0 h) })

-- a name goes on, or is over
local_more : (b : ℕ) → IsNameChar b → (run : List ℕ) → IsNameRest parts.Local (b ∷ run) ↔ IsNameRest parts.Local run
local_more b i run = (λ h. h.1, λ h. (i, h))

local_none : (b : ℕ) → (IsNameChar b → ⊥) → (run : List ℕ) → IsNameRest parts.Local (b ∷ run) → ⊥
local_none b n run h = n h.0

pub first_more : (s : MachineState) (b : ℕ) (name : List ℕ) → name ≡ s.name ++ (b ∷ []) → s.place ≡ places.FirstName → Good places.FirstName s → IsNameChar b → FollowsByte s.marks (RestsAt places.FirstName s) b (record s { name = name })
first_more s b name e p g i = subst (λ z. FollowsByte s.marks (RestsAt places.FirstName s) b (record s { name = z })) (sym e) (moves_at s.marks (RestsAt places.FirstName s) b (record s { name = s.name ++ (b ∷ []) }) places.FirstName p refl (λ l h. h) g (λ u d x es. name_next (λ m. FirstOver m u) s.name parts.Local parts.Local b x es (local_more b i) (λ m y fs k h. first_over_high u b m y fs k h)))

pub first_xml : (u : TreeTerms) (s : MachineState) (b : ℕ) (x : List ℕ) (es : List Mark) → (IsNameChar b → ⊥) → s.name ≡ codes "xml" → RestsAt places.FirstName s u (b ∷ x) es ↔ RestsAt places.FieldGap (record s { field = fields.Before }) u (b ∷ x) es
first_xml u s b x es n e = let a = name_over (λ m. FirstOver m u) s.name parts.Local b x es (local_none b n) tt in let c = first_declares u s.name (b ∷ x) es e in (λ h. c.0 (a.0 h), λ h. a.1 (c.1 h))

pub first_other : (u : TreeTerms) (s : MachineState) (b : ℕ) (x : List ℕ) (es : List Mark) → (IsNameChar b → ⊥) → s.name ≢ codes "xml" → RestsAt places.FirstName s u (b ∷ x) es ↔ PiNamed (record s { round = rounds.Prolog }) u (b ∷ x) es
first_other u s b x es n m = let a = name_over (λ m. FirstOver m u) s.name parts.Local b x es (local_none b n) tt in let c = first_instructs u s.name (b ∷ x) es m in (λ h. c.0 (a.0 h), λ h. a.1 (c.1 h))

pub pi_more : (s : MachineState) (b : ℕ) (name : List ℕ) → name ≡ s.name ++ (b ∷ []) → s.place ≡ places.PiName → Good places.PiName s → IsNameChar b → FollowsByte s.marks (RestsAt places.PiName s) b (record s { name = name })
pi_more s b name e p g i = subst (λ z. FollowsByte s.marks (RestsAt places.PiName s) b (record s { name = z })) (sym e) (moves_at s.marks (RestsAt places.PiName s) b (record s { name = s.name ++ (b ∷ []) }) places.PiName p refl (λ l h. h) g (λ u d x es. name_next (λ m. PiOver m (Around s.round s.names u)) s.name parts.Local parts.Local b x es (local_more b i) (λ m y fs k h. pi_over_high (Around s.round s.names u) b m y fs k h)))

pub pi_over : (u : TreeTerms) (s : MachineState) (b : ℕ) (x : List ℕ) (es : List Mark) → (IsNameChar b → ⊥) → RestsAt places.PiName s u (b ∷ x) es ↔ PiNamed s u (b ∷ x) es
pi_over u s b x es n = name_over (λ m. PiOver m (Around s.round s.names u)) s.name parts.Local b x es (local_none b n) tt

-- goals that are reached
pub reach_section : (s : MachineState) → s.goal ≡ goals.Section → GoodGoal s.goal s → ReachesState s.marks (ReachesGoal s.goal s) (record s { count = 0; place = places.Section })
reach_section s e k =
    let t : MachineState = record s { count = 0; place = places.Section } in
    let g : InElement s.names s.kept = subst (λ z. GoodGoal z s) e k in
    subst (λ z. ReachesState s.marks (ReachesGoal z s) t) (sym e) (stays s.marks (ReachesGoal goals.Section s) t refl (λ h. h) (g, omega arith) (λ u d x es. (λ h. h, λ h. h)))

pub reach_around : (s new : MachineState) → s.goal ≡ goals.Around → ReachesState s.marks (Around s.round s.names) new → ReachesState s.marks (ReachesGoal s.goal s) new
reach_around s new e r = subst (λ z. ReachesState s.marks (ReachesGoal z s) new) (sym e) r
