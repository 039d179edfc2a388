-- Fixed texts, references and attributes that are whole; and the machine's ends.
use Rattle.doc_tree.proofs.Words.{After, Attribute, Behind, BehindReference, BehindValue, Char, Completes, FollowsByte, Goal, Good, GoodGoal, GoodReference, GoodTag, HoldsKey, InElement, Insides, IsFixed, IsInMark, List, Mark, Place, ReachesGoal, ReachesState, RestsAt, MachineState, TreeTerms, Word, [], ap, append-nil, arith, cond, drop, drop-cons, false, get_or, inl, inr, is_kept, keep, length, map, misc_over, refl, subst, sym, true, ℕ, ◌++◌, ◌+◌, ◌<◌, ◌↔◌, ◌∙◌, ◌∷◌, ◌≡◌, ◌≢◌}
use Rattle.doc_tree.specs.declared.machine.Goal.TheVariants as goals
use Rattle.doc_tree.specs.declared.machine.Place.TheVariants as places
use Rattle.doc_tree.proofs.Behind.{good_goal, in_goal}
use Rattle.doc_tree.proofs.MachineSteps.Moves.{moves_at, follows_reached, reached_from, reached_saying, stays}
use Rattle.doc_tree.proofs.ByteGrammar.{word_back, word_first, word_last}
use Rattle.doc_tree.proofs.MachineSteps.Steps.{at_here}
use Rattle.doc_tree.proofs.MachineSteps.Loops.{drop_at}

-- an attribute is whole
attribute_over : (s : MachineState) → GoodTag s → (kept : List Attribute) (marks : List Mark) → kept ≡ keep s.key s.value s.kept → s.marks ≡ marks → ReachesState s.marks (BehindValue s s.value) (record s { place = places.TagAfter; keys = s.keys ++ (s.key ∷ []); key = []; kept = kept; marks = marks })
attribute_over s g kept marks f m =
    let T : List Attribute → MachineState = λ ats. record s { place = places.TagAfter; keys = s.keys ++ (s.key ∷ []); key = []; kept = ats; marks = marks } in
    subst (λ z. ReachesState s.marks (BehindValue s s.value) (T z)) (sym f) (stays s.marks (BehindValue s s.value) (T (keep s.key s.value s.kept)) m (λ h. h) g (λ u d x es. (λ h. h, λ h. h)))

pub kept_is : (key value : List ℕ) (kept new : List Attribute) → true ≡ is_kept key → new ≡ kept ++ (record { name = key; value = value } ∷ []) → new ≡ keep key value kept
kept_is key value kept new e f = f ∙ ap (λ z. kept ++ cond z (record { name = key; value = value } ∷ []) []) e

-- what is left of a fixed text
fixed_left : (g : Goal) (b : ℕ) (left : List ℕ) → left ≢ [] → IsFixed g (b ∷ left) → IsFixed g left
fixed_left goals.Marked b left n (inl e) = inr (cc)
fixed_left goals.Marked b left n (inr e) = absurd (n (cc))
fixed_left _ b left n h = h.1

-- in the byte order mark no byte is of ASCII
fixed_high : (g : Goal) (b : ℕ) (left : List ℕ) → left ≢ [] → IsFixed g (b ∷ left) → b < 128 → IsInMark places.Word g → ⊥
fixed_high goals.Marked b left n (inl e) l h = let k : b ≡ 187 = cc in omega arith
fixed_high goals.Marked b left n (inr e) l h = n (cc)
fixed_high _ b left n f l h = h

-- a fixed text
pub word_goes : (s : MachineState) (b : ℕ) (left : List ℕ) → s.left ≡ b ∷ left → left ≢ [] → s.place ≡ places.Word → IsFixed s.goal s.left → GoodGoal s.goal s → FollowsByte s.marks (RestsAt places.Word s) b (record s { left = left })
word_goes s b left e n p i g =
    let t : MachineState = record s { left = left } in
    let f : IsFixed s.goal (b ∷ left) = subst (IsFixed s.goal) e i in
    moves_at s.marks (RestsAt places.Word s) b t places.Word p refl (fixed_high s.goal b left n f) (n, fixed_left s.goal b left n f, subst (λ z. z) (sym (good_goal s.goal s left s.marks)) g) (λ u d x es.
    subst (λ z. Word z (ReachesGoal s.goal s u) (b ∷ x) es ↔ Word left (ReachesGoal s.goal t u) x es) (sym e) (subst (λ k. Word (b ∷ left) (ReachesGoal s.goal s u) (b ∷ x) es ↔ Word left k x es) (sym (in_goal s.goal s left s.marks u)) (λ h. (word_first (ReachesGoal s.goal s u) b left b x es h).1, λ h. word_back (ReachesGoal s.goal s u) b left x es h)))

pub word_ends : (s : MachineState) (b : ℕ) (new : MachineState) → s.left ≡ b ∷ [] → ReachesState s.marks (ReachesGoal s.goal s) new → FollowsByte s.marks (RestsAt places.Word s) b new
word_ends s b new e r = follows_reached s.marks (RestsAt places.Word s) (ReachesGoal s.goal s) b new (λ u d x es. subst (λ z. Word z (ReachesGoal s.goal s u) (b ∷ x) es ↔ ReachesGoal s.goal s u x es) (sym e) (word_last (ReachesGoal s.goal s u) b x es)) r

-- a reference to a number
pub attribute_done : (s t new : MachineState) → GoodTag s → t.kept ≡ keep s.key s.value s.kept → s.marks ≡ t.marks → t ≡ record s { kept = t.kept; marks = t.marks } → HoldsKey t new → ReachesState s.marks (BehindValue s s.value) new
attribute_done s t new g f m e q = subst (λ z. ReachesState s.marks (BehindValue s s.value) z) (sym (q ∙ ap {A = MachineState} (λ z. record z { place = places.TagAfter; keys = z.keys ++ (z.key ∷ []); key = [] }) e)) (attribute_over s g t.kept t.marks f m)

-- a goal that only moves on
pub reach_place : (s : MachineState) (g : Goal) (p : Place) → s.goal ≡ g → GoodGoal s.goal s → (GoodGoal g s → Good p (record s { place = p })) → (IsInMark p s.goal → ⊥) → ((u : TreeTerms) (x : List ℕ) (es : List Mark) → ReachesGoal g s u x es ↔ RestsAt p (record s { place = p }) u x es) → ReachesState s.marks (ReachesGoal s.goal s) (record s { place = p })
reach_place s g p e k f n h = subst (λ z. ReachesState s.marks (ReachesGoal z s) (record s { place = p })) (sym e) (stays s.marks (ReachesGoal g s) (record s { place = p }) refl n (f (subst (λ z. GoodGoal z s) e k)) (λ u d. h u))

-- a reference in a value
pub emit_value : (s : MachineState) (cs v : List ℕ) → v ≡ s.value ++ cs → s.in_value ≡ true → GoodReference s.in_value s → ReachesState s.marks (BehindReference s cs) (record s { place = places.Value; value = v })
emit_value s cs v e i g = subst (λ z. ReachesState s.marks (BehindReference s cs) (record s { place = places.Value; value = z })) (sym e) (subst (λ z. ReachesState s.marks (λ u. Behind z s u cs) (record s { place = places.Value; value = s.value ++ cs })) (sym i) (stays s.marks (λ u. Behind true s u cs) (record s { place = places.Value; value = s.value ++ cs }) refl (λ h. h) (subst (λ z. GoodReference z s) i g) (λ u d x es. (λ h. h, λ h. h))))

-- a reference in content
pub emit_said : (s : MachineState) (cs : List ℕ) (kept : List Attribute) (marks : List Mark) → marks ≡ s.marks ++ map Char cs → InElement s.names kept → s.in_value ≡ false → ReachesState s.marks (BehindReference s cs) (record s { place = places.Content; count = 0; kept = kept; marks = marks })
emit_said s cs kept marks m k i = let T : MachineState = record s { place = places.Content; count = 0; kept = kept; marks = marks } in
    subst (λ z. ReachesState s.marks (λ u. Behind z s u cs) T) (sym i) (reached_saying s.marks (map Char cs) (λ u. Behind false s u cs) (Insides 0 s.names) T (λ u d x es. (λ h. h, λ h. h)) (subst (λ z. ReachesState z (Insides 0 s.names) T) m (at_here T refl k)))

-- the document is whole
pub finish_whole : (s : MachineState) → s.place ≡ places.Epilog → (u : TreeTerms) (says : List Mark) → Completes s u [] says ↔ (says ≡ s.marks)
finish_whole s e u says = (
  (λ h. let a : After u [] h.later = subst (λ z. RestsAt z s u [] h.later) e h.rest in h.whole ∙ ap (λ z. s.marks ++ z) a.says ∙ append-nil s.marks),
  (λ q. let a : After u [] [] = record { misc = misc_over; text = refl; says = refl } in record { later = []; whole = q ∙ sym (append-nil s.marks); rest = subst (λ z. RestsAt z s u [] []) (sym e) a }),
)

pub left_at : (ws : List ℕ) (m x b : ℕ) → m < length ws → x ≡ get_or ws m x → x ≡ b → drop m ws ≡ b ∷ drop (m + 1) ws
left_at ws m x b l e q = drop_at ws m x l e ∙ ap (λ z. z ∷ drop (m + 1) ws) q

pub drop_some : (xs : List ℕ) (i : ℕ) → i < length xs → drop i xs ≢ []
drop_some xs i l e = let d = drop-cons xs i 0 l in cc

pub word_reaches : (s : MachineState) (b : ℕ) (left : List ℕ) (new : MachineState) → s.left ≡ b ∷ left → left ≡ [] → ReachesState s.marks (ReachesGoal s.goal (record s { left = left })) new → FollowsByte s.marks (RestsAt places.Word s) b new
word_reaches s b left new e n r = word_ends s b new (e ∙ ap (λ z. b ∷ z) n) (reached_from s.marks (ReachesGoal s.goal s) (ReachesGoal s.goal (record s { left = left })) new (λ u d x es. subst (λ k. k x es ↔ ReachesGoal s.goal (record s { left = left }) u x es) (in_goal s.goal s left s.marks u) (λ h. h, λ h. h)) r)
