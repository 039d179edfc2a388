-- What a step owes, from what completes it before and after.
use Rattle.doc_tree.proofs.Words.{Completes, FollowsByte, Goal, GoesBehind, Good, GoodGoal, IsDepthAllowed, IsFixed, IsInMark, List, Mark, Place, ReachesGoal, ReachesState, RestsAt, Saying, MachineState, TreeTerms, Word, [], ap, append_assoc, refl, subst, sym, ℕ, ◌++◌, ◌<◌, ◌↔◌, ◌∙◌, ◌∷◌, ◌≡◌, ◌≢◌}
use Rattle.doc_tree.specs.declared.machine.Place.TheVariants as places

-- what goes on behind the same marks goes on to the same
same_from : (before : List Mark) (A B : List ℕ → List Mark → Type 0) (x y : List ℕ) (says : List Mark) (C : Type 0) → ((es : List Mark) → A x es ↔ B y es) → GoesBehind before B y says ↔ C → GoesBehind before A x says ↔ C
same_from before A B x y says C f g = (
  λ h. g.0 (record { later = h.later; whole = h.whole; rest = (f h.later).0 h.rest }),
  λ c. let k : GoesBehind before B y says = g.1 c in record { later = k.later; whole = k.whole; rest = (f k.later).1 k.rest },
)

-- and so does what says some marks first
same_saying : (before said : List Mark) (A B : List ℕ → List Mark → Type 0) (x y : List ℕ) (says : List Mark) (C : Type 0) → ((es : List Mark) → A x es ↔ Saying said B y es) → GoesBehind (before ++ said) B y says ↔ C → GoesBehind before A x says ↔ C
same_saying before said A B x y says C f g = (
  λ h. let k : Saying said B y h.later = (f h.later).0 h.rest in g.0 (record { later = k.later; whole = h.whole ∙ ap (λ z. before ++ z) k.says ∙ sym (append_assoc before said k.later); rest = k.after }),
  λ c. let k : GoesBehind (before ++ said) B y says = g.1 c in record { later = said ++ k.later; whole = k.whole ∙ append_assoc before said k.later; rest = (f (said ++ k.later)).1 (record { later = k.later; says = refl; after = k.rest }) },
)

-- what completes a state that has the same marks
here : (before : List Mark) (new : MachineState) → before ≡ new.marks → (t : TreeTerms) (x : List ℕ) (says : List Mark) → GoesBehind before (RestsAt new.place new t) x says ↔ Completes new t x says
here before new e t x says = subst (λ z. GoesBehind before (RestsAt new.place new t) x says ↔ GoesBehind z (RestsAt new.place new t) x says) e (λ h. h, λ h. h)

module _ (before : List Mark) (A B : TreeTerms → List ℕ → List Mark → Type 0) where
  -- a tail call
  pub follows_from : (b : ℕ) (new : MachineState) → ((t : TreeTerms) → IsDepthAllowed t → (x : List ℕ) (es : List Mark) → A t (b ∷ x) es ↔ B t (b ∷ x) es) → FollowsByte before B b new → FollowsByte before A b new
  follows_from b new f h = record { good = h.good; unmarked = h.unmarked; same = λ t l x says. same_from before (A t) (B t) (b ∷ x) (b ∷ x) says (Completes new t x says) (f t l x) (h.same t l x says) }

  -- a byte before what is reached
  pub follows_reached : (b : ℕ) (new : MachineState) → ((t : TreeTerms) → IsDepthAllowed t → (x : List ℕ) (es : List Mark) → A t (b ∷ x) es ↔ B t x es) → ReachesState before B new → FollowsByte before A b new
  follows_reached b new f h = record { good = h.good; unmarked = λ l. h.unmarked; same = λ t l x says. same_from before (A t) (B t) (b ∷ x) x says (Completes new t x says) (f t l x) (h.same t l x says) }

  pub reached_from : (new : MachineState) → ((t : TreeTerms) → IsDepthAllowed t → (x : List ℕ) (es : List Mark) → A t x es ↔ B t x es) → ReachesState before B new → ReachesState before A new
  reached_from new f h = record { good = h.good; unmarked = h.unmarked; same = λ t l x says. same_from before (A t) (B t) x x says (Completes new t x says) (f t l x) (h.same t l x says) }

module _ (before : List Mark) (A : TreeTerms → List ℕ → List Mark → Type 0) where
  -- a byte that says nothing
  pub moves : (b : ℕ) (new : MachineState) → before ≡ new.marks → (b < 128 → IsInMark new.place new.goal → ⊥) → Good new.place new → ((t : TreeTerms) → IsDepthAllowed t → (x : List ℕ) (es : List Mark) → A t (b ∷ x) es ↔ RestsAt new.place new t x es) → FollowsByte before A b new
  moves b new e u good f = record { good = good; unmarked = u; same = λ t l x says. same_from before (A t) (RestsAt new.place new t) (b ∷ x) x says (Completes new t x says) (f t l x) (here before new e t x says) }

  -- the same where the place is known by an equation
  pub moves_at : (b : ℕ) (new : MachineState) (p : Place) → new.place ≡ p → before ≡ new.marks → (b < 128 → IsInMark p new.goal → ⊥) → Good p new → ((t : TreeTerms) → IsDepthAllowed t → (x : List ℕ) (es : List Mark) → A t (b ∷ x) es ↔ RestsAt p new t x es) → FollowsByte before A b new
  moves_at b new p e m u good f = moves b new m (λ l h. u l (subst (λ z. IsInMark z new.goal) e h)) (subst (λ z. Good z new) (sym e) good) (subst (λ z. (t : TreeTerms) → IsDepthAllowed t → (x : List ℕ) (es : List Mark) → A t (b ∷ x) es ↔ RestsAt z new t x es) (sym e) f)

  -- before a fixed text
  pub moves_word : (b : ℕ) (s : MachineState) (goal : Goal) (word : List ℕ) (new : MachineState) → new ≡ record s { place = places.Word; left = word; goal = goal } → before ≡ s.marks → (b < 128 → IsInMark places.Word goal → ⊥) → word ≢ [] → IsFixed goal word → GoodGoal goal (record s { place = places.Word; left = word; goal = goal }) → ((t : TreeTerms) → IsDepthAllowed t → (x : List ℕ) (es : List Mark) → A t (b ∷ x) es ↔ Word word (ReachesGoal goal (record s { place = places.Word; left = word; goal = goal }) t) x es) → FollowsByte before A b new
  moves_word b s goal word new e m u n i good f = subst (λ z. FollowsByte before A b z) (sym e) (moves b (record s { place = places.Word; left = word; goal = goal }) m u (n, i, good) f)

  -- nothing is read or said
  pub stays : (new : MachineState) → before ≡ new.marks → (IsInMark new.place new.goal → ⊥) → Good new.place new → ((t : TreeTerms) → IsDepthAllowed t → (x : List ℕ) (es : List Mark) → A t x es ↔ RestsAt new.place new t x es) → ReachesState before A new
  stays new e u good f = record { good = good; unmarked = u; same = λ t l x says. same_from before (A t) (RestsAt new.place new t) x x says (Completes new t x says) (f t l x) (here before new e t x says) }

module _ (before said : List Mark) (A B : TreeTerms → List ℕ → List Mark → Type 0) where
  -- marks are said, and then K goes on
  pub reached_saying : (new : MachineState) → ((t : TreeTerms) → IsDepthAllowed t → (x : List ℕ) (es : List Mark) → A t x es ↔ Saying said (B t) x es) → ReachesState (before ++ said) B new → ReachesState before A new
  reached_saying new f h = record { good = h.good; unmarked = h.unmarked; same = λ t l x says. same_saying before said (A t) (B t) x x says (Completes new t x says) (f t l x) (h.same t l x says) }

  pub follows_saying : (b : ℕ) (new : MachineState) → ((t : TreeTerms) → IsDepthAllowed t → (x : List ℕ) (es : List Mark) → A t (b ∷ x) es ↔ Saying said (B t) x es) → ReachesState (before ++ said) B new → FollowsByte before A b new
  follows_saying b new f h = record { good = h.good; unmarked = λ l. h.unmarked; same = λ t l x says. same_saying before said (A t) (B t) (b ∷ x) x says (Completes new t x says) (f t l x) (h.same t l x says) }
