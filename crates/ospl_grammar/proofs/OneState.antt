-- A mark that is taken leaves one state.
use Rattle.std.proofs.Common.{◌≡◌, ◌∙◌, ℕ, ◌==◌, Bool, true, false, cond, bytes_eq, get_or, Option, None, Some, List, refl, ap, sym}
use Rattle.std.specs.Prelude.{codes}
use Rattle.tree_grammar.specs.Elements.{Attribute}
use Rattle.document_tags.specs.OneChild.{IsOnly}
use Rattle.decimal_text.proofs.OneNumber.{count_once}
use Rattle.tag_tests.specs.Forms.{LeavesOne}
use Rattle.ospl_grammar.specs.declared.process.JobState.{JobState}
use Rattle.ospl_grammar.specs.declared.process.JobState.TheVariants.{Issued, Waiting, Running, Finished, Killed}
use Rattle.ospl_grammar.specs.declared.place.Place.{Place}
use Rattle.ospl_grammar.specs.declared.place.Place.TheVariants.{Request, CurrentState, CurrentCount, Total, State}
use Rattle.tag_tests.specs.declared.places.Led.{Led}
use Rattle.tag_tests.specs.declared.places.Led.TheVariants.{To, OtherRoot}
use Rattle.ospl_grammar.specs.declared.parse_state.ParseState.{ParseState}
use Rattle.ospl_grammar.specs.Words.{busy_text, state_text}
use Rattle.ospl_grammar.specs.Parts.{with_busy, with_current, with_total, with_state}
use Rattle.ospl_grammar.specs.Table.{kind, Begins, past, Ends, Leaves}
use Rattle.tag_tests.specs.Places.{Kind, begins, ends}
use Rattle.ospl_grammar.specs.Marked.{ospl}

-- words of states differ
busy_back : (busy : Bool) → bytes_eq (busy_text busy) (codes "busy") ≡ busy
busy_back true = refl
busy_back false = refl

pub same_busy : (a b : Bool) → busy_text a ≡ busy_text b → a ≡ b
same_busy a b e = sym (busy_back a) ∙ ap (λ (word : List ℕ). bytes_eq word (codes "busy")) e ∙ busy_back b

-- the state whose word has this fourth letter
abbrev by_letter : ℕ → JobState
by_letter c = cond (c == 117) Issued (cond (c == 116) Waiting (cond (c == 110) Running (cond (c == 105) Finished Killed)))

abbrev letter : List ℕ → ℕ
letter word = get_or word 3 0

state_back : (s : JobState) → by_letter (letter (state_text s)) ≡ s
state_back Issued = refl
state_back Waiting = refl
state_back Running = refl
state_back Finished = refl
state_back Killed = refl

pub same_state : (s t : JobState) → state_text s ≡ state_text t → s ≡ t
same_state s t e = sym (state_back s) ∙ ap (λ (word : List ℕ). by_letter (letter word)) e ∙ state_back t

-- what a text says, if it says one thing at most
pub only_once : {X : Type 0} (P : X → Type 0) → ((x y : X) → P x → P y → x ≡ y) → (o p : Option X) → IsOnly P o → IsOnly P p → o ≡ p
only_once P once None None a b = refl
only_once P once None (Some y) a b = absurd (a y b)
only_once P once (Some x) None a b = absurd (b x a)
only_once P once (Some x) (Some y) a b = ap (λ z. Some z) (once x y a b)

begins_once : (s : ParseState) (as' : List Attribute) (l : Led Place) (a b : ParseState) → Begins s as' l a → Begins s as' l b → a ≡ b
begins_once s as' (To Request) a b e f = e ∙ sym f
begins_once s as' OtherRoot a b e f = absurd e
begins_once s as' l a b e f = e ∙ sym f

ends_once : (s : ParseState) (p : Place) (a b : ParseState) → Ends s p a → Ends s p b → a ≡ b
ends_once s CurrentState a b (o, x, e) (q, y, f) = e ∙ ap (λ (i : Option Bool). let z : ParseState = record (past s CurrentState) { parts = with_busy s.parts i } in z) (only_once _ (λ u v p r. same_busy u v (sym p ∙ r)) o q x y) ∙ sym f
ends_once s CurrentCount a b (o, x, e) (q, y, f) = e ∙ ap (λ (i : Option ℕ). let z : ParseState = record (past s CurrentCount) { parts = with_current s.parts i } in z) (only_once _ (λ u v p r. count_once s.text u v p.0 r.0) o q x y) ∙ sym f
ends_once s Total a b (o, x, e) (q, y, f) = e ∙ ap (λ (i : Option ℕ). let z : ParseState = record (past s Total) { parts = with_total s.parts i } in z) (only_once _ (λ u v p r. count_once s.text u v p r) o q x y) ∙ sym f
ends_once s State a b (o, x, e) (q, y, f) = e ∙ ap (λ (i : Option JobState). let z : ParseState = record (past s State) { parts = with_state s.parts i } in z) (only_once _ (λ u v p r. same_state u v (sym p ∙ r)) o q x y) ∙ sym f
ends_once s p a b e f = e ∙ sym f

leaves_once : (s : ParseState) (k : Kind Place) (a b : ParseState) → Leaves s k a → Leaves s k b → a ≡ b
leaves_once s (begins l as') a b e f = begins_once s as' l a b e f
leaves_once s (ends p) a b e f = ends_once s p a b e f
leaves_once s k a b e f = e ∙ sym f

pub leaves_one : LeavesOne ospl
leaves_one s m a b p q = leaves_once s (kind s m) a b p.1 q.1
