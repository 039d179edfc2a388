-- A mark that is taken leaves one state.
use Rattle.std.proofs.Common.{◌≡◌, ◌∙◌, inl, inr, ℕ, zero, suc, ◌+◌, Some, List, [], refl, ap, sym, subst}
use Rattle.std.specs.Prelude.{codes}
use Rattle.tree_grammar.specs.Elements.{Attribute}
use Rattle.fraction.specs.declared.frac.Frac.{Frac}
use Rattle.decimal_text.proofs.OneNumber.{count_once}
use Rattle.document_tags.specs.Elements.{value_of}
use Rattle.document_tags.proofs.SomeAnd.{some_once}
use Rattle.tag_tests.specs.Forms.{LeavesOne}
use Rattle.osol_grammar.specs.declared.gaps.Gap.{Gap}
use Rattle.osol_grammar.specs.declared.limit.Limit.{Limit}
use Rattle.osol_grammar.specs.declared.limit.Limit.TheVariants.{Nodes, Turns, Rounds, Names, Form, Bound}
use Rattle.osol_grammar.specs.Limits.{IsFormWord}
use Rattle.osol_grammar.specs.declared.options.Options.{Options}
use Rattle.osol_grammar.specs.declared.place.Place.TheVariants.{Job, MaxTime, Var, SolverOption}
use Rattle.tag_tests.specs.declared.places.Led.{Led}
use Rattle.osol_grammar.specs.declared.place.Place.{Place}
use Rattle.tag_tests.specs.declared.places.Led.TheVariants.{To, OtherRoot}
use Rattle.osol_grammar.specs.declared.parse_state.ParseState.{ParseState as State}
use Rattle.osol_grammar.specs.Options.{IsAmountText, SaysAmount, with_amount, with_first, SaysOption}
use Rattle.osol_grammar.specs.Table.{kind, into, Begins, Ends, Leaves}
use Rattle.tag_tests.specs.Places.{Kind, begins, ends}
use Rattle.osol_grammar.specs.Marked.{osol}
use Rattle.osol_grammar.proofs.LimitTable.{option_once, not_gap}
use Rattle.osol_grammar.proofs.SaidGaps.{gap_once}
use Rattle.osol_grammar.proofs.SaidTimes.{time_once}
use Rattle.osol_grammar.proofs.SaidValues.{index_once, value_once}

-- a word says one form
form_once : (text : List ℕ) (n m : ℕ) → IsFormWord text n → IsFormWord text m → n ≡ m
form_once text zero zero h k = refl
form_once text zero (suc zero) h k = let clash : codes "whole" ≡ codes "rows" = sym h ∙ k in absurd (cc)
form_once text (suc zero) zero h k = let clash : codes "rows" ≡ codes "whole" = sym h ∙ k in absurd (cc)
form_once text (suc zero) (suc zero) h k = refl
form_once text (suc (suc n)) m h k = absurd h
form_once text n (suc (suc m)) h k = absurd k

amount_text_once : (l : Limit) (text : List ℕ) (n m : ℕ) → IsAmountText l text n → IsAmountText l text m → n ≡ m
amount_text_once Nodes = count_once
amount_text_once Turns = count_once
amount_text_once Rounds = count_once
amount_text_once Names = count_once
amount_text_once Form = form_once
amount_text_once Bound = count_once

amount_once : (l : Limit) (as' : List Attribute) (n m : ℕ) → SaysAmount l as' n → SaysAmount l as' m → n ≡ m
amount_once l as' n m h k = some_once (IsAmountText l) (amount_text_once l) (value_of (codes "value") as') n m h.0 k.0

says_once : (as' : List Attribute) (o p q : Options) → SaysOption as' o p → SaysOption as' o q → p ≡ q
says_once as' o p q (inl (l, n, is, says, e)) (inl (k, m, at, tells, f)) =
    let same : l ≡ k = option_once l k as' is at in
    let amounts = amount_once k as' n m (subst (λ (i : Limit). SaysAmount i as' n) same says) tells in
    e ∙ ap (λ (i : Limit). with_amount o i n) same ∙ ap (λ (x : ℕ). with_amount o k x) amounts ∙ sym f
says_once as' o p q (inr (inl (g, is, says, e))) (inr (inl (h, at, tells, f))) = e ∙ ap (λ (x : Gap). let z : Options = record o { gap = Some x } in z) (gap_once as' g h says tells) ∙ sym f
says_once as' o p q (inr (inr h)) (inr (inr g)) = h.2 ∙ sym g.2
says_once as' o p q (inl (l, n, is, says, e)) (inr (inl (h, at, tells, f))) = absurd (not_gap l as' is at)
says_once as' o p q (inl (l, n, is, says, e)) (inr (inr h)) = absurd (h.0 l is)
says_once as' o p q (inr (inl (g, is, says, e))) (inl (k, m, at, tells, f)) = absurd (not_gap k as' at is)
says_once as' o p q (inr (inl (g, is, says, e))) (inr (inr h)) = absurd (h.1 is)
says_once as' o p q (inr (inr h)) (inl (k, m, at, tells, f)) = absurd (h.0 k at)
says_once as' o p q (inr (inr h)) (inr (inl (g, at, tells, f))) = absurd (h.1 at)

begins_once : (s : State) (as' : List Attribute) (l : Led Place) (a b : State) → Begins s as' l a → Begins s as' l b → a ≡ b
begins_once s as' (To SolverOption) a b (o, x, e) (p, y, f) = e ∙ ap (λ (q : Options). let z : State = record (into s SolverOption) { options = q } in z) (says_once as' s.options o p x y) ∙ sym f
begins_once s as' (To MaxTime) a b (n, is, e) (m, at, f) =
    let both : Some n ≡ Some m = sym is ∙ at in
    let same : n ≡ m = cc in
    e ∙ ap (λ (u : ℕ). let z : State = record (into s MaxTime) { time_at = s.count + 1; unit = u; text = [] } in z) same ∙ sym f
begins_once s as' (To Var) a b (n, x, is, says, e) (m, y, at, tells, f) =
    let same : n ≡ m = index_once as' n m is at in
    let value : x ≡ y = value_once as' x y says tells in
    e ∙ ap (λ (i : ℕ). let z : State = record (into s Var) { options = with_first s.options i x } in z) same ∙ ap (λ (v : Frac). let z : State = record (into s Var) { options = with_first s.options m v } in z) value ∙ sym f
begins_once s as' OtherRoot a b e f = absurd e
begins_once s as' l a b e f = e ∙ sym f

ends_once : (s : State) (p : Place) (a b : State) → Ends s p a → Ends s p b → a ≡ b
ends_once s MaxTime a b (x, says, e) (y, tells, f) = e ∙ ap (λ (t : Frac). let z : State = record s { place = Job; options = record s.options { seconds = Some t } } in z) (time_once s.unit s.text x y says tells) ∙ sym f
ends_once s p a b e f = e ∙ sym f

leaves_once : (s : State) (k : Kind Place) (a b : State) → Leaves s k a → Leaves s k b → a ≡ b
leaves_once s (begins l as') a b e f = begins_once s as' l a b e f
leaves_once s (ends p) a b e f = ends_once s p a b e f
leaves_once s k a b e f = e ∙ sym f

pub leaves_one : LeavesOne osol
leaves_one s m a b p q = leaves_once s (kind s m) a b p.1 q.1
