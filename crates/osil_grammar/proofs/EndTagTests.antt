-- What was read at an end tag answers the tests of its kind.
use Rattle.osil_grammar.proofs.Words.{◌≡◌, ◌∙◌, ℕ, ◌<◌, ◌≤◌, inl, inr, ℤ, pos, ◌+ℤ◌, ◌*ℤ◌, List, [], ◌∷◌, ◌++◌, get_or, set, refl, ap, sym, subst, arith, Result, Ok, Err, MatchResult, ints, Finish, IsSame, sum, SumFits, Frac, ratio, ratios, Entry, IsDecimal, IsWholeText, whole_once, Unread, AllPass, FirstFails, first_with, Stop, Place, Listing, told_refusal, Refusal, ratio_at, Grammar, whole, IsOfGrammar, IsWideOf, IsUnread, State, Test, ToldRefusal, bad_text, great_text, great_cost, great_run, out_of_range, other_count, ends, tests, refusal, end_ordinal, Fails, IsIndexBelow, HasGreatEntry, limit, Ends, AddsRun, IsMatrixOf, out_of, EndAnswers, EndsAt, IsStepRun, HasGreat, unread_refusal}
use Rattle.evidence.specs.Sums as evidence
use Rattle.tag_tests.specs.declared.numbers.Unread.TheVariants as unread
use Rattle.osil_grammar.specs.declared.fault.Refusal as code
use Rattle.osil_grammar.specs.declared.stop.Refused as kept
use Rattle.tag_tests.specs.declared.marks.Stop.TheVariants.{Refused, Memory}
use Rattle.osil_grammar.specs.declared.elements.Place.TheVariants as places
use Rattle.osil_grammar.specs.declared.elements.Part.TheVariants as parts
use Rattle.osil_grammar.specs.declared.elements.Listing.TheVariants as listings
use Rattle.osil_grammar.specs.Refusals as refusals
use Rattle.osil_grammar.specs.Grammars.{decimal}
use Rattle.osil_grammar.proofs.TagNumbers.{wide_of, decimal_read, whole_read, decimal_once}

-- a refusal at an end tag
pub end_refused : {X : Type 0} (s : State) (p : Place) (Says : X → Type 0) (r : code.Refusal) (n : ℕ) (stop : Stop) → stop ≡ Refused (record { refusal = r; at = n }) → n ≡ end_ordinal s p → ((name : List ℕ) → FirstFails (Fails s (Finish name)) (refusal s (Finish name)) (tests (ends p)) (told_refusal r)) → EndAnswers s p (Err stop) Says
end_refused {X} s p Says r n stop is at h =
    subst (λ (f : Stop). EndAnswers s p (Err f) Says) (sym (is ∙ ap (λ (k : ℕ). let told : kept.Refused = record { refusal = r; at = k } in Refused told) at))
    (λ name. first_with (Fails s (Finish name)) (refusal s (Finish name)) (λ (q : Refusal). let t : ToldRefusal = record { refusal = q; at = end_ordinal s p } in t) (tests (ends p)) (told_refusal r) (h name))

-- the text of a `coef` or an `el` isn't a number that is read
pub text_refused : (s : State) (name : List ℕ) (g : Grammar) (u : Unread) (more : List Test) (r : Refusal) → IsUnread u g s.text → r ≡ unread_refusal u → FirstFails (Fails s (Finish name)) (refusal s (Finish name)) (bad_text g ∷ great_text g ∷ more) r
text_refused s name g unread.NotNumber more r h is = inl (h, is)
text_refused s name g unread.Wide more r h is = inr ((λ b. b (wide_of g s.text h)), inl (h, is))

text_behind : (s : State) (name : List ℕ) (g : Grammar) (t : Test) (r : Refusal) → IsOfGrammar g s.text × (IsWideOf g s.text → ⊥) → Fails s (Finish name) t → r ≡ refusal s (Finish name) t → FirstFails (Fails s (Finish name)) (refusal s (Finish name)) (bad_text g ∷ great_text g ∷ t ∷ []) r
text_behind s name g t r h fails is = inr ((λ b. b h.0), inr (h.1, inl (fails, is)))

text_pass : (s : State) (name : List ℕ) (g : Grammar) (t : Test) → IsOfGrammar g s.text × (IsWideOf g s.text → ⊥) → (Fails s (Finish name) t → ⊥) → AllPass (Fails s (Finish name)) (bad_text g ∷ great_text g ∷ t ∷ [])
text_pass s name g t h passes = ((λ b. b h.0), (h.1, (passes, tt)))

-- a cost
pub cost_great : (s : State) (name : List ℕ) (x : Frac) → IsDecimal s.text (ratio x) → (SumFits (get_or (ratios s.costs) s.variable evidence.none) (ratio x) → ⊥) → FirstFails (Fails s (Finish name)) (refusal s (Finish name)) (tests (ends places.Coef)) refusals.Wide
cost_great s name x reads wide = text_behind s name decimal great_cost refusals.Wide (decimal_read s.text x reads) (record { cost = x; reads = reads; wide = wide }) refl

pub cost_added : (s : State) (x y : Frac) (cs : List Frac) → IsDecimal s.text (ratio x) → cs ≡ set s.costs s.variable y → IsSame (ratio y) (sum (get_or (ratios s.costs) s.variable evidence.none) (ratio x)) → SumFits (get_or (ratios s.costs) s.variable evidence.none) (ratio x) → (name : List ℕ) → AllPass (Fails s (Finish name)) (tests (ends places.Coef)) × Ends s places.Coef (record s { place = places.Obj; costs = cs })
cost_added s x y cs reads is same fits name = (
  text_pass s name decimal great_cost (decimal_read s.text x reads) (λ h. h.wide (subst (λ (z : Frac). SumFits (get_or (ratios s.costs) s.variable evidence.none) (ratio z)) (decimal_once s.text x h.cost reads h.reads) fits)),
  (x, y, reads, same, ap (λ (l : List Frac). let z : State = record s { place = places.Obj; costs = l } in z) is),
)

-- a run of values
pub run_great : (s : State) (name : List ℕ) (x : Frac) → IsDecimal s.text (ratio x) → HasGreat x s.step s.times → FirstFails (Fails s (Finish name)) (refusal s (Finish name)) (tests (ends (places.El listings.Values))) refusals.Wide
run_great s name x reads h = text_behind s name decimal great_run refusals.Wide (decimal_read s.text x reads) (record { first = x; begins = reads; great = h }) refl

pub run_added : (s : State) (x : Frac) (added vs : List Frac) → IsDecimal s.text (ratio x) → IsStepRun x s.step s.times added → vs ≡ s.values ++ added → (name : List ℕ) → AllPass (Fails s (Finish name)) (tests (ends (places.El listings.Values))) × Ends s (places.El listings.Values) (record s { place = places.Listed listings.Values; values = vs })
run_added s x added vs reads run is name = (
  text_pass s name decimal great_run (decimal_read s.text x reads) (λ h. let g = h.great in g.2 (subst (λ (z : Frac). SumFits (ratio_at (ratio z) (ratio s.step) g.0) (ratio s.step)) (decimal_once s.text x h.first reads h.begins) (run.1 g.0 g.1))),
  (x, added, reads, run.0, ap (λ (l : List Frac). let z : State = record s { place = places.Listed listings.Values; values = l } in z) is),
)

-- a run of whole numbers
pub whole_out : (s : State) (name : List ℕ) (l : Listing) (z : ℤ) → (l ≡ listings.Values → ⊥) → IsWholeText s.text z → (k : ℕ) × (k < s.times) × (IsIndexBelow (z +ℤ pos k *ℤ s.whole_step) (limit s l) → ⊥) → FirstFails (Fails s (Finish name)) (refusal s (Finish name)) (tests (ends (places.El l))) refusals.Index
whole_out s name listings.Values z other reads h = absurd (other refl)
whole_out s name l z other reads h = text_behind s name whole (out_of_range l) refusals.Index (whole_read s.text z reads) (record { first = z; begins = reads; k = h.0; inside = h.1; out = h.2 }) refl

whole_passes : (s : State) (name : List ℕ) (l : Listing) (z : ℤ) → IsWholeText s.text z → ((k : ℕ) → k < s.times → IsIndexBelow (z +ℤ pos k *ℤ s.whole_step) (limit s l)) → Fails s (Finish name) (out_of_range l) → ⊥
whole_passes s name l z reads inside h = h.out (subst (λ (w : ℤ). IsIndexBelow (w +ℤ pos h.k *ℤ s.whole_step) (limit s l)) (whole_once s.text z h.first reads h.begins) (inside h.k h.inside))

pub whole_text : (s : State) (name : List ℕ) (l : Listing) (u : Unread) (r : Refusal) → (l ≡ listings.Values → ⊥) → IsUnread u whole s.text → r ≡ unread_refusal u → FirstFails (Fails s (Finish name)) (refusal s (Finish name)) (tests (ends (places.El l))) r
whole_text s name listings.Values u r other h is = absurd (other refl)
whole_text s name l u r other h is = text_refused s name whole u (out_of_range l ∷ []) r h is

-- the same of what the code holds, which is that state
pub cost_ends : (s now : State) → s ≡ now → (x : Frac) (cs : List Frac) → IsDecimal now.text (ratio x) → (y : Frac) × (cs ≡ set s.costs s.variable y) × IsSame (ratio y) (sum (get_or (ratios s.costs) s.variable evidence.none) (ratio x)) × SumFits (get_or (ratios s.costs) s.variable evidence.none) (ratio x) → EndsAt {X = Unit {0}} now places.Coef (record s { place = places.Obj; costs = cs }) (Ok tt)
cost_ends s now same x cs reads h = subst (λ (n : State). IsDecimal n.text (ratio x) → EndsAt {X = Unit {0}} n places.Coef (record s { place = places.Obj; costs = cs }) (Ok tt)) same (λ r name. cost_added s x h.0 cs r h.1 h.2 h.3 name) reads

pub run_ends : (s now : State) → s ≡ now → (x : Frac) (vs : List Frac) → IsDecimal now.text (ratio x) → (added : List Frac) × IsStepRun x s.step s.times added × (vs ≡ s.values ++ added) → EndsAt {X = Unit {0}} now (places.El listings.Values) (record s { place = places.Listed listings.Values; values = vs }) (Ok tt)
run_ends s now same x vs reads h = subst (λ (n : State). IsDecimal n.text (ratio x) → EndsAt {X = Unit {0}} n (places.El listings.Values) (record s { place = places.Listed listings.Values; values = vs }) (Ok tt)) same (λ r name. run_added s x h.0 vs r h.1 h.2 name) reads

-- what is so where something came of a call, or where nothing did
pub of_ok : {X E : Type 0} (r : Result X E) (x : X) (P : X → Type 0) (Q : E → Type 0) → r ≡ Ok x → MatchResult r P Q → P x
of_ok {X} {E} r x P Q is h = subst (λ (z : Result X E). MatchResult z P Q) is h

pub of_err : {X E : Type 0} (r : Result X E) (e : E) (P : X → Type 0) (Q : E → Type 0) → r ≡ Err e → MatchResult r P Q → Q e
of_err {X} {E} r e P Q is h = subst (λ (z : Result X E). MatchResult z P Q) is h

-- a run of whole numbers is added to its list
pub range_within : (z : ℤ) (n m : ℕ) → n ≤ m → IsIndexBelow z n → IsIndexBelow z m
range_within z n m most h = (h.0, (let high = h.1 in omega (arith, ints, most)))

pub whole_added : (l : Listing) (s z : State) → (l ≡ listings.Values → ⊥) → AddsRun l s z → AddsRun l (out_of s (places.El l)) (record z { place = places.Listed l })
whole_added listings.Values s z other h = absurd (other refl)
whole_added l s z other (new, adds, is) = (new, adds, ap (λ (y : State). let p : State = record y { place = places.Listed l } in p) is)

pub whole_pass : (s : State) (name : List ℕ) (l : Listing) (z : ℤ) → (l ≡ listings.Values → ⊥) → IsWholeText s.text z → ((k : ℕ) → k < s.times → IsIndexBelow (z +ℤ pos k *ℤ s.whole_step) (limit s l)) → AllPass (Fails s (Finish name)) (tests (ends (places.El l)))
whole_pass s name listings.Values z other reads inside = absurd (other refl)
whole_pass s name l z other reads inside = text_pass s name whole (out_of_range l) (whole_read s.text z reads) (whole_passes s name l z reads inside)

pub whole_ends : (l : Listing) (now after s : State) → s ≡ after → (l ≡ listings.Values → ⊥) → ((name : List ℕ) → AllPass (Fails now (Finish name)) (tests (ends (places.El l)))) → AddsRun l now after → EndsAt {X = Unit {0}} now (places.El l) (record s { place = places.Listed l }) (Ok tt)
whole_ends l now after s same other pass adds = λ name. (pass name, subst (λ (y : State). AddsRun l (out_of now (places.El l)) (record y { place = places.Listed l })) (sym same) (whole_added l now after other adds))

-- THE MATRIX: its count is another, where three lists have begun and each sum fits
pub matrix_differs : (s : State) (name : List ℕ) → 3 ≤ s.lists → (HasGreatEntry s → ⊥) → Fails s (Finish name) (other_count parts.Coefficients) → FirstFails (Fails s (Finish name)) (refusal s (Finish name)) (tests (ends (places.Part parts.Coefficients))) refusals.Count
matrix_differs s name all narrow many = inr ((λ h. let few = h.1 in omega (arith, all, few)), inr (narrow, inl (many, refl)))

-- what more is so where all tests pass
pub answers_more : {X : Type 0} (s : State) (p : Place) (r : Result X Stop) (P Q : X → Type 0) → ((x : X) → P x → Q x) → EndAnswers s p r P → EndAnswers s p r Q
answers_more s p (Ok x) P Q more h = λ name. let both = h name in (both.0, more x both.1)
answers_more s p (Err (Refused r)) P Q more h = h
answers_more s p (Err Memory) P Q more h = tt

-- its end tag is gone past, in the state that the code holds
pub matrix_ends : (s now : State) → s ≡ now → (es : List Entry) (a b : List ℕ) (c : List Frac) → a ≡ [] → b ≡ [] → c ≡ [] → ((name : List ℕ) → AllPass (Fails now (Finish name)) (tests (ends (places.Part parts.Coefficients))) × IsMatrixOf now es) → EndsAt {X = Unit {0}} now (places.Part parts.Coefficients) (record s { place = places.Data; starts = a; indices = b; values = c; entries = es }) (Ok tt)
matrix_ends s now same es a b c x y w h = λ name. let both = h name in (
  both.0,
  (
    es,
    both.1,
    ap (λ (l : List ℕ). let z : State = record s { place = places.Data; starts = l; indices = b; values = c; entries = es } in z) x
        ∙ ap (λ (l : List ℕ). let z : State = record s { place = places.Data; starts = []; indices = l; values = c; entries = es } in z) y
        ∙ ap (λ (l : List Frac). let z : State = record s { place = places.Data; starts = []; indices = []; values = l; entries = es } in z) w
        ∙ ap (λ (t : State). let z : State = record t { place = places.Data; starts = []; indices = []; values = []; entries = es } in z) same,
  ),
)
