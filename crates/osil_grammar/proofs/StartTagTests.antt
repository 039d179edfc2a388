-- What was read at a start tag answers the tests of its kind.
use Rattle.osil_grammar.proofs.Words.{◌≡◌, Ratio, IsEndAt, ◌∙◌, ◌⊎◌, inl, inr, ℕ, ◌+◌, ◌<◌, ◌≤◌, List, [], ◌∷◌, ◌++◌, refl, ap, sym, subst, arith, Option, None, Some, MatchOption, IsSomeAnd, Result, Ok, Err, MatchResult, codes, Attribute, Start, End, NegInf, At, Inf, SaysEnd, IsDecimal, Frac, ratio, negative, SumFits, IsCount, only_inf, only_neg_inf, count_once, AreEnds, value_of, Unread, AllPass, FirstFails, pass_both, first_front, first_behind, fields_pass, fields_bad, fields_wide, Sense, Min, Max, Place, Listing, Values, IsSense, Domain, Continuous, told_refusal, Refusal, field, whole, IsBad, IsTooGreat, HasSuch, Says, IsTimes, IsDeclared, SaysCount, nought, State, Test, bad, too_great, low_infinite, high_infinite, too_many, mult, fields, numbers, refusal, senses, SaysTimes, SaysConstant, SaysDomain, letters, letter_names, IsLetterOf, Fails, most, items, list_length, AreTooMany, IsGreatEnd, unread_refusal, IsNear, IsTooFar}
use Rattle.tree_grammar.specs.Tags.{IsAmong}
use Rattle.osil_grammar.proofs.TagNumbers.{decimal_once}
use Rattle.tag_tests.specs.declared.numbers.Unread.TheVariants as unread
use Rattle.tag_tests.specs.Fields.{FieldsRead}
use Rattle.osil_grammar.specs.declared.elements.Place.TheVariants.{El}
use Rattle.osil_grammar.specs.Refusals as refusals
use Rattle.osil_grammar.specs.declared.fault.Refusal as code

-- a start tag answers these tests in one state
abbrev pub AnswersHere : {X : Type 0} → State → List ℕ → List Attribute → List Test → Result X code.Refusal → (X → Type 0) → Type 0
AnswersHere {X} s name as' ts r Q = MatchResult r (λ x. AllPass (Fails s (Start name as')) ts × Q x) (λ e. FirstFails (Fails s (Start name as')) (refusal s (Start name as')) ts (told_refusal e))

-- the numbers of a start tag
pub numbers_pass : {X : Type 0} (s : State) (name : List ℕ) (as' : List Attribute) (p : Place) (x : X) (P : X → Type 0) → FieldsRead (IsBad as') (IsTooGreat as') (fields p) (Ok x) P → AllPass (Fails s (Start name as')) (numbers p)
numbers_pass s name as' p x P h = fields_pass (Fails s (Start name as')) bad too_great (fields p) x P h

pub numbers_refused : {X : Type 0} (s : State) (name : List ℕ) (as' : List Attribute) (p : Place) (u : Unread) (P : X → Type 0) (r : Refusal) → FieldsRead {A = X} (IsBad as') (IsTooGreat as') (fields p) (Err u) P → r ≡ unread_refusal u → FirstFails (Fails s (Start name as')) (refusal s (Start name as')) (numbers p) r
numbers_refused s name as' p unread.NotNumber P r h is = fields_bad (Fails s (Start name as')) (refusal s (Start name as')) bad too_great (fields p) r P (λ f. is) h
numbers_refused s name as' p unread.Wide P r h is = fields_wide (Fails s (Start name as')) (refusal s (Start name as')) bad too_great (fields p) r P (λ f. is) h

-- ends that were read
not_said : (y : End) → ((text : List ℕ) (x : End) → SaysEnd text x → SaysEnd text y → x ≡ y) → (o : Option (List ℕ)) (Default : Type 0) (x : End) → MatchOption o Default (λ t. SaysEnd t x) → (x ≡ y → ⊥) → IsSomeAnd o (λ t. SaysEnd t y) → ⊥
not_said y only None Default x h other says = says
not_said y only (Some t) Default x h other says = other (only t x h says)

pub is_said : (y : End) (o : Option (List ℕ)) (Default : End → Type 0) → (Default y → ⊥) → (x : End) → MatchOption o (Default x) (λ t. SaysEnd t x) → x ≡ y → IsSomeAnd o (λ t. SaysEnd t y)
is_said y None Default none x h same = none (subst Default same h)
is_said y (Some t) Default none x h same = subst (λ (z : End). SaysEnd t z) same h

which_end : (lb ub : End) → (AreEnds lb ub → ⊥) → (lb ≡ Inf) ⊎ ((lb ≡ Inf → ⊥) × (ub ≡ NegInf))
which_end Inf ub wrong = inl refl
which_end lb NegInf wrong = inr ((λ e. absurd (cc)), refl)
which_end lb ub wrong = absurd (wrong ((λ e. absurd (cc)), (λ e. absurd (cc))))

-- the tests of two ends
pub ends_pass : (s : State) (name : List ℕ) (as' : List Attribute) (Low High : End → Type 0) (lb ub : End) → Says as' (codes "lb") Low SaysEnd lb → Says as' (codes "ub") High SaysEnd ub → AreEnds lb ub → AllPass (Fails s (Start name as')) (low_infinite ∷ high_infinite ∷ [])
ends_pass s name as' Low High lb ub low high ends = (
  not_said Inf (λ t x a b. only_inf t x a b) (value_of (codes "lb") as') (Low lb) lb low ends.0,
  (not_said NegInf (λ t x a b. only_neg_inf t x a b) (value_of (codes "ub") as') (High ub) ub high ends.1, tt),
)

pub ends_refused : (s : State) (name : List ℕ) (as' : List Attribute) (Low High : End → Type 0) → (Low Inf → ⊥) → (High NegInf → ⊥) → (lb ub : End) → Says as' (codes "lb") Low SaysEnd lb → Says as' (codes "ub") High SaysEnd ub → (AreEnds lb ub → ⊥) → (more : List Test) → FirstFails (Fails s (Start name as')) (refusal s (Start name as')) (low_infinite ∷ high_infinite ∷ more) refusals.Bound
ends_refused s name as' Low High no_low no_high lb ub low high wrong more = elim (which_end lb ub wrong) [
  | inl same ↦ inl (is_said Inf (value_of (codes "lb") as') Low no_low lb low same, refl)
  | inr h ↦ inr (not_said Inf (λ t x a b. only_inf t x a b) (value_of (codes "lb") as') (Low lb) lb low h.0, inl (is_said NegInf (value_of (codes "ub") as') High no_high ub high h.1, refl))
]

-- ends that pass
pub not_end : (y : End) → ((f : Frac) → At f ≡ y → ⊥) → (x : End) (r : Ratio) → IsEndAt x r → x ≡ y → ⊥
not_end y never (At f) r h = never f
not_end y never x r h = absurd h

pub said_ends : (as' : List Attribute) (Low High : End → Type 0) → (Low Inf → ⊥) → (High NegInf → ⊥) → (lb ub : End) → Says as' (codes "lb") Low SaysEnd lb → Says as' (codes "ub") High SaysEnd ub → (HasSuch as' (codes "lb") (λ t. SaysEnd t Inf) → ⊥) → (HasSuch as' (codes "ub") (λ t. SaysEnd t NegInf) → ⊥) → AreEnds lb ub
said_ends as' Low High no_low no_high lb ub low high not_low not_high = (
  (λ e. not_low (is_said Inf (value_of (codes "lb") as') Low no_low lb low e)),
  (λ e. not_high (is_said NegInf (value_of (codes "ub") as') High no_high ub high e)),
)

-- what an attribute says, or is by default, is one thing
pub said_once : {X : Type 0} (as' : List Attribute) (name : List ℕ) (default : X) (Is : List ℕ → X → Type 0) → ((text : List ℕ) (x y : X) → Is text x → Is text y → x ≡ y) → (x y : X) → Says as' name (λ z. z ≡ default) Is x → Says as' name (λ z. z ≡ default) Is y → x ≡ y
said_once as' name default Is read x y a b = by (value_of name as') a b where
  by : (o : Option (List ℕ)) → MatchOption o (x ≡ default) (λ t. Is t x) → MatchOption o (y ≡ default) (λ t. Is t y) → x ≡ y
  by None a b = a ∙ sym b
  by (Some t) a b = read t x y a b

-- for how many an element stands
pub times_once : (as' : List Attribute) (m n : ℕ) → SaysTimes as' m → SaysTimes as' n → m ≡ n
times_once as' m n a b = said_once as' (codes "mult") 1 IsTimes (λ t x y p q. count_once t x y p.0 q.0) m n a b

-- a count that is declared
declared_once : (t : List ℕ) (x y : Option ℕ) → IsDeclared t x → IsDeclared t y → x ≡ y
declared_once t (Some n) (Some m) a b = ap (λ (k : ℕ). Some k) (count_once t n m a.0 b.0)
declared_once t None y a b = absurd (let z = a.1 in cc)
declared_once t (Some n) None a b = absurd (let z = b.1 in cc)

pub count_said_once : (as' : List Attribute) (name : List ℕ) (x y : Option ℕ) → SaysCount as' name x → SaysCount as' name y → x ≡ y
count_said_once as' name x y a b = said_once as' name None IsDeclared declared_once x y a b

pub not_too_many : (s : State) (as' : List Attribute) (p : Place) (m : ℕ) → SaysTimes as' m → (most p < items s p + m → ⊥) → AreTooMany s as' p → ⊥
not_too_many s as' p m says few h = few (let same = times_once as' m h.0 says h.1 in let many = h.2 in subst (λ (k : ℕ). most p < items s p + k) (sym same) many)

-- a type that is said is one of the letters
letter_among : (o : Option (List ℕ)) (Default : Type 0) (d : Domain) → MatchOption o Default (λ t. IsLetterOf letters t d) → IsSomeAnd o (λ t. IsAmong t letter_names → ⊥) → ⊥
letter_among None Default d h other = other
letter_among (Some t) Default d (inl h) other = other (inl h.0)
letter_among (Some t) Default d (inr (inl h)) other = other (inr (inl h.0))
letter_among (Some t) Default d (inr (inr (inl h))) other = other (inr (inr (inl h.0)))
letter_among (Some t) Default d (inr (inr (inr (inl h)))) other = other (inr (inr (inr (inl h.0))))
letter_among (Some t) Default d (inr (inr (inr (inr (inl h))))) other = other (inr (inr (inr (inr (inl h.0)))))
letter_among (Some t) Default d (inr (inr (inr (inr (inr h))))) other = absurd h

pub domain_known : (as' : List Attribute) (d : Domain) → SaysDomain as' d → HasSuch as' (codes "type") (λ t. IsAmong t letter_names → ⊥) → ⊥
domain_known as' d h other = letter_among (value_of (codes "type") as') (d ≡ Continuous) d h other

-- the tests of two ends and of how many there are
pub ends_many : (s : State) (name : List ℕ) (as' : List Attribute) (Low High : End → Type 0) (p : Place) (lb ub : End) (m : ℕ) → Says as' (codes "lb") Low SaysEnd lb → Says as' (codes "ub") High SaysEnd ub → AreEnds lb ub → SaysTimes as' m → most p < items s p + m → FirstFails (Fails s (Start name as')) (refusal s (Start name as')) (low_infinite ∷ high_infinite ∷ too_many p ∷ []) (refusal s (Start name as') (too_many p))
ends_many s name as' Low High p lb ub m low high ends says many = first_behind (Fails s (Start name as')) (refusal s (Start name as')) (low_infinite ∷ high_infinite ∷ []) (too_many p ∷ []) (refusal s (Start name as') (too_many p)) (ends_pass s name as' Low High lb ub low high ends) (inl ((m, says, many), refl))

pub ends_all : (s : State) (name : List ℕ) (as' : List Attribute) (Low High : End → Type 0) (p : Place) (lb ub : End) (m : ℕ) → Says as' (codes "lb") Low SaysEnd lb → Says as' (codes "ub") High SaysEnd ub → AreEnds lb ub → SaysTimes as' m → (most p < items s p + m → ⊥) → AllPass (Fails s (Start name as')) (low_infinite ∷ high_infinite ∷ too_many p ∷ [])
ends_all s name as' Low High p lb ub m low high ends says few = pass_both (Fails s (Start name as')) (low_infinite ∷ high_infinite ∷ []) (too_many p ∷ []) (ends_pass s name as' Low High lb ub low high ends) (not_too_many s as' p m says few, tt)

-- the constant of a row, and its ends less it
pub constant_once : (as' : List Attribute) (x y : Frac) → SaysConstant as' x → SaysConstant as' y → x ≡ y
constant_once as' x y a b = said_once as' (codes "constant") nought (λ t z. IsDecimal t (ratio z)) decimal_once x y a b

end_of : (o : Option (List ℕ)) (Default : Type 0) (x : End) (f : Frac) → MatchOption o Default (λ t. SaysEnd t x) → IsSomeAnd o (λ t. SaysEnd t (At f)) → x ≡ At f
end_of None Default x f a b = absurd b
end_of (Some t) Default NegInf f a b = sym (only_neg_inf t (At f) b a)
end_of (Some t) Default (At x) f a b = ap (λ (z : Frac). At z) (decimal_once t x f a b)
end_of (Some t) Default Inf f a b = sym (only_inf t (At f) b a)

pub no_great_end : (as' : List Attribute) (name : List ℕ) (Default : End → Type 0) (x : End) (c : Frac) → Says as' name Default SaysEnd x → SaysConstant as' c → IsNear x c → IsGreatEnd as' name → ⊥
no_great_end as' name Default x c says constant near h =
    let same = end_of (value_of name as') (Default x) x h.end says h.has_end in
    let one = constant_once as' c h.constant constant h.has_constant in
    h.wide (subst (λ (d : Frac). SumFits (ratio h.end) (negative (ratio d))) one (subst (λ (y : End). IsNear y c) same near))

said_at : (o : Option (List ℕ)) (Default : End → Type 0) (f : Frac) → (Default (At f) → ⊥) → MatchOption o (Default (At f)) (λ t. SaysEnd t (At f)) → IsSomeAnd o (λ t. SaysEnd t (At f))
said_at None Default f other h = absurd (other h)
said_at (Some t) Default f other h = h

pub great_end_of : (as' : List Attribute) (name : List ℕ) (Default : End → Type 0) (x : End) (c : Frac) (u : Unread) → ((f : Frac) → Default (At f) → ⊥) → Says as' name Default SaysEnd x → SaysConstant as' c → IsTooFar x c u → IsGreatEnd as' name
great_end_of as' name Default (At f) c u finite says constant far = record { constant = c; end = f; has_constant = constant; has_end = said_at (value_of name as') Default f (finite f) says; wide = far.1 }
great_end_of as' name Default NegInf c u finite says constant far = absurd far
great_end_of as' name Default Inf c u finite says constant far = absurd far

-- the tests of numbers, and then others
pub front_numbers : {X : Type 0} (s : State) (name : List ℕ) (as' : List Attribute) (p : Place) (more : List Test) (u : Unread) (P : X → Type 0) (r : Refusal) → FieldsRead {A = X} (IsBad as') (IsTooGreat as') (fields p) (Err u) P → r ≡ unread_refusal u → FirstFails (Fails s (Start name as')) (refusal s (Start name as')) (numbers p ++ more) r
front_numbers s name as' p more u P r h is = first_front (Fails s (Start name as')) (refusal s (Start name as')) (numbers p) more r (numbers_refused s name as' p u P r h is)

-- tests that pass, and then others, and the same of the tests of numbers
pub behind_tests : {Y : Type 0} (s : State) (name : List ℕ) (as' : List Attribute) (ts more : List Test) (r : Result Y code.Refusal) (Q : Y → Type 0) → AllPass (Fails s (Start name as')) ts → AnswersHere s name as' more r Q → AnswersHere s name as' (ts ++ more) r Q
behind_tests s name as' ts more (Ok y) Q pass k = (pass_both (Fails s (Start name as')) ts more pass k.0, k.1)
behind_tests s name as' ts more (Err e) Q pass k = first_behind (Fails s (Start name as')) (refusal s (Start name as')) ts more (told_refusal e) pass k

pub behind_numbers : {X Y : Type 0} (s : State) (name : List ℕ) (as' : List Attribute) (p : Place) (more : List Test) (x : X) (P : X → Type 0) (r : Result Y code.Refusal) (Q : Y → Type 0) → FieldsRead (IsBad as') (IsTooGreat as') (fields p) (Ok x) P → AnswersHere s name as' more r Q → AnswersHere s name as' (numbers p ++ more) r Q
behind_numbers s name as' p more x P r Q h k = behind_tests s name as' (numbers p) more r Q (numbers_pass s name as' p x P h) k

-- the test of how many there are
pub many_fail : (s : State) (name : List ℕ) (as' : List Attribute) (p : Place) (m : ℕ) (r : Refusal) → SaysTimes as' m → most p < items s p + m → r ≡ refusal s (Start name as') (too_many p) → FirstFails (Fails s (Start name as')) (refusal s (Start name as')) (too_many p ∷ []) r
many_fail s name as' p m r says many is = inl ((m, says, many), is)

pub few_pass : (s : State) (name : List ℕ) (as' : List Attribute) (p : Place) (m : ℕ) → SaysTimes as' m → (most p < items s p + m → ⊥) → AllPass (Fails s (Start name as')) (too_many p ∷ [])
few_pass s name as' p m says few = (not_too_many s as' p m says few, tt)

-- the sense that an `obj` says is one of the two
pub sense_among : (o : Option (List ℕ)) (x : Sense) → MatchOption o (x ≡ Min) (λ t. IsSense t x) → IsSomeAnd o (λ t. IsAmong t senses → ⊥) → ⊥
sense_among None x h other = other
sense_among (Some t) Min h other = other (inl h)
sense_among (Some t) Max h other = other (inr (inl h))

-- the variable of a `coef`
pub index_is : (o : Option (List ℕ)) (j : ℕ) → MatchOption o (let d : Option ℕ = Some j in d ≡ None) (λ t. IsDeclared t (Some j)) → IsSomeAnd o (λ t. IsCount t j)
index_is None j h = cc
index_is (Some t) j h = h.0

pub index_below : (o : Option (List ℕ)) (j n : ℕ) → IsSomeAnd o (λ t. IsCount t j) → j < n → IsSomeAnd o (λ t. (k : ℕ) × IsCount t k × (n ≤ k)) → ⊥
index_below None j n h inside out = out
index_below (Some t) j n h inside out = let same = count_once t j out.0 h out.1 in let beyond = out.2 in omega arith

pub index_beyond : (o : Option (List ℕ)) (j n : ℕ) → IsSomeAnd o (λ t. IsCount t j) → n ≤ j → IsSomeAnd o (λ t. (k : ℕ) × IsCount t k × (n ≤ k))
index_beyond None j n h out = h
index_beyond (Some t) j n h out = (j, h, out)

pub index_there : (o : Option (List ℕ)) → (o ≡ None → ⊥) → MatchOption o (let d : Option ℕ = None in d ≡ None) (λ t. IsDeclared t None) → ⊥
index_there None some h = some refl
index_there (Some t) some h = let z = h.1 in cc

-- the numbers of an `el` in a list of whole ones
pub whole_fields : {X : Type 0} (l : Listing) → (l ≡ Values → ⊥) → (as' : List Attribute) (r : Result X Unread) (P : X → Type 0) → FieldsRead (IsBad as') (IsTooGreat as') (mult ∷ field (codes "incr") whole ∷ []) r P → FieldsRead (IsBad as') (IsTooGreat as') (fields (El l)) r P
whole_fields Values other as' r P h = absurd (other refl)
whole_fields l other as' r P h = h

-- an `el` whose numbers were read, where there is room or none
pub room_left : {X : Type 0} (s : State) (name : List ℕ) (as' : List Attribute) (l : Listing) (before : ℕ) (m : ℕ) (x : X) (P : X → Type 0) (r : Result (ℕ × X) code.Refusal) → list_length s l ≡ before → SaysTimes as' m → P x
    → MatchResult r (λ y. (y ≡ (m, x)) × (most (El l) < before + m → ⊥)) (λ e. (told_refusal e ≡ refusals.TooBig) × (most (El l) < before + m)) → AnswersHere s name as' (too_many (El l) ∷ []) r (λ y. SaysTimes as' y.0 × P y.1)
room_left {X} s name as' l before m x P (Ok y) at says step h = (
  few_pass s name as' (El l) m says (λ many. h.1 (subst (λ (n : ℕ). most (El l) < n + m) at many)),
  (subst (λ (z : ℕ × X). SaysTimes as' z.0 × P z.1) (sym h.0) (says, step)),
)
room_left s name as' l before m x P (Err e) at says step h = many_fail s name as' (El l) m (told_refusal e) says (subst (λ (n : ℕ). most (El l) < n + m) (sym at) h.1) h.0
