-- The numbers of a start tag, each read by its grammar.
use Rattle.osil_grammar.proofs.Words.{◌≡◌, ℕ, inl, inr, List, [], ◌∷◌, ap, sym, arith, Option, None, Some, MatchOption, IsSomeAnd, Result, Ok, Err, Attribute, Ratio, IsNumber, IsSame, IsSame-trans, Frac, ratio, same_fraction, End, NegInf, At, Inf, minus, IsWholeText, IsDecimal, SaysEnd, only_inf, only_neg_inf, IsEndAt, count_once, count_fits, whole_fits, decimal_fits, bound_fits, value_of, Unread, Grammar, count, times, whole, bound, field, IsOfGrammar, IsWideOf, IsBad, IsTooGreat, Says, ReadsSo, IsDeclared, IsTimes}
use Rattle.decimal_text.proofs.OneDecimal.{decimal_read_back}
use Rattle.tag_tests.specs.declared.numbers.Unread.TheVariants as unread
use Rattle.tag_tests.specs.Fields.{FieldsRead}
use Rattle.osil_grammar.specs.Grammars.{decimal}

-- what is read by a grammar is of it, and not too great
abbrev pub IsReadBy : {X : Type 0} → Grammar → (List ℕ → X → Type 0) → Type 0
IsReadBy {X} g Is = (text : List ℕ) (x : X) → Is text x → IsOfGrammar g text × (IsWideOf g text → ⊥)

pub count_read : IsReadBy count IsDeclared
count_read text (Some n) h = ((n, h.0.0), count_fits text n h.0)
count_read text None h = absurd (let z = h.1 in cc)

pub times_read : IsReadBy times IsTimes
times_read text m h = (((m, h.0.0), λ none. let same = count_once text m 0 h.0 none in let some = h.1 in omega arith), count_fits text m h.0)

pub whole_read : IsReadBy whole IsWholeText
whole_read text z h = ((z, h.0), whole_fits text z h)

pub decimal_read : IsReadBy {X = Frac} decimal (λ text x. IsDecimal text (ratio x))
decimal_read text x h = ((h.written, h.read), decimal_fits text x h)

pub bound_read : IsReadBy bound SaysEnd
bound_read text NegInf h = (inr (minus, h), bound_fits text NegInf h)
bound_read text (At x) h = (inl (h.written, h.read), bound_fits text (At x) h)
bound_read text Inf h = (inr (h.0, h.1.1), bound_fits text Inf h)

-- what is too great is of the grammar
pub wide_of : (g : Grammar) (text : List ℕ) → IsWideOf g text → IsOfGrammar g text
wide_of count text h = (h.0, h.1.0)
wide_of times text h = ((h.0, h.1.0), λ none. count_fits text 0 none h)
wide_of whole text h = (h.0, h.1.0)
wide_of decimal text h = (h.written, h.read)
wide_of bound text h = inl (h.written, h.read)

fine : {X : Type 0} (g : Grammar) (Default : X → Type 0) (Is : List ℕ → X → Type 0) → IsReadBy g Is → (o : Option (List ℕ)) (x : X) → MatchOption o (Default x) (λ t. Is t x) → (IsSomeAnd o (λ t. IsOfGrammar g t → ⊥) → ⊥) × (IsSomeAnd o (λ t. IsWideOf g t) → ⊥)
fine g Default Is by None x h = (λ b. b, λ w. w)
fine g Default Is by (Some t) x h = (λ b. b (by t x h).0, λ w. (by t x h).1 w)

wide_fine : (g : Grammar) (o : Option (List ℕ)) → IsSomeAnd o (λ t. IsWideOf g t) → IsSomeAnd o (λ t. IsOfGrammar g t → ⊥) → ⊥
wide_fine g None w b = w
wide_fine g (Some t) w b = b (wide_of g t w)

-- one field
pub field_read : {X : Type 0} (as' : List Attribute) (name : List ℕ) (g : Grammar) (r : Result X Unread) (Default : X → Type 0) (Is : List ℕ → X → Type 0) → IsReadBy g Is → ReadsSo as' name g r Default Is → FieldsRead (IsBad as') (IsTooGreat as') (field name g ∷ []) r (Says as' name Default Is)
field_read as' name g (Ok x) Default Is by h = let f = fine g Default Is by (value_of name as') x h in ((f.0, tt), (f.1, tt), h)
field_read as' name g (Err unread.NotNumber) Default Is by h = inl h
field_read as' name g (Err unread.Wide) Default Is by h = ((wide_fine g (value_of name as') h, tt), inl h)

-- a decimal is one fraction
pub decimal_once : (text : List ℕ) (x y : Frac) → IsDecimal text (ratio x) → IsDecimal text (ratio y) → x ≡ y
decimal_once text x y a b = let same = decimal_read_back y text (Ok x) b a tt in cc

-- a number has one fraction
pub frac_once : (x y : Frac) (r : Ratio) → IsNumber r → IsSame (ratio x) r → IsSame (ratio y) r → x ≡ y
frac_once x y r number a b = same_fraction x y (IsSame-trans (ratio x) r (ratio y) number a (sym b))

pub bound_once : (t : List ℕ) (x y : End) → SaysEnd t x → SaysEnd t y → x ≡ y
bound_once t x NegInf a b = only_neg_inf t x a b
bound_once t x Inf a b = only_inf t x a b
bound_once t NegInf (At y) a b = sym (only_neg_inf t (At y) b a)
bound_once t Inf (At y) a b = sym (only_inf t (At y) b a)
bound_once t (At x) (At y) a b = ap (λ (z : Frac). At z) (decimal_once t x y a b)

pub end_at_once : (r : Ratio) → IsNumber r → (x y : End) → IsEndAt x r → IsEndAt y r → x ≡ y
end_at_once r number (At x) (At y) a b = ap (λ (z : Frac). At z) (frac_once x y r number a b)
end_at_once r number (At x) y a b = absurd b
end_at_once r number x y a b = absurd a
