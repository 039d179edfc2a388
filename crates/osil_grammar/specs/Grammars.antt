-- The grammars of the numbers of OSiL documents (XML Schema part 2).
use Rattle.std.specs.Prelude.{◌≡◌, ℕ, pos, ◌<◌, Option, None, MatchOption, IsSomeAnd, IfSome, IsSome, Result, MatchResult, List, codes}
use Rattle.std.proofs.Common.{lit<, lit≤}
use Rattle.std.proofs.Math.Nat.{one-dvd}
use Rattle.std.proofs.lemmas.Nat.Gcd.{dvd_refl}
use Rattle.tree_grammar.specs.Elements.{Attribute}
use Rattle.tag_tests.specs.declared.numbers.Unread.{Unread}
use Rattle.tag_tests.specs.declared.numbers.Unread.TheVariants as unread
use Rattle.document_tags.specs.Elements.{value_of}
use Rattle.fraction.specs.declared.frac.Frac.{Frac}
use Rattle.decimal_text.specs.Space.{trimmed}
use Rattle.decimal_text.specs.Count.{CountGrammar, IsCount, IsWideCount}
use Rattle.decimal_text.specs.Whole.{WholeGrammar, IsWideWhole}
use Rattle.decimal_text.specs.Decimal.{DecimalGrammar, IsWideDecimal}
use Rattle.decimal_text.specs.Bound.{BoundGrammar}

-- 0, which a number is that isn't said
abbrev pub nought : Frac
nought = record { numer = pos 0; denom = 1; above = lit< tt; reduced = (one-dvd 0, dvd_refl 1, λ d p q. q); numer_within = lit≤ tt; denom_within = lit≤ tt }

-- counts, counts that aren't 0, whole numbers, decimals, ends of ranges
pub data Grammar : Type 0 where
  count : Grammar
  times : Grammar
  whole : Grammar
  decimal : Grammar
  bound : Grammar

-- the text is of the grammar, whatever the number's size
abbrev pub IsOfGrammar : Grammar → List ℕ → Type 0
IsOfGrammar count text = CountGrammar (trimmed text)
IsOfGrammar times text = CountGrammar (trimmed text) × (IsCount text 0 → ⊥)
IsOfGrammar whole text = WholeGrammar (trimmed text)
IsOfGrammar decimal text = DecimalGrammar (trimmed text)
IsOfGrammar bound text = BoundGrammar (trimmed text)

-- it is, and the number is too great
abbrev pub IsWideOf : Grammar → List ℕ → Type 0
IsWideOf count text = IsWideCount text
IsWideOf times text = IsWideCount text
IsWideOf whole text = IsWideWhole text
IsWideOf decimal text = IsWideDecimal text
IsWideOf bound text = IsWideDecimal text

-- an attribute that is a number
pub record Field : Type 0 where
  pub name : List ℕ
  pub grammar : Grammar

abbrev pub field : List ℕ → Grammar → Field
field name grammar = record { name = name; grammar = grammar }

-- those that several elements have
abbrev pub lb : Field
lb = field (codes "lb") bound

abbrev pub ub : Field
ub = field (codes "ub") bound

abbrev pub mult : Field
mult = field (codes "mult") times

-- the attribute is there, and so
abbrev pub HasSuch : List Attribute → List ℕ → (List ℕ → Type 0) → Type 0
HasSuch as' name P = IsSomeAnd (value_of name as') P

-- it isn't of its grammar, or its number is too great
abbrev pub IsBad : List Attribute → Field → Type 0
IsBad as' f = HasSuch as' f.name (λ text. IsOfGrammar f.grammar text → ⊥)

abbrev pub IsTooGreat : List Attribute → Field → Type 0
IsTooGreat as' f = HasSuch as' f.name (λ text. IsWideOf f.grammar text)

-- the attribute of this name says so; where there is none, the value is as by default
abbrev pub Says : {X : Type 0} → List Attribute → List ℕ → (X → Type 0) → (List ℕ → X → Type 0) → X → Type 0
Says {X} as' name Default Reads x = MatchOption (value_of name as') (Default x) (λ text. Reads text x)

-- why a text isn't read by its grammar
abbrev pub IsUnread : Unread → Grammar → List ℕ → Type 0
IsUnread unread.NotNumber g text = IsOfGrammar g text → ⊥
IsUnread unread.Wide g text = IsWideOf g text

-- an attribute is read by its grammar, or has a default
abbrev pub ReadsSo : {X : Type 0} → List Attribute → List ℕ → Grammar → Result X Unread → (X → Type 0) → (List ℕ → X → Type 0) → Type 0
ReadsSo {X} as' name g result Default Is = MatchResult result (λ x. Says as' name Default Is x) (λ u. HasSuch as' name (IsUnread u g))

-- a count that isn't 0
abbrev pub IsTimes : List ℕ → ℕ → Type 0
IsTimes text m = IsCount text m × (0 < m)

-- a count that may be wanting
abbrev pub IsDeclared : List ℕ → Option ℕ → Type 0
IsDeclared text x = IfSome x (λ n. IsCount text n) × IsSome x

abbrev pub SaysCount : List Attribute → List ℕ → Option ℕ → Type 0
SaysCount as' name x = Says as' name (λ (y : Option ℕ). y ≡ None) IsDeclared x
