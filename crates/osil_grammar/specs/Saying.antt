-- What the start tags and the texts of an OSiL document say, and as what ends are written.
use Rattle.std.specs.Prelude.{◌≡◌, ◌⊎◌, ℕ, ℤ, pos, List, [], ◌∷◌, map, codes}
use Rattle.tree_grammar.specs.Elements.{Attribute}
use Rattle.fraction.specs.Frac.{ratio}
use Rattle.fraction.specs.declared.frac.Frac.{Frac}
use Rattle.fraction.specs.declared.ends.End.{End}
use Rattle.fraction.specs.declared.ends.End.TheVariants.{NegInf, At, Inf}
use Rattle.decimal_text.specs.Count.{IsCount}
use Rattle.decimal_text.specs.Whole.{IsWholeText}
use Rattle.decimal_text.specs.Decimal.{IsDecimal}
use Rattle.decimal_text.specs.Bound.{SaysEnd}
use Rattle.decimal_text.specs.Plain.{PlainText}
use Rattle.instance.specs.declared.parts.Var.{Var}
use Rattle.instance.specs.declared.parts.Row.{Row}
use Rattle.instance.specs.declared.parts.Sense.{Sense}
use Rattle.instance.specs.declared.parts.Sense.TheVariants.{Min}
use Rattle.osil_grammar.specs.declared.domains.Domain.{Domain}
use Rattle.osil_grammar.specs.declared.domains.Domain.TheVariants.{Continuous, Integer, Binary, SemiContinuous, SemiInteger}
use Rattle.osil_grammar.specs.Meaning.{IsContinuous, IsInteger, IsBinary, IsSemiContinuous, IsSemiInteger, IsLess, IsSense}
use Rattle.osil_grammar.specs.Grammars.{HasSuch, Says, IsTimes, nought}

-- for how many items an element stands: one by default
abbrev pub SaysTimes : List Attribute → ℕ → Type 0
SaysTimes as' m = Says as' (codes "mult") (λ n. n ≡ 1) IsTimes m

-- a constant, and the step of a run of decimals or of whole numbers, 0 by default
abbrev pub SaysConstant : List Attribute → Frac → Type 0
SaysConstant as' x = Says as' (codes "constant") (λ c. c ≡ nought) (λ text c. IsDecimal text (ratio c)) x

abbrev pub SaysStep : List Attribute → Frac → Type 0
SaysStep as' x = Says as' (codes "incr") (λ c. c ≡ nought) (λ text c. IsDecimal text (ratio c)) x

abbrev pub SaysWholeStep : List Attribute → ℤ → Type 0
SaysWholeStep as' z = Says as' (codes "incr") (λ d. d ≡ pos 0) IsWholeText z

-- THE LETTERS OF TYPES
pub record Letter : Type 0 where
  pub name : List ℕ
  pub domain : Domain

abbrev pub letter : List ℕ → Domain → Letter
letter name domain = record { name = name; domain = domain }

abbrev pub letters : List Letter
letters = letter (codes "C") Continuous ∷ letter (codes "B") Binary ∷ letter (codes "I") Integer ∷ letter (codes "D") SemiContinuous ∷ letter (codes "J") SemiInteger ∷ []

abbrev pub letter_names : List (List ℕ)
letter_names = map (λ l. l.name) letters

-- some letter of this name is of this type
abbrev pub IsLetterOf : List Letter → List ℕ → Domain → Type 0
IsLetterOf [] text d = ⊥
IsLetterOf (l ∷ ls) text d = ((text ≡ l.name) × (d ≡ l.domain)) ⊎ IsLetterOf ls text d

-- the type that a `var` says: continuous by default
abbrev pub SaysDomain : List Attribute → Domain → Type 0
SaysDomain as' d = Says as' (codes "type") (λ (x : Domain). x ≡ Continuous) (λ text x. IsLetterOf letters text x) d

-- the variable of this type between these ends
abbrev pub IsOfDomain : Domain → End → End → Var → Type 0
IsOfDomain Continuous lb ub v = IsContinuous lb ub v
IsOfDomain Integer lb ub v = IsInteger lb ub v
IsOfDomain Binary lb ub v = IsBinary lb ub v
IsOfDomain SemiContinuous lb ub v = IsSemiContinuous lb ub v
IsOfDomain SemiInteger lb ub v = IsSemiInteger lb ub v

-- the ends of a variable: 0 and infinity by default
abbrev pub SaysLow : List Attribute → End → Type 0
SaysLow as' x = Says as' (codes "lb") (λ (y : End). y ≡ At nought) SaysEnd x

abbrev pub SaysHigh : List Attribute → End → Type 0
SaysHigh as' x = Says as' (codes "ub") (λ (y : End). y ≡ Inf) SaysEnd x

-- the lower end of a row: minus infinity by default
abbrev pub SaysRowLow : List Attribute → End → Type 0
SaysRowLow as' x = Says as' (codes "lb") (λ (y : End). y ≡ NegInf) SaysEnd x

-- the text that an end is written as
abbrev pub IsEndText : End → List ℕ → Type 0
IsEndText NegInf text = text ≡ codes "-INF"
IsEndText (At x) text = PlainText text (ratio x)
IsEndText Inf text = text ≡ codes "INF"

-- the row of a `con`: the constant is taken off both ends
pub record SaysRow (as' : List Attribute) (r : Row) : Type 0 where
  pub lb : End
  pub ub : End
  pub constant : Frac
  pub low : SaysRowLow as' lb
  pub high : SaysHigh as' ub
  pub has_constant : SaysConstant as' constant
  pub less_low : IsLess lb constant r.lb
  pub less_high : IsLess ub constant r.ub

-- `min` and `max`
abbrev pub senses : List (List ℕ)
senses = codes "min" ∷ codes "max" ∷ []

-- the sense of an `obj`: minimise by default
abbrev pub SaysSense : List Attribute → Sense → Type 0
SaysSense as' x = Says as' (codes "maxOrMin") (λ (s : Sense). s ≡ Min) IsSense x

-- the variable of a `coef`
abbrev pub SaysIndex : List Attribute → ℕ → Type 0
SaysIndex as' j = HasSuch as' (codes "idx") (λ text. IsCount text j)
