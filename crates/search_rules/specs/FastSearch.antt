-- The search `fast`: runs by the rules `fast`, and branching by penalties (Driebeek, An algorithm for the solution of mixed integer programming problems, 1966; Tomlin, An improved branch-and-bound method for integer programming, 1971).
use Rattle.std.specs.Prelude.{◌≡◌, ℕ, zero, suc, ◌/◌, ◌<◌, ◌⊎◌, ℤ, pos, negsuc, Bool, true, false, cond, nat_lt, IsTrue, Option, None, Some, List}
use Rattle.std.specs.Option.{is_some}
use Rattle.rational.specs.Ratio.{Ratio, whole, sum, product, negative, IsBelow, IsAtMost, IsSame}
use Rattle.rational.specs.Width.{IsReduced, IsWithin}
use Rattle.evidence.specs.Sums.{none, is_below, IsWhole}
use Rattle.evidence.specs.Instance.{Instance, Range, width, variable_at, column_at}
use Rattle.evidence.specs.Point.{value_at}
use Rattle.evidence.specs.Cases.{HasStep, IsBranch, IsZeroBranch}
use Rattle.bases.specs.Dictionary.{Entries}
use Rattle.bases.specs.Forms.{list_of}
use Rattle.bases.specs.Program.{goal_column}
use Rattle.simplex_rules.specs.declared.columns.Status.{Status}
use Rattle.simplex_rules.specs.declared.columns.Status.TheVariants.{Basic, Lower, Upper, Zero}
use Rattle.simplex_rules.specs.Statuses.{status_at, basic_in, has_width, HasDictionary}
use Rattle.simplex_rules.specs.declared.names.RuleName.{RuleName}
use Rattle.simplex_rules.specs.declared.names.RuleName.TheVariants.{Bland, Fast}
use Rattle.scores.specs.Leading.{leading, score}
use Rattle.scores.specs.Sizes.{size}
use Rattle.simplex_rules.specs.Fast.{is_none, Greater, IsUnbeaten, fast}
use Rattle.search_rules.specs.Branching.{IsEither}
use Rattle.search_rules.specs.RuleSearch.{BranchView, SearchRules, bland_search}

abbrev pub floor_of : ℤ → ℕ → ℤ
floor_of (pos n) d = pos (n / d)
floor_of (negsuc n) d = negsuc (n / d)

-- what is above the floor
abbrev pub rest_of : Ratio → Ratio
rest_of x = sum x (negative (whole (floor_of x.num x.den)))

abbrev pub to_one : Ratio → Ratio
to_one x = sum (whole (pos 1)) (negative x)

abbrev pub lesser_of : Ratio → Ratio → Ratio
lesser_of x y = cond (is_below y x) y x

abbrev pub greater_of : Ratio → Ratio → Ratio
greater_of x y = cond (is_below x y) y x

-- of two penalties, where none is infinite
abbrev pub least_penalty : Option Ratio → Option Ratio → Option Ratio
least_penalty None y = y
least_penalty (Some x) None = Some x
least_penalty (Some x) (Some y) = Some (lesser_of x y)

abbrev pub greatest_penalty : Option Ratio → Option Ratio → Option Ratio
greatest_penalty None y = None
greatest_penalty (Some x) None = None
greatest_penalty (Some x) (Some y) = Some (greater_of x y)

abbrev pub least_below : (ℕ → Option Ratio) → ℕ → Option Ratio
least_below f zero = None
least_below f (suc n) = least_penalty (least_below f n) (f n)

-- of two penalties the first is the lesser one
abbrev pub is_cheaper : Option Ratio → Option Ratio → Bool
is_cheaper None y = false
is_cheaper (Some x) None = true
is_cheaper (Some x) (Some y) = is_below x y

abbrev pub infinite : Option Ratio → Ratio
infinite None = whole (pos 1)
infinite (Some x) = none

abbrev pub finite : Option Ratio → Ratio
finite None = none
finite (Some x) = x

-- a column of this place can lower another one by this entry, or raise it where turned
abbrev pub can_lower : Bool → Status → Range → ℤ → Bool
can_lower turned Basic r e = false
can_lower true Lower r (pos (suc n)) = has_width r
can_lower true Lower r (pos zero) = false
can_lower true Lower r (negsuc n) = false
can_lower false Lower r (pos n) = false
can_lower false Lower r (negsuc n) = has_width r
can_lower true Upper r (pos n) = false
can_lower true Upper r (negsuc n) = true
can_lower false Upper r (pos (suc n)) = true
can_lower false Upper r (pos zero) = false
can_lower false Upper r (negsuc n) = false
can_lower turned Zero r (pos zero) = false
can_lower turned Zero r (pos (suc n)) = true
can_lower turned Zero r (negsuc n) = true

module _ (I : Instance) (ss : List Status) (u : Entries) (x : List Ratio) where
  abbrev pub is_whole : ℕ → Bool
  is_whole c = cond (nat_lt c (width I)) (variable_at I c).whole false

  -- what column c costs at least that brings variable j by f down, or up; of cut numbers, so that no product is wide
  abbrev pub penalty_at : Bool → ℕ → Ratio → ℕ → Option Ratio
  penalty_at turned j f c =
      let e = list_of (basic_in ss) u j c in
      let cost = leading (size (u (goal_column I) c)) in
      let by = score (product cost (leading f)) (size e) in
      cond (can_lower turned (status_at ss c) (column_at I c) e.num) (Some (cond (is_whole c) (greater_of by cost) by)) None

  abbrev pub down_at : ℕ → Option Ratio
  down_at j = least_below (penalty_at false j (rest_of (value_at x j))) (goal_column I)

  abbrev pub up_at : ℕ → Option Ratio
  up_at j = least_below (penalty_at true j (to_one (rest_of (value_at x j)))) (goal_column I)

  abbrev pub penalty : ℕ → Option Ratio
  penalty j = greatest_penalty (down_at j) (up_at j)

  -- where the penalty is 0, how far the value is from whole ones
  abbrev pub middle : ℕ → Ratio
  middle j = cond (is_none (sum (infinite (penalty j)) (finite (penalty j))).num) (let f = rest_of (value_at x j) in lesser_of f (to_one f)) none

  -- the case of at least k + 1 comes first where going up costs less; and where it costs as much as going down, from a value below 0: cases one in another then lead toward 0
  abbrev pub goes_up : ℕ → Bool
  goes_up j = cond (is_cheaper (up_at j) (down_at j)) true (cond (is_cheaper (down_at j) (up_at j)) false (is_below (value_at x j) none))

  abbrev pub IsFractional : ℕ → Type 0
  IsFractional j = IsTrue (variable_at I j).whole × (IsWhole (value_at x j) → ⊥)

  -- an infinite penalty beats, then the greater one, then the value furthest from whole ones, then the lesser variable
  abbrev pub Later : (ℕ → Ratio) → (ℕ → ℕ → Type 0) → ℕ → ℕ → Type 0
  Later f Beats k c = IsBelow (f c) (f k) ⊎ (IsSame (f k) (f c) × Beats k c)

  abbrev pub BeatsBy : ℕ → ℕ → Type 0
  BeatsBy = Later (λ j. infinite (penalty j)) (Later (λ j. finite (penalty j)) (Greater middle))

-- j is the least variable whose value is neither 0 nor within its further ends
pub record IsFirstUneither (h : BranchView) (j : ℕ) : Type 0 where
  pub branch : IsZeroBranch h.case.program j
  pub below : (i : ℕ) → i < j → IsEither (variable_at h.case.program i) (value_at h.point i)
  pub other : IsEither (variable_at h.case.program j) (value_at h.point j) → ⊥

-- where there is none such: j has the greatest penalty of the whole variables whose values aren't whole, and k is its floor
pub record IsByPenalty (h : BranchView) (j : ℕ) (k : ℤ) : Type 0 where
  pub either : (i : ℕ) → i < width h.case.program → IsEither (variable_at h.case.program i) (value_at h.point i)
  pub branch : IsBranch h.case.program j k
  pub floor : k ≡ floor_of (value_at h.point j).num (value_at h.point j).den
  pub statuses : List Status
  pub is : h.basis ≡ Some statuses
  pub entries : Entries
  pub dictionary : HasDictionary h.case.program (is_some h.case.ray) statuses entries
  pub unbeaten : IsUnbeaten (width h.case.program) (IsFractional h.case.program statuses entries h.point) (BeatsBy h.case.program statuses entries h.point) j

-- and going up costs less, or the same from a value below 0
pub record IsByRise (h : BranchView) (j : ℕ) : Type 0 where
  pub statuses : List Status
  pub is : h.basis ≡ Some statuses
  pub entries : Entries
  pub dictionary : HasDictionary h.case.program (is_some h.case.ray) statuses entries
  pub up : IsTrue (goes_up h.case.program statuses entries h.point j)

-- g is the greatest step in which the goal's values go, in lowest terms; without costs there is none
pub record IsStepOf (I : Instance) (g : Ratio) : Type 0 where
  pub step : HasStep I g
  pub reduced : IsReduced g
  pub within : IsWithin g
  pub greatest : (h : Ratio) → HasStep I h → IsAtMost h g

abbrev pub fast_search : SearchRules
fast_search = record { runs = fast; Splits = λ h j k. IsByPenalty h j k; Rises = λ h j. IsByRise h j; Divides = λ h j. IsFirstUneither h j; Steps = λ I g. IsStepOf I g }

-- the search by the rules of this name
abbrev pub search_rules_of : RuleName → SearchRules
search_rules_of Bland = bland_search
search_rules_of Fast = fast_search
