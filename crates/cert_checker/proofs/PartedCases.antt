-- The cases before a walk whose columns behind the variables are rows.
use Rattle.std.proofs.Common.{◌≡◌, ℕ, zero, suc, ◌+◌, ◌-◌, ◌<◌, ◌≤◌, ℤ, pos, ◌+ℤ◌, inl, inr, List, [], ◌∷◌, length, map, take, drop, get_or, slice_set, arith, refl, sym, ◌∙◌, ap, ap₂}
use Rattle.std.specs.List.{All}
use Rattle.std.proofs.lemmas.List.{length-map, length-drop, length-take-le, map-set, take-map, drop-map, take-set-le, drop-set-lt, drop-set-add, get_or-map, get_or-take, get_or-drop, take_rest}
use Rattle.std.proofs.lemmas.List.Elements.{All-cons, All-tail}
use Rattle.rational.specs.Ratio.{whole}
use Rattle.evidence.specs.Instance.{Range, Variable, Instance, IsInstance, HasNumbers, no_variable, free, width, height, variable_at, row_at}
use Rattle.evidence.specs.Cases.{with_range, with_row_range, lesser_end, greater_end, low_case, high_case, at_zero, unless_zero, IsSplit, IsZeroBranch, row_at_most, row_at_least}
use Rattle.evidence.proofs.Columns.{by_lt}
use Rattle.evidence.proofs.RowBranches.{low_variable, high_variable, low_past, high_past}
use Rattle.instance.proofs.Numbers.{range-numbers}
use Rattle.case_tree.specs.declared.cuts.Cut.{Cut}
use Rattle.case_tree.specs.declared.cuts.Division.TheVariants.{Split, Zero}
use Rattle.case_tree.specs.Cuts.{cut, cut_at, cut_variable, first_range, second_range, first_case, second_case, HasNext}
use Rattle.cert_checker.specs.Columns.{ends, over, with_ends, parted}

abbrev range_of : Variable → Range
range_of v = v.range

-- the rows have as many ends as before
pub over_length : (cs : List Cut) (rs : List Range) → length (over cs rs) ≡ length rs
over_length [] rs = refl
over_length (c ∷ cs) [] = refl
over_length (c ∷ cs) (r ∷ rs) = ap suc (over_length cs rs)

-- all of them are those of the columns
pub over_all : (cs : List Cut) (rs : List Range) → length cs ≡ length rs → over cs rs ≡ map ends cs
over_all [] [] e = refl
over_all [] (r ∷ rs) e = absurd (omega arith)
over_all (c ∷ cs) [] e = absurd (omega arith)
over_all (c ∷ cs) (r ∷ rs) e = ap (λ l. ends c ∷ l) (over_all cs rs (omega arith))

-- a row that has a column, and one that has none
pub over_here : (cs : List Cut) (rs : List Range) (i : ℕ) → i < length cs → i < length rs → get_or (over cs rs) i free ≡ ends (cut_at cs i)
over_here [] rs i h g = absurd (omega arith)
over_here (c ∷ cs) [] i h g = absurd (omega arith)
over_here (c ∷ cs) (r ∷ rs) zero h g = refl
over_here (c ∷ cs) (r ∷ rs) (suc i) h g = over_here cs rs i (omega arith) (omega arith)

pub over_behind : (cs : List Cut) (rs : List Range) (i : ℕ) → length cs ≤ i → get_or (over cs rs) i free ≡ get_or rs i free
over_behind [] rs i h = refl
over_behind (c ∷ cs) [] i h = refl
over_behind (c ∷ cs) (r ∷ rs) zero h = absurd (omega arith)
over_behind (c ∷ cs) (r ∷ rs) (suc i) h = over_behind cs rs i (omega arith)

pub over-numbers : (cs : List Cut) (rs : List Range) → All HasNumbers rs → All HasNumbers (over cs rs)
over-numbers [] rs good = good
over-numbers (c ∷ cs) [] good = good
over-numbers (c ∷ cs) (r ∷ rs) good = All-cons HasNumbers (ends c) (over cs rs) (range-numbers c.lb c.ub) (over-numbers cs rs (All-tail HasNumbers r rs good))

-- a row at hand is one of the program
pub in_hand : (cs : List Cut) (I : Instance) (i : ℕ) → i < height (with_ends I cs) → i < height I
in_hand cs I i h = let o = over_length cs I.rows in omega arith

pub ends-instance : (I : Instance) (cs : List Cut) → IsInstance I → IsInstance (with_ends I cs)
ends-instance I cs good = record {
  variables = good.variables;
  further = good.further;
  rows = over-numbers cs I.rows good.rows;
  entries = good.entries;
  constant = good.constant;
  costs = good.costs;
}

ranges : (cs : List Cut) → map range_of (map cut_variable cs) ≡ map ends cs
ranges [] = refl
ranges (c ∷ cs) = ap (λ l. ends c ∷ l) (ranges cs)

set_front : {X : Type 0} (n : ℕ) (xs : List X) (i : ℕ) (x : X) → i < n → take n (slice_set xs i x) ≡ slice_set (take n xs) i x
set_front zero xs i x h = absurd (omega arith)
set_front (suc n) [] i x h = refl
set_front (suc n) (y ∷ ys) zero x h = refl
set_front (suc n) (y ∷ ys) (suc i) x h = ap (λ l. y ∷ l) (set_front n ys i x (omega arith))

set_rest : {X : Type 0} (n : ℕ) (xs : List X) (c : ℕ) (x : X) → n ≤ c → drop n (slice_set xs c x) ≡ slice_set (drop n xs) (c - n) x
set_rest n xs c x h = let e : c ≡ n + (c - n) = omega arith in ap (λ k. drop n (slice_set xs k x)) e ∙ drop-set-add n xs (c - n) x

-- an instance of these variables and ends of rows
abbrev made : Instance → List Variable → List Range → Instance
made I vs rs = record I { variables = vs; rows = rs }

-- the case at hand, over the program with the rows' ends
pub at_hand_is : (n : ℕ) (I : Instance) (cs : List Cut) → cut (record I { rows = map ends (drop n cs) }) (take n cs) ≡ parted n (cut I cs)
at_hand_is n I cs = ap₂ (made I) (sym (take-map cut_variable n cs)) (sym (ap (map range_of) (drop-map cut_variable n cs) ∙ ranges (drop n cs)))

-- before any branch it is the program
pub parted_is : (n : ℕ) (I : Instance) (cs : List Cut) → take n (map cut_variable cs) ≡ I.variables → map ends (drop n cs) ≡ I.rows → parted n (cut I cs) ≡ I
parted_is n I cs e f = ap₂ (made I) e (ap (map range_of) (drop-map cut_variable n cs) ∙ ranges (drop n cs) ∙ f)

module _ (n : ℕ) (J : Instance) (enough : n ≤ width J) where
  pub parted_width : width (parted n J) ≡ n
  parted_width = length-take-le n J.variables enough

  variable_is : (c : ℕ) → c < n → variable_at (parted n J) c ≡ variable_at J c
  variable_is c h = get_or-take n J.variables c no_variable h

  row_is : (c : ℕ) → n ≤ c → c < width J → row_at (parted n J) (c - n) ≡ (variable_at J c).range
  row_is c h g =
      let e : n + (c - n) ≡ c = omega arith in
      let d = length-drop n J.variables in
      get_or-map range_of (drop n J.variables) (c - n) no_variable free (omega arith)
      ∙ ap range_of (get_or-drop n J.variables (c - n) no_variable ∙ ap (variable_at J) e)

  -- a variable of another range, and a row of other ends
  with_variable : (c : ℕ) (r : Range) → c < n → parted n (with_range J c r) ≡ with_range (parted n J) c r
  with_variable c r h =
      ap₂ (made J)
      (set_front n J.variables c (record (variable_at J c) { range = r }) h ∙ ap (λ (v : Variable). slice_set (take n J.variables) c (record v { range = r })) (sym (variable_is c h)))
      (ap (map range_of) (drop-set-lt n J.variables c (record (variable_at J c) { range = r }) h))

  with_row : (c : ℕ) (r : Range) → n ≤ c → parted n (with_range J c r) ≡ with_row_range (parted n J) (c - n) r
  with_row c r h =
      let v : Variable = record (variable_at J c) { range = r } in
      ap₂ (made J) (take-set-le n J.variables c v h)
      (ap (map range_of) (set_rest n J.variables c v h) ∙ map-set range_of (drop n J.variables) (c - n) v)

  module _ (c : ℕ) (k : ℤ) (inside : c < width J) where
    pub first_part : parted n (first_case J c (Split k)) ≡ low_case (parted n J) c k
    first_part = by_lt c n
        (λ h. with_variable c _ h
        ∙ ap (λ (v : Variable). with_range (parted n J) c (record v.range { ub = lesser_end v.range.ub (whole k) })) (sym (variable_is c h))
        ∙ sym (low_variable (parted n J) c k (let w = parted_width in omega arith)))
        (λ h. with_row c _ h
        ∙ ap (λ (r : Range). with_row_range (parted n J) (c - n) (record r { ub = lesser_end r.ub (whole k) })) (sym (row_is c h inside))
        ∙ sym (low_past (parted n J) c k (let w = parted_width in omega arith) ∙ ap (λ m. row_at_most (parted n J) (c - m) k) parted_width))

    pub second_part : parted n (second_case J c (Split k)) ≡ high_case (parted n J) c (k +ℤ pos 1)
    second_part = by_lt c n
        (λ h. with_variable c _ h
        ∙ ap (λ (v : Variable). with_range (parted n J) c (record v.range { lb = greater_end v.range.lb (whole (k +ℤ pos 1)) })) (sym (variable_is c h))
        ∙ sym (high_variable (parted n J) c (k +ℤ pos 1) (let w = parted_width in omega arith)))
        (λ h. with_row c _ h
        ∙ ap (λ (r : Range). with_row_range (parted n J) (c - n) (record r { lb = greater_end r.lb (whole (k +ℤ pos 1)) })) (sym (row_is c h inside))
        ∙ sym (high_past (parted n J) c (k +ℤ pos 1) (let w = parted_width in omega arith) ∙ ap (λ m. row_at_least (parted n J) (c - m) (k +ℤ pos 1)) parted_width))

  module _ (c : ℕ) (h : c < n) where
    pub zero_part : parted n (first_case J c Zero) ≡ at_zero (parted n J) c
    zero_part = with_variable c _ h ∙ ap (λ (v : Variable). with_range (parted n J) c (first_range Zero v)) (sym (variable_is c h))

    pub unless_part : parted n (second_case J c Zero) ≡ unless_zero (parted n J) c
    unless_part = with_variable c _ h ∙ ap (λ (v : Variable). with_range (parted n J) c (second_range Zero v)) (sym (variable_is c h))

-- the ends of the columns behind the first n, as a slice has them
pub case_is : (n m : ℕ) (I K : Instance) (cs : List Cut) → n ≡ m → K ≡ record I { rows = map ends (take (length cs - n) (drop n cs)) } → cut K (take n cs) ≡ parted m (cut I cs)
case_is n m I K cs e is =
    ap (λ (J : Instance). cut J (take n cs)) is
    ∙ ap (λ (l : List Cut). let J : Instance = record I { rows = map ends l } in cut J (take n cs)) (take_rest cs n)
    ∙ at_hand_is n I cs
    ∙ ap (λ k. parted k (cut I cs)) e

module _ (m : ℕ) (I : Instance) (cs : List Cut) (enough : m ≤ length cs) where
  abbrev J : Instance
  J = cut I cs

  wide : m ≤ width J
  wide = let w = length-map cs cut_variable in omega arith

  columns_are : width (parted m J) + height (parted m J) ≡ length cs
  columns_are =
      let w = parted_width m J wide in
      let a = length-map (drop m J.variables) range_of in
      let b = length-drop m J.variables in
      let c = length-map cs cut_variable in
      omega arith

  pub split_inside : (c : ℕ) (k : ℤ) → IsSplit (parted m J) c k → c < length cs
  split_inside c k (inl b) = let a = columns_are in let v = b.variable in omega arith
  split_inside c k (inr r) = let a = columns_are in let v = r.inside in omega arith

  pub zero_inside : (c : ℕ) → IsZeroBranch (parted m J) c → c < m
  zero_inside c b = let w = parted_width m J wide in let v = b.variable in omega arith

  -- the two cases of a split, and of a zero, before the rest
  pub split_cases : (c : ℕ) (k : ℤ) (js : List Instance) → c < length cs → parted m (first_case J c (Split k)) ∷ parted m (second_case J c (Split k)) ∷ js ≡ low_case (parted m J) c k ∷ high_case (parted m J) c (k +ℤ pos 1) ∷ js
  split_cases c k js h =
      let inside : c < width J = (let w = length-map cs cut_variable in omega arith) in
      ap₂ (λ (A B : Instance). A ∷ B ∷ js) (first_part m J wide c k inside) (second_part m J wide c k inside)

  pub zero_cases : (c : ℕ) (js : List Instance) → c < m → parted m (first_case J c Zero) ∷ parted m (second_case J c Zero) ∷ js ≡ at_zero (parted m J) c ∷ unless_zero (parted m J) c ∷ js
  zero_cases c js h = ap₂ (λ (A B : Instance). A ∷ B ∷ js) (zero_part m J wide c h) (unless_part m J wide c h)

pub split_next : (I : Instance) (c : ℕ) (k : ℤ) → IsSplit I c k → HasNext (Split k)
split_next I c k (inl b) = (b.low, b.high)
split_next I c k (inr r) = (r.low, r.high)
