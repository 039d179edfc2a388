-- Branches over rows that are whole, and which cases a column has.
use Rattle.std.proofs.Common.{◌≡◌, inl, inr, ℕ, ◌+◌, ◌-◌, ◌<◌, ◌≤◌, ℤ, pos, ◌+ℤ◌, List, arith, lit<, refl, ◌∙◌, ap, subst}
use Rattle.std.proofs.lemmas.Bool.{lt-ltb, le-ltb}
use Rattle.std.proofs.lemmas.Int.{ints, by_lt_z}
use Rattle.std.proofs.lemmas.List.{length-set, get_or-set_same, get_or-set_other}
use Rattle.std.proofs.lemmas.List.Elements.{All-set}
use Rattle.rational.specs.Ratio.{Ratio, whole, product}
use Rattle.evidence.specs.Sums.{IsWhole}
use Rattle.evidence.specs.Instance.{Range, Instance, IsInstance, HasNumbers, free, width, height, variable_at, row_at, entry_at}
use Rattle.evidence.specs.Point.{value_at, activity, IsBetween, IsFeasible}
use Rattle.evidence.specs.Cases.{at_most, at_least, with_row_range, row_at_most, row_at_least, low_case, high_case, lesser_end, greater_end, IsBranch, IsWholeRow, IsRowBranch, IsSplit}
use Rattle.evidence.proofs.Numbers.{product-number}
use Rattle.evidence.proofs.Columns.{by_lt, by_bool, All-anywhere, entry-number, value-number}
use Rattle.evidence.proofs.WholeSums.{total-whole, product-wholes, none_product-whole}
use Rattle.evidence.proofs.Ends.{lesser-number, greater-number, lesser-high, greater-low, whole_at_most, whole_at_least}

pub low_variable : (I : Instance) (j : ℕ) (k : ℤ) → j < width I → low_case I j k ≡ at_most I j k
low_variable I j k h = rw (lt-ltb j (width I) h) refl

pub high_variable : (I : Instance) (j : ℕ) (k : ℤ) → j < width I → high_case I j k ≡ at_least I j k
high_variable I j k h = rw (lt-ltb j (width I) h) refl

pub low_past : (I : Instance) (c : ℕ) (k : ℤ) → width I ≤ c → low_case I c k ≡ row_at_most I (c - width I) k
low_past I c k h = rw (le-ltb c (width I) h) refl

pub high_past : (I : Instance) (c : ℕ) (k : ℤ) → width I ≤ c → high_case I c k ≡ row_at_least I (c - width I) k
high_past I c k h = rw (le-ltb c (width I) h) refl

pub low_row : (I : Instance) (i : ℕ) (k : ℤ) → low_case I (width I + i) k ≡ row_at_most I i k
low_row I i k = let e : width I + i - width I ≡ i = omega arith in low_past I (width I + i) k (omega arith) ∙ ap (λ n. row_at_most I n k) e

pub high_row : (I : Instance) (i : ℕ) (k : ℤ) → high_case I (width I + i) k ≡ row_at_least I i k
high_row I i k = let e : width I + i - width I ≡ i = omega arith in high_past I (width I + i) k (omega arith) ∙ ap (λ n. row_at_least I n k) e

pub variable_split : (I : Instance) (j : ℕ) (k : ℤ) → j < width I → IsSplit I j k → IsBranch I j k
variable_split I j k h (inl b) = b
variable_split I j k h (inr r) = let p = r.past in absurd (omega arith)

pub row_split : (I : Instance) (i : ℕ) (k : ℤ) → IsSplit I (width I + i) k → IsRowBranch I (width I + i) k
row_split I i k (inl b) = let p = b.variable in absurd (omega arith)
row_split I i k (inr r) = r

pub by_split : {P : Type 0} (I : Instance) (c : ℕ) (k : ℤ) → IsSplit I c k → (IsBranch I c k → P) → (IsRowBranch I c k → P) → P
by_split I c k (inl b) f g = f b
by_split I c k (inr r) f g = g r

pub instance_row : (I : Instance) (i : ℕ) (r : Range) → HasNumbers r → IsInstance I → IsInstance (with_row_range I i r)
instance_row I i r h good = record {
  variables = good.variables;
  further = good.further;
  rows = All-set HasNumbers I.rows i r h good.rows;
  entries = good.entries;
  constant = good.constant;
  costs = good.costs;
}

pub feasible_row : (I : Instance) (i : ℕ) (r : Range) (x : List Ratio) → i < height I → IsBetween r (activity I x i) → IsFeasible I x → IsFeasible (with_row_range I i r) x
feasible_row I i r x low b f = record {
  count = f.count;
  numbers = f.numbers;
  variables = f.variables;
  rows = λ n h. at n (subst (λ m. n < m) (length-set I.rows i r) h);
  whole = f.whole;
  further = f.further;
}
  where
    at : (n : ℕ) → n < height I → IsBetween (row_at (with_row_range I i r) n) (activity I x n)
    at n h =
        let other : (n ≡ i → ⊥) → IsBetween (row_at (with_row_range I i r) n) (activity I x n) = λ ne. rw (get_or-set_other I.rows i n r free ne) (f.rows n h) in
        by_lt n i
        (λ below. other (λ e. omega arith))
        (λ up. by_lt i n (λ above. other (λ e. omega arith))
        (λ down. let e : i ≡ n = omega arith in
        subst (λ m. IsBetween (row_at (with_row_range I i r) m) (activity I x m)) e (rw (get_or-set_same I.rows i r free low) b)))

-- a row whose entries are whole at whole variables, and 0 at the others, is whole
pub activity-whole : (I : Instance) → IsInstance I → (x : List Ratio) → IsFeasible I x → (i : ℕ) → IsWholeRow I i → IsWhole (activity I x i)
activity-whole I good x f i w =
    total-whole (width I) (λ j. product (entry_at I.entries i j) (value_at x j))
    (λ j. product-number (entry_at I.entries i j) (value_at x j) (entry-number I.entries good.entries i j) (value-number x f.numbers j))
    (λ j h. by_bool (variable_at I j).whole
    (λ e. product-wholes (entry_at I.entries i j) (value_at x j) (entry-number I.entries good.entries i j) (value-number x f.numbers j) (w.entries j h e) (f.whole j h e))
    (λ e. none_product-whole (entry_at I.entries i j) (value_at x j) (entry-number I.entries good.entries i j) (value-number x f.numbers j) (w.others j h (λ t. cc))))

-- the point is in one of the two cases
pub either_case : {P : Type 0} (I : Instance) → IsInstance I → (x : List Ratio) → IsFeasible I x → (c : ℕ) (k : ℤ) → IsRowBranch I c k
    → (IsInstance (row_at_most I (c - width I) k) → IsFeasible (row_at_most I (c - width I) k) x → P)
    → (IsInstance (row_at_least I (c - width I) (k +ℤ pos 1)) → IsFeasible (row_at_least I (c - width I) (k +ℤ pos 1)) x → P) → P
either_case I good x f c k branch low high =
    let i : ℕ = c - width I in
    let inside : i < height I = let p = branch.past in let q = branch.inside in omega arith in
    let r : Range = row_at I i in
    let h : HasNumbers r = All-anywhere HasNumbers I.rows free (tt, tt) good.rows i in
    let w = activity-whole I good x f i branch.whole in
    let here = f.rows i inside in
    by_lt_z k w.number
    (λ up.
    let r' : Range = record r { lb = greater_end r.lb (whole (k +ℤ pos 1)) } in
    let in' : IsBetween r' (activity I x i) = record { low = greater-low r.lb (whole (k +ℤ pos 1)) (activity I x i) (whole_at_least (activity I x i) w.number (k +ℤ pos 1) w.same (omega (arith, ints))) here.low; high = here.high } in
    high (instance_row I i r' (greater-number r.lb (whole (k +ℤ pos 1)) (lit< tt) h.0, h.1) good) (feasible_row I i r' x inside in' f))
    (λ down.
    let r' : Range = record r { ub = lesser_end r.ub (whole k) } in
    let in' : IsBetween r' (activity I x i) = record { low = here.low; high = lesser-high r.ub (whole k) (activity I x i) (whole_at_most (activity I x i) w.number k w.same down) here.high } in
    low (instance_row I i r' (h.0, lesser-number r.ub (whole k) (lit< tt) h.1) good) (feasible_row I i r' x inside in' f))
