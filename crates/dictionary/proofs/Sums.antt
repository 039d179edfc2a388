-- Numbers of a row of fractions.
use Rattle.std.proofs.Common.{◌≡◌, ℕ, ◌+◌, ◌<◌, nat_eq, List, [], ◌∷◌, ◌++◌, length, drop, get_or, sym, ◌∙◌, ap, ap₂, add-one}
use Rattle.std.proofs.Math.Seq.{drop-cons}
use Rattle.rational.specs.Ratio.{sum, IsNumber}
use Rattle.fraction.specs.Frac.{ratio}
use Rattle.evidence.specs.Sums.{none}
use Rattle.evidence.proofs.Numbers.{sum-number, sum_assoc, none-sum}
use Rattle.evidence.proofs.Columns.{none-number, pick}
use Rattle.dictionary.specs.declared.fractions.Item.{Item}
use Rattle.dictionary.specs.Row.{item_at, number_in}

pub item-number : (x : Item) (c : ℕ) → IsNumber (item_at x c)
item-number x c = pick IsNumber (nat_eq x.col c) (ratio x.value) none x.value.above none-number

pub row-number : (xs : List Item) (c : ℕ) → IsNumber (number_in xs c)
row-number [] c = none-number
row-number (x ∷ xs) c = sum-number (item_at x c) (number_in xs c) (item-number x c) (row-number xs c)

-- one list after another adds up
pub number-append : (xs ys : List Item) (c : ℕ) → number_in (xs ++ ys) c ≡ sum (number_in xs c) (number_in ys c)
number-append [] ys c = sym (none-sum (number_in ys c))
number-append (x ∷ xs) ys c = ap (λ v. sum (item_at x c) v) (number-append xs ys c) ∙ sym (sum_assoc (item_at x c) (number_in xs c) (number_in ys c))

pub rest_is : (xs : List Item) (i : ℕ) (x : Item) → i < length xs → x ≡ get_or xs i x → drop i xs ≡ x ∷ drop (i + 1) xs
rest_is xs i x h e = drop-cons xs i x h ∙ ap₂ (λ y k. y ∷ drop k xs) (sym e) (sym (add-one i))
