-- Rows with equal entries have the same dictionaries.
use Rattle.std.proofs.Common.{◌≡◌, ℕ, ◌+◌, ◌<◌, Bool, sym, ap, subst}
use Rattle.rational.specs.Ratio.{Ratio, product, IsSame}
use Rattle.evidence.specs.Sums.{none}
use Rattle.evidence.proofs.Totals.{total_below}
use Rattle.bases.specs.Dictionary.{Entries, Values, value_by, SolvesRows, IsDictionary}

same_sum : (n : ℕ) (f g : ℕ → Ratio) (w : Values) → ((c : ℕ) → c < n → f c ≡ g c) → value_by n f w ≡ value_by n g w
same_sum n f g w e = total_below none n (λ c. product (f c) (w c)) (λ c. product (g c) (w c)) (λ c l. ap (λ (v : Ratio). product v (w c)) (e c l))

rows_solve : (n m : ℕ) (A B : Entries) (w : Values) → ((i j : ℕ) → i < m → j < n → A i j ≡ B i j) → SolvesRows n m A w → SolvesRows n m B w
rows_solve n m A B w e s = record { rows = λ i l. subst (λ (v : Ratio). IsSame (w (n + i)) v) (same_sum n (A i) (B i) w (λ c h. e i c l h)) (s.rows i l) }

pub equal_rows : (n m : ℕ) (A B : Entries) (basic : ℕ → Bool) (u : Entries) → ((i j : ℕ) → i < m → j < n → A i j ≡ B i j) → IsDictionary n m A basic u → IsDictionary n m B basic u
equal_rows n m A B basic u e d = record {
  entries = d.entries;
  on = λ w p s. d.on w p (rows_solve n m B A w (λ i j h g. sym (e i j h g)) s);
  back = λ w p s. rows_solve n m A B w e (d.back w p s);
}
