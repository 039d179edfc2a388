-- A basis has one dictionary.
use Rattle.std.proofs.Common.{◌≡◌, ℕ, ◌+◌, ◌<◌, Bool, true, false, pos, refl, sym, ◌∙◌, ap, subst}
use Rattle.rational.specs.Ratio.{Ratio, product, IsNumber, IsSame}
use Rattle.rational.specs.Width.{IsReduced}
use Rattle.rational.proofs.ReducedForms.{same_reduced}
use Rattle.evidence.specs.Sums.{none, unit_at}
use Rattle.evidence.proofs.Numbers.{◌≈◌, ≈-refl, ≈-from, ≈-sym, ◌⊙◌, product-number, product-none}
use Rattle.evidence.proofs.Totals.{total-number, total-≈}
use Rattle.evidence.proofs.Columns.{by_lt, by_bool, none-number, pick}
use Rattle.evidence.proofs.Fits.{whole-reduced}
use Rattle.evidence.proofs.Units.{unit-number, picked}
use Rattle.bases.specs.Dictionary.{Entries, Values, value_by, SolvesLists, IsDictionary}
use Rattle.bases.specs.Forms.{list_of}

-- a number in lowest terms that is 0 has that form
pub reduced_none : (x : Ratio) → IsReduced x → IsSame x none → x ≡ none
reduced_none x r e = same_reduced x none r (whole-reduced (pos 0)) e

pub value_by-number : (k : ℕ) (row : ℕ → Ratio) (w : Values) → ((c : ℕ) → IsNumber (row c)) → ((c : ℕ) → IsNumber (w c)) → IsNumber (value_by k row w)
value_by-number k row w pr pw = total-number none k (λ c. product (row c) (w c)) none-number (λ c. product-number (row c) (w c) (pr c) (pw c))

-- where the basic columns have no entry, only the values of the others count
pub value_alike : (k : ℕ) (basic : ℕ → Bool) (row : ℕ → Ratio) (x y : Values) → ((c : ℕ) → IsNumber (row c)) → ((c : ℕ) → basic c ≡ true → row c ≡ none) → ((c : ℕ) → IsNumber (x c)) → ((c : ℕ) → IsNumber (y c)) → ((c : ℕ) → c < k → basic c ≡ false → x c ≡ y c) → value_by k row x ≈ value_by k row y
value_alike k basic row x y pr zero px py e =
    total-≈ k (λ c. product (row c) (x c)) (λ c. product (row c) (y c)) (≈-refl none-number)
    (λ c h. by_bool (basic c)
    (λ b. subst (λ r. product r (x c) ≈ product r (y c)) (sym (zero c b)) (product-none (x c) (px c) ⊙ ≈-sym (product-none (y c) (py c))))
    (λ b. ≈-from (product-number (row c) (x c) (pr c) (px c)) (ap (product (row c)) (e c h b))))

module _ (k : ℕ) (basic : ℕ → Bool) (u : Entries) (u_number : (b c : ℕ) → IsNumber (u b c)) where
  pub list-number : (c d : ℕ) → IsNumber (list_of basic u c d)
  list-number c d = pick IsNumber (basic c) (u c d) (unit_at c d) (u_number c d) (unit-number c d)

  pub list_basic : (c d : ℕ) → basic c ≡ true → list_of basic u c d ≡ u c d
  list_basic c d e = rw e refl

  pub list_other : (c d : ℕ) → basic c ≡ false → list_of basic u c d ≡ unit_at c d
  list_other c d e = rw e refl

  -- the lists at one column that isn't basic are values, by which a row has its entry there
  pub row_list : (row : ℕ → Ratio) → ((c : ℕ) → IsNumber (row c)) → ((c : ℕ) → basic c ≡ true → row c ≡ none) → (d : ℕ) → d < k → value_by k row (λ c. list_of basic u c d) ≈ row d
  row_list row p zero d h =
      value_alike k basic row (λ c. list_of basic u c d) (λ c. unit_at c d) p zero (λ c. list-number c d) (λ c. unit-number c d) (λ c l e. list_other c d e)
      ⊙ picked k d row p h

  -- so they solve the lists
  pub lists_solve : ((b c : ℕ) → basic c ≡ true → u b c ≡ none) → (d : ℕ) → d < k → SolvesLists k basic u (λ c. list_of basic u c d)
  lists_solve zero d h = record {
    lists = λ b l t. let all = ≈-from (list-number b d) (list_basic b d t) ⊙ ≈-sym (row_list (u b) (u_number b) (zero b) d h) in all.is;
  }

pub entry-number : {n m : ℕ} {A : Entries} {basic : ℕ → Bool} {u : Entries} → IsDictionary n m A basic u → (b c : ℕ) → IsNumber (u b c)
entry-number d b c = let r = d.entries.reduced b c in r.0

pub one_dictionary : (n m : ℕ) (A : Entries) (basic : ℕ → Bool) (u v : Entries) → IsDictionary n m A basic u → IsDictionary n m A basic v → (b c : ℕ) → u b c ≡ v b c
one_dictionary n m A basic u v du dv b c =
    by_bool (basic b)
    (λ t. by_lt b (n + m)
    (λ hb. by_lt c (n + m)
    (λ hc.
    let w : Values = λ a. list_of basic u a c in
    let pw : (a : ℕ) → IsNumber (w a) = λ a. list-number (n + m) basic u (entry-number du) a c in
    let solves : SolvesLists (n + m) basic v w = dv.on w pw (du.back w pw (lists_solve (n + m) basic u (entry-number du) du.entries.at_basic c hc)) in
    let given : w b ≈ value_by (n + m) (v b) w = record { left = pw b; right = value_by-number (n + m) (v b) w (entry-number dv b) pw; is = solves.lists b hb t } in
    let all = ≈-from (entry-number du b c) (sym (list_basic (n + m) basic u (entry-number du) b c t)) ⊙ given ⊙ row_list (n + m) basic u (entry-number du) (v b) (entry-number dv b) (dv.entries.at_basic b) c hc in
    same_reduced (u b c) (v b c) (du.entries.reduced b c) (dv.entries.reduced b c) all.is)
    (λ hc. du.entries.past_column b c hc ∙ sym (dv.entries.past_column b c hc)))
    (λ hb. du.entries.past_row b c hb ∙ sym (dv.entries.past_row b c hb)))
    (λ t. du.entries.unlisted b c t ∙ sym (dv.entries.unlisted b c t))

-- basic columns are those below the last
pub same_basis : (n m : ℕ) (A : Entries) (basic as_basic : ℕ → Bool) (u : Entries) → ((c : ℕ) → c < n + m → basic c ≡ as_basic c) → IsDictionary n m A basic u → IsDictionary n m A as_basic u
same_basis n m A basic as_basic u e d = record {
  entries = record {
    reduced = d.entries.reduced;
    past_row = d.entries.past_row;
    past_column = d.entries.past_column;
    unlisted = λ b c t. by_lt b (n + m) (λ h. d.entries.unlisted b c (e b h ∙ t)) (λ h. d.entries.past_row b c h);
    at_basic = λ b c t. by_lt c (n + m) (λ h. d.entries.at_basic b c (e c h ∙ t)) (λ h. d.entries.past_column b c h);
  };
  on = λ w p s. let l = d.on w p s in record { lists = λ b h t. l.lists b h (e b h ∙ t) };
  back = λ w p s. d.back w p (record { lists = λ b h t. s.lists b h (sym (e b h) ∙ t) });
}
