-- The entries of one row, taken in ascending order of their columns.
use Rattle.std.proofs.Common.{◌≡◌, ◌≢◌, ℕ, ◌+◌, ◌<◌, ◌≤◌, ◌&&◌, zero, suc, ℤ, pos, negsuc, Bool, true, false, cond, nat_eq, List, [], ◌∷◌, ◌++◌, length, get_or, inr, arith, refl, sym, ◌∙◌, ap, ap₂, subst}
use Rattle.std.specs.List.{All}
use Rattle.std.proofs.lemmas.Bool.{eq-eqb, ne_eqb}
use Rattle.std.proofs.lemmas.List.{length_push, get_or_push, get_or_append_left}
use Rattle.std.proofs.lemmas.List.Elements.{All-head, All-tail, All-push}
use Rattle.rational.specs.Ratio.{Ratio}
use Rattle.fraction.specs.Frac.{ratio}
use Rattle.fraction.specs.declared.frac.Frac.{Frac}
use Rattle.fraction.specs.declared.ends.Entry.{Entry}
use Rattle.evidence.specs.Sums.{none}
use Rattle.evidence.specs.Instance.{entry_at}
use Rattle.evidence.proofs.Columns.{by_lt}
use Rattle.dictionary.proofs.RowForms.{zero_none}
use Rattle.instance.specs.Parts.{IsBefore, IsAscending}
use Rattle.instance.specs.Program.{entries}

-- the first entry isn't the one that is asked
missed : (a b : Bool) (p q : Ratio) → b ≡ false → cond (a && b) p q ≡ q
missed true false p q e = refl
missed false b p q e = refl
missed true true p q e = let f : true ≡ false = e in absurd (cc)

module _ (x : Entry) (i : ℕ) where
  entry_other : (es : List Entry) (j : ℕ) → (x.col ≡ j → ⊥) → entry_at (entries (es ++ x ∷ [])) i j ≡ entry_at (entries es) i j
  entry_other [] j n = missed (nat_eq x.row i) (nat_eq x.col j) (ratio x.value) none (ne_eqb x.col j n)
  entry_other (e ∷ es) j n = ap (λ (r : Ratio). cond (nat_eq e.row i && nat_eq e.col j) (ratio e.value) r) (entry_other es j n)

  entry_own : (es : List Entry) (j : ℕ) → All (λ (e : Entry). e.col < j) es → x.row ≡ i → x.col ≡ j → entry_at (entries (es ++ x ∷ [])) i j ≡ ratio x.value
  entry_own [] j low row col = ap₂ (λ (a b : Bool). cond (a && b) (ratio x.value) none) (eq-eqb x.row i row) (eq-eqb x.col j col)
  entry_own (e ∷ es) j low row col =
      let own = All-head (λ (e : Entry). e.col < j) e es low in
      missed (nat_eq e.row i) (nat_eq e.col j) (ratio e.value) (entry_at (entries (es ++ x ∷ [])) i j) (ne_eqb e.col j (λ q. omega arith))
      ∙ entry_own es j (All-tail (λ (e : Entry). e.col < j) e es low) row col

-- entries of this row, of its first n columns, which are those numbers
pub record AreRowEntries (row n : ℕ) (v : ℕ → Ratio) (es : List Entry) : Type 0 where
  pub own : All (λ (e : Entry). e.row ≡ row) es
  pub inside : All (λ (e : Entry). e.col < n) es
  pub nonzero : All (λ (e : Entry). e.value.numer ≢ pos 0) es
  pub ascending : IsAscending es
  pub values : (j : ℕ) → j < n → entry_at (entries es) row j ≡ v j
  pub past : (j : ℕ) → n ≤ j → entry_at (entries es) row j ≡ none

module _ (row n : ℕ) (v : ℕ → Ratio) (es : List Entry) (are : AreRowEntries row n v es) where
  wider : All (λ (e : Entry). e.col < n + 1) es
  wider = λ k d h. let a = are.inside k d h in omega arith

  -- the next number is 0
  pub skipped : none ≡ v n → AreRowEntries row (n + 1) v es
  skipped nothing = record {
    own = are.own;
    inside = wider;
    nonzero = are.nonzero;
    ascending = are.ascending;
    values = λ j h. by_lt j n (are.values j) (λ l. let e : n ≡ j = omega arith in are.past j l ∙ nothing ∙ ap v e);
    past = λ j h. are.past j (omega arith);
  }

  -- or it is an entry
  pub pushed : (x : Entry) → x.row ≡ row → x.col ≡ n → x.value.numer ≢ pos 0 → ratio x.value ≡ v n → AreRowEntries row (n + 1) v (es ++ x ∷ [])
  pushed x in_row in_col nonzero value = record {
    own = All-push (λ (e : Entry). e.row ≡ row) es x are.own in_row;
    inside = All-push (λ (e : Entry). e.col < n + 1) es x wider (omega arith);
    nonzero = All-push (λ (e : Entry). e.value.numer ≢ pos 0) es x are.nonzero nonzero;
    ascending = λ k d h.
        let long = length_push es x in
        by_lt (k + 1) (length es)
        (λ l. subst (λ (e : Entry). IsBefore e (get_or (es ++ x ∷ []) (k + 1) d)) (sym (get_or_append_left es (x ∷ []) d k (omega arith)))
        (subst (λ (e : Entry). IsBefore (get_or es k d) e) (sym (get_or_append_left es (x ∷ []) d (k + 1) l)) (are.ascending k d l)))
        (λ l.
        let last : length es ≡ k + 1 = omega arith in
        let row_is = are.own k d (omega arith) in
        let below = are.inside k d (omega arith) in
        subst (λ (e : Entry). IsBefore e (get_or (es ++ x ∷ []) (k + 1) d)) (sym (get_or_append_left es (x ∷ []) d k (omega arith)))
        (subst (λ (e : Entry). IsBefore (get_or es k d) e) (sym (get_or_push es x d (k + 1) last)) (inr (row_is ∙ sym in_row, omega arith))));
    values = λ j h.
        by_lt j n
        (λ l. entry_other x row es j (λ q. omega arith) ∙ are.values j l)
        (λ l.
        let e : n ≡ j = omega arith in
        subst (λ i. entry_at (entries (es ++ x ∷ [])) row i ≡ v i) e (entry_own x row es n are.inside in_row in_col ∙ value));
    past = λ j h. entry_other x row es j (λ q. omega arith) ∙ are.past j (omega arith);
  }

pub no_entries : (row : ℕ) (v : ℕ → Ratio) → AreRowEntries row 0 v []
no_entries row v = record {
  own = λ k d h. absurd (omega arith);
  inside = λ k d h. absurd (omega arith);
  nonzero = λ k d h. absurd (omega arith);
  ascending = λ k d h. absurd (omega arith);
  values = λ j h. absurd (omega arith);
  past = λ j h. refl;
}

by_zero : {P : Type 0} (z : ℤ) → (z ≡ pos 0 → P) → ((z ≡ pos 0 → ⊥) → P) → P
by_zero (pos zero) f h = f refl
by_zero (pos (suc n)) f h = h (λ e. cc)
by_zero (negsuc n) f h = h (λ e. cc)

-- the next number, as it was read
pub one_more : (row n : ℕ) (v : ℕ → Ratio) (es ns : List Entry) (x : Frac) → AreRowEntries row n v es → v n ≡ ratio x → (x.numer ≡ pos 0 → ns ≡ es) → ((x.numer ≡ pos 0 → ⊥) → ns ≡ es ++ record { row = row; col = n; value = x } ∷ []) → AreRowEntries row (n + 1) v ns
one_more row n v es ns x are is stays more =
    by_zero x.numer
    (λ e. subst (AreRowEntries row (n + 1) v) (sym (stays e)) (skipped row n v es are (sym (is ∙ zero_none (ratio x) (x.above, x.reduced) e))))
    (λ d. subst (AreRowEntries row (n + 1) v) (sym (more d)) (pushed row n v es are (record { row = row; col = n; value = x }) refl refl d (sym is)))
