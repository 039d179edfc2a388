-- A row that stands aside, and the entries of one that is solved.
use Rattle.std.proofs.Common.{◌≡◌, ℕ, zero, suc, ◌+◌, ◌<◌, ◌≤◌, ◌⊎◌, inl, inr, pos, cond, nat_eq, arith, refl, sym, ◌∙◌, ap, subst}
use Rattle.std.proofs.lemmas.Bool.{eq-eqb, ne_eqb}
use Rattle.rational.specs.Ratio.{Ratio, sum, product, negative, quotient, IsNumber, IsSame}
use Rattle.rational.specs.Width.{IsReduced}
use Rattle.evidence.specs.Sums.{none}
use Rattle.evidence.proofs.Columns.{by_eq, none-number}
use Rattle.evidence.proofs.Numbers.{◌≈◌, sum-number, product-number}
use Rattle.evidence.proofs.Inverses.{inverse-number}
use Rattle.instance.proofs.Terms.{nothing_added}
use Rattle.dictionary.specs.Numbers.{HasNumber}
use Rattle.dictionary.specs.Rows.{IsSolvedFor, IsReplacedBy}
use Rattle.dictionary.specs.Steps.{nonzeros}
use Rattle.dictionary.proofs.Rows.{zero_or}
use Rattle.dictionary.proofs.Nonzeros.{one_more}
use Rattle.dictionary.proofs.RowForms.{zero_none}
use Rattle.dictionary.proofs.Exchanges.{made_none, zero_solved}
use Rattle.dictionary.proofs.ChangedSums.{few_of_both}

-- nothing comes into a row that has nothing
pub aside_stays : (row by out : ℕ → Ratio) (e : ℕ) → ((c : ℕ) → row c ≡ none) → ((c : ℕ) → IsNumber (by c)) → ((c : ℕ) → IsReduced (out c)) → IsReplacedBy row by e out → (c : ℕ) → out c ≡ none
aside_stays row by out e empty number red s c = by_eq c e (λ i. ap out i ∙ s.gone)
    (λ d.
    let n : IsNumber (sum none (product none (by c))) = sum-number none (product none (by c)) none-number (product-number none (by c) none-number (number c)) in
    let near : sum none (product none (by c)) ≈ none = record { left = n; right = none-number; is = sym (nothing_added none none (by c) (inl refl)) } in
    made_none (out c) (sum none (product none (by c))) (red c)
    (subst (λ (v : Ratio). IsSame (out c) (sum none (product v (by c)))) (empty e) (subst (λ (v : Ratio). IsSame (out c) (sum v (product (row e) (by c)))) (empty c) (s.others c d))) near)

-- no more numbers than those of columns that have one in another row
none_counted : (k : ℕ) → nonzeros k (λ c. none) ≡ 0
none_counted zero = refl
none_counted (suc k) = let r = none_counted k in omega arith

fewer : (k : ℕ) (f g : ℕ → Ratio) → ((c : ℕ) → HasNumber f c → HasNumber g c) → nonzeros k f ≤ nonzeros k g
fewer k f g h = let a = few_of_both k f g (λ c. none) (λ c x. inl (h c x)) in let b = none_counted k in omega arith

-- a row without one column's number
abbrev less : ℕ → (ℕ → Ratio) → ℕ → Ratio
less q f c = cond (nat_eq c q) none (f c)

less_own : (q : ℕ) (f : ℕ → Ratio) (c : ℕ) → c ≡ q → less q f c ≡ none
less_own q f c e = rw (eq-eqb c q e) refl

less_other : (q : ℕ) (f : ℕ → Ratio) (c : ℕ) → (c ≡ q → ⊥) → less q f c ≡ f c
less_other q f c d = rw (ne_eqb c q d) refl

less_has : (q : ℕ) (f : ℕ → Ratio) (c : ℕ) → HasNumber (less q f) c → (c ≡ q → ⊥) × HasNumber f c
less_has q f c h =
    let apart : c ≡ q → ⊥ = λ e. h (ap (λ (v : Ratio). v.num) (less_own q f c e)) in
    (apart, λ z. h (ap (λ (v : Ratio). v.num) (less_other q f c apart) ∙ z))

-- one column's number is one of those that are counted, at most
less_one : (k q : ℕ) (f : ℕ → Ratio) → q < k → nonzeros k f ≤ nonzeros k (less q f) + 1
less_one k q f l = which (zero_or (f q).num)
  where
    same : (f q).num ≡ pos 0 → (c : ℕ) → HasNumber f c → HasNumber (less q f) c
    same z c h y = by_eq c q (λ e. h (ap (λ j. (f j).num) e ∙ z)) (λ d. h (sym (ap (λ (v : Ratio). v.num) (less_other q f c d)) ∙ y))

    which : ((f q).num ≡ pos 0) ⊎ ((f q).num ≡ pos 0 → ⊥) → nonzeros k f ≤ nonzeros k (less q f) + 1
    which (inl z) = let a = fewer k f (less q f) (same z) in omega arith
    which (inr d) = let a = one_more k q (less q f) f l (ap (λ (v : Ratio). v.num) (less_own q f q refl)) d (λ c n. less_other q f c n) in omega arith

-- a row that is solved has no more entries than before
module _ (row out : ℕ → Ratio) (b e : ℕ) (red : (c : ℕ) → IsReduced (row c)) (red' : (c : ℕ) → IsReduced (out c)) (stands : HasNumber row e) (s : IsSolvedFor row b e out) where
  pub solved_has : (c : ℕ) → (c ≡ b → ⊥) → HasNumber out c → (c ≡ e → ⊥) × HasNumber row c
  solved_has c d h =
      let apart : c ≡ e → ⊥ = λ i. h (ap (λ (v : Ratio). v.num) (ap out i ∙ s.gone)) in
      (apart, λ z. h (ap (λ (v : Ratio). v.num) (made_none (out c) (negative (quotient none (row e))) (red' c) (subst (λ (v : Ratio). IsSame (out c) (negative (quotient v (row e)))) (zero_none (row c) (red c) z) (s.others c apart d)) (zero_solved (row e) (inverse-number (row e) stands)))))

  pub solved_few : (k : ℕ) → b < k → e < k → nonzeros k out ≤ nonzeros k row
  solved_few k lb le =
      let a = less_one k b out lb in
      let c = fewer k (less b out) (less e row) both in
      let d = one_more k e (less e row) row le (ap (λ (v : Ratio). v.num) (less_own e row e refl)) stands (λ j n. less_other e row j n) in
      omega arith
    where
      both : (c : ℕ) → HasNumber (less b out) c → HasNumber (less e row) c
      both c h z =
          let l = less_has b out c h in
          let r = solved_has c l.0 l.1 in
          r.1 (sym (ap (λ (v : Ratio). v.num) (less_other e row c r.0)) ∙ z)
