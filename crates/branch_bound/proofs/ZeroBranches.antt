-- Which variables the branches above divided into 0 and their further ends.
use Rattle.std.proofs.Common.{◌≡◌, ℕ, zero, suc, ◌+◌, ◌<◌, ◌≤◌, List, length, slice_index_or, arith, refl, sym, ◌∙◌, ap, subst}
use Rattle.std.specs.List.{Contains}
use Rattle.std.proofs.lemmas.List.{get_or_default}
use Rattle.evidence.proofs.Columns.{by_lt}
use Rattle.case_tree.specs.declared.cuts.Division.{Division}
use Rattle.case_tree.specs.declared.cuts.Division.TheVariants.{Split, Zero}
use Rattle.case_tree.specs.declared.path.Branch.{Branch}
use Rattle.case_tree.specs.Cuts.{branch_at}
use Rattle.branch_bound.specs.Walks.{divided, with_zero}

-- one branch more
zero_more : (by : Division) (j col : ℕ) (js : List ℕ) → ((j ≡ col) × (by ≡ Zero) → ⊥) → (Contains js col → ⊥) → Contains (with_zero by j js) col → ⊥
zero_more (Split k) j col js other none h = none h
zero_more Zero j col js other none (zero, l, e) = other (e, refl)
zero_more Zero j col js other none (suc n, l, e) = none (n, omega arith, e)

zero_here : (by : Division) (j col : ℕ) (js : List ℕ) → j ≡ col → by ≡ Zero → Contains (with_zero by j js) col
zero_here (Split k) j col js e f = absurd (cc)
zero_here Zero j col js e f = (0, omega arith, e)

zero_kept : (by : Division) (j col : ℕ) (js : List ℕ) → Contains js col → Contains (with_zero by j js) col
zero_kept (Split k) j col js h = h
zero_kept Zero j col js (n, l, e) = (suc n, omega arith, e)

module _ (bs : List Branch) (col : ℕ) where
  pub divided_more : (e : ℕ) (b : Branch) → e < length bs → b ≡ slice_index_or bs e b → ((b.col ≡ col) × (b.by ≡ Zero) → ⊥) → (Contains (divided bs e) col → ⊥) → Contains (divided bs (e + 1)) col → ⊥
  divided_more e b h is other none c =
      let own : branch_at bs e ≡ b = get_or_default bs e _ b h ∙ sym is in
      let k : suc e ≡ e + 1 = omega arith in
      zero_more (branch_at bs e).by (branch_at bs e).col col (divided bs e) (subst (λ (a : Branch). (a.col ≡ col) × (a.by ≡ Zero) → ⊥) (sym own) other) none
      (subst (λ n. Contains (divided bs n) col) (sym k) c)

  divided_kept : (d e : ℕ) → e ≤ d → Contains (divided bs e) col → Contains (divided bs d) col
  divided_kept zero e h c = subst (λ n. Contains (divided bs n) col) (let f : e ≡ 0 = omega arith in f) c
  divided_kept (suc d) e h c =
      by_lt e (suc d)
      (λ l. zero_kept (branch_at bs d).by (branch_at bs d).col col (divided bs d) (divided_kept d e (omega arith) c))
      (λ l. subst (λ n. Contains (divided bs n) col) (let f : e ≡ suc d = omega arith in f) c)

  pub divided_here : (d e : ℕ) (b : Branch) → e < d → e < length bs → b ≡ slice_index_or bs e b → (b.col ≡ col) × (b.by ≡ Zero) → Contains (divided bs d) col
  divided_here d e b l h is divides =
      let own : branch_at bs e ≡ b = get_or_default bs e _ b h ∙ sym is in
      divided_kept d (suc e) (omega arith)
      (zero_here (branch_at bs e).by (branch_at bs e).col col (divided bs e) (ap (λ (a : Branch). a.col) own ∙ divides.0) (ap (λ (a : Branch). a.by) own ∙ divides.1))
