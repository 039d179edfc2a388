-- The generated instances are valid.
use Rattle.std.proofs.Common.{◌≡◌, ◌∙◌, ℕ, ◌+◌, ◌/◌, ◌<◌, ◌≤◌, pos, List, [], ◌∷◌, length, get_or, sym, subst, arith, inl, inr, lit≤}
use Rattle.std.specs.List.{All}
use Rattle.std.proofs.lemmas.Bool.Decides.{leb_tells}
use Rattle.std.proofs.lemmas.List.{length-replicate}
use Rattle.std.proofs.lemmas.List.Elements.{All-cons, All-nil, All-replicate}
use Rattle.std.proofs.lemmas.List.FromFn.{length-map-range_with_len, get_or-map-range_with_len}
use Rattle.std.specs.Prelude.{replicate}
use Rattle.rational.specs.Ratio.{whole}
use Rattle.fraction.specs.Frac.{ratio}
use Rattle.fraction.specs.declared.frac.Frac.{Frac}
use Rattle.fraction.specs.declared.ends.Entry.{Entry}
use Rattle.instance.specs.declared.parts.Var.{Var}
use Rattle.instance.specs.declared.parts.Row.{Row}
use Rattle.instance.specs.declared.parts.Goal.{Goal}
use Rattle.instance.specs.declared.parts.Sense.TheVariants.{Max}
use Rattle.instance.specs.Parts.{Parts, AreEnds, IsBefore, IsAscending, IsInside, IsValid}
use Rattle.generator.proofs.Naturals.{is_natural}
use Rattle.generator.specs.Instances.{natural, group_variable, cost, group_entry, row_limit, group_count, each, greatest, generated}

-- what holds of f of each variable
pub each_all : {X : Type 0} (P : X → Type 0) (f : ℕ → X) (n : ℕ) → ((j : ℕ) → j < n → P (f j)) → All P (each n f)
each_all P f n holds k d inside =
    let low : k < n = omega (arith, inside, length-map-range_with_len f 0 n) in
    subst P (sym (get_or-map-range_with_len f 0 n k k d low (omega arith))) (holds k low)

next_after : (k : ℕ) → IsBefore (group_entry k) (group_entry (k + 1))
next_after k = elim (leb_tells ((k + 1) / 4) (k / 4)) as (λ _. IsBefore (group_entry k) (group_entry (k + 1))) [
  | inl same ↦ inr (let h = same.1 in omega (arith, h), omega arith)
  | inr more ↦ inl (let h = more.1 in omega (arith, h))
]

ascending : (n : ℕ) → IsAscending (each n group_entry)
ascending n k d inside =
    let low : k + 1 < n = omega (arith, inside, length-map-range_with_len group_entry 0 n) in
    let here = get_or-map-range_with_len group_entry 0 n k k d (omega (arith, low)) (omega arith) in
    let next = get_or-map-range_with_len group_entry 0 n (k + 1) (k + 1) d low (omega arith) in
    subst (λ (e : Entry). IsBefore e (get_or (each n group_entry) (k + 1) d)) (sym here) (subst (λ (e : Entry). IsBefore (group_entry k) e) (sym next) (next_after k))

pub each_length : {X : Type 0} (f : ℕ → X) (n : ℕ) → length (each n f) ≡ n
each_length f n = length-map-range_with_len f 0 n

entry_inside : (n j : ℕ) → j < n → IsInside (group_count n) n (group_entry j)
entry_inside n j low = record { row = omega (arith, low); col = low; nonzero = λ e. cc }

pub valid : (n : ℕ) → 1 ≤ n → n ≤ 1000 → IsValid (generated n)
valid n some few =
    let rows = length-replicate (group_count n) row_limit in
    record {
      few_vars = omega (arith, few, each_length group_variable n);
      few_rows = omega (arith, few, rows);
      few_entries = omega (arith, few, each_length group_entry n);
      some_goal = lit≤ tt;
      few_goals = lit≤ tt;
      costs = All-cons (λ (g : Goal). length g.costs ≡ length (each n group_variable)) (greatest n) [] (each_length cost n ∙ sym (each_length group_variable n)) (All-nil (λ (g : Goal). length g.costs ≡ length (each n group_variable)));
      var_ends = each_all (λ v. AreEnds v.lb v.ub) group_variable n (λ j low. (λ e. cc, λ e. cc));
      row_ends = All-replicate (λ r. AreEnds r.lb r.ub) (group_count n) row_limit (λ e. cc, λ e. cc);
      ascending = ascending n;
      inside = each_all (IsInside (length (generated n).rows) (length (generated n).vars)) group_entry n (λ j low. subst (λ (m : ℕ). IsInside m (length (generated n).vars) (group_entry j)) (sym rows) (subst (λ (m : ℕ). IsInside (group_count n) m (group_entry j)) (sym (each_length group_variable n)) (entry_inside n j low)));
    }

abbrev pub goal_of : Frac → List Frac → Goal
goal_of k cs = record { sense = Max; constant = k; costs = cs }

abbrev pub parts_of : List Var → List Row → List Entry → List Goal → Parts
parts_of vs rs es gs = record { vars = vs; rows = rs; entries = es; goals = gs }

-- the parts, where each of them is as it is to be
pub made_parts : (n : ℕ) (vs : List Var) (rs : List Row) (es : List Entry) (gs : List Goal) (k : Frac) (cs : List Frac) → vs ≡ each n group_variable → rs ≡ replicate (group_count n) row_limit → es ≡ each n group_entry → gs ≡ goal_of k cs ∷ [] → ratio k ≡ whole (pos 0) → cs ≡ each n cost → parts_of vs rs es gs ≡ generated n
made_parts n vs rs es gs k cs vars rows entries goals constant costs =
    let k_is : k ≡ natural 0 (lit≤ tt) = is_natural k 0 (lit≤ tt) constant in
    cc
