-- The bound in memory is that of the definitions.
use Rattle.std.proofs.Common.{◌≡◌, ℕ, suc, ◌≤◌, pos, true, cond, List, length, sym, ◌∙◌, ap, ap₂, subst, arith}
use Rattle.std.proofs.Math.ListN.{get_or-eq_default}
use Rattle.rational.specs.Ratio.{Ratio, sum, product}
use Rattle.evidence.specs.Sums.{none, total}
use Rattle.evidence.specs.Width.{StatedFits}
use Rattle.evidence.specs.Instance.{Range, Instance, HasNumbers, column_at, minimising}
use Rattle.evidence.proofs.Columns.{by_bool, by_lt}
use Rattle.evidence.proofs.Numbers.{sum-none}
use Rattle.bases.specs.Dictionary.{AreEntries}
use Rattle.bases.specs.Program.{goal_column, columns}
use Rattle.simplex_rules.specs.declared.columns.Status.{Status}
use Rattle.simplex_rules.specs.declared.columns.Status.TheVariants.{Basic}
use Rattle.simplex_rules.specs.Statuses.{is_basic, status_at, basic_in, rest_at, resting}
use Rattle.simplex_rules.specs.Widths.{BoundFits}
use Rattle.simplex_rules.specs.Reports.{bound_sum}
use Rattle.simplex_rules.proofs.Facts.{rest-number}
use Rattle.simplex.specs.declared.ends.Ends.{Ends}
use Rattle.dictionary.specs.declared.dict.Dict.{Dict}
use Rattle.dictionary.specs.declared.places.Places.{Places}
use Rattle.dictionary.specs.Dict.{columns_of, basic_of, entry_of, place_values}
use Rattle.simplex.specs.Cuts.{ranges_in, AreEndsOf}
use Rattle.simplex.specs.Tables.{AreStatuses, HasSizeOf}
use Rattle.simplex.specs.Values.{cost_in, AreTerms, AreResting}
use Rattle.simplex.proofs.Values.{ranges-numbers}

-- the goal's column comes after all others, and is basic
pub goal_status : (ss : List Status) (k : ℕ) → length ss ≤ k → status_at ss k ≡ Basic
goal_status ss k h = get_or-eq_default ss Basic h

module _ {L : _} {G : _} (d : Dict L G) (ss : List Status) (s : AreStatuses d ss) (u_are : AreEntries (columns_of d) (basic_of d) (entry_of d)) (es : List Ends) (I : Instance) (e : AreEndsOf I es) (size : HasSizeOf I d) (p : Places) (r : AreResting (ranges_in es) ss (place_values p)) (g : ℕ) (g_is : g ≡ length ss) where
  goal_is : g ≡ goal_column I
  goal_is = let n = s.count in let w = size.width in let h = size.height in omega arith

  count_is : columns I ≡ suc g
  count_is = let n = s.count in let w = size.width in let h = size.height in omega arith

  pub terms : AreTerms (cost_in ss (entry_of d g)) (place_values p) g (entry_of d (goal_column I)) (resting I ss)
  terms = record {
    cost_numbers = λ c. let k = u_are.reduced (goal_column I) c in k.0;
    value_numbers = λ c. rest-number (column_at I c) (status_at ss c) (subst HasNumbers (sym (e.is c)) (ranges-numbers es c));
    costs = λ c h.
        by_bool (basic_in ss c)
        (λ b. let f : basic_of d c ≡ true = sym (s.basic c (let n = s.count in omega arith)) ∙ b in ap (λ t. cond t none (entry_of d g c)) b ∙ sym (u_are.at_basic (goal_column I) c f))
        (λ b. ap (λ t. cond t none (entry_of d g c)) b ∙ ap (λ j. entry_of d j c) goal_is);
    values = λ c h. r c (omega arith) ∙ ap (λ (z : Range). rest_at z (status_at ss c)) (sym (e.is c));
  }

  last_cost : entry_of d (goal_column I) g ≡ none
  last_cost =
      let f : basic_in ss g ≡ true = ap is_basic (goal_status ss g (omega arith)) in
      u_are.at_basic (goal_column I) g (sym (s.basic g (let n = s.count in omega arith)) ∙ f)

  last_value : resting I ss g ≡ none
  last_value = ap (rest_at (column_at I g)) (goal_status ss g (omega arith))

  abbrev cost_by : ℕ → Ratio
  cost_by c = product (entry_of d (goal_column I) c) (resting I ss c)

  -- the goal's own term adds nothing
  pub sum_is : (start : Ratio) → start ≡ minimising I I.goal.constant → total start g (λ c. product (entry_of d (goal_column I) c) (resting I ss c)) ≡ bound_sum I ss (entry_of d)
  sum_is start q =
      let last : cost_by g ≡ none = ap₂ product last_cost last_value in
      sym (sum-none (total start g cost_by)) ∙ ap (sum (total start g cost_by)) (sym last) ∙ ap (λ k. total start k cost_by) (sym count_is) ∙ ap (λ z. total z (columns I) cost_by) q

  pub fits_more : (start : Ratio) → start ≡ minimising I I.goal.constant → StatedFits start g (entry_of d (goal_column I)) (resting I ss) → BoundFits I ss (entry_of d)
  fits_more start q f =
      subst (λ z. StatedFits z (columns I) (entry_of d (goal_column I)) (resting I ss)) q
      (record {
        steps = λ j h. by_lt j g (f.steps j)
            (λ l.
            let k : j ≡ g = omega arith in
            let z : (entry_of d (goal_column I) j).num ≡ pos 0 = ap (λ i. (entry_of d (goal_column I) i).num) k ∙ ap (λ x. x.num) last_cost in
            record { term = λ a b. absurd (a z); sum = λ a b. absurd (a z) });
      })

  pub fits_less : (start : Ratio) → start ≡ minimising I I.goal.constant → BoundFits I ss (entry_of d) → StatedFits start g (entry_of d (goal_column I)) (resting I ss)
  fits_less start q f =
      subst (λ z. StatedFits z g (entry_of d (goal_column I)) (resting I ss)) (sym q)
      (record { steps = λ j h. f.steps j (let k = count_is in omega arith) })
