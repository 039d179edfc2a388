-- The program of which a cut is tried: before any branch, with the rows of the cuts before.
use Rattle.std.proofs.Common.{◌≡◌, ℕ, ◌+◌, List, length, sym, ◌∙◌, ap, subst, arith}
use Rattle.std.proofs.lemmas.List.{length-map}
use Rattle.rational.specs.Ratio.{Ratio}
use Rattle.evidence.specs.Instance.{Instance, width}
use Rattle.bases.specs.Program.{goal_column}
use Rattle.instance.specs.Parts.{Parts}
use Rattle.instance.specs.Program.{program, row}
use Rattle.case_tree.specs.declared.cuts.Cut.{Cut}
use Rattle.case_tree.specs.Cuts.{cut, cut_variable}
use Rattle.cert_checker.specs.declared.at_hand.Added.{Added}
use Rattle.cert_checker.specs.Programs.{with_rows, AreUncut}
use Rattle.cert_checker.proofs.Widths.{cut_is}
use Rattle.cert_checker.proofs.HandRows.{rows_variables, rows_width, rows_height}
use Rattle.simplex_rules.specs.Statuses.{IsPlaced}
use Rattle.simplex_rules.specs.Ends.{End}
use Rattle.simplex_rules.proofs.Moments.{comes_placed}
use Rattle.simplex.specs.declared.work.Work.{Work}
use Rattle.simplex.specs.Memory.{statuses_in}
use Rattle.search_rules.specs.Branching.{IsWholeBelow}
use Rattle.search_rules.specs.Cuts.{IsFractional}
use Rattle.branch_bound.specs.Trials.{RanTo}

module _ (p : Parts) (rs : List Added) (cs : List Cut) (uncut : AreUncut (program p) cs) where
  pub uncut_is : cut (with_rows (program p) rs) cs ≡ with_rows (program p) rs
  uncut_is = cut_is (with_rows (program p) rs) cs (uncut ∙ sym (rows_variables (program p) rs))

  pub columns_are : goal_column (with_rows (program p) rs) ≡ length cs + (length p.rows + length rs)
  columns_are =
      let w = rows_width (program p) rs in
      let h = rows_height (program p) rs in
      let n = length-map cs cut_variable in
      let u = ap length uncut in
      let m = length-map p.rows row in
      omega arith

  module _ (x : List Ratio) where
    pub all_whole : IsWholeBelow (cut (with_rows (program p) rs) cs) x (width (cut (with_rows (program p) rs) cs)) → IsWholeBelow (with_rows (program p) rs) x (width (with_rows (program p) rs))
    all_whole h = subst (λ (J : Instance). IsWholeBelow J x (width J)) uncut_is h

    pub one_fractional : (j : ℕ) → IsFractional (cut (with_rows (program p) rs) cs) x j → IsFractional (with_rows (program p) rs) x j
    one_fractional j h = subst (λ (J : Instance). IsFractional J x j) uncut_is h

-- the statuses in memory are places of the program's columns
pub ran_placed : {L : _} {G : _} (J : Instance) (e : End) (w : Work L G) → RanTo J e w → IsPlaced J (statuses_in w)
ran_placed J e w ran = let at = ran.ended in subst (IsPlaced J) at.basis (comes_placed at.run.comes)

-- the first case of a level is its program
pub first_case_is : (p : Parts) (D : Instance) (rs : List Added) (cs : List Cut) → AreUncut (program p) cs → D.variables ≡ (program p).variables → D ≡ with_rows (program p) rs → with_rows (program p) rs ≡ cut D cs
first_case_is p D rs cs uncut variables is = sym (cut_is D cs (uncut ∙ sym variables) ∙ is)
