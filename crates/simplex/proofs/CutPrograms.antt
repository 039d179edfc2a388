-- Programs with cut ends and added rows: their columns, and the rows that a dictionary is loaded with.
use Rattle.std.proofs.Common.{w8, to_z, of_z, ◌≡◌, ℕ, ◌+◌, ◌-◌, ◌<◌, ◌≤◌, Bool, true, false, cond, Option, List, length, map, get_or, refl, sym, ◌∙◌, ap, subst, arith}
use Rattle.std.proofs.Math.ListN.{get_or-eq_default}
use Rattle.std.proofs.lemmas.List.{length-map}
use Rattle.std.proofs.lemmas.Bool.{lt-ltb, le-ltb}
use Rattle.rational.specs.Ratio.{Ratio}
use Rattle.fraction.specs.Frac.{ratio, ratios}
use Rattle.fraction.specs.declared.frac.Frac.{Frac}
use Rattle.evidence.specs.Sums.{none}
use Rattle.evidence.specs.Instance.{Instance, Goal, free, no_goal, width, height, variable_at, row_at, column_at, entry_at, minimising_by, minimising}
use Rattle.evidence.specs.Point.{value_at}
use Rattle.evidence.proofs.Columns.{by_lt}
use Rattle.instance.specs.declared.parts.Sense.{Sense}
use Rattle.instance.specs.declared.parts.Sense.TheVariants.{Min, Max}
use Rattle.instance.specs.Parts.{Parts}
use Rattle.instance.specs.declared.parts.Goal.{Goal as Own}
use Rattle.instance.specs.Program.{goal, goals, sense, entries}
use Rattle.bases.specs.Dictionary.{Entries}
use Rattle.bases.specs.Program.{goal_row, rows_with_goal}
use Rattle.simplex.specs.declared.ends.Ends.{Ends}
use Rattle.dictionary.specs.ProgramRows.{program_rows, times_sign}
use Rattle.simplex.specs.Loads.{factor_of, IsStart}
use Rattle.simplex.specs.Cuts.{Cutting, range_of, ranges_in, row_range, row_entry, range_at, added_at, IsCutBy, AreEndsOf, AreRowsBeside}

pub factor_fits : (z : Bool) (s : Sense) → to_z w8 (of_z w8 (factor_of z s)) ≡ factor_of z s
factor_fits true s = refl
factor_fits false Min = refl
factor_fits false Max = refl

signed : (s : Sense) (x : Ratio) → times_sign (factor_of false s) x ≡ minimising_by (sense s) x
signed Min x = refl
signed Max x = refl

module _ (p : Parts) (k : Cutting) (I : Instance) (cut : IsCutBy p k I) where
  module _ (es : List Ends) (long : length es ≡ length k.ends + (length p.rows + length k.rows)) (each : (c : ℕ) → c < length es → ranges_in es c ≡ range_at k.ends p.rows k.rows c) where
    of_variable : (c : ℕ) → c < length k.ends → column_at I c ≡ ranges_in es c
    of_variable c h =
        let l : c < width I = let w = cut.width in omega arith in
        let s = lt-ltb c (width I) l in
        let t = lt-ltb c (length k.ends) h in
        ap (λ b. cond b (variable_at I c).range (row_at I (c - width I))) s ∙ cut.variables c h
        ∙ sym (each c (omega arith) ∙ ap (λ b. cond b (ranges_in k.ends c) (row_range p.rows k.rows (c - length k.ends))) t)

    row_is : (c : ℕ) → length k.ends ≤ c → column_at I c ≡ row_at I (c - length k.ends)
    row_is c h =
        let l : width I ≤ c = let w = cut.width in omega arith in
        let s = le-ltb c (width I) l in
        ap (λ b. cond b (variable_at I c).range (row_at I (c - width I))) s ∙ ap (λ n. row_at I (c - n)) cut.width

    of_row : (c : ℕ) → length k.ends ≤ c → c < length es → column_at I c ≡ ranges_in es c
    of_row c h l =
        let t = le-ltb c (length k.ends) h in
        let m = cut.height in
        row_is c h ∙ cut.rows (c - length k.ends) (omega arith)
        ∙ sym (each c l ∙ ap (λ b. cond b (ranges_in k.ends c) (row_range p.rows k.rows (c - length k.ends))) t)

    of_none : (c : ℕ) → length es ≤ c → column_at I c ≡ ranges_in es c
    of_none c h =
        let m = cut.height in
        let n = length-map es range_of in
        row_is c (omega arith) ∙ get_or-eq_default I.rows free (omega arith) ∙ sym (get_or-eq_default (map range_of es) free (omega arith))

    pub cut_ends : AreEndsOf I es
    cut_ends = record {
      count = let r = cut.height in let w = cut.width in omega arith;
      is = λ c. by_lt c (length k.ends) (of_variable c) (λ h. by_lt c (length es) (of_row c h) (of_none c));
    }

  -- the goal that is asked
  module _ (o : Own) (own : goal o ≡ get_or (goals p.goals) k.goal no_goal) where
    goal_is : (z : Bool) (j : ℕ) → times_sign (factor_of z o.sense) (value_at (ratios o.costs) j) ≡ goal_row z I j
    goal_is true j = refl
    goal_is false j = signed o.sense (value_at (ratios o.costs) j) ∙ ap (λ (g : Goal). minimising_by g.sense (get_or g.costs j none)) (own ∙ sym cut.goal)

    pub start_cut : (z : Bool) (s : Option Frac) → IsStart z (minimising_by (sense o.sense) (ratio o.constant)) s → IsStart z (minimising I I.goal.constant) s
    start_cut z s h = subst (λ x. IsStart z x s) (ap (λ (g : Goal). minimising_by g.sense g.constant) (own ∙ sym cut.goal)) h

    -- the rows and the goal's, as they are loaded
    module _ (z : Bool) (B : Entries) (m : ℕ) (high : m ≡ length p.rows + length k.rows) where
      abbrev A : Entries
      A = program_rows p.entries o.costs (factor_of z o.sense) m

      module _ (beside : AreRowsBeside A (length p.rows) k.rows (length k.rows) B) (i j : ℕ) (inside : j < width I) where
        loaded_own : i < length p.rows → B i j ≡ row_entry p k.rows i j
        loaded_own l =
            let s = lt-ltb i m (omega arith) in
            let t = lt-ltb i (length p.rows) l in
            beside.before i j l ∙ ap (λ b. cond b (entry_at (entries p.entries) i j) (times_sign (factor_of z o.sense) (value_at (ratios o.costs) j))) s
            ∙ sym (ap (λ b. cond b (entry_at (entries p.entries) i j) (entry_at (entries (added_at k.rows (i - length p.rows)).entries) i j)) t)

        loaded_beside : length p.rows ≤ i → i < m → B i j ≡ row_entry p k.rows i j
        loaded_beside h l =
            let t = le-ltb i (length p.rows) h in
            let e : length p.rows + (i - length p.rows) ≡ i = omega arith in
            subst (λ r. B r j ≡ entry_at (entries (added_at k.rows (i - length p.rows)).entries) r j) e (beside.set (i - length p.rows) j (omega arith))
            ∙ sym (ap (λ b. cond b (entry_at (entries p.entries) i j) (entry_at (entries (added_at k.rows (i - length p.rows)).entries) i j)) t)

        loaded_row : i < height I → B i j ≡ rows_with_goal z I i j
        loaded_row l =
            let n = cut.height in
            by_lt i (length p.rows) loaded_own (λ h. loaded_beside h (omega arith))
            ∙ sym (ap (λ b. cond b (entry_at I.entries i j) (goal_row z I j)) (lt-ltb i (height I) l) ∙ cut.entries i j l inside)

        loaded_goal : height I ≤ i → B i j ≡ rows_with_goal z I i j
        loaded_goal l =
            let n = cut.height in
            let s = le-ltb i m (omega arith) in
            beside.past i j (omega arith) ∙ ap (λ b. cond b (entry_at (entries p.entries) i j) (times_sign (factor_of z o.sense) (value_at (ratios o.costs) j))) s ∙ goal_is z j
            ∙ sym (ap (λ b. cond b (entry_at I.entries i j) (goal_row z I j)) (le-ltb i (height I) l))

        pub rows_loaded : B i j ≡ rows_with_goal z I i j
        rows_loaded = by_lt i (height I) loaded_row loaded_goal
