-- What runs are given: first, with one more row past those that there are, and with another goal.
use Rattle.std.proofs.Common.{◌≡◌, ℕ, zero, suc, ◌+◌, ◌-◌, ◌<◌, Bool, cond, nat_lt, List, [], ◌∷◌, ◌++◌, length, map, get_or, arith, refl, sym, ◌∙◌, ap, subst}
use Rattle.std.proofs.lemmas.Bool.{lt-ltb, le-ltb}
use Rattle.std.proofs.lemmas.List.{length-map, length_push, get_or_append_left, get_or_push}
use Rattle.rational.specs.Ratio.{Ratio}
use Rattle.evidence.specs.Instance.{Instance, free, no_variable, no_goal, width, height, row_at, entry_at}
use Rattle.evidence.specs.AddedRows.{with_row}
use Rattle.evidence.proofs.AddedRows.{height_added, row_own, row_other, own_entry, other_entry}
use Rattle.evidence.proofs.Columns.{by_lt}
use Rattle.instance.specs.Parts.{Parts}
use Rattle.instance.specs.Program.{variable, row, entries, goals, program}
use Rattle.case_tree.specs.declared.cuts.Cut.{Cut}
use Rattle.case_tree.specs.Cuts.{cut_variable}
use Rattle.simplex.specs.declared.ends.Ends.{Ends}
use Rattle.simplex.specs.declared.cuts.Added.{Added}
use Rattle.simplex.specs.Cuts.{Cutting, no_row, added_at, range_of, row_range, row_entry, IsAdded, Suits}
use Rattle.branch_bound.specs.Levels.{ends_in, IsGiven}

-- what is read of row i, which is one of m, or past them one of a list
module _ {A : Type 0} (m : ℕ) (a : A) (F : Added → A) (rs : List Added) (r : Added) (i : ℕ) where
  -- the rows before the last one
  kept_at : i < m + length rs → cond (nat_lt i m) a (F (added_at (rs ++ r ∷ []) (i - m))) ≡ cond (nat_lt i m) a (F (added_at rs (i - m)))
  kept_at h =
      by_lt i m
      (λ l. ap (λ (b : Bool). cond b a (F (added_at (rs ++ r ∷ []) (i - m)))) (lt-ltb i m l) ∙ sym (ap (λ (b : Bool). cond b a (F (added_at rs (i - m)))) (lt-ltb i m l)))
      (λ l. ap (λ (x : Added). cond (nat_lt i m) a (F x)) (get_or_append_left rs (r ∷ []) no_row (i - m) (omega arith)))

  -- and the last one
  new_at : i ≡ m + length rs → cond (nat_lt i m) a (F (added_at (rs ++ r ∷ []) (i - m))) ≡ F r
  new_at e =
      ap (λ (b : Bool). cond b a (F (added_at (rs ++ r ∷ []) (i - m)))) (le-ltb i m (omega arith))
      ∙ ap F (get_or_push rs r no_row (i - m) (omega arith))

-- it suits them, too
pub suits_more : (p : Parts) (k : Cutting) (r : Added) → Suits p k → IsAdded (length p.vars) (length p.rows + length k.rows) r → Suits p (record k { rows = k.rows ++ r ∷ [] })
suits_more p k r suits own = record {
  ends = suits.ends;
  rows = λ i h. by_lt i (length k.rows)
      (λ l. subst (λ (x : Added). IsAdded (length p.vars) (length p.rows + i) x) (sym (get_or_append_left k.rows (r ∷ []) no_row i l)) (suits.rows i l))
      (λ l.
      let n = length_push k.rows r in
      let e : length k.rows ≡ i = omega arith in
      subst (λ j. IsAdded (length p.vars) (length p.rows + j) (added_at (k.rows ++ r ∷ []) j)) e
      (subst (λ (x : Added). IsAdded (length p.vars) (length p.rows + length k.rows) x) (sym (get_or_push k.rows r no_row (length k.rows) refl)) own));
  goal = suits.goal;
}

module _ (p : Parts) (k : Cutting) (D : Instance) (given : IsGiven p k D) where
  wide : width D ≡ length p.vars
  wide = ap length given.variables ∙ length-map p.vars variable

  -- one more row, whose entries are these numbers
  module _ (r : Added) (f : ℕ → Ratio) (values : (j : ℕ) → j < length p.vars → entry_at (entries r.entries) (length p.rows + length k.rows) j ≡ f j) where
    abbrev W : Instance
    W = with_row D (range_of r.ends) f

    abbrev more : Cutting
    more = record k { rows = k.rows ++ r ∷ [] }

    row_is : height D ≡ length p.rows + length k.rows → ((i : ℕ) → i < height D → row_at D i ≡ row_range p.rows k.rows i) → (i : ℕ) → i < height W → row_at W i ≡ row_range p.rows more.rows i
    row_is high is i h =
        let long = height_added D (range_of r.ends) f in
        by_lt i (height D)
        (λ l. row_other D (range_of r.ends) f i l ∙ is i l ∙ sym (kept_at (length p.rows) (get_or (map row p.rows) i free) (λ (x : Added). range_of x.ends) k.rows r i (omega arith)))
        (λ l.
        let e : height D ≡ i = omega arith in
        subst (λ n. row_at W n ≡ row_range p.rows more.rows n) e
        (row_own D (range_of r.ends) f ∙ sym (new_at (length p.rows) (get_or (map row p.rows) (height D) free) (λ (x : Added). range_of x.ends) k.rows r (height D) high)))

    entry_is : height D ≡ length p.rows + length k.rows → ((i j : ℕ) → i < height D → j < length p.vars → entry_at D.entries i j ≡ row_entry p k.rows i j) → (i j : ℕ) → i < height W → j < length p.vars → entry_at W.entries i j ≡ row_entry p more.rows i j
    entry_is high is i j h l =
        let long = height_added D (range_of r.ends) f in
        let w = wide in
        by_lt i (height D)
        (λ b. other_entry (height D) (width D) f D.entries i j (λ e. omega arith) ∙ is i j b l ∙ sym (kept_at (length p.rows) (entry_at (entries p.entries) i j) (λ (x : Added). entry_at (entries x.entries) i j) k.rows r i (omega arith)))
        (λ b.
        let e : height D ≡ i = omega arith in
        subst (λ n. entry_at W.entries n j ≡ row_entry p more.rows n j) e
        (own_entry (height D) (width D) f D.entries j (omega arith) ∙ sym (values j l) ∙ ap (λ n. entry_at (entries r.entries) n j) (sym high)
        ∙ sym (new_at (length p.rows) (entry_at (entries p.entries) (height D) j) (λ (x : Added). entry_at (entries x.entries) (height D) j) k.rows r (height D) high)))

    pub given_row : IsGiven p more W
    given_row = record {
      cut = λ cs long.
          let is = given.cut cs long in
          let n = length-map cs ends_in in
          record {
            width = is.width;
            height = height_added D (range_of r.ends) f ∙ (let h = is.height in let m = length_push k.rows r in omega arith);
            variables = is.variables;
            rows = row_is is.height is.rows;
            entries = λ i j h l. let w = is.width in entry_is is.height (λ i j h l. is.entries i j h (omega arith)) i j h (omega arith);
            goal = is.goal;
          };
      variables = given.variables;
    }

  -- and the goal of this number
  pub given_goal : (n : ℕ) → IsGiven p (record k { goal = n }) (record D { goal = get_or (goals p.goals) n no_goal })
  given_goal n = record {
    cut = λ cs long.
        let is = given.cut cs long in
        record { width = is.width; height = is.height; variables = is.variables; rows = is.rows; entries = is.entries; goal = refl };
    variables = given.variables;
  }

-- the ends of variables as a case has them
ends_are : (cs : List Cut) (j : ℕ) → (get_or (map cut_variable cs) j no_variable).range ≡ get_or (map range_of (map ends_in cs)) j free
ends_are [] j = refl
ends_are (c ∷ cs) zero = refl
ends_are (c ∷ cs) (suc j) = ends_are cs j

-- before any row, with the first goal
pub given_first : (p : Parts) (es : List Ends) → IsGiven p (record { ends = es; rows = []; goal = 0 }) (program p)
given_first p es = record {
  cut = λ cs long.
      let high = length-map p.rows row in
      record {
        width = length-map cs cut_variable ∙ sym (length-map cs ends_in);
        height = omega arith;
        variables = λ j h. ends_are cs j;
        rows = λ i h. sym (ap (λ (b : Bool). cond b (get_or (map row p.rows) i free) (range_of no_row.ends)) (lt-ltb i (length p.rows) (omega arith)));
        entries = λ i j h l. sym (ap (λ (b : Bool). cond b (entry_at (entries p.entries) i j) (entry_at (entries no_row.entries) i j)) (lt-ltb i (length p.rows) (omega arith)));
        goal = refl;
      };
  variables = refl;
}
