-- The row of a cut, as it is added.
use Rattle.std.proofs.Common.{◌≡◌, ℕ, ◌+◌, ◌<◌, ℤ, None, Some, List, [], ◌∷◌, ◌++◌, length, lit<, arith, sym, ◌∙◌, ap, subst}
use Rattle.std.proofs.lemmas.List.{length-map, length_push}
use Rattle.rational.specs.Ratio.{Ratio, whole}
use Rattle.fraction.specs.Frac.{ratio}
use Rattle.fraction.specs.declared.frac.Frac.{Frac}
use Rattle.fraction.specs.declared.ends.End.{End}
use Rattle.fraction.specs.declared.ends.Entry.{Entry}
use Rattle.fraction.specs.declared.ends.End.TheVariants.{At, Inf, NegInf}
use Rattle.evidence.specs.Instance.{Range, Instance, entry_at}
use Rattle.evidence.specs.OneDenominator.{number_at}
use Rattle.evidence.specs.Rounds.{derive}
use Rattle.evidence.specs.AddedRows.{with_row}
use Rattle.evidence.proofs.AddedRows.{instance_added}
use Rattle.instance.specs.Parts.{Parts}
use Rattle.instance.specs.declared.parts.Row.{Row}
use Rattle.instance.specs.Program.{row, entries, program, variable}
use Rattle.certificate.specs.declared.nodes.Cert.{Cert}
use Rattle.cert_checker.specs.declared.at_hand.Added.{Added as Checked}
use Rattle.cert_checker.specs.Programs.{coefficient, with_rows}
use Rattle.cert_checker.proofs.HandRows.{rows_width, rows_more, row_same}
use Rattle.simplex.specs.declared.cuts.Added.{Added}
use Rattle.simplex.specs.Cuts.{Cutting, range_of}
use Rattle.branch_bound.specs.declared.level.Level.{Level}
use Rattle.branch_bound.specs.declared.relaxation.Relaxation.{Relaxation}
use Rattle.branch_bound.specs.Levels.{IsGiven, IsAtLevel}
use Rattle.branch_bound.specs.Cases.{HasSize, SuitsLevel}
use Rattle.branch_bound.proofs.GivenRows.{given_row}

-- at least k
abbrev pub cut_range : ℤ → Range
cut_range k = record { lb = Some (whole k); ub = None }

pub ends_range : (r : Row) (x : Frac) (k : ℤ) → r ≡ record { lb = At x; ub = Inf } → ratio x ≡ whole k → row r ≡ cut_range k
ends_range r x k is value = ap row is ∙ ap (λ (y : Ratio). let g : Range = record { lb = Some y; ub = None } in g) value

pub not_above : (e : End) (x : Frac) → e ≡ At x → e ≡ Inf → ⊥
not_above e x is up = cc

pub not_below : (e : End) → e ≡ Inf → e ≡ NegInf → ⊥
not_below e is down = cc

-- the entries of a row, wherever it stands
pub placed : (es : List Entry) (w : ℕ) (f : ℕ → Ratio) (i n : ℕ) → ((j : ℕ) → j < w → entry_at (entries es) i j ≡ f j) → i ≡ n → (j : ℕ) → j < w → entry_at (entries es) n j ≡ f j
placed es w f i n are e j h = subst (λ m. entry_at (entries es) m j ≡ f j) e (are j h)

-- runs are given the row x, and cuts after it are derived with the row a
module _ {M : _} {G : _} (p : Parts) (r s : Relaxation M G) (v : Level) (cs : List ℤ) (k : ℤ) (x : Added) (a : Checked) (one : length p.goals ≡ 1) (ends : s.ends ≡ record r.ends { rows = r.ends.rows ++ x ∷ [] }) (rows : s.rows.items ≡ r.rows.items ++ a ∷ []) (range : range_of x.ends ≡ cut_range k) (own : row a.ends ≡ cut_range k) (values : (j : ℕ) → j < length p.vars → entry_at (entries x.entries) (length p.rows + length r.ends.rows) j ≡ whole (number_at cs j)) (same : (j : ℕ) → j < length p.vars → coefficient a j ≡ whole (number_at cs j)) where
  cut_given : (D : Instance) → IsGiven p r.ends D → IsGiven p s.ends (derive D cs k)
  cut_given D given =
      subst (λ (h : Cutting). IsGiven p h (derive D cs k)) (sym ends)
      (subst (λ (q : Range). IsGiven p (record r.ends { rows = r.ends.rows ++ x ∷ [] }) (with_row D q (λ j. whole (number_at cs j)))) range
      (given_row p r.ends D given x (λ j. whole (number_at cs j)) values))

  cut_is : derive (with_rows (program p) r.rows.items) cs k ≡ with_rows (program p) s.rows.items
  cut_is =
      row_same (with_rows (program p) r.rows.items) (cut_range k) (λ j. whole (number_at cs j)) (coefficient a)
      (λ j h. let w = rows_width (program p) r.rows.items in let n = length-map p.vars variable in sym (same j (omega arith)))
      ∙ ap (λ (q : Range). with_row (with_rows (program p) r.rows.items) q (coefficient a)) (sym own)
      ∙ sym (rows_more (program p) r.rows.items a)
      ∙ ap (with_rows (program p)) (sym rows)

  pub cut_suits : (u : Level) → u.goal ≡ v.goal → HasSize p s → SuitsLevel p r v → SuitsLevel p s u
  cut_suits u goal size suits = record {
    size = size;
    goal = let g = suits.goal in omega arith;
    one = λ e.
        let first = suits.one e in
        let more = length_push r.rows.items a in
        let beside = length_push r.ends.rows x in (
          subst (IsGiven p s.ends) cut_is (cut_given (with_rows (program p) r.rows.items) first.0),
          ap length rows ∙ more ∙ ap (λ n. n + 1) first.1 ∙ sym beside ∙ ap (λ (h : Cutting). length h.rows) (sym ends),
        );
  }

  pub cut_at : (u : Level) → u.goal ≡ v.goal → u.before ≡ v.before → u.certs ≡ v.certs → (L D : Instance) → IsAtLevel p r v L D → IsAtLevel p s u L (derive D cs k)
  cut_at u goal before certs L D at = record {
    good = instance_added D (cut_range k) (λ j. whole (number_at cs j)) at.good (lit< tt, tt) (λ j. lit< tt);
    given = cut_given D at.given;
    goal = ap (λ (h : Cutting). h.goal) ends ∙ at.goal ∙ sym goal;
    level_goal = at.level_goal;
    shown = ap (λ (ks : List Cert). length ks) certs ∙ at.shown ∙ sym goal;
    counted = λ n. rw (certs, before) (at.counted n);
    several = λ h. absurd (omega arith);
    first = λ e. ap (λ (I : Instance). derive I cs k) (at.first (sym goal ∙ e)) ∙ cut_is;
  }
