use Rattle.osil_grammar.proofs.Words.{◌≡◌, sym, subst, List, ℕ, length, ap, codes, All, err_from_is_err_and, Entry, Var, Row, Goal, HasDecimal, HasDecimals, WriteVars, WriteRows, WriteGoals, WriteLists, GoalHasDecimals, EndsHaveTexts}
use Rattle.osil_grammar.proofs.Tellings.{none_of}
use Rattle.osil_grammar.proofs.Parts.{ToldSome}
use Rattle.osil_grammar.proofs.WholeInstance.{IsPart, whole_told}
use Rattle.osil_grammar.proofs.document.tell_instance.Goals as goal

pub returns-in_err-tell_goals : goal.returns-in_err-tell_goals
returns-in_err-tell_goals c =
    let p = err_from_is_err_and c.from_residual-in_err-tell_goals.result c.from_residual-in_err-tell_goals.ensures.1 in
    rw (p.1, p.2) (none_of (All GoalHasDecimals c.goals.result.now) (HasDecimals c.args.instance.now) c.in_err-tell_goals.field-0.0 (λ (all : HasDecimals c.args.instance.now). subst (λ (l : List Goal). All GoalHasDecimals l) (sym c.goals.ensures.value) all.goals) c.in_err-tell_goals.ensures)

pub returns-in_err-tell_matrix : goal.returns-in_err-tell_matrix
returns-in_err-tell_matrix c =
    let p = err_from_is_err_and c.from_residual-in_err-tell_matrix.result c.from_residual-in_err-tell_matrix.ensures.1 in
    rw (p.1, p.2) (none_of (All (λ (e : Entry). HasDecimal e.value) c.entries.result.now) (HasDecimals c.args.instance.now) c.in_err-tell_matrix.field-0.0 (λ (all : HasDecimals c.args.instance.now). subst (λ (l : List Entry). All (λ (e : Entry). HasDecimal e.value) l) (sym c.entries.ensures.value) all.entries) c.in_err-tell_matrix.ensures)

pub returns : goal.returns
returns c =
    let v = c.in_ok-tell_vars.ensures in
    let g = c.in_ok-tell_goals.ensures in
    let r = c.in_ok-tell_rows.ensures in
    let m = c.in_ok-tell_matrix.ensures in
    let rows : List Row = c.rows-rows.result.now in
    let vars = subst (λ (l : List Var). All (λ (x : Var). EndsHaveTexts x.lb x.ub) l × ToldSome (IsPart (codes "variables") (codes "numberOfVariables") (length l) (WriteVars l)) c.begin-3.new.self c.tell_vars.new.w) c.vars.ensures.value (v.0, (v.1, v.2, v.3)) in
    let objectives = subst (λ (l : List Goal). All GoalHasDecimals l × ToldSome (IsPart (codes "objectives") (codes "numberOfObjectives") (length l) (WriteGoals l)) c.tell_vars.new.w c.tell_goals.new.w) c.goals.ensures.value (g.0, (g.1, g.2, g.3)) in
    let constraints = subst (λ (l : List Row). All (λ (x : Row). EndsHaveTexts x.lb x.ub) l × ToldSome (IsPart (codes "constraints") (codes "numberOfConstraints") (length l) (WriteRows l)) c.tell_goals.new.w c.tell_rows.new.w) c.rows-rows.ensures.value (r.0, (r.1, r.2, r.3)) in
    let high : length rows ≡ length c.args.instance.now.rows = ap (λ (l : List Row). length l) c.rows-rows.ensures.value in
    let by_entries = subst (λ (l : List Entry). All (λ (x : Entry). HasDecimal x.value) l × ToldSome (IsPart (codes "linearConstraintCoefficients") (codes "numberOfValues") (length l) (WriteLists (length rows) l)) c.tell_rows.new.w c.tell_matrix.new.w) c.entries.ensures.value (m.0, (m.1, m.2, m.3)) in
    let matrix = subst (λ (n : ℕ). ToldSome (IsPart (codes "linearConstraintCoefficients") (codes "numberOfValues") (length c.args.instance.now.entries) (WriteLists n c.args.instance.now.entries)) c.tell_rows.new.w c.tell_matrix.new.w) high by_entries.1 in
    let whole = whole_told c.args.instance.now c.args.w.now c.begin.new.self c.attribute.new.self c.begin-2.new.self c.end.new.self c.begin-3.new.self c.tell_vars.new.w c.tell_goals.new.w c.tell_rows.new.w c.tell_matrix.new.w c.end-2.new.self c.end-3.new.self c.in_ok-begin.ensures c.in_ok-attribute.ensures c.in_ok-begin-2.ensures c.in_ok-end.ensures c.in_ok-begin-3.ensures vars.1 objectives.1 constraints.1 matrix c.in_ok-end-2.ensures c.in_ok-end-3.ensures in
    (record { vars = vars.0; rows = constraints.0; entries = by_entries.0; goals = objectives.0 }, whole.root, whole.writes, whole.wrote)
