-- How long the text of an instance is, whose numbers are written in at most four bytes.
use Rattle.std.proofs.Common.{ℕ, zero, suc, ◌+◌, ◌*◌, ◌≤◌, Bool, true, false, nat_lt, List, [], ◌∷◌, map, length, ap, subst, sym, arith, inl, inr}
use Rattle.std.specs.List.{All}
use Rattle.std.proofs.Math.Nat.{le_trans}
use Rattle.std.proofs.lemmas.List.Elements.{All-head, All-tail}
use Rattle.tree_grammar.specs.Elements.{Nodes, Element}
use Rattle.document_tags.proofs.Lengths.{nodes_size, attributes_size, written_short}
use Rattle.fraction.specs.declared.frac.Frac.{Frac}
use Rattle.fraction.specs.declared.ends.End.{End}
use Rattle.fraction.specs.declared.ends.End.TheVariants.{NegInf, At, Inf}
use Rattle.fraction.specs.declared.ends.Entry.{Entry}
use Rattle.instance.specs.declared.parts.Var.{Var}
use Rattle.instance.specs.declared.parts.Row.{Row}
use Rattle.instance.specs.declared.parts.Goal.{Goal}
use Rattle.instance.specs.declared.parts.Sense.{Sense}
use Rattle.instance.specs.declared.parts.Sense.TheVariants.{Min, Max}
use Rattle.instance.specs.Parts.{Parts}
use Rattle.osil_grammar.specs.Saying.{IsEndText}
use Rattle.osil_grammar.specs.Writing.{sense_text, WriteVars, WriteRows, WriteCosts, CountsCosts, WritesGoal, WriteGoals, WriteValues, WriteLists, IsWrittenText, counts_nodes, entries_below, row_starts}
use Rattle.osil_grammar.specs.VarTags.{type_text}
use Rattle.generator.proofs.Digits.{IsShort, count_short}
use Rattle.osil_grammar.proofs.Documents.{one_below}

-- each text of an end has at most four bytes
abbrev pub IsShortEnd : End → Type 0
IsShortEnd NegInf = Unit {0}
IsShortEnd (At x) = IsShort x
IsShortEnd Inf = Unit {0}

end_size : (e : End) (text : List ℕ) → IsShortEnd e → IsEndText e text → length text ≤ 4
end_size NegInf text short is = omega (arith, ap (λ (t : List ℕ). length t) is)
end_size (At x) text short is = short text is
end_size Inf text short is = omega (arith, ap (λ (t : List ℕ). length t) is)

type_size : (whole semi : Bool) → length (type_text whole semi) ≤ 1
type_size false false = omega arith
type_size true false = omega arith
type_size false true = omega arith
type_size true true = omega arith

sense_size : (s : Sense) → length (sense_text s) ≤ 3
sense_size Min = omega arith
sense_size Max = omega arith

abbrev pub VarIsShort : Var → Type 0
VarIsShort v = IsShortEnd v.lb × IsShortEnd v.ub

abbrev pub RowIsShort : Row → Type 0
RowIsShort r = IsShortEnd r.lb × IsShortEnd r.ub

vars_size : (vs : List Var) (nodes : Nodes) → All VarIsShort vs → WriteVars vs nodes → nodes_size nodes ≤ 85 * length vs
vars_size [] nodes short is = omega (arith, ap nodes_size is)
vars_size (v ∷ vs) nodes short (more, others, is) =
    let here = All-head VarIsShort v vs short in
    let rest = vars_size vs more (All-tail VarIsShort v vs short) others in
    omega (arith, ap nodes_size is.says, rest, end_size v.lb is.lb here.0 is.is_lb, end_size v.ub is.ub here.1 is.is_ub, type_size v.whole v.zero)

rows_size : (rs : List Row) (nodes : Nodes) → All RowIsShort rs → WriteRows rs nodes → nodes_size nodes ≤ 71 * length rs
rows_size [] nodes short is = omega (arith, ap nodes_size is)
rows_size (r ∷ rs) nodes short is =
    let here = All-head RowIsShort r rs short in
    let rest = rows_size rs is.2 (All-tail RowIsShort r rs short) is.5 in
    omega (arith, ap nodes_size is.6, rest, end_size r.lb is.0 here.0 is.3, end_size r.ub is.1 here.1 is.4)

costs_size : (cs : List Frac) (j : ℕ) (nodes : Nodes) → j + length cs ≤ 1000 → All IsShort cs → WriteCosts j cs nodes → nodes_size nodes ≤ 68 * length cs
costs_size [] j nodes few short is = omega (arith, ap nodes_size is)
costs_size (c ∷ cs) j nodes few short (inl (z, is)) = omega (arith, costs_size cs (j + 1) nodes (omega (arith, few)) (All-tail IsShort c cs short) is)
costs_size (c ∷ cs) j nodes few short (inr is) =
    let rest = costs_size cs (j + 1) is.2 (omega (arith, few)) (All-tail IsShort c cs short) is.4 in
    omega (arith, ap nodes_size is.5, rest, All-head IsShort c cs short is.1 is.3, count_short j (omega (arith, few)))

few_counted : (cs : List Frac) (n : ℕ) → CountsCosts cs n → n ≤ length cs
few_counted [] n is = omega (arith, is)
few_counted (c ∷ cs) n (inl is) = omega (arith, few_counted cs n is.1)
few_counted (c ∷ cs) n (inr is) = omega (arith, is.3, few_counted cs is.1 is.2)

-- a goal of few costs, whose numbers have short texts
pub record GoalIsBrief (g : Goal) : Type 0 where
  pub few : length g.costs ≤ 1000
  pub constant : IsShort g.constant
  pub costs : All IsShort g.costs

goal_size : (g : Goal) (more nodes : Nodes) → GoalIsBrief g → WritesGoal g more nodes → nodes_size nodes ≤ 150 + 68 * length g.costs + nodes_size more
goal_size g more nodes brief is =
    let few = brief.few in
    let inner = costs_size g.costs 0 is.costs (omega (arith, few)) brief.costs is.are_costs in
    let count = count_short is.count (omega (arith, few, few_counted g.costs is.count is.counts)) in
    omega (arith, ap nodes_size is.says, inner, count, brief.constant is.constant is.is_constant, sense_size g.sense)

-- goals take so many bytes
abbrev pub goals_room : List Goal → ℕ
goals_room [] = 0
goals_room (g ∷ gs) = 150 + 68 * length g.costs + goals_room gs

goals_size : (gs : List Goal) (nodes : Nodes) → All GoalIsBrief gs → WriteGoals gs nodes → nodes_size nodes ≤ goals_room gs
goals_size [] nodes brief is = omega (arith, ap nodes_size is)
goals_size (g ∷ gs) nodes brief is =
    let first = goal_size g is.0 nodes (All-head GoalIsBrief g gs brief) is.2 in
    let rest = goals_size gs is.0 (All-tail GoalIsBrief g gs brief) is.1 in
    omega (arith, first, rest)

few_below : (i : ℕ) (es : List Entry) → entries_below i es ≤ length es
few_below i [] = omega arith
few_below i (e ∷ es) = omega (arith, one_below (nat_lt e.row i) (entries_below i es) (length es) (few_below i es))

starts_size : (es : List Entry) (m i : ℕ) → length es ≤ 1000 → nodes_size (counts_nodes (row_starts es i m)) ≤ 33 * m + 33
starts_size es zero i few = omega (arith, count_short (entries_below i es) (omega (arith, few, few_below i es)))
starts_size es (suc m) i few = omega (arith, starts_size es m (i + 1) few, count_short (entries_below i es) (omega (arith, few, few_below i es)))

columns_size : (es : List Entry) → All (λ e. e.col ≤ 1000) es → nodes_size (counts_nodes (map (λ e. e.col) es)) ≤ 33 * length es
columns_size [] small = omega arith
columns_size (e ∷ es) small =
    let one = All-head (λ (e : Entry). e.col ≤ 1000) e es small in
    omega (arith, columns_size es (All-tail (λ (e : Entry). e.col ≤ 1000) e es small), count_short e.col (omega (arith, one)))

values_size : (es : List Entry) (nodes : Nodes) → All (λ e. IsShort e.value) es → WriteValues es nodes → nodes_size nodes ≤ 33 * length es
values_size [] nodes short is = omega (arith, ap nodes_size is)
values_size (e ∷ es) nodes short is =
    let rest = values_size es is.1 (All-tail (λ (e : Entry). IsShort e.value) e es short) is.3 in
    omega (arith, ap nodes_size is.4, rest, All-head (λ (e : Entry). IsShort e.value) e es short is.0 is.2)

lists_size : (m : ℕ) (es : List Entry) (nodes : Nodes) → length es ≤ 1000 → All (λ e. e.col ≤ 1000) es → All (λ e. IsShort e.value) es → WriteLists m es nodes → nodes_size nodes ≤ 100 + 33 * m + 66 * length es
lists_size m [] nodes few small short is = omega (arith, ap nodes_size is)
lists_size m (e ∷ es) nodes few small short is =
    omega (arith, ap nodes_size is.2, starts_size (e ∷ es) m 0 few, columns_size (e ∷ es) small, values_size (e ∷ es) is.0 short is.1)

-- an instance of few parts, whose numbers have short texts
pub record IsBrief (p : Parts) : Type 0 where
  pub few_vars : length p.vars ≤ 1000
  pub few_rows : length p.rows ≤ 1000
  pub few_entries : length p.entries ≤ 1000
  pub few_goals : length p.goals ≤ 1000
  pub columns : All (λ e. e.col ≤ 1000) p.entries
  pub vars : All VarIsShort p.vars
  pub rows : All RowIsShort p.rows
  pub values : All (λ e. IsShort e.value) p.entries
  pub goals : All GoalIsBrief p.goals

pub text_size : (p : Parts) (text : List ℕ) → IsBrief p → IsWrittenText p text → length text ≤ 750 + 85 * length p.vars + goals_room p.goals + 104 * length p.rows + 66 * length p.entries
text_size p text brief is =
    let w = is.writes in
    let all = written_short is.root in
    let vars = vars_size p.vars w.vars brief.vars w.are_vars in
    let goals = goals_size p.goals w.goals brief.goals w.are_goals in
    let rows = rows_size p.rows w.rows brief.rows w.are_rows in
    let lists = lists_size (length p.rows) p.entries w.lists brief.few_entries brief.columns brief.values w.are_lists in
    let vars_count = count_short (length p.vars) (omega (arith, brief.few_vars)) in
    let goals_count = count_short (length p.goals) (omega (arith, brief.few_goals)) in
    let rows_count = count_short (length p.rows) (omega (arith, brief.few_rows)) in
    let entries_count = count_short (length p.entries) (omega (arith, brief.few_entries)) in
    let most : ℕ = 750 + 85 * length p.vars + goals_room p.goals + 104 * length p.rows + 66 * length p.entries in
    let room : Element → ℕ = λ e. 43 + 2 * length e.name + attributes_size e.attributes + nodes_size e.children in
    let small : room is.root ≤ most = subst (λ (e : Element). room e ≤ most) (sym w.says) (omega (arith, vars, goals, rows, lists, vars_count, goals_count, rows_count, entries_count)) in
    subst (λ (t : List ℕ). length t ≤ most) (sym is.says) (le_trans all small)
