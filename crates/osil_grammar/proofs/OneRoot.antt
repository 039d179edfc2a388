-- An instance is written in one way.
use Rattle.osil_grammar.proofs.Words.{◌≡◌, ◌∙◌, ℕ, ◌+◌, List, [], ◌∷◌, ap, sym, inl, inr, decimal, Nodes, Element, Frac, End, At, Entry, Var, Row, Goal, Parts, IsEndText, WriteVars, WriteRows, WriteCosts, CountsCosts, WriteGoals, WriteValues, WriteLists, WritesInstance}
use Rattle.decimal_text.proofs.PlainTexts.{plain_once}

end_once : (end : End) (s t : List ℕ) → IsEndText end s → IsEndText end t → s ≡ t
end_once (At x) s t p q = plain_once x s t p q
end_once end s t p q = p ∙ sym q

vars_once : (vs : List Var) (a b : Nodes) → WriteVars vs a → WriteVars vs b → a ≡ b
vars_once [] a b p q = p ∙ sym q
vars_once (v ∷ vs) a b (more, are, x) (others, are_others, y) =
    let low = end_once v.lb x.lb y.lb x.is_lb y.is_lb in
    let high = end_once v.ub x.ub y.ub x.is_ub y.is_ub in
    let rest = vars_once vs more others are are_others in
    let first = x.says in
    let second = y.says in
    cc

rows_once : (rs : List Row) (a b : Nodes) → WriteRows rs a → WriteRows rs b → a ≡ b
rows_once [] a b p q = p ∙ sym q
rows_once (r ∷ rs) a b p q =
    let low = end_once r.lb p.0 q.0 p.3 q.3 in
    let high = end_once r.ub p.1 q.1 p.4 q.4 in
    let rest = rows_once rs p.2 q.2 p.5 q.5 in
    let first = p.6 in
    let second = q.6 in
    cc

costs_once : (j : ℕ) (cs : List Frac) (a b : Nodes) → WriteCosts j cs a → WriteCosts j cs b → a ≡ b
costs_once j [] a b p q = p ∙ sym q
costs_once j (c ∷ cs) a b (inl p) (inl q) = costs_once (j + 1) cs a b p.1 q.1
costs_once j (c ∷ cs) a b (inl p) (inr q) = absurd (q.0 p.0)
costs_once j (c ∷ cs) a b (inr p) (inl q) = absurd (p.0 q.0)
costs_once j (c ∷ cs) a b (inr p) (inr q) =
    let text = plain_once c p.1 q.1 p.3 q.3 in
    let rest = costs_once (j + 1) cs p.2 q.2 p.4 q.4 in
    let first = p.5 in
    let second = q.5 in
    cc

count_once : (cs : List Frac) (m n : ℕ) → CountsCosts cs m → CountsCosts cs n → m ≡ n
count_once [] m n p q = p ∙ sym q
count_once (c ∷ cs) m n (inl p) (inl q) = count_once cs m n p.1 q.1
count_once (c ∷ cs) m n (inl p) (inr q) = absurd (q.0 p.0)
count_once (c ∷ cs) m n (inr p) (inl q) = absurd (p.0 q.0)
count_once (c ∷ cs) m n (inr p) (inr q) = p.3 ∙ ap (λ (k : ℕ). k + 1) (count_once cs p.1 q.1 p.2 q.2) ∙ sym q.3

goals_once : (gs : List Goal) (a b : Nodes) → WriteGoals gs a → WriteGoals gs b → a ≡ b
goals_once [] a b p q = p ∙ sym q
goals_once (g ∷ gs) a b (m, more, p) (n, rest, q) =
    let behind = goals_once gs m n more rest in
    let constant = plain_once g.constant p.constant q.constant p.is_constant q.is_constant in
    let count = ap decimal (count_once g.costs p.count q.count p.counts q.counts) in
    let costs = costs_once 0 g.costs p.costs q.costs p.are_costs q.are_costs in
    let first = p.says in
    let second = q.says in
    cc

values_once : (es : List Entry) (a b : Nodes) → WriteValues es a → WriteValues es b → a ≡ b
values_once [] a b p q = p ∙ sym q
values_once (e ∷ es) a b p q =
    let text = plain_once e.value p.0 q.0 p.2 q.2 in
    let rest = values_once es p.1 q.1 p.3 q.3 in
    let first = p.4 in
    let second = q.4 in
    cc

lists_once : (m : ℕ) (es : List Entry) (a b : Nodes) → WriteLists m es a → WriteLists m es b → a ≡ b
lists_once m [] a b p q = p ∙ sym q
lists_once m (e ∷ es) a b p q =
    let values = values_once (e ∷ es) p.0 q.0 p.1 q.1 in
    let first = p.2 in
    let second = q.2 in
    cc

pub root_once : (p : Parts) (a b : Element) → WritesInstance p a → WritesInstance p b → a ≡ b
root_once p a b r s =
    let vars = vars_once p.vars r.vars s.vars r.are_vars s.are_vars in
    let goals = goals_once p.goals r.goals s.goals r.are_goals s.are_goals in
    let rows = rows_once p.rows r.rows s.rows r.are_rows s.are_rows in
    let lists = lists_once _ p.entries r.lists s.lists r.are_lists s.are_lists in
    let first = r.says in
    let second = s.says in
    cc
