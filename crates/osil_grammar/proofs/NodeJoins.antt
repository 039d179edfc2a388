-- The nodes of one variable, row, cost, index or value may stand before those of the rest.
use Rattle.osil_grammar.proofs.Words.{◌≡◌, ◌∙◌, ℕ, List, [], map, ap, sym, refl, inl, inr, codes, decimal, Attribute, Nodes, none, element, chars, Event, nodes_events, Entry, with_attribute, WriteVars, WriteRows, WriteCosts, WriteGoals, WriteValues, counts_nodes, sense_text, var_attributes}
use Rattle.osil_grammar.proofs.Tellings.{CanJoin}
use Rattle.osil_grammar.proofs.VarTags.{var_before}

-- a single element, and then the rest
single_before : (name : List ℕ) (attributes : List Attribute) (children rest first end : Nodes) → end ≡ none → first ≡ element name attributes children end → (k : List Event) → nodes_events (element name attributes children rest) k ≡ nodes_events first (nodes_events rest k)
single_before name attributes children rest first end last is k = ap (λ (n : Nodes). nodes_events n (nodes_events rest k)) (sym (is ∙ ap (λ (n : Nodes). element name attributes children n) last))

pub vars_join : CanJoin (λ i. WriteVars)
vars_join i v vs first rest (end, none_left, is) more = record {
  nodes = element (codes "var") (var_attributes v is.lb is.ub) none rest;
  writes = (rest, more, var_before v end first rest is);
  same = single_before (codes "var") (var_attributes v is.lb is.ub) none rest first end none_left is.says;
}

pub rows_join : CanJoin (λ i. WriteRows)
rows_join i r rs first rest one more = record {
  nodes = element (codes "con") (with_attribute (codes "lb") one.0 (with_attribute (codes "ub") one.1 [])) none rest;
  writes = (one.0, one.1, rest, one.3, one.4, more, refl);
  same = single_before (codes "con") (with_attribute (codes "lb") one.0 (with_attribute (codes "ub") one.1 [])) none rest first one.2 one.5 one.6;
}

pub costs_join : CanJoin WriteCosts
costs_join i c cs first rest (inl zero_cost) more = record {
  nodes = rest;
  writes = inl (zero_cost.0, more);
  same = λ k. ap (λ (n : Nodes). nodes_events n (nodes_events rest k)) (sym zero_cost.1);
}
costs_join i c cs first rest (inr one) more = record {
  nodes = element (codes "coef") (with_attribute (codes "idx") (decimal i) []) (chars one.1 none) rest;
  writes = inr (one.0, one.1, rest, one.3, more, refl);
  same = single_before (codes "coef") (with_attribute (codes "idx") (decimal i) []) (chars one.1 none) rest first one.2 one.4 one.5;
}

pub goals_join : CanJoin (λ i. WriteGoals)
goals_join i g gs first rest one more =
    let is = one.2 in
    let attributes : List Attribute = with_attribute (codes "maxOrMin") (sense_text g.sense) (with_attribute (codes "constant") is.constant (with_attribute (codes "numberOfObjCoef") (decimal is.count) [])) in
    record {
      nodes = element (codes "obj") attributes is.costs rest;
      writes = (rest, more, record { constant = is.constant; is_constant = is.is_constant; count = is.count; counts = is.counts; costs = is.costs; are_costs = is.are_costs; says = refl });
      same = single_before (codes "obj") attributes is.costs rest first one.0 one.1 is.says;
    }

pub values_join : CanJoin (λ i. WriteValues)
values_join i e es first rest one more = record {
  nodes = element (codes "el") [] (chars one.0 none) rest;
  writes = (one.0, rest, one.2, more, refl);
  same = single_before (codes "el") [] (chars one.0 none) rest first one.1 one.3 one.4;
}

-- the columns of these entries
abbrev pub WriteColumns : ℕ → List Entry → Nodes → Type 0
WriteColumns i es nodes = nodes ≡ counts_nodes (map (λ e. e.col) es)

pub columns_join : CanJoin WriteColumns
columns_join i e es first rest one more = record {
  nodes = element (codes "el") [] (chars (decimal e.col) none) rest;
  writes = ap (λ (n : Nodes). element (codes "el") [] (chars (decimal e.col) none) n) more;
  same = single_before (codes "el") [] (chars (decimal e.col) none) rest first none refl one;
}
