use Rattle.osil_grammar.proofs.Words.{List, ℕ, [], refl, sym, subst, codes, with_attribute, IsEndText}
use Rattle.osil_grammar.proofs.Tellings.{adds_one}
use Rattle.osil_grammar.proofs.document.tell_ends.Goals as goal

pub returns : goal.returns
returns c =
    let low : List ℕ = c.as_slice.result.now in
    let high : List ℕ = c.as_slice-2.result.now in
    let is_low = subst (IsEndText c.args.lb) (sym c.as_slice.ensures) c.in_ok-low.ensures.1 in
    let is_high = subst (IsEndText c.args.ub) (sym c.as_slice-2.ensures) c.in_ok-high.ensures.1 in
    let adds = adds_one c.args.w.now c.attribute.new.self c.attribute-2.new.self (record { name = codes "lb"; value = low }) (with_attribute (codes "ub") high []) c.in_ok-attribute.ensures c.in_ok-attribute-2.ensures in
    ((c.in_ok-low.ensures.0, c.in_ok-high.ensures.0), with_attribute (codes "lb") low (with_attribute (codes "ub") high []), (low, high, is_low, is_high, refl), adds)
