use Rattle.osil_grammar.proofs.Words.{◌≡◌, ◌∙◌, pos, rules, sym, refl, inl, subst, List, ℕ, none, ratio, PlainText}
use Rattle.osil_grammar.proofs.Zeros.{zero_has_decimal}
use Rattle.osil_grammar.proofs.Parts.{cost_told}
use Rattle.osil_grammar.proofs.document.tell_cost.Goals as goal

pub returns-then-cost-eq0 : goal.returns-then-cost-eq0
returns-then-cost-eq0 c = let none_here : c.args.cost.numer ≡ pos 0 = search rules in (zero_has_decimal c.args.cost none_here, none, inl (none_here, refl), λ behind text awaits. awaits)

pub returns : goal.returns
returns c =
    let some : c.args.cost.numer ≡ pos 0 → ⊥ = search rules in
    let plain = subst (λ (t : List ℕ). PlainText t (ratio c.args.cost)) (sym c.as_slice.ensures) c.in_ok-text.ensures.1 in
    let told = cost_told c.args.j c.args.cost c.args.w.now c.begin.new.self c.attribute.new.self c.chars.new.self c.end.new.self _ _ (c.as_bytes.ensures.value ∙ c.format.ensures.text) some plain c.in_ok-begin.ensures c.in_ok-attribute.ensures c.in_ok-chars.ensures c.in_ok-end.ensures in
    (c.in_ok-text.ensures.0, told.0, told.1, told.2)
