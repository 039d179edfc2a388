use Rattle.std.proofs.Common.{rules, ◌≡◌, ◌<◌, ◌≤◌, None, Some, [], ◌∷◌, ◌++◌, length, set, ◌∙◌}
use Rattle.osol_grammar.proofs.SaidValues.{padded, set_value}
use Rattle.osol_grammar.proofs.values.with_value.Goals as goal

pub loop-list-preserved : goal.loop-list-preserved
loop-list-preserved c = λ x.
    let e : c.push.new.self.items ≡ c.loop-list.list.items ++ None ∷ [] = search rules in
    let low : length c.loop-list.list.items ≤ c.args.index = search rules in
    rw e (padded c.loop-list.list.items c.args.index x low ∙ c.loop-list.invariant x)

pub returns : goal.returns
returns c =
    let e : c.of.result ≡ set c.loop-list.list.items c.args.index (Some c.args.value) = search rules in
    let low : c.args.index < length c.loop-list.list.items = search rules in
    e ∙ set_value c.loop-list.list.items c.args.index c.args.value low ∙ c.loop-list.invariant c.args.value
