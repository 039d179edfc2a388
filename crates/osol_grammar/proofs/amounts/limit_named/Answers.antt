use Rattle.std.proofs.Common.{◌≡◌, subst}
use Rattle.std.specs.List.{All}
use Rattle.std.proofs.lemmas.List.{take_all}
use Rattle.std.proofs.lemmas.List.Elements.{All-more}
use Rattle.osol_grammar.specs.Limits.{all, limit_row}
use Rattle.osol_grammar.proofs.LimitTable.{each_limit, not_named}
use Rattle.osol_grammar.proofs.amounts.limit_named.Goals as goal

pub loop-limit-preserved : goal.loop-limit-preserved
loop-limit-preserved c =
    All-more (λ k. c.args.name.now ≡ (limit_row k).name → ⊥) all c.loop-limit.limit-index _ c.loop-limit-test.true c.loop-limit.invariant
    (not_named c.args.name.now c.row.result.name.now _ c.eq.result c.eq.ensures c.row.ensures.name c.if-eq.false)

pub returns : goal.returns
returns c = each_limit (λ k. c.args.name.now ≡ (limit_row k).name → ⊥) (subst (All (λ k. c.args.name.now ≡ (limit_row k).name → ⊥)) (take_all c.loop-limit.limit-index all c.loop-limit-test.false) c.loop-limit.invariant)
