use Rattle.std.proofs.Common.{◌≡◌, take}
use Rattle.std.specs.List.{All}
use Rattle.osol_grammar.specs.Limits.{all, limit_row}
use Rattle.osol_grammar.proofs.amounts.limit_named.Given as goal

abbrev pub invariant-loop-limit : goal.invariant-loop-limit
invariant-loop-limit l = All (λ k. l.name ≡ (limit_row k).name → ⊥) (take l.limit-index all)
