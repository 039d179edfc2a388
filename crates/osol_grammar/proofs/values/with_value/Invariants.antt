use Rattle.std.proofs.Common.{◌≡◌, ◌+◌, ◌-◌, length}
use Rattle.fraction.specs.declared.frac.Frac.{Frac}
use Rattle.osol_grammar.specs.FirstValues.{with_value}
use Rattle.osol_grammar.proofs.values.with_value.Given as goal

abbrev pub invariant-loop-list : goal.invariant-loop-list
invariant-loop-list l = (x : Frac) → with_value l.list.items l.index x ≡ with_value l.fn.values l.index x

abbrev pub decreases-loop-list : goal.decreases-loop-list
decreases-loop-list l = l.index + 1 - length l.list.items
