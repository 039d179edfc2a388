use Rattle.osrl_writing.proofs.Names.{◌≡◌, Labels, drop, row_values}
use Rattle.osrl_writing.proofs.values.has_row.Given as goal

abbrev pub invariant-loop-mult : goal.invariant-loop-mult
invariant-loop-mult l = (ls : Labels) → row_values ls l.width (drop l.mult-index l.mults) ≡ row_values ls l.width l.mults
