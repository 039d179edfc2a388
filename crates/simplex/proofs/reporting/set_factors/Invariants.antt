use Rattle.std.proofs.Common.{◌≡◌, ℕ, ◌<◌}
use Rattle.bases.specs.Dictionary.{AreEntries}
use Rattle.simplex_rules.specs.Reports.{factor_at}
use Rattle.dictionary.specs.Dict.{columns_of, basic_of, entry_of}
use Rattle.simplex.specs.Tables.{values_in}
use Rattle.simplex.proofs.reporting.set_factors.Given as goal

abbrev pub invariant-loop-c : goal.invariant-loop-c
invariant-loop-c g l = AreEntries (columns_of l.dict) (basic_of l.dict) (entry_of l.dict) → (k : ℕ) → k < l.c → values_in l.factors k ≡ factor_at (entry_of l.dict) l.row l.wanted k
