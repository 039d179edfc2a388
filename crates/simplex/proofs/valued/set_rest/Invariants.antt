use Rattle.std.proofs.Common.{◌≡◌, ℕ, ◌<◌}
use Rattle.simplex_rules.specs.Statuses.{status_at, rest_at}
use Rattle.simplex.specs.Cuts.{ranges_in}
use Rattle.dictionary.specs.Dict.{place_values, count_of}
use Rattle.simplex.proofs.valued.set_rest.Given as goal

abbrev pub invariant-loop-c : goal.invariant-loop-c
invariant-loop-c l = record {
  count : count_of l.rest ≡ count_of l.initial.rest;
  before : (k : ℕ) → k < l.c → place_values l.rest k ≡ rest_at (ranges_in l.ends k) (status_at l.statuses k);
}
