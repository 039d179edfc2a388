use Rattle.osil_grammar.proofs.Words.{ℕ, ◌+◌, ◌<◌, ◌≤◌, slice_index}
use Rattle.osil_grammar.proofs.entries.is_rising.Given as goal

abbrev pub invariant-loop-k : goal.invariant-loop-k
invariant-loop-k l = (j : ℕ) → j + 1 < l.k → slice_index l.starts j ≤ slice_index l.starts (j + 1)
