use Rattle.std.proofs.Common.{◌≡◌, ℕ, ◌+◌, ◌<◌, ◌≤◌, length}
use Rattle.dictionary.specs.Rows.{numbers_of, numbers_in, AreRows, IsReplacedBy, ReplacementFits, replacements_cost}
use Rattle.dictionary.proofs.replacing.replace_all.Given as goal

abbrev pub invariant-loop-r : goal.invariant-loop-r
invariant-loop-r g l = record {
  rows : (n : ℕ) → AreRows (length l.initial.scratch.values.items) n l.initial.rows → AreRows (length l.initial.scratch.values.items) n l.rows;
  count : length l.scratch.values.items ≡ length l.initial.scratch.values.items;
  done : (r : ℕ) → r < l.r → IsReplacedBy (numbers_in l.initial.rows r) (numbers_of l.by) l.skip (numbers_in l.rows r);
  fits : (r : ℕ) → r < l.r → ReplacementFits (numbers_in l.initial.rows r) (numbers_of l.by) l.skip;
  rest : (r : ℕ) → l.r ≤ r → numbers_in l.rows r ≡ numbers_in l.initial.rows r;
  cost : l.steps ≤ l.initial.steps + replacements_cost (length l.initial.scratch.values.items) (numbers_in l.initial.rows) (numbers_of l.by) l.skip l.r;
  counted : l.initial.steps ≤ l.steps;
}
