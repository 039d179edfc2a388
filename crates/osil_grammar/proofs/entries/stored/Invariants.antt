use Rattle.osil_grammar.proofs.Words.{◌≡◌, ◌-◌, ◌++◌, lists_of}
use Rattle.instance.specs.Program.{entries as entries_of}
use Rattle.osil_grammar.specs.Matrix.{stored as stored_lists}
use Rattle.osil_grammar.proofs.Lines.{lines_on}
use Rattle.osil_grammar.proofs.entries.stored.Given as goal

abbrev pub invariant-loop-line : goal.invariant-loop-line
invariant-loop-line l = entries_of l.out.items ++ lines_on l.lists.by_columns (l.line - 1) l.lists.starts.items l.lists.indices.items l.lists.values.items ≡ stored_lists (lists_of l.lists)
