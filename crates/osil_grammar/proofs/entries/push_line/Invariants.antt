use Rattle.osil_grammar.proofs.Words.{◌≡◌, ◌++◌, take, line_entries}
use Rattle.instance.specs.Program.{entries as entries_of}
use Rattle.osil_grammar.proofs.entries.push_line.Given as goal

abbrev pub invariant-loop-k : goal.invariant-loop-k
invariant-loop-k l = entries_of l.out.items ≡ entries_of l.fn.out.items ++ line_entries l.by_columns l.line (take l.k l.indices) (take l.k l.values)
