use Rattle.osil_grammar.proofs.Words.{ℕ, ◌++◌, take, drop, IsInOrder, AreSumsAt}
use Rattle.evidence.specs.Sums as evidence
use Rattle.instance.specs.Program.{entries as entries_of}
use Rattle.osil_grammar.proofs.Places.{IsWideFrom}
use Rattle.osil_grammar.proofs.entries.joined.Given as goal

abbrev pub invariant-loop-entry : goal.invariant-loop-entry
invariant-loop-entry l = record {
  sums : AreSumsAt (entries_of (take l.entry-index l.entries)) l.out.items;
  order : IsInOrder (l.out.items ++ drop l.entry-index l.entries);
  fit : (i j : ℕ) → IsWideFrom evidence.none (entries_of (take l.entry-index l.entries)) i j → ⊥;
}
