use Rattle.doc_tree.proofs.Words.{said, take, ◌≡◌}
use Rattle.doc_tree.proofs.gathering.begin.Given as goal

abbrev pub invariant-loop-k : goal.invariant-loop-k
invariant-loop-k l = record {
  said : said l.builder ≡ said l.fn.builder;
  waits : l.builder.attributes ≡ take l.k l.attributes;
}
