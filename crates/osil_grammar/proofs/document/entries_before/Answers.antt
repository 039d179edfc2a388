use Rattle.osil_grammar.proofs.Words.{nat_lt, List, rules, Entry}
use Rattle.std.proofs.lemmas.List.Sorted.{IsPartitionedBy-ltb, IsPartitionPoint-from_clause}
use Rattle.instance.proofs.Partition.{rows_rise}
use Rattle.osil_grammar.proofs.Starts.{below_point}
use Rattle.osil_grammar.proofs.document.entries_before.Goals as goal

pub returns : goal.returns
returns c =
    let es : List Entry = c.args.entries.now in
    let at = c.partition_point.result in
    below_point es c.args.row at c.partition_point.ensures.bound (IsPartitionPoint-from_clause (λ (e : Entry). nat_lt e.row c.args.row) es at c.partition_point.ensures.partitioned (IsPartitionedBy-ltb (λ (e : Entry). e.row) es c.args.row (rows_rise es c.requires)) (λ a r f k. search rules))
