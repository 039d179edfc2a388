use Rattle.doc_tree.proofs.Words.{ReadsOnly, [], ◌∙◌}
use Rattle.doc_tree.proofs.TextTrees.Trees.{feed_ends, at_ok}
use Rattle.doc_tree.proofs.reader.read.Goals as goal

pub returns-in-Ok-clause-only : goal.returns-in-Ok-clause-only
returns-in-Ok-clause-only c = at_ok c.finish.result c.feed.new.self c.args.bytes.now ReadsOnly c.finish.ensures.only (c.feed.ensures.fed [] c.new-reader.ensures.fed)

pub returns-in-Err-clause-refusal : goal.returns-in-Err-clause-refusal
returns-in-Err-clause-refusal c = feed_ends c.feed.new.self c.args.limit c.args.bytes.now c.feed.result tt c.in-Err.fault (c.feed.ensures.limit ∙ c.new-reader.ensures.limit) (c.feed.ensures.fed [] c.new-reader.ensures.fed) c.feed.ensures.answers c.in-Err.is
