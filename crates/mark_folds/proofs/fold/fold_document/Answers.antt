use Rattle.std.proofs.Common.{◌∙◌, []}
use Rattle.mark_folds.proofs.FoldedDocuments.{document_folded, none_folded}
use Rattle.mark_folds.proofs.fold.fold_document.Goals as goal

pub returns-in-Ok-clause-ok : goal.returns-in-Ok-clause-ok
returns-in-Ok-clause-ok g c =
    document_folded g.S.MarkFold.after c.args.start c.in-Ok.field-0.state _ c.args.bytes.now (c.feed.ensures.limit ∙ c.new-events.ensures.limit)
    (c.in-Ok.ensures.visits (record { alloc = c.args.alloc; state = c.args.start }) c.args.bytes.now (c.feed.ensures.fed (record { alloc = c.args.alloc; state = c.args.start }) [] c.new-events.ensures.fed))

pub returns-in-Err-clause-err : goal.returns-in-Err-clause-err
returns-in-Err-clause-err g c =
    none_folded _ c.args.bytes.now c.in-Err.fault (c.feed.ensures.limit ∙ c.new-events.ensures.limit)
    (c.in-Err.ensures.refuses (record { alloc = c.args.alloc; state = c.args.start }) c.args.bytes.now (c.feed.ensures.fed (record { alloc = c.args.alloc; state = c.args.start }) [] c.new-events.ensures.fed))
