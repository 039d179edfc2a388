use Rattle.osrl_grammar.proofs.Names.{pos, ap, Err, whole, Index, Whole, more, two_fields}
use Rattle.osrl_grammar.proofs.Fields.{two_read, item_misread}
use Rattle.osrl_grammar.proofs.item_reading.read_split.Goals as goal

pub returns-in-Err : goal.returns-in-Err
returns-in-Err c = item_misread (two_fields Index Whole (more c.args.rest)) _ c.in-Err.unread c.misread.result _ _ (ap (two_fields Index Whole) c.in-Some.ensures) c.misread.ensures
    (two_read Index Whole c.in-Some.column.now c.in-Some.bound.now c.read_index.result c.read_whole.result (λ n. whole (pos n)) whole (Err c.in-Err.unread) c.read_index.ensures.ok c.read_index.ensures.err c.read_whole.ensures.ok c.read_whole.ensures.err c.in-Err.ensures)
