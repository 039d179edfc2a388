use Rattle.osrl_grammar.proofs.Names.{pos, Ok, Err, whole, ratio, Index, Exact, pair_fields}
use Rattle.osrl_grammar.proofs.Fields.{two_read, failed_as}
use Rattle.osrl_grammar.proofs.item_reading.read_mult.Goals as goal

pub returns-in-Ok : goal.returns-in-Ok
returns-in-Ok c = two_read Index Exact c.args.column.now c.args.factor.now c.read_index.result c.read_exact.result (λ n. whole (pos n)) ratio (Ok (c.in-Ok.col, c.in-Ok.value)) c.read_index.ensures.ok c.read_index.ensures.err c.read_exact.ensures.ok c.read_exact.ensures.err c.in-Ok.ensures

pub returns-in-Err : goal.returns-in-Err
returns-in-Err c = failed_as (pair_fields (record { column = c.args.column.now; factor = c.args.factor.now })) c.in-Err.unread _ _ (two_read Index Exact c.args.column.now c.args.factor.now c.read_index.result c.read_exact.result (λ n. whole (pos n)) ratio (Err c.in-Err.unread) c.read_index.ensures.ok c.read_index.ensures.err c.read_exact.ensures.ok c.read_exact.ensures.err c.in-Err.ensures)
