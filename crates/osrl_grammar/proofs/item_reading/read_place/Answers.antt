use Rattle.osrl_grammar.proofs.Names.{ℕ, pos, Ok, Err, whole, Index, Turn, more, place_fields}
use Rattle.osrl_grammar.specs.Values.{IsIndex, IsTurn}
use Rattle.osrl_grammar.proofs.Fields.{two_read, item_read, item_misread}
use Rattle.osrl_grammar.proofs.Heads.{place_is, place_says}
use Rattle.osrl_grammar.proofs.item_reading.read_place.Goals as goal

pub returns-in-Ok : goal.returns-in-Ok
returns-in-Ok c =
    let node = c.in-Some.node.now in let turn = c.in-Some.turn.now in let word = c.in-Some.word.now in
    item_read {A = ℕ × ℕ} (place_fields (more c.args.rest)) _ (c.in-Ok.node, c.in-Ok.turn) _ (λ (x : ℕ × ℕ). IsIndex node x.0 × IsTurn turn x.1) _ (place_is (more c.args.rest) node turn word c.in-Some-step_of.step c.in-Some.ensures c.in-Some-step_of.ensures)
    (λ h. place_says (more c.args.rest) node turn word (record { node = c.in-Ok.node; turn = c.in-Ok.turn; step = c.in-Some-step_of.step }) c.in-Some.ensures c.in-Some-step_of.ensures h)
    (two_read Index Turn node turn c.read_index.result c.read_turn.result (λ n. whole (pos n)) (λ n. whole (pos n)) (Ok (c.in-Ok.node, c.in-Ok.turn)) c.read_index.ensures.ok c.read_index.ensures.err c.read_turn.ensures.ok c.read_turn.ensures.err c.in-Ok.ensures)

pub returns-in-Err : goal.returns-in-Err
returns-in-Err c =
    let node = c.in-Some.node.now in let turn = c.in-Some.turn.now in
    item_misread (place_fields (more c.args.rest)) _ c.in-Err.unread c.misread.result _ _ (place_is (more c.args.rest) node turn c.in-Some.word.now c.in-Some-step_of.step c.in-Some.ensures c.in-Some-step_of.ensures) c.misread.ensures
    (two_read Index Turn node turn c.read_index.result c.read_turn.result (λ n. whole (pos n)) (λ n. whole (pos n)) (Err c.in-Err.unread) c.read_index.ensures.ok c.read_index.ensures.err c.read_turn.ensures.ok c.read_turn.ensures.err c.in-Err.ensures)
