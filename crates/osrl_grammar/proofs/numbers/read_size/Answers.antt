use Rattle.osrl_grammar.proofs.Names.{◌≡◌, ◌∙◌, ap, ℤ, pos, sym, subst, unsigned_abs, to_z-of_z, whole, IsFree, Index, Turn, WritesNumber}
use Rattle.osrl_grammar.proofs.Wholes.{not_size, size_read, size_unread, index_sizes, turn_sizes, fits_signed, accepted}
use Rattle.document_tags.proofs.OneAnswer.{refused}
use Rattle.osrl_grammar.proofs.numbers.read_size.Goals as goal

pub returns-then-not-is_free-clause-index : goal.returns-then-not-is_free-clause-index
returns-then-not-is_free-clause-index c = not_size Index c.args.text.now index_sizes (refused c.is_free.result (IsFree 45 c.args.text.now) c.is_free.ensures c.if-not-is_free.true)

pub returns-then-not-is_free-clause-turn : goal.returns-then-not-is_free-clause-turn
returns-then-not-is_free-clause-turn c = not_size Turn c.args.text.now turn_sizes (refused c.is_free.result (IsFree 45 c.args.text.now) c.is_free.ensures c.if-not-is_free.true)

pub returns-in-Ok-clause-ok : goal.returns-in-Ok-clause-ok
returns-in-Ok-clause-ok c =
    let h = c.in-Ok.ensures.ok in
    let same : c.unsigned_abs.result ≡ unsigned_abs c.in-Ok.k = c.unsigned_abs.ensures.value ∙ ap (λ (z : ℤ). unsigned_abs z) (to_z-of_z (fits_signed c.in-Ok.k h.1.0)) in
    let free = accepted c.is_free.result (IsFree 45 c.args.text.now) c.is_free.ensures c.if-not-is_free.false in
    subst (λ n. WritesNumber Index c.args.text.now (whole (pos n))) (sym same) (size_read c.args.text.now c.in-Ok.k h free)

pub returns-in-Err-clause-index : goal.returns-in-Err-clause-index
returns-in-Err-clause-index c = size_unread Index c.args.text.now c.in-Err.unread index_sizes c.in-Err.ensures.err (accepted c.is_free.result (IsFree 45 c.args.text.now) c.is_free.ensures c.if-not-is_free.false)

pub returns-in-Err-clause-turn : goal.returns-in-Err-clause-turn
returns-in-Err-clause-turn c = size_unread Turn c.args.text.now c.in-Err.unread turn_sizes c.in-Err.ensures.err (accepted c.is_free.result (IsFree 45 c.args.text.now) c.is_free.ensures c.if-not-is_free.false)
