use Rattle.osrl_grammar.proofs.Names.{w128, ◌≡◌, ◌∙◌, ap, ℤ, sym, subst, to_z-of_z, whole, IsFree, Whole, IsNumberText}
use mir.Val.{of_z, to_z}
use Rattle.osrl_grammar.proofs.Wholes.{not_whole, whole_read, whole_unread, fits_signed, accepted}
use Rattle.document_tags.proofs.OneAnswer.{refused}
use Rattle.osrl_grammar.proofs.numbers.read_whole.Goals as goal

pub returns-then-not-is_free-clause-err : goal.returns-then-not-is_free-clause-err
returns-then-not-is_free-clause-err c = not_whole c.args.text.now (refused c.is_free.result (IsFree 47 c.args.text.now) c.is_free.ensures c.if-not-is_free.true)

pub returns-in-Ok-clause-ok : goal.returns-in-Ok-clause-ok
returns-in-Ok-clause-ok c =
    let same : to_z w128 (of_z w128 c.numer.result) ≡ c.in-Ok.x.numer = ap (λ (z : ℤ). to_z w128 (of_z w128 z)) c.numer.ensures ∙ to_z-of_z (fits_signed c.in-Ok.x.numer c.in-Ok.x.numer_within) in
    let free = accepted c.is_free.result (IsFree 47 c.args.text.now) c.is_free.ensures c.if-not-is_free.false in
    subst (λ (z : ℤ). IsNumberText Whole c.args.text.now (whole z)) (sym same) (whole_read c.args.text.now c.in-Ok.x c.in-Ok.ensures.ok free)

pub returns-in-Err-clause-err : goal.returns-in-Err-clause-err
returns-in-Err-clause-err c = whole_unread c.args.text.now c.in-Err.unread c.in-Err.ensures.err (accepted c.is_free.result (IsFree 47 c.args.text.now) c.is_free.ensures c.if-not-is_free.false)
