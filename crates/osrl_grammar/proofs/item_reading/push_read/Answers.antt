use Rattle.osrl_grammar.proofs.Names.{List, ◌++◌, ◌∷◌, [], sym, subst, Ok, Err, AllZip, Mult, both_read, IsBad, IsTooGreat, IsMult}
use Rattle.document_tags.proofs.Spots.{each_more}
use Rattle.osrl_grammar.proofs.Fields.{failed_as}
use Rattle.osrl_grammar.proofs.item_reading.push_read.Goals as goal

pub returns-in_ok-push-in-Ok : goal.returns-in_ok-push-in-Ok
returns-in_ok-push-in-Ok c = λ done piece fs gs h k.
    let r = both_read IsBad IsTooGreat fs gs c.args.so_far c.args.mult (λ x. AllZip IsMult done c.args.mults.now) (IsMult piece) (Ok (c.in-Ok.field-0-0, c.in-Ok.mult)) h k c.in-Ok.ensures in
    (r.0, r.1, subst (λ (l : List Mult). AllZip IsMult (done ++ piece ∷ []) l) (sym c.in_ok-push-in-Ok.ensures.ok) (each_more IsMult done c.args.mults.now piece c.in-Ok.mult r.2.0 r.2.1))

pub returns-in-Err : goal.returns-in-Err
returns-in-Err c = λ done piece fs gs h k.
    failed_as (fs ++ gs) c.in-Err.unread _ _ (both_read IsBad IsTooGreat fs gs c.args.so_far c.args.mult (λ x. AllZip IsMult done c.args.mults.now) (IsMult piece) (Err c.in-Err.unread) h k c.in-Err.ensures)
