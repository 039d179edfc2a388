use Rattle.osrl_grammar.proofs.Names.{ap, sym, subst, ℕ, List, Ok, ratio, Frac, Exact, IsNumberText, more, one_field, IsOneFraction}
use Rattle.osrl_grammar.proofs.Fields.{one_read, item_read}
use Rattle.osrl_grammar.proofs.item_reading.read_time.Goals as goal

pub returns-in-Ok : goal.returns-in-Ok
returns-in-Ok c =
    let text = c.in-Some.text.now in let s = c.in-Ok.seconds in
    item_read (one_field Exact (more c.args.rest)) _ s s (λ (x : Frac). IsNumberText Exact text (ratio x)) (IsOneFraction (more c.args.rest)) (ap (one_field Exact) c.in-Some.ensures)
    (λ h. subst (λ (l : List (List ℕ)). IsOneFraction l s) (sym c.in-Some.ensures) h) (one_read Exact text (Ok s) ratio c.in-Ok.ensures.ok c.in-Ok.ensures.err)
