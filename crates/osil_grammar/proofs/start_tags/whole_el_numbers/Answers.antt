use Rattle.osil_grammar.proofs.Words.{[], ◌∷◌, pos, ◌≡◌, codes, IsWholeText, both_read, times, whole, field, IsBad, IsTooGreat, IsTimes, mult, SaysTimes, SaysWholeStep}
use Rattle.osil_grammar.proofs.TagNumbers.{times_read, whole_read, field_read}
use Rattle.osil_grammar.proofs.start_tags.whole_el_numbers.Goals as goal

pub returns : goal.returns
returns c =
    let as' = c.args.attributes.now in
    both_read (IsBad as') (IsTooGreat as') (mult ∷ []) (field (codes "incr") whole ∷ []) c.times.result c.whole.result (SaysTimes as') (SaysWholeStep as') c.both.result
    (field_read as' (codes "mult") times c.times.result (λ n. n ≡ 1) IsTimes times_read c.times.ensures)
    (field_read as' (codes "incr") whole c.whole.result (λ d. d ≡ pos 0) IsWholeText whole_read c.whole.ensures) c.both.ensures
