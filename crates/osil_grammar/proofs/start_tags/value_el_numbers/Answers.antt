use Rattle.osil_grammar.proofs.Words.{[], ◌∷◌, ◌≡◌, codes, ratio, IsDecimal, both_read, times, field, nought, IsBad, IsTooGreat, IsTimes, mult, SaysTimes, SaysStep}
use Rattle.osil_grammar.specs.Grammars.{decimal}
use Rattle.osil_grammar.proofs.TagNumbers.{times_read, decimal_read, field_read}
use Rattle.osil_grammar.proofs.start_tags.value_el_numbers.Goals as goal

pub returns : goal.returns
returns c =
    let as' = c.args.attributes.now in
    both_read (IsBad as') (IsTooGreat as') (mult ∷ []) (field (codes "incr") decimal ∷ []) c.times.result c.decimal.result (SaysTimes as') (SaysStep as') c.both.result
    (field_read as' (codes "mult") times c.times.result (λ n. n ≡ 1) IsTimes times_read c.times.ensures)
    (field_read as' (codes "incr") decimal c.decimal.result (λ x. x ≡ nought) (λ text x. IsDecimal text (ratio x)) decimal_read c.decimal.ensures) c.both.ensures
