use Rattle.osil_grammar.proofs.Words.{◌≡◌, [], ◌∷◌, codes, ratio, NegInf, Inf, SaysEnd, IsDecimal, both_read, times, bound, field, nought, IsBad, IsTooGreat, IsTimes, SaysTimes, SaysConstant, SaysRowLow, SaysHigh, lb, ub, mult}
use Rattle.osil_grammar.specs.Grammars.{decimal}
use Rattle.osil_grammar.proofs.TagNumbers.{times_read, decimal_read, bound_read, field_read}
use Rattle.osil_grammar.proofs.start_tags.con_numbers.Goals as goal

pub returns : goal.returns
returns c =
    let as' = c.args.attributes.now in
    both_read (IsBad as') (IsTooGreat as') (lb ∷ ub ∷ []) (field (codes "constant") decimal ∷ mult ∷ []) c.both.result c.both-2.result (λ x. SaysRowLow as' x.0 × SaysHigh as' x.1) (λ x. SaysConstant as' x.0 × SaysTimes as' x.1) c.both-3.result
    (both_read (IsBad as') (IsTooGreat as') (lb ∷ []) (ub ∷ []) c.bound-low.result c.bound-high.result (SaysRowLow as') (SaysHigh as') c.both.result
    (field_read as' (codes "lb") bound c.bound-low.result (λ y. y ≡ NegInf) SaysEnd bound_read c.bound-low.ensures)
    (field_read as' (codes "ub") bound c.bound-high.result (λ y. y ≡ Inf) SaysEnd bound_read c.bound-high.ensures) c.both.ensures)
    (both_read (IsBad as') (IsTooGreat as') (field (codes "constant") decimal ∷ []) (mult ∷ []) c.decimal.result c.times.result (SaysConstant as') (SaysTimes as') c.both-2.result
    (field_read as' (codes "constant") decimal c.decimal.result (λ x. x ≡ nought) (λ text x. IsDecimal text (ratio x)) decimal_read c.decimal.ensures)
    (field_read as' (codes "mult") times c.times.result (λ n. n ≡ 1) IsTimes times_read c.times.ensures) c.both-2.ensures) c.both-3.ensures
