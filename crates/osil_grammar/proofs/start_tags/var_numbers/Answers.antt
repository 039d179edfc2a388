use Rattle.osil_grammar.proofs.Words.{◌≡◌, [], ◌∷◌, subst, codes, Frac, At, Inf, SaysEnd, both_read, times, bound, nought, IsBad, IsTooGreat, ReadsSo, IsTimes, SaysTimes, SaysLow, SaysHigh, lb, ub, mult}
use Rattle.osil_grammar.proofs.TagNumbers.{times_read, bound_read, field_read}
use Rattle.osil_grammar.proofs.start_tags.var_numbers.Goals as goal

pub returns : goal.returns
returns c =
    let as' = c.args.attributes.now in
    let low = subst (λ (f : Frac). ReadsSo as' (codes "lb") bound c.bound-low.result (λ y. y ≡ At f) SaysEnd) c.zero.ensures c.bound-low.ensures in
    both_read (IsBad as') (IsTooGreat as') (lb ∷ ub ∷ []) (mult ∷ []) c.both.result c.times.result (λ x. SaysLow as' x.0 × SaysHigh as' x.1) (SaysTimes as') c.both-2.result
    (both_read (IsBad as') (IsTooGreat as') (lb ∷ []) (ub ∷ []) c.bound-low.result c.bound-high.result (SaysLow as') (SaysHigh as') c.both.result
    (field_read as' (codes "lb") bound c.bound-low.result (λ y. y ≡ At nought) SaysEnd bound_read low)
    (field_read as' (codes "ub") bound c.bound-high.result (λ y. y ≡ Inf) SaysEnd bound_read c.bound-high.ensures) c.both.ensures)
    (field_read as' (codes "mult") times c.times.result (λ n. n ≡ 1) IsTimes times_read c.times.ensures) c.both-2.ensures
