use Rattle.osil_grammar.proofs.Words.{◌≡◌, [], ◌∷◌, codes, None, ratio, IsDecimal, both_read, count, times, field, nought, IsBad, IsTooGreat, IsDeclared, IsTimes, SaysCount, SaysTimes, SaysConstant, mult}
use Rattle.osil_grammar.specs.Grammars.{decimal}
use Rattle.osil_grammar.proofs.TagNumbers.{count_read, times_read, decimal_read, field_read}
use Rattle.osil_grammar.proofs.start_tags.obj_numbers.Goals as goal

pub returns : goal.returns
returns c =
    let as' = c.args.attributes.now in
    both_read (IsBad as') (IsTooGreat as') (field (codes "constant") decimal ∷ field (codes "numberOfObjCoef") count ∷ []) (mult ∷ []) c.both.result c.times.result (λ x. SaysConstant as' x.0 × SaysCount as' (codes "numberOfObjCoef") x.1) (SaysTimes as') c.both-2.result
    (both_read (IsBad as') (IsTooGreat as') (field (codes "constant") decimal ∷ []) (field (codes "numberOfObjCoef") count ∷ []) c.decimal-constant.result c.count-declared.result (SaysConstant as') (SaysCount as' (codes "numberOfObjCoef")) c.both.result
    (field_read as' (codes "constant") decimal c.decimal-constant.result (λ x. x ≡ nought) (λ text x. IsDecimal text (ratio x)) decimal_read c.decimal-constant.ensures)
    (field_read as' (codes "numberOfObjCoef") count c.count-declared.result (λ y. y ≡ None) IsDeclared count_read c.count-declared.ensures) c.both.ensures)
    (field_read as' (codes "mult") times c.times.result (λ n. n ≡ 1) IsTimes times_read c.times.ensures) c.both-2.ensures
