use Rattle.std.proofs.Common.{◌≡◌, ◌<◌, length, refl, sym, ◌∙◌, ap, arith}
use Rattle.simplex_rules.specs.Statuses.{rest_at}
use Rattle.dictionary.specs.Dict.{place_values}
use Rattle.simplex.specs.Cuts.{ranges_in}
use Rattle.simplex.proofs.ColumnEnds.{read_range}
use Rattle.simplex.proofs.KnownValues.{resting_set, resting_number, flip_known}
use Rattle.simplex.proofs.keeping.expect_flip.Goals as goal

pub returns-clause-resting : goal.returns-clause-resting
returns-clause-resting g c =
    let f = c.args.flip in
    let is = c.requires.flip in
    let h : f.col < length c.args.ends.now = let a = c.requires.ends in let b = is.inside in omega arith in
    let own : place_values c.set.new.self f.col ≡ rest_at (ranges_in c.args.ends.now f.col) f.status =
    c.set.ensures.own ∙ c.rest_value-value.ensures ∙ ap (λ z. rest_at z f.status) (sym (read_range c.args.ends.now f.col c.index-ends-flip.result c.index-ends-flip.is h)) in
    resting_set (ranges_in c.args.ends.now) c.args.statuses.now (place_values c.args.rest.now) (place_values c.set.new.self) f.col f.status c.requires.resting is.inside own c.set.ensures.others

pub returns-clause-known : goal.returns-clause-known
returns-clause-known g c = λ vs k.
    let f = c.args.flip in
    let is = c.requires.flip in
    flip_known c.args.dict.now c.args.statuses.now c.requires.held c.args.unknown.now c.forget.new.unknown f.col c.forget.ensures.forgotten f refl c.args.rest.now c.set.new.self
    (resting_number c.args.ends.now c.args.statuses.now (place_values c.args.rest.now) f.col c.requires.resting is.inside)
    c.set.ensures.others vs (omega (arith, c.requires.room, c.requires.goal, c.forget.ensures.size)) k
