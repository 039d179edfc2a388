use Rattle.std.proofs.Common.{◌≡◌, ◌<◌, List, length, length-set, refl, sym, ◌∙◌, ap, subst, arith}
use Rattle.std.specs.Prelude.{slice_set}
use Rattle.simplex_rules.specs.declared.columns.Status.{Status}
use Rattle.simplex_rules.specs.declared.columns.Status.TheVariants.{Basic}
use Rattle.simplex_rules.specs.Statuses.{rest_at}
use Rattle.dictionary.specs.Dict.{place_values}
use Rattle.simplex.specs.Cuts.{ranges_in}
use Rattle.simplex.specs.Values.{AreResting}
use Rattle.simplex.proofs.ColumnEnds.{read_range}
use Rattle.simplex.proofs.KnownValues.{resting_set, resting_number, swap_known}
use Rattle.simplex.proofs.keeping.expect_swap.Goals as goal

pub returns-clause-resting : goal.returns-clause-resting
returns-clause-resting g c = λ d ss w.
    let s = c.args.swap in
    let is = c.requires.swap in
    let at = ranges_in c.args.ends.now in
    let h : s.basic < length c.args.ends.now = let a = c.requires.ends in let b = is.basic_inside in omega arith in
    let own : place_values c.set.new.self s.basic ≡ rest_at (ranges_in c.args.ends.now s.basic) s.status =
    c.set.ensures.own ∙ c.rest_value-value.ensures ∙ ap (λ z. rest_at z s.status) (sym (read_range c.args.ends.now s.basic c.index-ends-swap.result c.index-ends-swap.is h)) in
    let left = resting_set at c.args.statuses.now (place_values c.args.rest.now) (place_values c.set.new.self) s.basic s.status c.requires.resting is.basic_inside own c.set.ensures.others in
    let inside : s.nonbasic < length (slice_set c.args.statuses.now s.basic s.status) = let a = is.nonbasic_inside in omega (arith, length-set c.args.statuses.now s.basic s.status) in
    subst (λ (z : List Status). AreResting at z (place_values c.set-2.new.self)) (sym w.statuses)
    (resting_set at (slice_set c.args.statuses.now s.basic s.status) (place_values c.set.new.self) (place_values c.set-2.new.self) s.nonbasic Basic left inside (c.set-2.ensures.own ∙ c.zero.ensures) c.set-2.ensures.others)

pub returns-clause-known : goal.returns-clause-known
returns-clause-known g c = λ d ss vs w k.
    let s = c.args.swap in
    let is = c.requires.swap in
    swap_known c.args.dict.now c.args.statuses.now c.requires.held c.args.unknown.now c.forget.new.unknown s.nonbasic c.forget.ensures.forgotten d ss s is w refl c.args.rest.now c.set-2.new.self
    (resting_number c.args.ends.now c.args.statuses.now (place_values c.args.rest.now) s.nonbasic c.requires.resting is.nonbasic_inside)
    (λ j nb nm. c.set-2.ensures.others j nm ∙ c.set.ensures.others j nb)
    vs c.mark.new.self c.mark.ensures.own c.mark.ensures.others (omega (arith, c.requires.room, c.requires.goal, c.forget.ensures.size, c.mark.ensures.size)) k
