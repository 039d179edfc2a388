use Rattle.std.proofs.Common.{ℕ, length, sym, ◌∙◌, ap, ap₂, subst}
use Rattle.fraction.specs.Frac.{ratio}
use Rattle.simplex_rules.specs.declared.columns.Way.TheVariants.{Fall}
use Rattle.simplex_rules.specs.Ends.{Empty, Best, Endless}
use Rattle.simplex_rules.specs.Reports.{factor_at, movement, collected}
use Rattle.simplex.specs.declared.finish.Finish.{Finish}
use Rattle.dictionary.specs.Dict.{entry_of}
use Rattle.simplex.specs.Tables.{values_in, AreHeld}
use Rattle.simplex.specs.Answers.{listed}
use Rattle.simplex.specs.Finishes.{end_at, KeepsBasis}
use Rattle.simplex.proofs.ValueLists.{listed_alike, collected_alike}
use Rattle.simplex.proofs.reporting.report.Goals as goal

pub returns-in-Empty-clause-end : goal.returns-in-Empty-clause-end
returns-in-Empty-clause-end g c = λ I w wide high.
    let held = subst (λ (f : Finish). KeepsBasis f (AreHeld c.args.dict.now c.args.statuses.now)) c.in-Empty.is c.requires.left.held in
    ap (end_at I c.args.statuses.now (entry_of c.args.dict.now) w) c.in-Empty.is
    ∙ ap (λ (n : ℕ). Empty (collected (factor_at (entry_of c.args.dict.now) c.in-Empty.out.col c.in-Empty.out.way) n)) high
    ∙ ap Empty (collected_alike c.args.goal (factor_at (entry_of c.args.dict.now) c.in-Empty.out.col c.in-Empty.out.way) (values_in c.set_factors.new.factors) (λ j h. sym (c.set_factors.ensures held.holds.is.entries j h)))

pub returns-in-Best-clause-end : goal.returns-in-Best-clause-end
returns-in-Best-clause-end g c = λ I w wide high.
    let held = subst (λ (f : Finish). KeepsBasis f (AreHeld c.args.dict.now c.args.statuses.now)) c.in-Best.is c.requires.left.held in
    ap (end_at I c.args.statuses.now (entry_of c.args.dict.now) w) c.in-Best.is
    ∙ ap₂ (λ (n g : ℕ). Best (ratio c.in-Best.bound) (listed n w) (collected (factor_at (entry_of c.args.dict.now) g Fall) g)) wide high
    ∙ ap (Best (ratio c.in-Best.bound) (listed (length c.args.movements.now) w)) (collected_alike c.args.goal (factor_at (entry_of c.args.dict.now) c.args.goal Fall) (values_in c.set_factors-in-Best.new.factors) (λ j h. sym (c.set_factors-in-Best.ensures held.holds.is.entries j h)))

pub returns-in-Endless-clause-end : goal.returns-in-Endless-clause-end
returns-in-Endless-clause-end g c = λ I w wide high.
    ap (end_at I c.args.statuses.now (entry_of c.args.dict.now) w) c.in-Endless.is
    ∙ ap (λ (n : ℕ). Endless (listed n w) (listed n (movement c.args.statuses.now (entry_of c.args.dict.now) c.in-Endless.moving.col c.in-Endless.moving.way))) wide
    ∙ ap (Endless (listed (length c.args.movements.now) w)) (listed_alike (length c.args.movements.now) (movement c.args.statuses.now (entry_of c.args.dict.now) c.in-Endless.moving.col c.in-Endless.moving.way) (values_in c.set_movements.new.movements) (λ j h. sym (c.set_movements.ensures j h)))
