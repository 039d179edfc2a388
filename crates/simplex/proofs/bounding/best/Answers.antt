use Rattle.std.proofs.Common.{◌≡◌, Bool, true, false, Option, inl, inr, refl, sym, ◌∙◌, subst}
use Rattle.rational.specs.Ratio.{Ratio, IsSame}
use Rattle.fraction.specs.Frac.{ratio}
use Rattle.fraction.specs.declared.frac.Frac.{Frac}
use Rattle.evidence.specs.Instance.{width, minimising}
use Rattle.bases.specs.Program.{goal_column}
use Rattle.simplex_rules.specs.Statuses.{resting}
use Rattle.simplex_rules.specs.Reports.{IsBoundAt}
use Rattle.dictionary.specs.Dict.{entry_of}
use Rattle.simplex.specs.Answers.{listed}
use Rattle.simplex.specs.Loads.{IsStart}
use Rattle.simplex.proofs.ValueLists.{listed_values}
use Rattle.simplex.proofs.Bounds.{terms, sum_is, fits_more, fits_less}
use Rattle.simplex.proofs.bounding.best.Goals as goal

pub returns-in-None-clause-next : goal.returns-in-None-clause-next
returns-in-None-clause-next g c = λ I zeroed w t k e size entries starts off.
    let z : zeroed ≡ true = subst (λ (s : Option Frac). IsStart zeroed (minimising I I.goal.constant) s) c.in-None.is starts in
    let b : IsBoundAt zeroed I c.args.statuses.now (entry_of c.args.dict.now) (ratio c.zero.result) =
    subst (λ (y : Bool). IsBoundAt y I c.args.statuses.now (entry_of c.args.dict.now) (ratio c.zero.result)) (sym z) c.zero.ensures in
    inr (inl (
      ratio c.zero.result,
      listed (width I) w,
      off,
      (λ f. let g : true ≡ false = sym z ∙ f in absurd (cc)),
      b,
      listed_values I w,
      refl,
    ))

pub returns-in-Ok-clause-next : goal.returns-in-Ok-clause-next
returns-in-Ok-clause-next g c = λ I zeroed w t k e size entries starts off.
    let f = subst (λ (s : Option Frac). IsStart zeroed (minimising I I.goal.constant) s) c.in-Some.is starts in
    let d = c.args.dict.now in
    let ts = terms c.args.dict.now c.args.statuses.now c.requires.statuses entries c.args.ends.now I e size c.args.rest.now c.requires.resting c.args.goal c.requires.goal in
    let s = sum_is c.args.dict.now c.args.statuses.now c.requires.statuses entries c.args.ends.now I e size c.args.rest.now c.requires.resting c.args.goal c.requires.goal (ratio c.in-Some.s) f.1 in
    let b : IsBoundAt zeroed I c.args.statuses.now (entry_of c.args.dict.now) (ratio c.in-Ok.b) =
    subst (λ (y : Bool). IsBoundAt y I c.args.statuses.now (entry_of c.args.dict.now) (ratio c.in-Ok.b)) (sym f.0)
    ((c.in-Ok.b.above, c.in-Ok.b.reduced), subst (λ (y : Ratio). IsSame (ratio c.in-Ok.b) y) s (c.in-Ok.ensures.ok (entry_of c.args.dict.now (goal_column I)) (resting I c.args.statuses.now) ts)) in
    inr (inl (
      ratio c.in-Ok.b,
      listed (width I) w,
      off,
      (λ _. fits_more c.args.dict.now c.args.statuses.now c.requires.statuses entries c.args.ends.now I e size c.args.rest.now c.requires.resting c.args.goal c.requires.goal (ratio c.in-Some.s) f.1 (c.in-Ok.ensures.fits (entry_of c.args.dict.now (goal_column I)) (resting I c.args.statuses.now) ts)),
      b,
      listed_values I w,
      refl,
    ))

pub returns-in-Err-clause-next : goal.returns-in-Err-clause-next
returns-in-Err-clause-next g c = λ I zeroed w t k e size entries starts off.
    let f = subst (λ (s : Option Frac). IsStart zeroed (minimising I I.goal.constant) s) c.in-Some.is starts in
    let ts = terms c.args.dict.now c.args.statuses.now c.requires.statuses entries c.args.ends.now I e size c.args.rest.now c.requires.resting c.args.goal c.requires.goal in
    inl (
      off,
      f.0,
      (λ z. c.in-Err.ensures.wide (entry_of c.args.dict.now (goal_column I)) (resting I c.args.statuses.now) ts
          (fits_less c.args.dict.now c.args.statuses.now c.requires.statuses entries c.args.ends.now I e size c.args.rest.now c.requires.resting c.args.goal c.requires.goal (ratio c.in-Some.s) f.1 z)),
      refl,
    )
