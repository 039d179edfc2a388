use Rattle.std.proofs.Common.{◌≡◌, inr, sym, ◌∙◌, subst, arith}
use Rattle.evidence.specs.Sums.{none}
use Rattle.bases.specs.Program.{goal_column}
use Rattle.simplex_rules.specs.declared.columns.Way.TheVariants.{Fall}
use Rattle.simplex_rules.specs.Turns.{NoneHelps, IsFirstHelp}
use Rattle.simplex_rules.specs.Runs.{MovesColumn, Improves}
use Rattle.dictionary.specs.Dict.{entry_of}
use Rattle.simplex.specs.Tables.{values_in}
use Rattle.simplex.proofs.PlainPrograms.{plain, plain_ends}
use Rattle.simplex.proofs.Choices.{leads_map}
use Rattle.simplex.proofs.choosing.improve.Goals as goal

pub enter_column-requires-clause-nonbasic_inside : goal.enter_column-requires-clause-nonbasic_inside
enter_column-requires-clause-nonbasic_inside g c =
    let e = plain_ends c.args.ends.now in
    let h = c.in-Some.ensures (plain c.args.ends.now) (λ j. none) e in
    let i = h.inside in let n = e.count in let a = c.requires.ends in let g = c.requires.goal in omega arith

pub enter_column-requires-clause-nonbasic : goal.enter_column-requires-clause-nonbasic
enter_column-requires-clause-nonbasic g c = let h = c.in-Some.ensures (plain c.args.ends.now) (λ j. none) (plain_ends c.args.ends.now) in h.helps.nonbasic

pub returns-in-None-clause-next : goal.returns-in-None-clause-next
returns-in-None-clause-next g c = λ I zeroed t k e size entries starts.
    let g : c.args.goal ≡ goal_column I = c.requires.goal ∙ sym c.requires.ends ∙ e.count in
    c.best.ensures.next I zeroed (values_in c.args.values.now) t k e size entries starts
    (subst (λ j. NoneHelps I c.args.statuses.now (entry_of c.args.dict.now) (values_in c.args.values.now) j Fall) g (c.in-None.ensures I (values_in c.args.values.now) e))

pub returns-in-Some-clause-next : goal.returns-in-Some-clause-next
returns-in-Some-clause-next g c = λ I zeroed t k e size entries starts.
    let g : c.args.goal ≡ goal_column I = c.requires.goal ∙ sym c.requires.ends ∙ e.count in
    let help : IsFirstHelp I c.args.statuses.now (entry_of c.args.dict.now) (values_in c.args.values.now) (goal_column I) Fall c.in-Some.n.col c.in-Some.n.way =
    subst (λ j. IsFirstHelp I c.args.statuses.now (entry_of c.args.dict.now) (values_in c.args.values.now) j Fall c.in-Some.n.col c.in-Some.n.way) g (c.in-Some.ensures I (values_in c.args.values.now) e) in
    leads_map I c.args.statuses.now (entry_of c.args.dict.now) (values_in c.args.values.now) t k
    (MovesColumn I zeroed t (record { statuses = c.args.statuses.now; clock = k }) (entry_of c.args.dict.now) (values_in c.args.values.now) c.in-Some.n.col c.in-Some.n.way)
    (Improves I zeroed t (record { statuses = c.args.statuses.now; clock = k }) (entry_of c.args.dict.now) (values_in c.args.values.now))
    (λ next q. inr (inr (c.in-Some.n.col, c.in-Some.n.way, help, q)))
    c.enter_column.result (c.enter_column.ensures.next I zeroed t k e size)
