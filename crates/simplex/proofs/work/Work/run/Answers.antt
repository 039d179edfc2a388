use Rattle.std.proofs.Common.{◌≡◌, ℕ, ◌+◌, inl, Bool, true, false, Some, List, length, get_or, refl, sym, ◌∙◌, ap, ap₂, subst, arith}
use Rattle.std.specs.Vec.{with_items}
use Rattle.std.proofs.lemmas.List.{with_items_is}
use Rattle.fraction.specs.declared.frac.Frac.{Frac}
use Rattle.evidence.specs.Instance as Of
use Rattle.instance.specs.Program.{goals}
use Rattle.bases.specs.Program.{goal_column}
use Rattle.simplex_rules.specs.declared.columns.Status.{Status}
use Rattle.simplex_rules.specs.Ends.{Terms, Clock, End}
use Rattle.simplex_rules.specs.Reports.{collected}
use Rattle.simplex_rules.specs.Looks.{answers, AgreesWith, looks_after, stop_after}
use Rattle.simplex_rules.proofs.Looks.{agrees}
use Rattle.simplex_rules.specs.Runs.{Run, EndsAtBasis, begins}
use Rattle.no_cycles.proofs.SecondPhase.{none_twice}
use Rattle.simplex.specs.declared.answer.LpEnd.{LpEnd}
use Rattle.simplex.specs.declared.answer.LpEnd.TheVariants as Has
use Rattle.simplex.specs.Cuts.{IsCutBy}
use Rattle.simplex.specs.Tables.{AreHeld, values_in}
use Rattle.simplex.specs.Memory.{width_in, height_in, point_in, statuses_in, entries_in, point_of}
use Rattle.simplex.specs.Answers.{listed, ended, was_stopped, was_best}
use Rattle.simplex.specs.Finishes.{is_stop, end_at}
use Rattle.simplex.specs.States.{IsOf}
use Rattle.simplex.proofs.Choices.{held_dictionary}
use Rattle.simplex.proofs.CutPrograms.{start_cut}
use Rattle.simplex.proofs.Finishes.{finish_run, finish_basis, best_kept, never_limited}
use Rattle.simplex.proofs.work.Work.run.Goals as goal
use Rattle.simplex.proofs.work.Work.run.Goals.{After-report}

-- the program is the one that the run began with
of : (g : _) (c : After-report g) (I : Of.Instance) → IsCutBy c.args.instance.now c.args.cuts.now I → IsOf I c.args.zero_goal c.start-start.result c.begin.new.self
of g c I cut =
    let p = c.args.instance.now in
    let own = c.goal_at-asked.ensures.goal ∙ ap (λ n. get_or (goals p.goals) n Of.no_goal) c.goal.ensures in
    c.in_default.ensures.of I c.start-start.result cut (start_cut p c.args.cuts.now I cut c.goal_at-asked.result.now own c.args.zero_goal c.start-start.result c.start-start.ensures)

-- the numbers of the end, where they were written and as they are stored
factors : (g : _) (c : After-report g) → c.report.new.factors ≡ (with_items c.make_turns-finish.new.self.factors c.report.new.factors).items
factors g c = sym (with_items_is c.make_turns-finish.new.self.factors c.report.new.factors (c.report.auto.factors ∙ c.as_mut_slice.ensures.len))

movements : (g : _) (c : After-report g) → c.report.new.movements ≡ (with_items c.make_turns-finish.new.self.movements c.report.new.movements).items
movements g c = sym (with_items_is c.make_turns-finish.new.self.movements c.report.new.movements (c.report.auto.movements ∙ c.as_mut_slice-2.ensures.len))

abbrev told : (g : _) (c : After-report g) → End
told g c =
    let u = c.make_turns-finish.new.self in
    ended c.report.result (point_of u) (collected (values_in (with_items u.factors c.report.new.factors).items) (width_in u + height_in u)) (listed (width_in u) (values_in (with_items u.movements c.report.new.movements).items))

-- what is answered is the end of the run
tells : (g : _) (c : After-report g) (I : Of.Instance) → IsCutBy c.args.instance.now c.args.cuts.now I → let u = c.make_turns-finish.new.self in end_at I (statuses_in u) (entries_in u) (point_in u) c.make_turns-finish.result ≡ told g c
tells g c I cut =
    let u = c.make_turns-finish.new.self in
    let m = c.make_turns-finish.ensures.changes.size in
    let b = c.in_default.ensures.size in
    let x = m.width in let y = m.height in let z = b.width in let q = b.height in
    let v = c.requires.vars in let r = c.requires.rows in let e = c.requires.cuts.ends in
    let w = cut.width in let h = cut.height in
    let long = c.as_mut_slice-2.ensures.len in let l = u.movements_long in let n = u.goal_is in
    let wide : Of.width I ≡ length c.as_mut_slice-2.result.now = omega arith in
    let high : goal_column I ≡ u.goal = omega arith in
    let few : length c.as_mut_slice-2.result.now ≡ width_in u = omega arith in
    ap (λ (xs : List Status). end_at I xs (entries_in u) (point_in u) c.make_turns-finish.result) (sym c.as_slice.ensures.value)
    ∙ c.report.ensures.end I (point_in u) wide high
    ∙ ap₂ (λ (i j : ℕ). ended c.report.result (listed i (point_in u)) (collected (values_in c.report.new.factors) j) (listed i (values_in c.report.new.movements))) few n
    ∙ ap₂ (λ (xs ys : List Frac). ended c.report.result (point_of u) (collected (values_in xs) (width_in u + height_in u)) (listed (width_in u) (values_in ys))) (factors g c) (movements g c)

ran : (g : _) (c : After-report g) (I : Of.Instance) (t : Terms) (looks : ℕ) → IsCutBy c.args.instance.now c.args.cuts.now I → t.turns ≡ c.args.turns.now.most → let m = c.make_turns-finish.ensures.changes in AgreesWith t.stop looks m.looks (was_stopped c.report.result) → let d : Clock = record { turns = c.make_turns-finish.new.turns.done; looks = looks_after looks m.looks (was_stopped c.report.result) } in Run I c.args.zero_goal t (record { turns = c.args.turns.now.done; looks = looks }) (told g c) d × (was_best c.report.result ≡ true → EndsAtBasis I c.args.zero_goal t (record { turns = c.args.turns.now.done; looks = looks }) (told g c) d (statuses_in c.make_turns-finish.new.self))
ran g c I t looks cut most agree =
    let m = c.make_turns-finish.ensures.changes in
    let f = c.make_turns-finish.result in
    let u = c.make_turns-finish.new.self in
    let e = c.report.ensures.stopped in
    let first : Clock = record { turns = c.args.turns.now.done; looks = looks } in
    let last : Clock = record { turns = c.make_turns-finish.new.turns.done; looks = looks_after looks m.looks (is_stop f) } in
    let end : Clock = record { turns = c.make_turns-finish.new.turns.done; looks = looks_after looks m.looks (was_stopped c.report.result) } in
    let r = m.carries I c.args.zero_goal t first looks (of g c I cut) most (subst (λ (b : Bool). AgreesWith t.stop looks m.looks b) e agree) (begins (c.in_default.ensures.fresh refl I cut)) in
    let clock : last ≡ end = ap (λ (b : Bool). record { turns = c.make_turns-finish.new.turns.done; looks = looks_after looks m.looks b }) (sym e) in
    let room = c.in_default.ensures.clash I cut in (
      finish_run I c.args.zero_goal t first last end _ (told g c) f (statuses_in u) room r (tells g c I cut) clock,
      λ best. finish_basis I c.args.zero_goal t first last end _ (told g c) f (statuses_in u) room r (tells g c I cut) clock (sym c.report.ensures.best ∙ best),
    )

-- a column clashes: no look was made
pub returns-in-Some-clause-run : goal.returns-in-Some-clause-run
returns-in-Some-clause-run g c = (
  0,
  g.met.W.Watch.stays c.args.watch.now,
  (λ I t looks cut most tells.
      let none : looks + 0 ≡ looks = omega arith in (
        inl (c.in-Some.col, c.in-Some.ensures.clash I cut, refl, ap (λ (j : ℕ). record { turns = c.args.turns.now.done; looks = j }) none),
        λ best. let x : false ≡ true = best in absurd (cc),
      )),
)

pub returns-in-Some-clause-basis : goal.returns-in-Some-clause-basis
returns-in-Some-clause-basis g c = λ best. let x : false ≡ true = best in absurd (cc)

pub returns-in-Some-clause-once : goal.returns-in-Some-clause-once
returns-in-Some-clause-once g c = λ I t b d good cut run. none_twice good run.room run.comes

pub returns-in-Some-clause-enough : goal.returns-in-Some-clause-enough
returns-in-Some-clause-enough g c = λ I good cut settled enough out. let x : Has.Clash c.in-Some.col ≡ Has.TurnLimit = out in cc

pub returns-clause-run : goal.returns-clause-run
returns-clause-run g c =
    let r = (goal.at.returns-clause-run g c).After-report in
    let m = c.make_turns-finish.ensures.changes in (
      m.looks,
      subst (λ (b : Bool). g.W.Watch.came c.args.watch.now c.make_turns-finish.new.watch (answers m.looks b)) (sym c.report.ensures.stopped) m.came,
      ran g r,
    )

pub returns-clause-basis : goal.returns-clause-basis
returns-clause-basis g c = λ best.
    let m = (goal.at.returns-clause-basis g c).After-report in
    let u = c.make_turns-finish.new.self in
    let f = c.make_turns-finish.result in
    let was = sym c.report.ensures.best ∙ best in
    let held = best_kept f (AreHeld u.dict (statuses_in u)) was c.make_turns-finish.ensures.left.held in (
      record { held = held },
      λ I cut.
          let is = best_kept f (IsOf I c.args.zero_goal c.start-start.result u) was (c.make_turns-finish.ensures.changes.of I c.args.zero_goal (of g m I cut)) in
          held_dictionary u.dict I c.args.zero_goal (statuses_in u) held.statuses is.size is.rows,
    )

pub returns-clause-once : goal.returns-clause-once
returns-clause-once g c = λ I t b d good cut run. none_twice good run.room run.comes

pub returns-clause-enough : goal.returns-clause-enough
returns-clause-enough g c = λ I good cut settled enough out.
    let r = (goal.at.returns-clause-enough g c).After-report in
    let n = c.make_turns-finish.ensures.changes.looks in
    let stopped = was_stopped c.report.result in
    let t : Terms = record { nodes = 0; turns = c.args.turns.now.most; rounds = 0; stop = stop_after n stopped } in
    let first : Clock = record { turns = c.args.turns.now.done; looks = 0 } in
    never_limited I c.args.zero_goal t first _ c.report.result _ _ _ good settled enough (ran g r I t 0 cut refl (agrees n stopped)).0 out
