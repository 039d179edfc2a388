use Rattle.std.proofs.Common.{ℕ, List, inl, arith, sym, ap, subst}
use Rattle.rational.specs.Ratio.{Ratio}
use Rattle.evidence.specs.Instance.{Instance}
use Rattle.certificate.specs.Meanings as Means
use Rattle.instance.specs.Program.{program, problem}
use Rattle.instance.proofs.Terms.{if_ok}
use Rattle.cert_checker.specs.Programs.{with_rows}
use Rattle.simplex.specs.declared.answer.Turns.{Turns}
use Rattle.simplex.specs.Memory.{point_of, statuses_in}
use Rattle.search_rules.specs.Cuts.{TriesBasis}
use Rattle.search_rules.specs.Search.{To, Out, GoesFromTrial}
use Rattle.branch_bound.specs.Trials.{RanTo, tried}
use Rattle.branch_bound.specs.Divisions.{IsOpenAt}
use Rattle.branch_bound.specs.Walks.{case, rest}
use Rattle.branch_bound.specs.Levels.{moment}
use Rattle.branch_bound.specs.Cases.{SuitsLevel, outcome_of}
use Rattle.case_tree.specs.Cuts.{cut}
use Rattle.branch_bound.proofs.Ready.{at_as, suits_as, size_as, same_point}
use Rattle.branch_bound.proofs.PointSteps.{if_err, or_memory}
use Rattle.branch_bound.proofs.CutProgram.{uncut_is, first_case_is}
use Rattle.branch_bound.proofs.GivenUp.{for_memory_at, stays_from}
use Rattle.branch_bound.proofs.rounds.cut_or_branch.Goals as goal
use Rattle.branch_bound.proofs.rounds.cut_or_branch.Goals.{In-Ok}

pub try_at-requires-clause-beside : goal.try_at-requires-clause-beside
try_at-requires-clause-beside g c = let one = c.requires.suits.one c.requires.one in one.1

pub try_at-requires-clause-ran : goal.try_at-requires-clause-ran
try_at-requires-clause-ran g c =
    let p = c.args.instance.now in
    let r = c.args.relaxation.now in
    let one = c.requires.suits.one c.requires.one in
    let (e, ran) = c.requires.ran in
    (e, subst (λ (J : Instance). RanTo J e r.work) (uncut_is p r.rows.items c.args.walk.now.cuts.items c.requires.fresh.uncut) (ran (with_rows (program p) r.rows.items) one.0))

-- what was tried leaves what the search has at hand
suits : (g : _) (c : In-Ok g) → SuitsLevel c.args.instance.now c.try_at.new.relaxation c.args.level.now
suits g c =
    let p = c.args.instance.now in
    let r = c.args.relaxation.now in
    let t = c.try_at.ensures in
    suits_as p r c.try_at.new.relaxation r.ends.ends t.ends t.rows c.args.level.now (size_as p r c.try_at.new.relaxation t.work t.ends t.slots c.requires.suits.size) c.requires.suits

pub go_on-requires-clause-suits : goal.go_on-requires-clause-suits
go_on-requires-clause-suits g c = suits g (goal.at.go_on-requires-clause-suits g c).In-Ok

pub go_on-requires-clause-divides : goal.go_on-requires-clause-divides
go_on-requires-clause-divides g c = λ D.
    subst (λ (x : List Ratio). IsOpenAt (cut D c.args.walk.now.cuts.items) x c.args.at.col c.args.at.by) (sym (same_point c.args.instance.now c.args.relaxation.now c.try_at.new.relaxation c.try_at.ensures.work)) (c.requires.divides D)

pub returns-in-Ok-clause-on : goal.returns-in-Ok-clause-on
returns-in-Ok-clause-on g c =
    let here = suits g (goal.at.returns-in-Ok-clause-on g c).In-Ok in
    if_ok c.go_on.result (λ x on l ready fewer. on l (record { suits = here; at = ready.at; within = ready.within; fresh = ready.fresh }) fewer) c.go_on.ensures.on

pub returns-in-Ok-clause-ok : goal.returns-in-Ok-clause-ok
returns-in-Ok-clause-ok g c =
    let p = c.args.instance.now in
    let r = c.args.relaxation.now in
    let v = c.args.level.now in
    let w = c.args.walk.now in
    let q = c.try_at.new.relaxation in
    let t' = c.try_at.ensures in
    if_ok c.go_on.result
    (λ x goes L D t now lvl.
    let f = goes L D t now (at_as p r c.try_at.new.relaxation r.ends.ends t'.ends t'.rows v L D lvl) in (
      f.0,
      f.1,
      (
        tried c.in-Ok.trial c.try_at.new.relaxation.slots.items,
        subst (λ (J : Instance). TriesBasis J (point_of r.work) (statuses_in r.work) (tried c.in-Ok.trial c.try_at.new.relaxation.slots.items)) (first_case_is p D r.rows.items w.cuts.items c.requires.fresh.uncut lvl.given.variables (lvl.first (let low = c.requires.suits.goal in let alone = c.requires.one in omega arith))) c.in-Ok.ensures.tries,
        subst (λ (y : List Ratio). GoesFromTrial (problem p) t (case D w c.args.depth) (rest D w c.args.depth) (moment p L D v w now) y (tried c.in-Ok.trial c.try_at.new.relaxation.slots.items) (To (moment p L f.0 c.go_on.new.level c.go_on.new.walk now)))
            (same_point p r c.try_at.new.relaxation t'.work) f.2,
      ),
    ))
    c.go_on.ensures.ok

pub returns-in-Ok-clause-err : goal.returns-in-Ok-clause-err
returns-in-Ok-clause-err g c =
    let p = c.args.instance.now in
    let r = c.args.relaxation.now in
    let v = c.args.level.now in
    let w = c.args.walk.now in
    let t' = c.try_at.ensures in
    if_err c.go_on.result
    (λ ended. or_memory w ended (λ goes L D t looks lvl. (
      tried c.in-Ok.trial c.try_at.new.relaxation.slots.items,
      subst (λ (J : Instance). TriesBasis J (point_of r.work) (statuses_in r.work) (tried c.in-Ok.trial c.try_at.new.relaxation.slots.items)) (first_case_is p D r.rows.items w.cuts.items c.requires.fresh.uncut lvl.given.variables (lvl.first (let low = c.requires.suits.goal in let alone = c.requires.one in omega arith))) c.in-Ok.ensures.tries,
      subst (λ (y : List Ratio). GoesFromTrial (problem p) t (case D w c.args.depth) (rest D w c.args.depth) (moment p L D v w (record { turns = r.turns.done; looks = looks })) y (tried c.in-Ok.trial c.try_at.new.relaxation.slots.items) (Out (outcome_of (Means.certificates v.certs) ended) (record { turns = r.turns.done; looks = looks })))
          (same_point p r c.try_at.new.relaxation t'.work)
          (subst (λ (n : ℕ). GoesFromTrial (problem p) t (case D w c.args.depth) (rest D w c.args.depth) (moment p L D v w (record { turns = n; looks = looks })) (point_of c.try_at.new.relaxation.work) (tried c.in-Ok.trial c.try_at.new.relaxation.slots.items) (Out (outcome_of (Means.certificates v.certs) ended) (record { turns = n; looks = looks })))
          (ap (λ (y : Turns). y.done) t'.turns) (goes L D t looks)),
    )))
    c.go_on.ensures.err

pub returns-in-Err-clause-err : goal.returns-in-Err-clause-err
returns-in-Err-clause-err g c = inl c.give_up.ensures.told

-- the walk stays where the search is given up
pub returns-in-Ok-clause-stays : goal.returns-in-Ok-clause-stays
returns-in-Ok-clause-stays g c =
    if_err c.go_on.result
    (λ ended stays. stays_from c.args.relaxation.now c.try_at.new.relaxation c.go_on.new.relaxation c.args.level.now c.go_on.new.level c.args.walk.now c.go_on.new.walk ended c.try_at.ensures.ends c.try_at.ensures.rows stays)
    c.go_on.ensures.stays

pub returns-in-Err-clause-stays : goal.returns-in-Err-clause-stays
returns-in-Err-clause-stays g c =
    let v = c.args.level.now in
    for_memory_at c.args.relaxation.now c.try_at.new.relaxation v v c.args.walk.now c.give_up.new.walk c.give_up.result c.give_up.ensures.is
