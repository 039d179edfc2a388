use Rattle.std.proofs.Common.{rules, ◌≡◌, inl, inr, Option, Some, [], ◌∷◌, ℤ, pos, neg_ℤ, ◌≤ℤ◌, length, refl, sym, ◌∙◌, ap, subst, arith}
use mir.Val.{SFits}
use mir.Syntax.{w128}
use Rattle.std.proofs.Math.Facts.{to_z-of_z}
use Rattle.rational.specs.Width.{most}
use Rattle.std.proofs.lemmas.List.{length-map}
use Rattle.evidence.specs.Rounds.{RoundBy, derive}
use Rattle.certificate.specs.Meanings as Means
use Rattle.instance.specs.Program.{program}
use Rattle.instance.proofs.Terms.{if_ok}
use Rattle.case_tree.specs.Cuts.{cut, cut_variable}
use Rattle.cert_checker.specs.Programs.{numerators}
use Rattle.simplex.specs.Memory.{point_of}
use Rattle.search_rules.specs.Search.{Outcome, To, Out}
use Rattle.branch_bound.specs.Levels.{IsAtLevel}
use Rattle.branch_bound.specs.Cases.{clock_at}
use Rattle.branch_bound.proofs.Splits.{open_inside, open_next}
use Rattle.branch_bound.proofs.Moments.{branches, cuts}
use Rattle.branch_bound.proofs.Ready.{gone_on, at_walk, if_ok₃}
use Rattle.branch_bound.proofs.PointSteps.{if_err, kept_values, rounds_more}
use Rattle.branch_bound.specs.declared.carried.Carried.{Carried}
use Rattle.std.proofs.lemmas.List.Elements.{All-nil, All-cons}
use Rattle.branch_bound.proofs.Kept.{anew_kept}
use Rattle.branch_bound.proofs.KeptAfter.{both_are}
use Rattle.branch_bound.proofs.GivenUp.{given_up, for_memory_at, stays_at}
use Rattle.branch_bound.proofs.rounds.go_on.Goals as goal

pub branch-walk-requires-clause-inside : goal.branch-walk-requires-clause-inside
branch-walk-requires-clause-inside g c =
    let I = program c.args.instance.now in
    let cs = c.args.walk.now.cuts.items in
    let low = open_inside (cut I cs) (point_of c.args.relaxation.now.work) c.args.at.col c.args.at.by (c.requires.divides I) in
    let n = length-map cs cut_variable in
    omega arith

pub branch-walk-requires-clause-next : goal.branch-walk-requires-clause-next
branch-walk-requires-clause-next g c = let I = program c.args.instance.now in open_next (cut I c.args.walk.now.cuts.items) (point_of c.args.relaxation.now.work) c.args.at.col c.args.at.by (c.requires.divides I)

pub returns-in-NoCut-clause-on : goal.returns-in-NoCut-clause-on
returns-in-NoCut-clause-on g c =
    if_ok₃ c.branch-walk.result
    (λ x walk by one l ready fewer.
    let stands = c.requires.at in
    gone_on c.args.instance.now l c.args.relaxation.now c.args.level.now c.args.walk.now c.branch-walk.new.walk c.args.depth ready (rw stands.width at walk) (kept_values c.args.instance.now c.args.walk.now.best c.branch-walk.new.walk.best by.point c.requires.values) one)
    c.branch-walk.ensures.walk c.branch-walk.ensures.ok c.branch-walk.ensures.one

pub returns-in-NoCut-clause-ok : goal.returns-in-NoCut-clause-ok
returns-in-NoCut-clause-ok g c =
    let w = c.args.walk.now in
    rw c.in-NoCut.is (if_ok c.branch-walk.result
    (λ x by L D t now lvl. (D, lvl, branches c.args.instance.now L D c.args.level.now now w c.args.depth c.branch-walk.new.walk c.args.at.by c.args.at.col (point_of c.args.relaxation.now.work) (c.requires.divides D) by))
    c.branch-walk.ensures.ok)

pub returns-in-NoCut-clause-err : goal.returns-in-NoCut-clause-err
returns-in-NoCut-clause-err g c = if_err c.branch-walk.result (λ ended lacks. inl lacks) c.branch-walk.ensures.err

pub returns-in-WideCut-clause-err : goal.returns-in-WideCut-clause-err
returns-in-WideCut-clause-err g c =
    let v = c.args.level.now in
    rw c.in-WideCut.is (inr (λ L D t looks. ap (λ (o : Outcome). Out o (clock_at c.args.relaxation.now looks)) (c.too_wide.ensures.told (Means.certificates v.certs) c.args.instance.now L D v looks)))

pub add_cut-requires-clause-holds : goal.add_cut-requires-clause-holds
add_cut-requires-clause-holds g c = let holds = rw c.in-Cut.is at c.requires.holds in holds.0

pub add_cut-requires-clause-low : goal.add_cut-requires-clause-low
add_cut-requires-clause-low g c =
    let holds = rw c.in-Cut.is at c.requires.holds in
    let f : SFits w128 c.in-Cut.low = search rules in
    subst (λ (k : ℤ). neg_ℤ (pos most) ≤ℤ k) (sym (to_z-of_z f)) holds.1

pub returns-in-Ok-carry-clause-on : goal.returns-in-Ok-carry-clause-on
returns-in-Ok-carry-clause-on g c = λ l ready fewer.
    let v = c.args.level.now in
    let level = c.add_cut.ensures.level in
    let at = c.requires.at in
    let fresh = c.requires.fresh in
    record {
      suits = c.in-Ok.ensures.suits;
      walk = at_walk (length c.args.instance.now.vars) c.args.depth (record c.args.walk.now { carried = c.carry.new.list }) (record { width = at.width; next = at.next; room = at.room; above = at.above; ray = at.ray });
      fresh = λ e. record { nodes = fresh.nodes; uncut = fresh.uncut; next = fresh.next };
      values = c.requires.values;
      further = record { level = level; within = ready.within; one = inr (refl, rounds_more v.rounds c.add_cut.new.level.rounds (RoundBy (Means.multipliers c.in-Cut.mults)) c.in-Ok.ensures.rounds, fewer) };
    }

pub returns-in-Ok-carry-clause-ok : goal.returns-in-Ok-carry-clause-ok
returns-in-Ok-carry-clause-ok g c =
    let p = c.args.instance.now in
    let v = c.args.level.now in
    let w = c.args.walk.now in
    let f : SFits w128 c.in-Cut.low = search rules in
    rw c.in-Cut.is (λ L D t now lvl. (
      derive D (numerators c.args.relaxation.now.slots.items) c.in-Cut.low,
      subst (λ (k : ℤ). IsAtLevel p c.add_cut.new.relaxation c.add_cut.new.level L (derive D (numerators c.args.relaxation.now.slots.items) k)) (to_z-of_z f) (c.in-Ok.ensures.at L D lvl),
      ap To (cuts p L D v now w c.args.depth (derive D (numerators c.args.relaxation.now.slots.items) c.in-Cut.low) c.add_cut.new.level (Means.multipliers c.in-Cut.mults) (numerators c.args.relaxation.now.slots.items) c.in-Cut.low c.requires.fresh c.requires.at.next lvl.given.variables refl c.add_cut.ensures.level.0 c.add_cut.ensures.certs c.in-Ok.ensures.rounds),
    ))

pub returns-in-Err-clause-err : goal.returns-in-Err-clause-err
returns-in-Err-clause-err g c = inl c.give_up.ensures.told

pub returns-in-NoCut-clause-carried : goal.returns-in-NoCut-clause-carried
returns-in-NoCut-clause-carried g c = if_ok c.branch-walk.result (λ x told. told.0) c.branch-walk.ensures.carried

pub returns-in-NoCut-clause-leaves : goal.returns-in-NoCut-clause-leaves
returns-in-NoCut-clause-leaves g c =
    let k : Option Carried = Some c.args.carried in
    if_ok c.branch-walk.result (λ x told. (k ∷ k ∷ [], both_are (λ (y : Option Carried). y ≡ k) k refl, told.1)) c.branch-walk.ensures.carried

pub returns-in-Ok-carry-clause-leaves : goal.returns-in-Ok-carry-clause-leaves
returns-in-Ok-carry-clause-leaves g c =
    let w = c.args.walk.now in
    let k : Option Carried = Some c.args.carried in
    let is : Some c.args.depth ≡ Some 0 = sym c.requires.at.next ∙ c.requires.fresh.next in
    let first : c.args.depth ≡ 0 = cc in (
      k ∷ [],
      All-cons (λ (y : Option Carried). y ≡ k) k [] refl (All-nil (λ (y : Option Carried). y ≡ k)),
      (
        refl,
        λ keeps. let h = c.in-Ok-carry.ensures.at keeps in anew_kept w.carried.items c.carry.new.list.items w.branches.items k c.args.depth w.next c.requires.at.next first h.1,
      ),
    )

-- the walk stays where the search is given up
pub returns-in-NoCut-clause-stays : goal.returns-in-NoCut-clause-stays
returns-in-NoCut-clause-stays g c =
    let r = c.args.relaxation.now in
    let v = c.args.level.now in
    if_err c.branch-walk.result (λ ended lacks. for_memory_at r r v v c.args.walk.now c.branch-walk.new.walk ended lacks) c.branch-walk.ensures.memory

pub returns-in-WideCut-clause-stays : goal.returns-in-WideCut-clause-stays
returns-in-WideCut-clause-stays g c =
    let r = c.args.relaxation.now in
    let v = c.args.level.now in
    let is = c.too_wide.ensures.is in
    stays_at r r v v c.args.walk.now c.too_wide.new.walk c.too_wide.result refl refl refl (given_up c.args.walk.now c.too_wide.new.walk c.too_wide.result is.0 is.1 c.too_wide.ensures.rest)

pub returns-in-Err-clause-stays : goal.returns-in-Err-clause-stays
returns-in-Err-clause-stays g c = for_memory_at c.args.relaxation.now c.add_cut.new.relaxation c.args.level.now c.add_cut.new.level c.args.walk.now c.give_up.new.walk c.give_up.result c.give_up.ensures.is

pub returns-in-Err-carry-clause-stays : goal.returns-in-Err-carry-clause-stays
returns-in-Err-carry-clause-stays g c = for_memory_at c.args.relaxation.now c.add_cut.new.relaxation c.args.level.now c.add_cut.new.level c.args.walk.now c.give_up-in-Err-carry.new.walk c.give_up-in-Err-carry.result c.give_up-in-Err-carry.ensures.is
