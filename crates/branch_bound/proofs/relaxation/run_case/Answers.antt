use Rattle.std.proofs.Common.{◌+◌, ◌^◌, ◌<◌, length, sym, ◌∙◌, ap, subst}
use Rattle.std.proofs.lemmas.List.{length-map}
use Rattle.evidence.specs.Instance as Of
use Rattle.case_tree.specs.Cuts.{cut}
use Rattle.simplex.specs.Cuts.{Cutting, Suits, IsCutBy}
use Rattle.branch_bound.specs.Levels.{ends_in, IsGiven}
use Rattle.branch_bound.proofs.relaxation.run_case.Goals as goal
use Rattle.branch_bound.proofs.relaxation.run_case.Goals.{After-set_ends}

-- what the run is given is the case
given : (g : _) (c : After-set_ends g) (D : Of.Instance) → IsGiven c.args.instance.now c.args.relaxation.now.ends D → IsCutBy c.args.instance.now c.set_ends.new.ends (cut D c.args.cuts.now)
given g c D is = subst (λ (k : Cutting). IsCutBy c.args.instance.now k (cut D c.args.cuts.now)) (sym c.set_ends.ensures) (is.cut c.args.cuts.now c.requires.width)

suits : (g : _) (c : After-set_ends g) → Suits c.args.instance.now c.set_ends.new.ends
suits g c =
    let s = c.requires.size.suits in
    subst (Suits c.args.instance.now) (sym c.set_ends.ensures) (record { ends = length-map c.args.cuts.now ends_in ∙ c.requires.width; rows = s.rows; goal = s.goal })

pub set_ends-requires-clause-long : goal.set_ends-requires-clause-long
set_ends-requires-clause-long g c = c.requires.size.suits.ends ∙ sym c.requires.width

pub run-requires-clause-rows : goal.run-requires-clause-rows
run-requires-clause-rows g c = c.requires.size.height ∙ ap (λ (k : Cutting). length c.args.instance.now.rows + length k.rows) (sym c.set_ends.ensures)

pub run-requires-clause-cuts : goal.run-requires-clause-cuts
run-requires-clause-cuts g c = suits g (goal.at.run-requires-clause-cuts g c).After-set_ends

pub returns-clause-size : goal.returns-clause-size
returns-clause-size g c =
    let s = c.requires.size in
    let rows = ap (λ (k : Cutting). length k.rows) (sym c.set_ends.ensures) in
    record {
      width = c.run.ensures.width ∙ s.width;
      height = c.run.ensures.height ∙ s.height ∙ ap (λ n. length c.args.instance.now.rows + n) rows;
      few = subst (λ n. length c.args.instance.now.vars + (length c.args.instance.now.rows + n) < 2 ^ 32) rows s.few;
      suits = suits g (goal.at.returns-clause-size g c).After-set_ends;
      slots = s.slots;
    }

pub returns-clause-run : goal.returns-clause-run
returns-clause-run g c =
    let p = c.run.ensures.run in
    let here = (goal.at.returns-clause-run g c).After-set_ends in (
      p.0,
      p.1,
      (λ D t looks is most tells. p.2 (cut D c.args.cuts.now) t looks (given g here D is) most tells),
    )

pub returns-clause-basis : goal.returns-clause-basis
returns-clause-basis g c = λ best.
    let b = c.run.ensures.basis best in
    let here = (goal.at.returns-clause-basis g c).After-set_ends in
    (b.0, λ D is. b.1 (cut D c.args.cuts.now) (given g here D is))
