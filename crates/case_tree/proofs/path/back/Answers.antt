use Rattle.std.proofs.Common.{◌≡◌, ◌+◌, ◌-◌, ◌∷◌, arith, ap, sym, ◌∙◌}
use Rattle.case_tree.specs.Cuts.{pending, pending_places}
use Rattle.case_tree.proofs.path.back.Goals as goal

pub returns-then-not-branch-clause-cases : goal.returns-then-not-branch-clause-cases
returns-then-not-branch-clause-cases c = λ I.
    let up : c.loop-place.place - 1 + 1 ≡ c.loop-place.place = omega arith in
    c.turn.ensures.cases I ∙ ap (pending I c.loop-place.cuts c.loop-place.branches) up ∙ c.loop-place.invariant.same I

pub returns-then-not-branch-clause-places : goal.returns-then-not-branch-clause-places
returns-then-not-branch-clause-places c =
    let up : c.loop-place.place - 1 + 1 ≡ c.loop-place.place = omega arith in
    let one : c.loop-place.place - 1 ≡ c.loop-place.place - 1 + 1 - 1 = omega arith in
    sym c.loop-place.invariant.places ∙ ap (pending_places c.loop-place.branches) (sym up) ∙ c.turn.ensures.places
    ∙ ap (λ n. n ∷ pending_places c.turn.new.branches (c.loop-place.place - 1 + 1)) one
