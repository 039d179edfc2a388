use Rattle.fraction.specs.Frac.{ratio}
use Rattle.evidence.specs.Cases.{end_of, left_at, or_none}
use Rattle.certificate.specs.Meanings.{multipliers}
use Rattle.case_tree.specs.Cuts as Tree
use Rattle.cert_checker.specs.Cuts as Of
use Rattle.cert_checker.specs.Leaves.{wanted}
use Rattle.cert_checker.specs.RowLeaves.{own, LeftsBelow}
use Rattle.cert_checker.specs.Slots.{HoldsTotal}
use Rattle.cert_checker.proofs.row_leaves.add_lefts.Given as goal

abbrev pub invariant-loop-j : goal.invariant-loop-j
invariant-loop-j l =
    let J = Tree.cut l.program l.cuts in
    let ms = multipliers l.mults in
    LeftsBelow J ms (Of.aim l.aim) l.j × HoldsTotal (ratio l.fn.start) l.j (λ j. left_at J (wanted J (Of.aim l.aim)) ms j) (λ j. or_none (end_of J (own J ms (Of.aim l.aim) j))) l.low
