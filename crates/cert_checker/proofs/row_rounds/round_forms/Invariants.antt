use Rattle.std.proofs.Common.{ℕ, ◌<◌, ◌≤◌, length}
use Rattle.evidence.specs.Sums.{none}
use Rattle.evidence.specs.Cases.{end_of, left_at, or_none}
use Rattle.certificate.specs.Meanings.{multipliers}
use Rattle.case_tree.specs.Cuts as Tree
use Rattle.cert_checker.specs.Lefts.{own, LeftsBelow}
use Rattle.cert_checker.specs.Programs.{HoldsRow}
use Rattle.cert_checker.specs.RowRounds.{aimed}
use Rattle.cert_checker.specs.Slots.{slot_at, HoldsSum, HoldsTotal}
use Rattle.cert_checker.proofs.row_rounds.round_forms.Given as goal

abbrev pub invariant-loop-j : goal.invariant-loop-j
invariant-loop-j l =
    let J = Tree.cut l.program l.cuts in
    let ms = multipliers l.mults in
    let t = aimed J ms in
    record {
      lefts : LeftsBelow J t ms l.j;
      low : HoldsTotal none l.j (λ j. left_at J t ms j) (λ j. or_none (end_of J (own J t ms j))) l.low;
      row : HoldsRow l.j t l.slots;
      rest : (i : ℕ) → l.j ≤ i → i < length l.cuts → HoldsSum J ms i (length l.mults) (slot_at l.slots i);
    }
