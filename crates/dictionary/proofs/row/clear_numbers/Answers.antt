use Rattle.std.proofs.Common.{arith, refl}
use Rattle.marks.specs.Marks.{size_of, is_marked}
use Rattle.dictionary.proofs.row.clear_numbers.Goals as goal

pub overflow_add-from : goal.overflow_add-from
unfolding size_of
overflow_add-from c =
    let m = c.args.marks.now in
    let few = m.few in
    let at = c.in-Some.ensures.first in
    let l = (c.requires c.in-Some.col at.is).1 in
    record { fits = omega arith }

pub loop-col-init : goal.loop-col-init
loop-col-init c = record {
  kept = c.new-walk.ensures (is_marked c.args.marks.now);
  zeros = λ j l. absurd (omega arith);
  others = λ j e. refl;
}

pub next_by-requires : goal.next_by-requires
next_by-requires c = c.loop-col.invariant.kept
