use Rattle.std.proofs.Common.{sym, arith}
use Rattle.std.proofs.lemmas.List.{length-take-le, take_all}
use Rattle.document_tags.proofs.faults.told_name.Goals as goal

pub slice_bounds-from_slice-end : goal.slice_bounds-from_slice-end
slice_bounds-from_slice-end c = sym (length-take-le 64 c.args.name.now (omega arith))

pub returns-then-name-le-MOST_TOLD : goal.returns-then-name-le-MOST_TOLD
returns-then-name-le-MOST_TOLD c =
    let all = take_all 64 c.args.name.now (omega arith) in rw all c.from_slice.ensures
