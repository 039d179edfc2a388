use Rattle.std.proofs.Common.{ap, ◌∙◌, sym, cond, Bool, ◌||◌}
use Rattle.marks.specs.Words.{is_set}
use Rattle.marks.proofs.Bits.{set_or}
use Rattle.dictionary.proofs.changing.changing.Goals as goal

pub returns-else-adds : goal.returns-else-adds
returns-else-adds c i = set_or c.args.own c.args.other i ∙ sym (ap (λ (t : Bool). cond t (is_set c.args.other i) (is_set c.args.own i || is_set c.args.other i)) c.if-adds.false)
