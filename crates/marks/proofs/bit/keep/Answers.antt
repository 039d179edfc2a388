use Rattle.std.proofs.Common.{ap, sym, ◌∙◌}
use Rattle.std.specs.Prelude.{nat_eq}
use Rattle.std.specs.Int.{w64}
use Rattle.std.proofs.lemmas.Nat.Bits.{bit_at_clear_same, bit_at_clear_other}
use Rattle.marks.proofs.bit.keep.Goals as goal

pub returns-else-stays-clause-own : goal.returns-else-stays-clause-own
returns-else-stays-clause-own c is = ap (λ n. nat_eq n 1) (bit_at_clear_same w64 c.args.word c.args.bit c.requires) ∙ sym c.if-stays.false

pub returns-else-stays-clause-others : goal.returns-else-stays-clause-others
returns-else-stays-clause-others c i l d = ap (λ n. nat_eq n 1) (bit_at_clear_other w64 c.args.word c.args.bit c.requires i l d)
