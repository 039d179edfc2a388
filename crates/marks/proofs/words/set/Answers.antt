use Rattle.std.proofs.Common.{ℕ, ◌/◌, ◌%◌, slice_index, arith}
use Rattle.std.specs.Int.{w64}
use Rattle.std.proofs.lemmas.Nat.Bits.{bit_at_set_same, bit_at_set_other}
use Rattle.marks.proofs.Bits.{own_bit, other_bit}
use Rattle.marks.proofs.words.set.Goals as goal

pub returns-clause-own : goal.returns-clause-own
returns-clause-own c =
    let k : ℕ = c.args.k in
    own_bit c.args.words.now k _ 1 c.requires (bit_at_set_same w64 (slice_index c.args.words.now (k / 64)) (k % 64) (omega arith))

pub returns-clause-others : goal.returns-clause-others
returns-clause-others c = λ j apart.
    let k : ℕ = c.args.k in
    other_bit c.args.words.now k _ j c.requires (λ i low differ. bit_at_set_other w64 (slice_index c.args.words.now (k / 64)) (k % 64) (omega arith) i differ) apart
