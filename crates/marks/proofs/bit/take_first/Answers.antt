use Rattle.std.proofs.Common.{ℕ, rules, arith, ap}
use Rattle.std.specs.Prelude.{nat_eq}
use Rattle.std.specs.Int.{trailing_zeros, w64}
use Rattle.std.proofs.lemmas.Nat.Bits.{bit_at-trailing_zeros, bit_at_clear_same, bit_at_clear_other}
use Rattle.marks.proofs.Walks.{without_less}
use Rattle.marks.proofs.bit.take_first.Goals as goal

pub returns-clause-own : goal.returns-clause-own
returns-clause-own c = ap (λ n. nat_eq n 1) (bit_at-trailing_zeros w64 c.args.word.now (omega (arith, c.requires)) (search rules)).1

pub returns-clause-gone : goal.returns-clause-gone
returns-clause-gone c =
    let word : ℕ = c.args.word.now in
    ap (λ n. nat_eq n 1) (bit_at_clear_same w64 word (trailing_zeros w64 word) (bit_at-trailing_zeros w64 word (omega (arith, c.requires)) (search rules)).0)

pub returns-clause-others : goal.returns-clause-others
returns-clause-others c i l d =
    let word : ℕ = c.args.word.now in
    ap (λ n. nat_eq n 1) (bit_at_clear_other w64 word (trailing_zeros w64 word) (bit_at-trailing_zeros w64 word (omega (arith, c.requires)) (search rules)).0 i l d)

pub returns-clause-less : goal.returns-clause-less
returns-clause-less c = without_less c.args.word.now (search rules) c.requires
