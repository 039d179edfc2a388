use Rattle.std.proofs.Common.{◌≡◌, ℕ, ◌+◌, ◌*◌, ◌/◌, ◌<◌, ◌≤◌, ◌^◌, zero-add, subst, sym, ◌∙◌, arith}
use Rattle.std.specs.Int.{trailing_zeros, w64}
use Rattle.marks.specs.Words.{has_bit, IsFirst, HasNoneBelow}
use Rattle.marks.proofs.Bits.{none_below, first_at, first_within, below_more_from}
use Rattle.marks.proofs.words.first_from.Goals as goal

pub loop-k-init : goal.loop-k-init
loop-k-init g c = λ j a b. absurd (omega arith)

pub returns-then-word-ne0-clause-first : goal.returns-then-word-ne0-clause-first
returns-then-word-ne0-clause-first g c =
    let words : ℕ → ℕ = g.W.Words.word_at c.args.words.now in
    let k : ℕ = c.loop-k.k in
    let small : words k < 2 ^ 64 = omega (arith, c.word-word.ensures, c.word-word.type_inv) in
    let e : c.word-word.result ≡ words k / 2 ^ 0 = omega (arith, c.word-word.ensures) in
    let low : 64 * c.args.w ≤ 64 * k + 0 = omega arith in
    let P : ℕ → Type 0 = λ i. IsFirst (has_bit words) (64 * c.args.w) (64 * k + i) in
    let none : HasNoneBelow (64 * k + 0) (has_bit words) (64 * c.args.w) = λ j a b. none_below words c.args.w k c.loop-k.invariant j a (omega arith) in
    subst P (zero-add (trailing_zeros w64 c.word-word.result)) (first_at words (64 * c.args.w) k 0 c.word-word.result e small c.if-word-ne0.true low none)

pub returns-then-word-ne0-clause-inside : goal.returns-then-word-ne0-clause-inside
returns-then-word-ne0-clause-inside g c =
    let k : ℕ = c.loop-k.k in
    let small : g.W.Words.word_at c.args.words.now k < 2 ^ 64 = omega (arith, c.word-word.ensures, c.word-word.type_inv) in
    let e : c.word-word.result ≡ g.W.Words.word_at c.args.words.now k / 2 ^ 0 = omega (arith, c.word-word.ensures) in
    let l = first_within (g.W.Words.word_at c.args.words.now) k 0 c.word-word.result e small c.if-word-ne0.true in
    omega arith

pub loop-k-preserved : goal.loop-k-preserved
loop-k-preserved g c = below_more_from (λ j. g.W.Words.word_at c.args.words.now j ≡ 0) c.args.w c.loop-k.k c.loop-k.invariant (sym c.word-word.ensures ∙ c.if-word-ne0.false)

pub returns-clause-first : goal.returns-clause-first
returns-clause-first g c = λ k a b. none_below (g.W.Words.word_at c.args.words.now) c.args.w c.loop-k.k c.loop-k.invariant k a (omega arith)
