use Rattle.std.proofs.Common.{ℕ, ◌+◌, ◌*◌, ◌/◌, ◌%◌, ◌<◌, ◌≤◌, ◌^◌, ap, arith}
use Rattle.marks.specs.Words.{has_bit, HasNoneBelow}
use Rattle.marks.proofs.Bits.{IsHere, here, none_here, answer_after}
use Rattle.marks.proofs.words.next.Goals as goal
use Rattle.marks.proofs.words.next.Given.{Over}

found : (g : Over) (c : goal.Then-rest-ne0 g) → IsHere (g.W.Words.word_at c.args.words.now) c.args.from (c.word.result / 2 ^ (c.args.from % 64))
found g c = here (g.W.Words.word_at c.args.words.now) c.args.from _ (ap (λ (n : ℕ). n / 2 ^ (c.args.from % 64)) c.word.ensures) (omega (arith, c.word.ensures, c.word.type_inv)) c.if-rest-ne0.true

pub overflow_add-result : goal.overflow_add-result
overflow_add-result g c =
    let inside = (found g c).inside in
    let below : c.args.from / 64 < g.W.Words.words c.args.words.now = omega (arith, c.count.ensures) in
    omega (arith, inside)

pub returns-then-rest-ne0 : goal.returns-then-rest-ne0
returns-then-rest-ne0 g c = (found g c).is

pub returns : goal.returns
returns g c =
    let words : ℕ → ℕ = g.W.Words.word_at c.args.words.now in
    let none : HasNoneBelow (64 * (c.args.from / 64 + 1)) (has_bit words) c.args.from = none_here words c.args.from _ (ap (λ (n : ℕ). n / 2 ^ (c.args.from % 64)) c.word.ensures) (omega (arith, c.word.ensures, c.word.type_inv)) c.if-rest-ne0.false in
    let later : c.args.from ≤ 64 * (c.args.from / 64 + 1) = omega arith in
    answer_after c.first_from.result (has_bit words) c.args.from (64 * (c.args.from / 64 + 1)) (64 * g.W.Words.words c.args.words.now) later none c.first_from.ensures.first
