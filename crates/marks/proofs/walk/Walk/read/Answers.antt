use Rattle.std.proofs.Common.{ℕ, ◌*◌, ◌+◌, ◌/◌, ◌%◌, arith, sym, subst}
use Rattle.marks.specs.Words.{has_bit}
use Rattle.marks.specs.Walks.{IsWordKept}
use Rattle.marks.proofs.Bits.{after, none_after}
use Rattle.marks.proofs.Walks.{kept_empty, kept_word, without}
use Rattle.marks.proofs.walk.Walk.read.Goals as goal

pub word-requires : goal.word-requires
word-requires g c = let i = c.in-Some.ensures.inside in omega arith

pub returns-in-None-clause-first : goal.returns-in-None-clause-first
returns-in-None-clause-first g c from kept =
    let w = c.args.self.now in
    let whole = w.whole in
    let test = has_bit (g.W.Words.word_at c.args.words.now) in
    none_after test from w.stop (64 * g.W.Words.words c.args.words.now) (kept_empty test from w.word w.stop c.requires.none kept) (λ k a b. c.in-None.ensures.first k (omega arith) b)

pub returns-in-Some-clause-first : goal.returns-in-Some-clause-first
returns-in-Some-clause-first g c from kept =
    let w = c.args.self.now in
    let whole = w.whole in
    let near = kept.near in
    let test = has_bit (g.W.Words.word_at c.args.words.now) in
    after test from (64 * (w.stop / 64)) c.in-Some.c (omega arith) (λ k a b. kept_empty test from w.word w.stop c.requires.none kept k a (omega arith)) c.in-Some.ensures.first

pub returns-in-Some-clause-kept : goal.returns-in-Some-clause-kept
returns-in-Some-clause-kept g c from kept =
    let w = c.args.self.now in
    let words : ℕ → ℕ = g.W.Words.word_at c.args.words.now in
    let k : ℕ = c.in-Some.c in
    subst (λ n. IsWordKept (has_bit words) (k + 1) (without n (k % 64)) (64 * (k / 64 + 1))) (sym c.word.ensures) (kept_word words (64 * (w.stop / 64)) k (omega arith) c.in-Some.ensures.first)
