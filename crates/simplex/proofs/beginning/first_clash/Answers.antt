use Rattle.std.proofs.Common.{◌<◌, length, below_more, subst, sym, ◌∙◌, arith}
use Rattle.evidence.specs.Cases.{IsEmpty}
use Rattle.simplex.specs.Cuts.{ranges_in}
use Rattle.simplex.proofs.ColumnEnds.{read_range}
use Rattle.simplex.proofs.beginning.first_clash.Goals as goal

pub returns-then-is_empty : goal.returns-then-is_empty
returns-then-is_empty c = λ I e.
    let h : c.loop-c.c < length c.args.ends.now = let t = c.loop-c-test.true in let g = c.requires in omega arith in
    let r = e.is c.loop-c.c ∙ read_range c.args.ends.now c.loop-c.c c.index-ends-c.result c.index-ends-c.is h in
    record {
      inside = let n = e.count in omega arith;
      empty = subst IsEmpty (sym r) (c.is_empty.ensures.0 c.if-is_empty.true);
      before = λ k l p. c.loop-c.invariant k l (subst IsEmpty (e.is k) p);
    }

pub loop-c-preserved : goal.loop-c-preserved
loop-c-preserved c =
    let h : c.loop-c.c < length c.args.ends.now = let t = c.loop-c-test.true in let g = c.requires in omega arith in
    let r = read_range c.args.ends.now c.loop-c.c c.index-ends-c.result c.index-ends-c.is h in
    below_more (λ k. IsEmpty (ranges_in c.args.ends.now k) → ⊥) c.loop-c.c c.loop-c.invariant
    (λ p. let t = c.is_empty.ensures.1 (subst IsEmpty r p) in let f = c.if-is_empty.false in absurd (cc))

pub returns : goal.returns
returns c = λ I e k h p. c.loop-c.invariant k (let n = e.count in let g = c.requires in let f = c.loop-c-test.false in omega arith) (subst IsEmpty (e.is k) p)
