use Rattle.std.proofs.Common.{◌≡◌, ◌+◌, ◌≤◌, length, take, arith, sym, ◌∙◌, ap, subst}
use Rattle.std.specs.Prelude.{slice_index_or}
use Rattle.rational.specs.Ratio.{Ratio}
use Rattle.fraction.specs.declared.ends.Entry.{Entry}
use Rattle.evidence.specs.Instance.{entry_at}
use Rattle.evidence.proofs.Columns.{by_eq, by_lt}
use Rattle.instance.specs.Program.{entries}
use Rattle.dictionary.specs.Scratch.{found_at}
use Rattle.dictionary.proofs.FoundValues.{nonzeros_none}
use Rattle.dictionary.proofs.Nonzeros.{changed_one}
use Rattle.dictionary.proofs.ProgramRows.{begun_none, next_own, next_other, begins_next, nothing_later}
use Rattle.dictionary.proofs.loading.gather.Goals as goal

pub loop-e-init : goal.loop-e-init
loop-e-init c =
    let begun = c.requires.begun in
    record {
      low = omega arith;
      high = begun.within;
      count = c.clear.ensures.count;
      found = c.clear.ensures.found;
      said = λ j. c.clear.ensures.none j ∙ sym (begun_none c.args.matrix.now c.args.row c.args.start begun j);
      before = λ j d l. let h = begun.before j d l in omega arith;
      few = let z = nonzeros_none (length c.args.scratch.now.values.items) (found_at c.clear.new.self) (λ j. ap (λ (v : Ratio). v.num) (c.clear.ensures.none j)) in omega (arith, z);
    }

pub put-requires : goal.put-requires
put-requires c =
    let e = c.index-matrix-k.result in
    let q = c.requires.columns in
    let i = q.2 c.loop-e.k e (c.is_of.ensures.inside c.loop-e-test.true) in
    let col = i.col in
    let same = ap (λ (x : Entry). x.col) c.index-matrix-k.is in
    let n = c.loop-e.invariant.count in
    let l = q.3 in
    omega arith

pub loop-e-preserved : goal.loop-e-preserved
loop-e-preserved c =
    let es = c.args.matrix.now in
    let k = c.loop-e.k in
    let e = c.index-matrix-k.result in
    let i = c.loop-e.invariant in
    let l = c.is_of.ensures.inside c.loop-e-test.true in
    let same : e.row ≡ c.args.row = ap (λ (x : Entry). x.row) c.index-matrix-k.is ∙ c.is_of.ensures.yes c.loop-e-test.true e in
    record {
      low = let h = i.low in omega arith;
      high = omega arith;
      count = c.put.ensures.count ∙ i.count;
      found = c.put.ensures.found i.found;
      said = λ j. by_eq j e.col
          (λ q. ap (found_at c.put.new.self) q ∙ c.put.ensures.own ∙ sym (next_own es c.requires.ascending k e l c.index-matrix-k.is) ∙ ap (λ r. entry_at (entries (take (k + 1) es)) r e.col) same ∙ ap (λ m. entry_at (entries (take (k + 1) es)) c.args.row m) (sym q))
          (λ d. c.put.ensures.others j d ∙ i.said j ∙ sym (next_other es c.requires.ascending k e l c.index-matrix-k.is c.args.row j (λ a b. d (sym b))));
      before = λ j d h. by_lt j k (λ b. i.before j d b) (λ b. let x : j ≡ k = omega arith in let y = c.is_of.ensures.yes c.loop-e-test.true d in subst (λ m. (slice_index_or es m d).row ≤ c.args.row) (sym x) (omega arith));
      few =
          let one = changed_one (length c.args.scratch.now.values.items) e.col (found_at c.loop-e.scratch) (found_at c.put.new.self) (λ j d. sym (c.put.ensures.others j d)) in
          let f = i.few in
          omega arith;
    }

pub returns-clause-ended : goal.returns-clause-ended
returns-clause-ended c =
    let i = c.loop-e.invariant in
    begins_next c.args.matrix.now c.requires.ascending c.args.row c.args.start c.loop-e.k c.requires.begun i.low i.high i.before (λ d l h. c.is_of.ensures.no c.loop-e-test.false d l h)

pub returns-clause-is : goal.returns-clause-is
returns-clause-is c j =
    let i = c.loop-e.invariant in
    i.said j ∙ sym (nothing_later c.args.matrix.now c.requires.ascending c.args.row c.args.start c.loop-e.k c.requires.begun i.low i.high i.before (λ d l h. c.is_of.ensures.no c.loop-e-test.false d l h) j)
