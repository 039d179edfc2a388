use Rattle.std.proofs.Common.{◌≡◌, ◌<◌, IsTrue, false, length, slice_index_or, arith, refl, sym, subst}
use Rattle.std.proofs.lemmas.List.{get_or_read_under}
use Rattle.fraction.specs.Frac.{ratio}
use Rattle.fraction.specs.declared.ends.Entry.{Entry}
use Rattle.evidence.proofs.Columns.{by_lt}
use Rattle.case_tree.specs.declared.cuts.Cut.{Cut}
use Rattle.case_tree.specs.Cuts.{cut_at, no_cut}
use Rattle.cert_checker.specs.Columns.{MayStand}
use Rattle.cert_checker.proofs.WholeRows.{each_may, one_may}
use Rattle.cert_checker.proofs.whole_rows.are_whole_entries.Goals as goal

pub loop-k-preserved : goal.loop-k-preserved
loop-k-preserved c = λ s d h.
    let cs = c.args.cuts.now in
    let row = c.args.row.now in
    let k = c.loop-k.k in
    let x = c.index-row-k.result in
    let er : slice_index_or row k d ≡ x = sym (get_or_read_under row k (length row) x d c.index-row-k.is c.loop-k-test.true refl) in
    let inside : x.col < length cs = subst (λ (y : Entry). y.col < length cs) er (c.requires.inside k d c.loop-k-test.true) in
    let ec : c.index-cuts-j.result ≡ cut_at cs x.col = get_or_read_under cs x.col (length cs) c.index-cuts-j.result no_cut c.index-cuts-j.is inside refl in
    let here : MayStand (cut_at cs x.col) (ratio x.value) = subst (λ (y : Cut). MayStand y (ratio x.value)) ec (c.if-not-may_round.ensures.0 refl) in
    by_lt s k (λ l. c.loop-k.invariant s d l)
    (λ l. let e : k ≡ s = omega arith in subst (λ i. MayStand (cut_at cs (slice_index_or row i d).col) (ratio (slice_index_or row i d).value)) e (subst (λ (y : Entry). MayStand (cut_at cs y.col) (ratio y.value)) (sym er) here))

pub returns-then-not-may_round : goal.returns-then-not-may_round
returns-then-not-may_round c = (
  λ t. absurd (cc),
  λ all.
      let cs = c.args.cuts.now in
      let row = c.args.row.now in
      let k = c.loop-k.k in
      let x = c.index-row-k.result in
      let er : slice_index_or row k x ≡ x = sym c.index-row-k.is in
      let inside : x.col < length cs = subst (λ (y : Entry). y.col < length cs) er (c.requires.inside k x c.loop-k-test.true) in
      let ec : c.index-cuts-j.result ≡ cut_at cs x.col = get_or_read_under cs x.col (length cs) c.index-cuts-j.result no_cut c.index-cuts-j.is inside refl in
      let m : MayStand (cut_at cs x.col) (ratio x.value) = subst (λ (y : Entry). MayStand (cut_at cs y.col) (ratio y.value)) er (one_may row c.args.i x cs c.requires.ascending c.requires.row c.requires.inside all k c.loop-k-test.true) in
      let t : IsTrue false = c.if-not-may_round.ensures.1 (subst (λ (y : Cut). MayStand y (ratio x.value)) (sym ec) m) in
      cc,
)

pub returns : goal.returns
returns c = (
  λ t j h. each_may c.args.row.now c.args.i c.args.cuts.now c.requires.ascending c.requires.row c.requires.inside (λ s d l. c.loop-k.invariant s d (omega arith)) j,
  λ all. refl,
)
