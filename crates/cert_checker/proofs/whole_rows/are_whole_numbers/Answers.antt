use Rattle.std.proofs.Common.{◌≡◌, IsTrue, false, below_more, arith, refl, sym, ◌∙◌, subst}
use Rattle.std.proofs.lemmas.List.{get_or_default}
use Rattle.rational.specs.Ratio.{Ratio}
use Rattle.fraction.specs.Frac.{ratio, ratios}
use Rattle.evidence.specs.Point.{value_at}
use Rattle.case_tree.specs.declared.cuts.Cut.{Cut}
use Rattle.case_tree.specs.Cuts.{cut_at, no_cut}
use Rattle.cert_checker.specs.Columns.{MayStand}
use Rattle.cert_checker.proofs.whole_rows.are_whole_numbers.Goals as goal

pub loop-j-preserved : goal.loop-j-preserved
loop-j-preserved c =
    let cs = c.args.cuts.now in
    let j = c.loop-j.j in
    let e : c.index-cuts-j.result ≡ cut_at cs j = c.index-cuts-j.is ∙ sym (get_or_default cs j no_cut c.index-cuts-j.result c.loop-j-test.true) in
    below_more (λ i. MayStand (cut_at cs i) (value_at (ratios c.args.numbers.now) i)) j c.loop-j.invariant
    (subst (λ (x : Ratio). MayStand (cut_at cs j) x) c.number_at.ensures (subst (λ (d : Cut). MayStand d (ratio c.number_at.result)) e (c.if-not-may_round.ensures.0 refl)))

pub returns-then-not-may_round : goal.returns-then-not-may_round
returns-then-not-may_round c = (
  λ t. absurd (cc),
  λ all.
      let cs = c.args.cuts.now in
      let j = c.loop-j.j in
      let e : c.index-cuts-j.result ≡ cut_at cs j = c.index-cuts-j.is ∙ sym (get_or_default cs j no_cut c.index-cuts-j.result c.loop-j-test.true) in
      let m = all j c.loop-j-test.true in
      let t : IsTrue false = c.if-not-may_round.ensures.1 (subst (λ (d : Cut). MayStand d (ratio c.number_at.result)) (sym e) (subst (λ (x : Ratio). MayStand (cut_at cs j) x) (sym c.number_at.ensures) m)) in
      cc,
)

pub returns : goal.returns
returns c = (λ t j h. c.loop-j.invariant j (omega arith), λ all. refl)
