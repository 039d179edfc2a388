use Rattle.std.proofs.Common.{◌≡◌, IsTrue, false, length, arith, refl, sym, ap, below_more, subst}
use Rattle.std.proofs.lemmas.List.{length-map}
use Rattle.evidence.specs.Cases.{Multiplier}
use Rattle.certificate.specs.Meanings.{multiplier, multipliers}
use Rattle.case_tree.specs.Cuts.{cut}
use Rattle.cert_checker.specs.Leaves.{IsPair, PairsBelow}
use Rattle.cert_checker.proofs.Lists.{mult_is}
use Rattle.cert_checker.proofs.Multipliers.{legal_from}
use Rattle.cert_checker.proofs.pairs.first_illegal.Goals as goal

pub returns-then-not-is_pair : goal.returns-then-not-is_pair
returns-then-not-is_pair c =
    let n = length-map c.args.mults.now multiplier in
    record {
      at = c.loop-k.k;
      inside = omega arith;
      below = c.loop-k.invariant;
      out = λ q. let t : IsTrue false = c.if-not-is_pair.ensures.1 q in cc;
      is = sym (ap (λ (m : Multiplier). m.column) (mult_is c.args.mults.now c.loop-k.k c.index-mults-k.result c.loop-k-test.true));
    }

pub loop-k-preserved : goal.loop-k-preserved
loop-k-preserved c = below_more (IsPair (cut c.args.program.now c.args.cuts.now) (multipliers c.args.mults.now)) c.loop-k.k c.loop-k.invariant (c.if-not-is_pair.ensures.0 refl)

pub returns : goal.returns
returns c =
    let e : c.loop-k.k ≡ length c.args.mults.now = (let a = c.loop-k.auto.k-end in let b = c.loop-k-test.false in omega arith) in
    legal_from (cut c.args.program.now c.args.cuts.now) c.args.mults.now (subst (PairsBelow (cut c.args.program.now c.args.cuts.now) (multipliers c.args.mults.now)) e c.loop-k.invariant)
