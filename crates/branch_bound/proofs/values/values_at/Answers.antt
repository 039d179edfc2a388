use Rattle.std.proofs.Common.{rules, ◌≡◌, ℕ, ◌+◌, ◌<◌, ◌++◌, ◌∷◌, [], IsTrue, false, length, refl, ◌∙◌, ap, arith, below_more}
use Rattle.std.proofs.lemmas.List.{length-map, length_push}
use Rattle.rational.specs.Ratio.{Ratio}
use Rattle.fraction.specs.Frac.{ratio, ratios}
use Rattle.evidence.specs.Instance.{goals, asking}
use Rattle.evidence.specs.Width.{GoalFits}
use Rattle.instance.specs.Program.{problem}
use Rattle.instance.proofs.Search.{point-numbers}
use Rattle.cert_checker.proofs.Values.{goals_count}
use Rattle.search_rules.specs.Search.{IsValue}
use Rattle.branch_bound.proofs.Multiples.{ratios_more}
use Rattle.branch_bound.proofs.values.values_at.Goals as goal

pub returns-then-not-rows_fit : goal.returns-then-not-rows_fit
returns-then-not-rows_fit c = λ fits. (let no : IsTrue false = c.if-not-rows_fit.ensures.1 fits.rows in cc)

pub loop-k-preserved : goal.loop-k-preserved
loop-k-preserved c =
    let P = problem c.args.instance.now in
    let x = ratios c.args.point.now in
    let k = c.loop-k.k in
    let v = c.in-Ok.value in
    let e : c.push.new.self ≡ c.loop-k.values ++ v ∷ [] = search rules in
    record {
      fit = below_more (λ i. GoalFits (asking P i) x) k c.loop-k.invariant.fit c.in-Ok.ensures.fits;
      count = ap length e ∙ length_push c.loop-k.values v ∙ ap (λ n. n + 1) c.loop-k.invariant.count;
      are = rw e (ratios_more (λ (i : ℕ) (y : Ratio). IsValue (asking P i) x y) c.loop-k.values k v c.loop-k.invariant.count c.loop-k.invariant.are
          (record { numbers = point-numbers c.args.point.now; reduced = (v.above, v.reduced); same = c.in-Ok.ensures.ok }));
    }

pub returns-in-Err : goal.returns-in-Err
returns-in-Err c =
    let p = c.args.instance.now in
    let v = ap length c.goals-k-end.ensures.value in
    let n = goals_count p c.goals-k-end.ensures.valid in
    let low : c.loop-k.k < length (goals (problem p)) = omega arith in
    λ fits. c.in-Err.ensures.wide (fits.goals c.loop-k.k low)

pub returns : goal.returns
returns c =
    let p = c.args.instance.now in
    let v = ap length c.goals-k-end.ensures.value in
    let n = goals_count p c.goals-k-end.ensures.valid in
    let rows = c.if-not-rows_fit.ensures.0 refl in (
      record { rows = rows; goals = λ k h. c.loop-k.invariant.fit k (omega arith) },
      record {
        count = length-map c.loop-k.values ratio ∙ c.loop-k.invariant.count ∙ (omega arith);
        values = λ k h. c.loop-k.invariant.are k (omega arith);
      },
    )
