use Rattle.osil_grammar.proofs.Words.{◌≡◌, ℕ, ◌-◌, ◌+◌, suc, arith, subst, ratio, ratios, ratio_run, AreSame}
use Rattle.osil_grammar.proofs.RatioRuns.{HasRun, run_more, run_wide}
use Rattle.osil_grammar.proofs.run_numbers.push_decimals.Goals as goal

pub loop-place-preserved : goal.loop-place-preserved
loop-place-preserved c =
    let some = c.loop-place.auto._place in
    let on : suc (c.loop-place._place - 1) ≡ c.loop-place._place + 1 - 1 = omega arith in
    subst (λ (k : ℕ). HasRun c.args.list.now.items c.push-in-loop-place.new.self.items c.args.first c.args.step c.in-Ok.sum k) on
    (run_more c.args.list.now.items c.loop-place.list.items c.push-in-loop-place.new.self.items c.args.first c.args.step c.loop-place.next c.in-Ok.sum (c.loop-place._place - 1) c.loop-place.invariant c.in-Ok.ensures.ok c.in-Ok.ensures.fits c.in_ok-push-2.ensures.items)

pub returns-in-Err : goal.returns-in-Err
returns-in-Err c =
    let some = c.loop-place.auto._place in let inside = c.loop-place-test.true in
    (c.loop-place._place - 1, omega arith, run_wide c.args.list.now.items c.loop-place.list.items c.args.first c.args.step c.loop-place.next (c.loop-place._place - 1) c.loop-place.invariant c.in-Err.ensures.wide)

pub returns : goal.returns
returns c =
    let some = c.loop-place.auto._place in let past = c.loop-place-test.false in
    let below = c.loop-place.auto._place-end (omega (arith, c.requires)) in
    let all : suc (c.loop-place._place - 1) ≡ c.args.times = omega arith in
    let run = c.loop-place.invariant in
    (run.added, (subst (λ (k : ℕ). AreSame (ratios run.added) (ratio_run (ratio c.args.first) (ratio c.args.step) k)) all run.same, λ k h. run.fits k (omega arith)), run.behind)
