use Rattle.std.proofs.Common.{rules, ◌≡◌, inl, inr, ℕ, ◌+◌, ◌<◌, ◌≤◌, Bool, true, false, Option, Some, [], ◌∷◌, length, sym, ◌∙◌, ap, ap₂, subst, arith}
use Rattle.certificate.specs.declared.causes.Step.TheVariants.{Values}
use Rattle.certificate.specs.declared.causes.Cause.TheVariants.{Killed, NodeLimit, Wide}
use Rattle.simplex_rules.specs.Ends.{Clock}
use Rattle.simplex_rules.specs.Runs.{looked_once}
use Rattle.search_rules.specs.Search.{Found, Out, early}
use Rattle.branch_bound.specs.Cases.{terms, clock_at, outcome_of}
use Rattle.branch_bound.proofs.NextGoal.{limit_ends, look_ends, not_stopped}
use Rattle.branch_bound.proofs.asking.end_is_wide.Goals as goal

pub returns-then-level-len : goal.returns-then-level-len
returns-then-level-len g c = record {
  is = (NodeLimit c.args.limits.nodes, c.give_up.ensures.is);
  rest = c.give_up.ensures.rest;
  next = (
    0,
    false,
    c.give_up.ensures.killed,
    g.met.W.Watch.stays c.args.watch.now,
    λ P m looks stop cs clock is_best count tells.
        let low : c.args.limits.nodes ≤ c.args.level.now.before + length c.args.walk.now.nodes = search rules in
        let same : looks ≡ looks + 0 = omega arith in
        inl (limit_ends P (terms c.args.limits stop) m (clock_at c.args.relaxation.now (looks + 0)) (outcome_of cs c.give_up.result) (clock ∙ ap (clock_at c.args.relaxation.now) same) (omega arith) (c.give_up.ensures.told cs ∙ ap (λ (b : Option Found). early b (NodeLimit c.args.limits.nodes)) (sym is_best))),
  );
}

pub returns-then-look : goal.returns-then-look
returns-then-look g c = record {
  is = (Killed, c.give_up-then-look.ensures.is);
  rest = c.give_up-then-look.ensures.rest;
  next = (
    0,
    true,
    c.give_up-then-look.ensures.killed,
    subst (λ (b : Bool). g.W.Watch.came c.args.watch.now c.look.new.self (b ∷ [])) c.if-look.true c.look.ensures.came,
    λ P m looks stop cs clock is_best count tells.
        let low : c.args.level.now.before + length c.args.walk.now.nodes < c.args.limits.nodes = search rules in
        let same : looks + 1 ≡ looks + 0 + 1 = omega arith in
        let at' = ap (λ (k : Clock). k.looks) clock in
        let here : looks + 0 + 1 ≡ m.clock.looks + 1 = omega arith in
        inl (look_ends P (terms c.args.limits stop) m (clock_at c.args.relaxation.now (looks + 0 + 1)) (outcome_of cs c.give_up-then-look.result) (ap looked_once clock ∙ ap (clock_at c.args.relaxation.now) same) (omega arith) (tells ∙ ap Some here) (c.give_up-then-look.ensures.told cs ∙ ap (λ (b : Option Found). early b Killed) (sym is_best))),
  );
}

pub returns : goal.returns
returns g c = record {
  is = (Wide (record { node = 1; turn = c.args.relaxation.now.turns.done; step = Values }), c.give_up-2.ensures.is);
  rest = c.give_up-2.ensures.rest;
  next = (
    1,
    false,
    c.give_up-2.ensures.killed,
    subst (λ (b : Bool). g.W.Watch.came c.args.watch.now c.look.new.self (b ∷ [])) c.if-look.false c.look.ensures.came,
    λ P m looks stop cs clock is_best count tells.
        let low : c.args.level.now.before + length c.args.walk.now.nodes < c.args.limits.nodes = search rules in
        inr (
          record { within = omega arith; goes_on = λ e. not_stopped stop looks tells (e ∙ ap (λ (k : Clock). Some (k.looks + 1)) clock) },
          ap₂ Out
              (c.give_up-2.ensures.told cs ∙ ap₂ (λ (b : Option Found) (n : ℕ). early b (Wide (record { node = 1; turn = n; step = Values }))) (sym is_best) (sym (ap (λ (k : Clock). k.turns) clock)))
              (sym (ap looked_once clock)),
        ),
  );
}
