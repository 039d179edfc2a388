use Rattle.std.proofs.Common.{◌≡◌, ℕ, ◌^◌, ◌≤◌, None, List, arith, refl, sym, ◌∙◌, ap, subst}
use Rattle.std.proofs.lemmas.List.{length-map}
use Rattle.evidence.specs.Instance.{Goal, Problem, alone}
use Rattle.instance.specs.Program.{program, problem, variable, row}
use Rattle.instance.proofs.Numbers.{program-instance}
use Rattle.simplex_rules.specs.Ends.{Terms, Clock}
use Rattle.simplex_rules.specs.Looks.{answers, stop_after, looks_after}
use Rattle.simplex_rules.proofs.Looks.{agrees}
use Rattle.search_rules.specs.Search.{IsSearchAnswer}
use Rattle.no_cycles.proofs.OneCaseSearches.{within_turns}
use Rattle.branch_bound.specs.Claims.{is_killed}
use Rattle.branch_bound.proofs.PointSteps.{later_none}
use Rattle.branch_bound.proofs.ClaimsAtEnd.{no_turn_limit, told_plainly}
use Rattle.branch_bound.proofs.searching.search.Goals as goal

pub search_on-requires-clause-first : goal.search_on-requires-clause-first
search_on-requires-clause-first g c = (None, refl)

pub returns-clause-answer : goal.returns-clause-answer
returns-clause-answer g c =
    let a = c.args in
    let (k, killed, o, b, told, stopped, came, answer) = c.search_on.ensures in
    let (tells, same, plain) = told_plainly (problem a.instance.now) (λ stop. record { nodes = a.nodes; turns = a.turns; rounds = a.rounds; stop = stop }) c.search_on.result.claim c.search_on.result.turns k killed o b c.searches_of_which_nothing_is_asked_are_searches.ensures.on told stopped answer in
    (k, o, tells, subst (λ q. g.W.Watch.came a.watch.now c.search_on.new.watch (answers k q)) same came, plain)

pub returns-clause-enough : goal.returns-clause-enough
returns-clause-enough g c = λ one plain ranges feasible enough n e.
    let p = c.args.instance.now in
    let (k, killed, o, b, told, stopped, came, answer) = c.search_on.ensures in
    let (tells, same, found) = told_plainly (problem p) (λ stop. record { nodes = c.args.nodes; turns = c.args.turns; rounds = c.args.rounds; stop = stop }) c.search_on.result.claim c.search_on.result.turns k killed o b c.searches_of_which_nothing_is_asked_are_searches.ensures.on told stopped answer in
    let alone_is : problem p ≡ alone (program p) = ap (λ (gs : List Goal). let P : Problem = record { program = program p; later = gs } in P) (later_none p.goals one) in
    let stop = stop_after k (is_killed o) in
    let t : Terms = record { nodes = c.args.nodes; turns = c.args.turns; rounds = c.args.rounds; stop = stop } in
    let d : Clock = record { turns = c.search_on.result.turns; looks = looks_after 0 k (is_killed o) } in
    no_turn_limit o n
    (within_turns (program p) t plain ranges (program-instance p) feasible
    (subst (λ (k : ℕ). 4 ^ k ≤ c.args.turns) (let v = length-map p.vars variable in let r = length-map p.rows row in omega arith) enough)
    o d (subst (λ (P : Problem). IsSearchAnswer P t o d) alone_is (found stop (agrees k (is_killed o)))))
    (sym tells.cause ∙ e)
