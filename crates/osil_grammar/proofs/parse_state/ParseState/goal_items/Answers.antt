use Rattle.osil_grammar.proofs.Words.{◌≡◌, ◌∙◌, ◌+◌, ◌*◌, ℕ, List, [], ◌∷◌, length, arith, ap, ap₂, sym, All, All-head, All-tail, Goal, State, goals_held}
use Rattle.osil_grammar.proofs.parse_state.ParseState.goal_items.Goals as goal

held_each : (n : ℕ) (gs : List Goal) → All (λ g. length g.costs ≡ n) gs → goals_held gs ≡ length gs * (n + 1)
held_each n [] each = omega arith
held_each n (g ∷ gs) each =
    let first = All-head (λ (x : Goal). length x.costs ≡ n) g gs each in
    let rest = held_each n gs (All-tail (λ (x : Goal). length x.costs ≡ n) g gs each) in
    omega (arith, first, rest)

-- of what the code holds, which is that state
held_now : (s now : State) → s ≡ now → (m n : ℕ) → m ≡ length s.goals → n ≡ length s.vars → All (λ g. length g.costs ≡ length now.vars) now.goals → m * (n + 1) ≡ goals_held now.goals
held_now s now same m n goals vars each =
    ap₂ (λ (a b : ℕ). a * (b + 1)) (goals ∙ ap (λ (z : State). length z.goals) same) (vars ∙ ap (λ (z : State). length z.vars) same) ∙ sym (held_each (length now.vars) now.goals each)

pub overflow_mul-result : goal.overflow_mul-result
overflow_mul-result c =
    let goals : c.len.result ≡ length c.self.inside.goals.items = omega (arith, c.self.inside.goals.ok.0) in
    let vars : c.len-2.result ≡ length c.self.inside.vars.items = omega (arith, c.self.inside.vars.ok.0) in
    let is = held_now _ c.args.self.now c.self.view_is _ _ goals vars c.requires.each in
    let few = c.requires.few in omega (arith, is, few)

pub returns : goal.returns
returns c =
    let goals : c.len.result ≡ length c.self.inside.goals.items = omega (arith, c.self.inside.goals.ok.0) in
    let vars : c.len-2.result ≡ length c.self.inside.vars.items = omega (arith, c.self.inside.vars.ok.0) in
    held_now _ c.args.self.now c.self.view_is _ _ goals vars c.requires.each
