use Rattle.osil_grammar.proofs.Words.{◌≡◌, ◌∙◌, ◌≤◌, ℕ, List, [], ◌∷◌, length, arith, lit≤, ap, sym, subst, false≢true, length-replicate, All, All-cons, All-nil, Goal, IsValid, Parts, nought, State, AreGoals, HasGoals, IsSound, goals_said, instance_of}
use Rattle.osil_grammar.proofs.parse_state.ParseState.instance.Goals as goal

goals_valid : (n : ℕ) (gs : List Goal) → AreGoals n gs → (1 ≤ length (goals_said gs n)) × (length (goals_said gs n) ≤ 8) × All (λ g. length g.costs ≡ n) (goals_said gs n)
goals_valid n [] h = (lit≤ tt, lit≤ tt, All-cons (λ (g : Goal). length g.costs ≡ n) _ [] (length-replicate n nought) (All-nil (λ (g : Goal). length g.costs ≡ n)))
goals_valid n (g ∷ gs) h = (omega arith, h.few, h.one_each)

-- what a sound state says is an instance
valid : (s : State) → IsSound s → HasGoals s → IsValid (instance_of s)
valid s sound goals = let said = goals_valid (length s.vars) s.goals goals.0 in record {
  few_vars = sound.0.0.few_vars;
  few_rows = sound.0.0.few_rows;
  few_entries = sound.0.5.few;
  some_goal = said.0;
  few_goals = said.1;
  costs = said.2;
  var_ends = sound.0.0.var_ends;
  row_ends = sound.0.0.row_ends;
  ascending = sound.0.5.ascending;
  inside = sound.0.5.inside;
}

-- the parts that the code holds are those of this instance
made : (s now : State) → s ≡ now → (w : ℕ) (gs : List Goal) → gs ≡ goals_said s.goals w → w ≡ length s.vars → let p : Parts = record { vars = s.vars; rows = s.rows; entries = s.entries; goals = gs } in p ≡ instance_of now
made s now same w gs is width = ap (λ (l : List Goal). let p : Parts = record { vars = s.vars; rows = s.rows; entries = s.entries; goals = l } in p) (is ∙ ap (λ (n : ℕ). goals_said s.goals n) width) ∙ ap instance_of same

pub unreachable-requires : goal.unreachable-requires
unreachable-requires c =
    let width : c.len.result ≡ length c.self.inside.vars.items = omega (arith, c.self.inside.vars.ok.0) in
    let parts = made _ c.args.self c.self.view_is c.len.result c.in_ok-goals.goals.items c.in_ok-goals.ensures width in
    false≢true (c.in-None.ensures.valid.1 (subst IsValid (sym parts) (valid c.args.self c.requires.sound c.requires.goals)))

pub returns : goal.returns
returns c =
    let width : c.len.result ≡ length c.self.inside.vars.items = omega (arith, c.self.inside.vars.ok.0) in
    c.in-Some.ensures.parts ∙ made _ c.args.self c.self.view_is c.len.result c.in_ok-goals.goals.items c.in_ok-goals.ensures width
