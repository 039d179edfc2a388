-- Turns of a run, and that no basis comes twice.
use Rattle.std.proofs.Common.{◌≡◌, ℕ, zero, suc, ◌+◌, ◌-◌, ◌<◌, ◌≤◌, inl, inr, Bool, List, refl, sym, ◌∙◌, ap, subst, arith}
use Rattle.std.proofs.lemmas.List.{ext_get_or}
use Rattle.evidence.specs.Instance.{Instance, IsInstance}
use Rattle.evidence.proofs.Columns.{by_eq}
use Rattle.bases.specs.Program.{goal_column}
use Rattle.simplex_rules.specs.declared.columns.Status.{Status}
use Rattle.simplex_rules.specs.declared.columns.Status.TheVariants.{Basic}
use Rattle.simplex_rules.specs.declared.columns.Way.{Way}
use Rattle.simplex_rules.specs.declared.columns.Way.TheVariants.{Rise, Fall}
use Rattle.simplex_rules.specs.Statuses.{HasDictionary, IsPlaced}
use Rattle.simplex_rules.specs.Turns.{IsFirstHelp}
use Rattle.simplex_rules.specs.Ends.{Terms, Clock}
use Rattle.simplex_rules.specs.Runs.{Moment, To, PassesTurn, BeginsTurn, MovesColumn, Improves, IsNext, ComesInRun, goes_on, HasNoClash}
use Rattle.simplex_rules.proofs.Moments.{comes_placed}
use Rattle.no_cycles.specs.Phase.{IsImprovingTurn, AreTurns, HaveSamePlaces}
use Rattle.no_cycles.proofs.Choices.{chosen}
use Rattle.no_cycles.proofs.Cycle.{Taken, IsTaken, no_cycle}

passes_to : (t : Terms) (c : Clock) (ss : List Status) (n : Moment) → PassesTurn t c ss (To n) → n.statuses ≡ ss
passes_to t c ss n (inl (a, e)) = cc
passes_to t c ss n (inr (inl (a, b, e))) = absurd (cc)
passes_to t c ss n (inr (inr (a, b, e))) = cc

pub begins_to : (t : Terms) (c : Clock) (F : Type 0) (ss : List Status) (n : Moment) → BeginsTurn t c F ss (To n) → n.statuses ≡ ss
begins_to t c F ss n (inl (a, e)) = absurd (cc)
begins_to t c F ss n (inr (inl (a, b, e))) = absurd (cc)
begins_to t c F ss n (inr (inr (a, b, e))) = passes_to t _ ss n e

pub is_next : {I : Instance} {zeroed : Bool} {t : Terms} {m n : Moment} → IsImprovingTurn I zeroed t m n → IsNext I zeroed t m (To n)
is_next x = (x.entries, x.dictionary, inr (x.columns, x.fit, x.values, inr (x.none_out, x.improves)))

abbrev pub IsTakenAt : Instance → Bool → List Status → Taken → List Status → Type 0
IsTakenAt I zeroed ss x ts = HasDictionary I zeroed ss x.u × IsTaken I ss x ts

pub taken : (I : Instance) (zeroed : Bool) (t : Terms) (m n : Moment) → IsImprovingTurn I zeroed t m n → (x : Taken) × IsTakenAt I zeroed m.statuses x n.statuses
taken I zeroed t m n x = by x.improves
  where
    moves : (e : ℕ) (way : Way) → IsFirstHelp I m.statuses x.entries x.columns (goal_column I) Fall e way → MovesColumn I zeroed t m x.entries x.columns e way (To n) → (y : Taken) × IsTakenAt I zeroed m.statuses y n.statuses
    moves e way help (inl (a, f)) = absurd (cc)
    moves e way help (inr (inl (v, d, f, g, p, q, h))) = absurd (cc)
    moves e way help (inr (inr (inl (f, l, g)))) = (
      record { u = x.entries; w = x.columns; entering = e; way = way; first = e },
      (x.dictionary, record { values = x.values; none_out = x.none_out; help = help; limit = l; goes = inl (refl, begins_to t m.clock _ _ n g) }),
    )
    moves e way help (inr (inr (inr (b, f, l, d, g)))) = (
      record { u = x.entries; w = x.columns; entering = e; way = way; first = b },
      (x.dictionary, record { values = x.values; none_out = x.none_out; help = help; limit = l; goes = inr (d, begins_to t m.clock _ _ n g) }),
    )

    by : Improves I zeroed t m x.entries x.columns (To n) → (y : Taken) × IsTakenAt I zeroed m.statuses y n.statuses
    by (inl (off, z, f, e)) = absurd (cc)
    by (inr (inl (b, v, off, f, p, q, e))) = absurd (cc)
    by (inr (inr (e, way, help, f))) = moves e way help f

pub all_come : (I : Instance) (zeroed : Bool) (t : Terms) (c : Clock) (at : ℕ → Moment) (k : ℕ) → ComesInRun I zeroed t c (at 0) → AreTurns I zeroed t at k → (i : ℕ) → i ≤ k → ComesInRun I zeroed t c (at i)
all_come I zeroed t c at k first turns zero h = first
all_come I zeroed t c at k first turns (suc i) h = goes_on (all_come I zeroed t c at k first turns i (omega arith)) (is_next (turns i (omega arith)))

-- the same places make the same list
pub one_list : (I : Instance) (ss ts : List Status) → IsPlaced I ss → IsPlaced I ts → HaveSamePlaces I ss ts → ss ≡ ts
one_list I ss ts p q same = ext_get_or Basic ss ts (p.count ∙ sym q.count) (λ c h. let n = p.count in same c (omega arith))

-- turns that come back to where they began
comes_back : (I : Instance) (zeroed : Bool) (s : ℕ → List Status) (k : ℕ) → IsInstance I → HasNoClash I → 0 < k → ((i : ℕ) → i ≤ k → IsPlaced I (s i)) → ((i : ℕ) → i < k → (x : Taken) × IsTakenAt I zeroed (s i) x (s (suc i))) → s 0 ≡ s k → ⊥
comes_back I zeroed s k good room some placed turn closed =
    let none : Taken = record { u = (turn 0 some).0.u; w = (turn 0 some).0.w; entering = 0; way = Rise; first = 0 } in
    let P : ℕ → Taken → Type 0 = λ i x. HasDictionary I zeroed (s i) x.u × (i < k → IsTaken I (s i) x (s (suc i))) in
    let (x, all) = chosen P none (suc k)
    (λ i h. by_eq i k
    (λ e.
    let a = turn 0 some in
    let b = a.1 in
    (a.0, (subst (λ ss. HasDictionary I zeroed ss a.0.u) (closed ∙ ap s (sym e)) b.0, λ l. absurd (omega arith))))
    (λ d.
    let a = turn i (omega arith) in
    let b = a.1 in
    (a.0, (b.0, λ l. b.1)))) in
    no_cycle I good zeroed room k s x (λ i h. let a = all i (omega arith) in a.0) placed (λ i h. let a = all i (omega arith) in a.1 h) closed some

pub once : (I : Instance) (zeroed : Bool) (t : Terms) (c : Clock) (at : ℕ → Moment) (k : ℕ) → IsInstance I → HasNoClash I → ComesInRun I zeroed t c (at 0) → AreTurns I zeroed t at k → (i j : ℕ) → i < j → j ≤ k → HaveSamePlaces I (at i).statuses (at j).statuses → ⊥
once I zeroed t c at k good room first turns i j h l same =
    let placed : (a : ℕ) → a ≤ k → IsPlaced I (at a).statuses = λ a g. comes_placed (all_come I zeroed t c at k first turns a g) in
    let z : i + 0 ≡ i = omega arith in
    let y : i + (j - i) ≡ j = omega arith in
    let closed : (at i).statuses ≡ (at j).statuses = one_list I (at i).statuses (at j).statuses (placed i (omega arith)) (placed j l) same in
    comes_back I zeroed (λ a. (at (i + a)).statuses) (j - i) good room (omega arith)
    (λ a g. placed (i + a) (omega arith))
    (λ a g.
    let e : suc (i + a) ≡ i + suc a = omega arith in
    subst (λ b. (x : Taken) × IsTakenAt I zeroed (at (i + a)).statuses x (at b).statuses) e (taken I zeroed t (at (i + a)) (at (suc (i + a))) (turns (i + a) (omega arith))))
    (ap (λ a. (at a).statuses) z ∙ closed ∙ ap (λ a. (at a).statuses) (sym y))
