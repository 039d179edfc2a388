use Rattle.std.proofs.Common.{◌≡◌, ℕ, ◌+◌, Bool, Some, List, refl, sym, ◌∙◌, ap, subst, arith}
use Rattle.std.specs.Vec.{with_items}
use Rattle.std.proofs.lemmas.List.{with_items_is}
use Rattle.fraction.specs.declared.frac.Frac.{Frac}
use Rattle.simplex_rules.specs.declared.columns.Status.{Status}
use Rattle.simplex_rules.specs.Ends.{Clock}
use Rattle.simplex_rules.specs.Runs.{Out, IsNext}
use Rattle.simplex_rules.specs.Looks.{answers, looks_after}
use Rattle.dictionary.specs.Dict.{entry_of, place_values}
use Rattle.simplex.specs.declared.ends.Ends.{Ends}
use Rattle.simplex.specs.Cuts.{AreEndsOf, ranges_in}
use Rattle.simplex.specs.Tables.{values_in}
use Rattle.simplex.specs.Values.{AreResting, AreKnown}
use Rattle.simplex.specs.Finishes.{stops_at, next_at, end_at, IsLeftAt}
use Rattle.simplex.proofs.Finishes.{keeps, keeps_at, early_keeps}
use Rattle.simplex.proofs.Changes.{turn_counted, next_same, some_left, under_way, turned}
use Rattle.simplex.proofs.work.Work.make_turn.Goals as goal
use Rattle.simplex.proofs.work.Work.make_turn.Goals.{After-choose, After-swap_turn, After-flip_turn}

-- the values that were formed, and the statuses that a turn left, as they are stored
formed : (g : _) (c : After-choose g) → c.choose.new.values ≡ (with_items c.args.self.now.values c.choose.new.values).items
formed g c = sym (with_items_is c.args.self.now.values c.choose.new.values (c.choose.auto.values ∙ c.as_mut_slice-values.ensures.len))

swapped : (g : _) (c : After-swap_turn g) → c.swap_turn.new.statuses ≡ (with_items c.args.self.now.statuses c.swap_turn.new.statuses).items
swapped g c = sym (with_items_is c.args.self.now.statuses c.swap_turn.new.statuses (c.swap_turn.auto.statuses ∙ c.as_mut_slice-statuses.ensures.len))

flipped : (g : _) (c : After-flip_turn g) → c.flip_turn.new.statuses ≡ (with_items c.args.self.now.statuses c.flip_turn.new.statuses).items
flipped g c = sym (with_items_is c.args.self.now.statuses c.flip_turn.new.statuses (c.flip_turn.auto.statuses ∙ c.as_mut_slice-statuses.ensures.len))

pub choose-requires-clause-resting : goal.choose-requires-clause-resting
choose-requires-clause-resting g c = rw (c.as_slice-ends.ensures.value, c.as_mut_slice-statuses.ensures.value) c.requires.state.resting

pub choose-requires-clause-known : goal.choose-requires-clause-known
choose-requires-clause-known g c = rw (c.as_mut_slice-statuses.ensures.value, c.as_mut_slice-values.ensures.value) c.requires.state.known

pub choose-requires-clause-loaded : goal.choose-requires-clause-loaded
choose-requires-clause-loaded g c = c.requires.state.held.holds.loaded

pub choose-requires-clause-statuses : goal.choose-requires-clause-statuses
choose-requires-clause-statuses g c = rw c.as_mut_slice-statuses.ensures.value c.requires.state.held.statuses

pub expect_swap-requires-clause-held : goal.expect_swap-requires-clause-held
expect_swap-requires-clause-held g c = rw c.as_mut_slice-statuses.ensures.value c.requires.state.held

pub expect_swap-requires-clause-resting : goal.expect_swap-requires-clause-resting
expect_swap-requires-clause-resting g c = rw (c.as_slice-ends.ensures.value, c.as_mut_slice-statuses.ensures.value) c.requires.state.resting

pub expect_flip-requires-clause-held : goal.expect_flip-requires-clause-held
expect_flip-requires-clause-held g c = rw c.as_mut_slice-statuses.ensures.value c.requires.state.held

pub expect_flip-requires-clause-resting : goal.expect_flip-requires-clause-resting
expect_flip-requires-clause-resting g c = rw (c.as_slice-ends.ensures.value, c.as_mut_slice-statuses.ensures.value) c.requires.state.resting

pub swap_turn-requires-clause-held : goal.swap_turn-requires-clause-held
swap_turn-requires-clause-held g c = rw c.as_mut_slice-statuses.ensures.value c.requires.state.held

pub flip_turn-requires-clause-held : goal.flip_turn-requires-clause-held
flip_turn-requires-clause-held g c = rw c.as_mut_slice-statuses.ensures.value c.requires.state.held

pub returns-in-Swap-clause-state : goal.returns-in-Swap-clause-state
returns-in-Swap-clause-state g c = λ n.
    let f = formed g (goal.at.returns-in-Swap-clause-state g c).After-choose in
    let z = swapped g (goal.at.returns-in-Swap-clause-state g c).After-swap_turn in
    let d = c.swap_turn.new.dict in
    let ss = c.swap_turn.new.statuses in
    let to = c.swap_turn.ensures.swapped n in
    under_way _ c.as_slice-ends.result.now ss c.choose.new.values c.as_slice-ends.ensures.value z f (subst (λ r. IsLeftAt d ss r) n c.swap_turn.ensures.left) (c.expect_swap.ensures.resting d ss to) (c.expect_swap.ensures.known d ss c.choose.new.values to c.in-Swap.ensures.known)

pub returns-in-Flip-clause-state : goal.returns-in-Flip-clause-state
returns-in-Flip-clause-state g c = λ n.
    let f = formed g (goal.at.returns-in-Flip-clause-state g c).After-choose in
    let z = flipped g (goal.at.returns-in-Flip-clause-state g c).After-flip_turn in
    let d = c.args.self.now.dict in
    let ss = c.flip_turn.new.statuses in
    let to = sym (c.flip_turn.ensures.flipped n) in
    under_way _ c.as_slice-ends.result.now ss c.choose.new.values c.as_slice-ends.ensures.value z f (subst (λ r. IsLeftAt d ss r) n c.flip_turn.ensures.left)
    (subst (λ (xs : List Status). AreResting (ranges_in c.as_slice-ends.result.now) xs (place_values c.expect_flip.new.rest)) to c.expect_flip.ensures.resting)
    (subst (λ (xs : List Status). AreKnown d c.expect_flip.new.rest xs c.choose.new.values c.expect_flip.new.unknown) to (c.expect_flip.ensures.known c.choose.new.values c.in-Flip.ensures.known))

pub returns-in-Swap-clause-left : goal.returns-in-Swap-clause-left
returns-in-Swap-clause-left g c = some_left c.swap_turn.new.dict c.swap_turn.new.statuses _ c.swap_turn.result (swapped g (goal.at.returns-in-Swap-clause-left g c).After-swap_turn) c.swap_turn.ensures.left

pub returns-in-Flip-clause-left : goal.returns-in-Flip-clause-left
returns-in-Flip-clause-left g c = some_left c.args.self.now.dict c.flip_turn.new.statuses _ c.flip_turn.result (flipped g (goal.at.returns-in-Flip-clause-left g c).After-flip_turn) c.flip_turn.ensures.left

pub returns-in-Swap-clause-changes : goal.returns-in-Swap-clause-changes
returns-in-Swap-clause-changes g c =
    let a = c.args in
    let s = a.self.now in
    let p = c.swap_turn.ensures.turn in
    let r = c.swap_turn.result in
    let u = entry_of c.swap_turn.new.dict in
    let e = sym c.as_slice-ends.ensures.value in
    let was = c.as_mut_slice-statuses.ensures.value in
    let is = swapped g (goal.at.returns-in-Swap-clause-changes g c).After-swap_turn in
    let vs = formed g (goal.at.returns-in-Swap-clause-changes g c).After-choose in
    turned s _ a.turns.now c.swap_turn.new.turns r c.swap_turn.ensures.size (turn_counted a.turns.now c.swap_turn.new.turns r c.swap_turn.ensures.most c.swap_turn.ensures.counted) refl c.swap_turn.ensures.holds
    (early_keeps r _ c.swap_turn.ensures.early) (
      p.0,
      p.1,
      λ I zeroed t l of most tells.
          let first : Clock = record { turns = a.turns.now.done; looks = l } in
          let last : Clock = record { turns = c.swap_turn.new.turns.done; looks = looks_after l p.0 (stops_at r) } in
          next_same I zeroed t first last u r _ _ c.swap_turn.new.statuses _ c.choose.new.values _ was is vs
          (c.in-Swap.ensures.next I zeroed t first (subst (λ (xs : List Ends). AreEndsOf I xs) e of.ends) of.size of.rows of.begun (next_at I c.swap_turn.new.statuses u (values_in c.choose.new.values) last r)
          (p.2 I u (values_in c.choose.new.values) t l most tells)),
    )

pub returns-in-Flip-clause-changes : goal.returns-in-Flip-clause-changes
returns-in-Flip-clause-changes g c =
    let a = c.args in
    let s = a.self.now in
    let p = c.flip_turn.ensures.turn in
    let r = c.flip_turn.result in
    let u = entry_of s.dict in
    let e = sym c.as_slice-ends.ensures.value in
    let was = c.as_mut_slice-statuses.ensures.value in
    let is = flipped g (goal.at.returns-in-Flip-clause-changes g c).After-flip_turn in
    let vs = formed g (goal.at.returns-in-Flip-clause-changes g c).After-choose in
    turned s _ a.turns.now c.flip_turn.new.turns r (record { width = refl; height = refl }) (turn_counted a.turns.now c.flip_turn.new.turns r c.flip_turn.ensures.most c.flip_turn.ensures.counted) refl (λ A h. keeps_at r _ h)
    (early_keeps r _ c.flip_turn.ensures.early) (
      p.0,
      p.1,
      λ I zeroed t l of most tells.
          let first : Clock = record { turns = a.turns.now.done; looks = l } in
          let last : Clock = record { turns = c.flip_turn.new.turns.done; looks = looks_after l p.0 (stops_at r) } in
          next_same I zeroed t first last u r _ _ c.flip_turn.new.statuses _ c.choose.new.values _ was is vs
          (c.in-Flip.ensures.next I zeroed t first (subst (λ (xs : List Ends). AreEndsOf I xs) e of.ends) of.size of.rows of.begun (next_at I c.flip_turn.new.statuses u (values_in c.choose.new.values) last r)
          (p.2 I u (values_in c.choose.new.values) t l most tells)),
    )

pub returns-in-Done-clause-changes : goal.returns-in-Done-clause-changes
returns-in-Done-clause-changes g c =
    let a = c.args in
    let s = a.self.now in
    let n = c.in-Done.ensures.allowed.0 in
    let e = sym c.as_slice-ends.ensures.value in
    let was = c.as_mut_slice-statuses.ensures.value in
    let is = sym (with_items_is s.statuses c.as_mut_slice-statuses.result.now c.as_mut_slice-statuses.ensures.len) in
    let vs = formed g (goal.at.returns-in-Done-clause-changes g c).After-choose in
    turned s _ a.turns.now a.turns.now _ (record { width = refl; height = refl }) (record { most = refl; more = omega arith; within = λ h. h }) refl (λ A h. keeps c.in-Done.finish _ h)
    (keeps c.in-Done.finish _ (sym was ∙ is)) (
      0,
      subst (λ (b : Bool). g.W.Watch.came a.watch.now a.watch.now (answers 0 b)) (sym n) (g.met.W.Watch.stays a.watch.now),
      λ I zeroed t l of most tells.
          let k : l ≡ l + 0 = omega arith in
          let first : Clock = record { turns = a.turns.now.done; looks = l } in
          let last : Clock = record { turns = a.turns.now.done; looks = looks_after l 0 (stops_at (Some c.in-Done.finish)) } in
          next_same I zeroed t first last (entry_of s.dict) (Some c.in-Done.finish) _ _ c.as_mut_slice-statuses.result.now _ c.choose.new.values _ was is vs
          (subst (λ (j : ℕ). IsNext I zeroed t (record { statuses = c.as_mut_slice-statuses.result.now; clock = first }) (Out (end_at I c.as_mut_slice-statuses.result.now (entry_of s.dict) (values_in c.choose.new.values) c.in-Done.finish) (record { turns = a.turns.now.done; looks = j }))) (k ∙ ap (λ b. looks_after l 0 b) (sym n))
          (c.in-Done.ensures.next I zeroed t first (subst (λ (xs : List Ends). AreEndsOf I xs) e of.ends) of.size of.rows of.begun)),
    )
