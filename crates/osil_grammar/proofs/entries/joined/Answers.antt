use Rattle.osil_grammar.proofs.Words.{◌≡◌, ℕ, ◌+◌, ◌<◌, length, take, drop, arith, subst, take_all, AreSumsAt}
use Rattle.evidence.specs.Sums as evidence
use Rattle.instance.specs.Program.{entries as entries_of}
use Rattle.osil_grammar.proofs.Places.{IsWideFrom, wide_from_place}
use Rattle.osil_grammar.proofs.EntrySums.{next_in_order, wide_place, more_sums, more_fit}
use Rattle.osil_grammar.proofs.entries.joined.Goals as goal

pub returns-in-Err : goal.returns-in-Err
returns-in-Err c =
    let es = c.args.entries.now in
    let k = c.loop-entry.entry-index in
    let inside : k < length es = omega (arith, c.loop-entry-test.true) in
    let order = next_in_order c.loop-entry.out.items es k c.entry-item.result inside c.entry-item.is c.loop-entry.invariant.order in
    wide_place es k c.entry-item.result inside c.entry-item.is ((rw c.in-Err.is at c.in_ok-join.ensures) (take k es) (drop (k + 1) es) c.loop-entry.invariant.sums order)

pub loop-entry-preserved : goal.loop-entry-preserved
loop-entry-preserved c =
    let es = c.args.entries.now in
    let k = c.loop-entry.entry-index in
    let inside : k < length es = omega (arith, c.loop-entry-test.true) in
    let order = next_in_order c.loop-entry.out.items es k c.entry-item.result inside c.entry-item.is c.loop-entry.invariant.order in
    let joined = (rw c.in-Ok.is at c.in_ok-join.ensures) (take k es) (drop (k + 1) es) c.loop-entry.invariant.sums order in
    record {
      sums = more_sums es c.join.new.out.items k c.entry-item.result (drop (k + 1) es) inside c.entry-item.is joined;
      order = joined.order;
      fit = more_fit es c.join.new.out.items k c.entry-item.result (drop (k + 1) es) inside c.entry-item.is joined c.loop-entry.invariant.fit;
    }

pub returns : goal.returns
returns c =
    let es = c.args.entries.now in
    let all : take c.loop-entry.entry-index es ≡ es = take_all c.loop-entry.entry-index es (omega (arith, c.loop-entry-test.false)) in
    let fit = subst (λ l. (i j : ℕ) → IsWideFrom evidence.none (entries_of l) i j → ⊥) all c.loop-entry.invariant.fit in
    (subst (λ l. AreSumsAt (entries_of l) c.loop-entry.out.items) all c.loop-entry.invariant.sums, λ w. fit w.entry.row w.entry.variable (wide_from_place (entries_of es) w))
