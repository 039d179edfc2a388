use Rattle.osil_grammar.proofs.Words.{ℕ, ◌<◌, pos, ◌+ℤ◌, ◌*ℤ◌, w64, SFits, rules, refl, subst, to_z-of_z, State, IsIndexBelow, limit}
use Rattle.osil_grammar.specs.declared.fault.Refusal.TheVariants as refused
use Rattle.osil_grammar.specs.declared.elements.Place.TheVariants as places
use Rattle.osil_grammar.proofs.EndTagTests.{end_refused, range_within, whole_out, whole_pass, whole_ends}
use Rattle.osil_grammar.proofs.parse_state.ParseState.end_wholes.Goals as goal

pub returns-then-not-is_in_range : goal.returns-then-not-is_in_range
returns-then-not-is_in_range c =
    let fits : SFits w64 c.self.inside.whole_step = search rules in
    let first = to_z-of_z w64 c.args.first c.ranges.first in let step = to_z-of_z w64 c.self.inside.whole_step fits in
    let out = rw (first, step, c.limit.ensures.limit) at c.if-not-is_in_range.ensures in
    end_refused c.args.self.now (places.El c.args.list) _ refused.Index c.args.self.now.count c.refused_latest.result c.refused_latest.ensures refl
    (λ name. whole_out c.args.self.now name c.args.list c.args.first c.requires.other c.requires.reads (subst (λ (s : State). (k : ℕ) × (k < s.times) × (IsIndexBelow (c.args.first +ℤ pos k *ℤ s.whole_step) (limit c.args.self.now c.args.list) → ⊥)) c.self.view_is out))

pub push_run-requires-clause-inside : goal.push_run-requires-clause-inside
push_run-requires-clause-inside c =
    let fits : SFits w64 c.self.inside.whole_step = search rules in
    let first = to_z-of_z w64 c.args.first c.ranges.first in let step = to_z-of_z w64 c.self.inside.whole_step fits in
    let inside = rw (first, step) at c.if-not-is_in_range.ensures in
    let all = subst (λ (s : State). (k : ℕ) → k < s.times → IsIndexBelow (c.args.first +ℤ pos k *ℤ s.whole_step) c.limit.result) c.self.view_is inside in
    rw first (λ k h. range_within _ c.limit.result 100001 c.limit.ensures.low (all k h))

pub returns : goal.returns
returns c =
    let fits : SFits w64 c.self.inside.whole_step = search rules in
    let first = to_z-of_z w64 c.args.first c.ranges.first in let step = to_z-of_z w64 c.self.inside.whole_step fits in
    let inside = rw (first, step, c.limit.ensures.limit) at c.if-not-is_in_range.ensures in
    let all = subst (λ (s : State). (k : ℕ) → k < s.times → IsIndexBelow (c.args.first +ℤ pos k *ℤ s.whole_step) (limit c.args.self.now c.args.list)) c.self.view_is inside in
    whole_ends c.args.list c.args.self.now c.push_run.new.self _ c.self-2.view_is c.requires.other (λ name. whole_pass c.args.self.now name c.args.list c.args.first c.requires.other c.requires.reads all) c.in_ok-push_run.ensures
