use Rattle.osil_grammar.proofs.Words.{ℕ, ◌<◌, pos, ◌+ℤ◌, ◌*ℤ◌, w64, SFits, rules, sym, subst, to_z-of_z, State, IsIndexBelow}
use Rattle.osil_grammar.proofs.parse_state.ParseState.push_run.Goals as goal

pub push_wholes-requires-clause-inside : goal.push_wholes-requires-clause-inside
push_wholes-requires-clause-inside c =
    let fits : SFits w64 c.self.inside.whole_step = search rules in
    let first = to_z-of_z w64 c.args.first c.ranges.first in let step = to_z-of_z w64 c.self.inside.whole_step fits in
    rw (first, step) (subst (λ (s : State). (k : ℕ) → k < s.times → IsIndexBelow (c.args.first +ℤ pos k *ℤ s.whole_step) 100001) (sym c.self.view_is) c.requires.inside)

pub push_wholes-requires-in_default : goal.push_wholes-requires-in_default
push_wholes-requires-in_default c =
    let fits : SFits w64 c.self.inside.whole_step = search rules in
    let first = to_z-of_z w64 c.args.first c.ranges.first in let step = to_z-of_z w64 c.self.inside.whole_step fits in
    record {
      few = search rules;
      inside = rw (first, step) (subst (λ (s : State). (k : ℕ) → k < s.times → IsIndexBelow (c.args.first +ℤ pos k *ℤ s.whole_step) 100001) (sym c.self.view_is) c.requires.inside);
    }
