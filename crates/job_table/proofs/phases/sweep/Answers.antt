use Rattle.std.proofs.Common.{◌≡◌, ◌∙◌, ap, filter, nat_eq, arith, rules}
use Rattle.std.specs.Map.{lookup}
use Rattle.indexmap.proofs.CallerLemmas.{filter-RetainsPairs}
use Rattle.job_table.specs.Places.{Places, held_in, has_phase}
use Rattle.job_table.proofs.HeldPlaces.{held_few, swept_is, swept_new}
use Rattle.job_table.proofs.phases.sweep.Goals as goal

pub overflow_sub-len : goal.overflow_sub-len
overflow_sub-len c = omega (arith, c.requires.held, held_few c.args.places.now.entries, c.len.ensures.len)

pub returns-then-len-held-clause-same : goal.returns-then-len-held-clause-same
returns-then-len-held-clause-same c =
    let kept : c.retain.new.self.entries ≡ filter has_phase c.args.places.now.entries =
    filter-RetainsPairs _ _ _ (λ k v b w g call. search rules) _ _ c.retain.ensures.filtered in
    ap held_in kept ∙ swept_is c.args.places.now.entries

pub returns-then-len-held-clause-new : goal.returns-then-len-held-clause-new
returns-then-len-held-clause-new c =
    let kept : c.retain.new.self.entries ≡ filter has_phase c.args.places.now.entries =
    filter-RetainsPairs _ _ _ (λ k v b w g call. search rules) _ _ c.retain.ensures.filtered in
    ap (λ (places : Places). lookup (nat_eq c.args.number) places) kept ∙ swept_new c.args.number c.args.places.now.entries c.requires.new
