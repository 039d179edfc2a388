use Rattle.osil_grammar.proofs.Words.{[], rules, refl, subst, Finish, stored, HasWidePlace, State, other_count, Fails, lists_so_far}
use Rattle.osil_grammar.specs.declared.fault.Refusal.TheVariants as refused
use Rattle.osil_grammar.specs.declared.elements.Place.TheVariants as places
use Rattle.osil_grammar.specs.declared.elements.Part.TheVariants as parts
use Rattle.osil_grammar.proofs.EndTagTests.{end_refused, matrix_differs, of_ok}
use Rattle.osil_grammar.proofs.parse_state.ParseState.close_entries.Goals as goal

pub returns-then-differs : goal.returns-then-differs
returns-then-differs c =
    let both = of_ok _ _ _ _ c.in-Ok.is c.in_ok-entries.ensures in
    let narrow = subst (λ (s : State). HasWidePlace (stored (lists_so_far s)) → ⊥) c.self.view_is both.1 in
    let many : Fails c.args.self.now (Finish []) (other_count parts.Coefficients) = search rules in
    end_refused c.args.self.now (places.Part parts.Coefficients) _ refused.Count c.args.self.now.part_at c.refused_part.result c.refused_part.ensures refl
    (λ name. matrix_differs c.args.self.now name c.requires.all (λ h. narrow h.wide) many)
