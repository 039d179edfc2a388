use Rattle.osil_grammar.proofs.Words.{rules, sym, subst, List, IsSortedByKey, IsStableByKey, Entry, HasWidePlace, AreEntriesOf, AreSumsAt}
use Rattle.std.proofs.lemmas.List.Sorted.{answers_always}
use Rattle.std.proofs.lemmas.Fn.{filter_same}
use Rattle.evidence.specs.Instance as Of
use Rattle.instance.specs.Program.{entries as entries_of}
use Rattle.osil_grammar.proofs.SortedEntries.{place, by_place, in_order, wide_before, wide_after, sums_before, kept_entries, is_nonzero}
use Rattle.osil_grammar.proofs.entries.entries.Goals as goal

pub joined-requires : goal.joined-requires
joined-requires c =
    let sorted : IsSortedByKey place by_place c.sort_by_key.new.self.items = c.in_ok-sort_by_key.ensures.sorted place (answers_always _ _ _ (λ f a r g h. search rules)) in
    rw c.as_slice.ensures.value (in_order c.sort_by_key.new.self.items sorted)

pub returns-in-Err : goal.returns-in-Err
returns-in-Err c =
    let stable : IsStableByKey place by_place c.in_ok-stored.stored.items c.sort_by_key.new.self.items = c.in_ok-sort_by_key.ensures.stable place (answers_always _ _ _ (λ f a r g h. search rules)) in
    let wide : HasWidePlace (entries_of c.as_slice.result.now) = rw c.in-Err.is at c.in_ok-joined.ensures in
    subst HasWidePlace c.in_ok-stored.ensures
    (wide_before c.in_ok-stored.stored.items c.sort_by_key.new.self.items stable (subst (λ (l : List Entry). HasWidePlace (entries_of l)) c.as_slice.ensures.value wide))

pub returns : goal.returns
returns c =
    let stable : IsStableByKey place by_place c.in_ok-stored.stored.items c.sort_by_key.new.self.items = c.in_ok-sort_by_key.ensures.stable place (answers_always _ _ _ (λ f a r g h. search rules)) in
    let joined = rw c.in-Ok.is at c.in_ok-joined.ensures in
    let sums : AreSumsAt (entries_of c.sort_by_key.new.self.items) c.in-Ok.sums.items = subst (λ (l : List Entry). AreSumsAt (entries_of l) c.in-Ok.sums.items) c.as_slice.ensures.value joined.0 in
    let none_wide : HasWidePlace (entries_of c.sort_by_key.new.self.items) → ⊥ = subst (λ (l : List Entry). HasWidePlace (entries_of l) → ⊥) c.as_slice.ensures.value joined.1 in
    let kept = filter_same _ is_nonzero _ (λ x b f k. search rules) c.in-Ok.sums.items c.retain.new.self.items c.retain.ensures.filtered in
    let of_stored : AreEntriesOf (entries_of c.in_ok-stored.stored.items) c.retain.new.self.items = subst (AreEntriesOf (entries_of c.in_ok-stored.stored.items)) (sym kept)
    (kept_entries (entries_of c.in_ok-stored.stored.items) c.in-Ok.sums.items (sums_before c.in_ok-stored.stored.items c.sort_by_key.new.self.items stable c.in-Ok.sums.items sums)) in (
      subst (λ (l : List Of.Entry). AreEntriesOf l c.retain.new.self.items) c.in_ok-stored.ensures of_stored,
      subst (λ (l : List Of.Entry). HasWidePlace l → ⊥) c.in_ok-stored.ensures (λ w. none_wide (wide_after c.in_ok-stored.stored.items c.sort_by_key.new.self.items stable w)),
    )
