use Rattle.std.proofs.Common.{ℕ, ◌+◌, ◌*◌, List, length, IfSome, MatchOption, slice_index, sym, subst}
use Rattle.marks.specs.Words.{has_bit, HasNoneBelow, IsFirst}
use Rattle.marks.specs.Walks.{KeepsWord}
use Rattle.marks.specs.Marks.{is_marked, size_of}
use Rattle.marks.proofs.Bits.{answer_all, past_marks}
use Rattle.marks.proofs.marks.Marks.next_by.Goals as goal

pub next-requires-clause-kept : goal.next-requires-clause-kept
unfolding is_marked
next-requires-clause-kept c = subst (λ (xs : List ℕ). KeepsWord (has_bit (slice_index xs)) c.args.from c.args.walk.now) (sym c.as_slice-words.ensures.value) c.requires

pub returns-clause-first : goal.returns-clause-first
unfolding is_marked size_of
returns-clause-first c =
    let P : List ℕ → Type 0 = λ xs. MatchOption c.next.result (HasNoneBelow (64 * length xs) (has_bit (slice_index xs)) c.args.from) (IsFirst (has_bit (slice_index xs)) c.args.from) in
    answer_all c.next.result (has_bit (slice_index c.args.self.now.words.items)) c.args.from (64 * length c.args.self.now.words.items) (past_marks c.args.self.now) (subst P c.as_slice-words.ensures.value c.next.ensures.first)

pub returns-clause-kept : goal.returns-clause-kept
unfolding is_marked
returns-clause-kept c = subst (λ (xs : List ℕ). IfSome c.next.result (λ k. KeepsWord (has_bit (slice_index xs)) (k + 1) c.next.new.self)) c.as_slice-words.ensures.value c.next.ensures.kept
