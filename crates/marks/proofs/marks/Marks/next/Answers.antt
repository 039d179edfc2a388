use Rattle.std.proofs.Common.{ℕ, ◌*◌, List, length, MatchOption, slice_index, subst}
use Rattle.marks.specs.Words.{has_bit, HasNoneBelow, IsFirst}
use Rattle.marks.specs.Marks.{is_marked, size_of}
use Rattle.marks.proofs.Bits.{answer_all, past_marks}
use Rattle.marks.proofs.marks.Marks.next.Goals as goal

pub returns : goal.returns
unfolding is_marked size_of
returns c =
    let P : List ℕ → Type 0 = λ xs. MatchOption c.next.result (HasNoneBelow (64 * length xs) (has_bit (slice_index xs)) c.args.from) (IsFirst (has_bit (slice_index xs)) c.args.from) in
    answer_all c.next.result (has_bit (slice_index c.args.self.now.words.items)) c.args.from (64 * length c.args.self.now.words.items) (past_marks c.args.self.now) (subst P c.as_slice-words.ensures.value c.next.ensures)
