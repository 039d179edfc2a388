use Rattle.std.proofs.Common.{ℕ, ◌*◌, ◌&&◌, Bool, List, length, MatchOption, bit_and, slice_index, sym, ◌≡◌, ap₂, subst, ◌∙◌}
use Rattle.marks.specs.Words.{has_bit, lesser, HasNoneBelow, IsFirst}
use Rattle.marks.specs.Marks.{is_marked, size_of}
use Rattle.marks.proofs.Bits.{shared, answer_by, answer_all, past_both}
use Rattle.marks.proofs.Walks.{kept_by, kept_answer}
use Rattle.marks.proofs.marks.Marks.next_of_both.Goals as goal

-- the bits of both sets' words are those that both have
alike : (left right xs ys : List ℕ) → left ≡ xs → right ≡ ys → (k : ℕ) → has_bit (λ w. bit_and (slice_index left w) (slice_index right w)) k ≡ (has_bit (slice_index xs) k && has_bit (slice_index ys) k)
alike left right xs ys el er k = shared (slice_index left) (slice_index right) k ∙ ap₂ (λ (a : List ℕ) (b : List ℕ). has_bit (slice_index a) k && has_bit (slice_index b) k) el er

pub next-requires-clause-kept : goal.next-requires-clause-kept
unfolding is_marked
next-requires-clause-kept c = kept_by _ _ c.args.from c.args.walk.now.word c.args.walk.now.stop (λ k a. sym (alike _ _ _ _ c.as_slice-left.ensures.value c.as_slice-right.ensures.value k)) c.requires

pub returns-clause-first : goal.returns-clause-first
unfolding is_marked size_of
returns-clause-first c =
    let m = c.args.self.now in
    let n = c.args.other.now in
    let left : List ℕ = c.as_slice-left.result.now in
    let right : List ℕ = c.as_slice-right.result.now in
    let test : List ℕ → List ℕ → ℕ → Bool = λ xs ys k. has_bit (slice_index xs) k && has_bit (slice_index ys) k in
    let same = alike left right _ _ c.as_slice-left.ensures.value c.as_slice-right.ensures.value in
    let P : ℕ → Type 0 = λ stop. MatchOption c.next.result (HasNoneBelow stop (test m.words.items n.words.items) c.args.from) (IsFirst (test m.words.items n.words.items) c.args.from) in
    let all = subst P (ap₂ (λ (xs : List ℕ) (ys : List ℕ). 64 * lesser (length xs) (length ys)) c.as_slice-left.ensures.value c.as_slice-right.ensures.value) (answer_by c.next.result _ (test m.words.items n.words.items) c.args.from _ same c.next.ensures.first) in
    answer_all c.next.result (test m.words.items n.words.items) c.args.from (64 * lesser (length m.words.items) (length n.words.items)) (past_both m n) all

pub returns-clause-kept : goal.returns-clause-kept
unfolding is_marked
returns-clause-kept c = kept_answer c.next.result _ _ c.next.new.self.word c.next.new.self.stop (alike _ _ _ _ c.as_slice-left.ensures.value c.as_slice-right.ensures.value) c.next.ensures.kept
