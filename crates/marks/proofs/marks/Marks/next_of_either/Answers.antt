use Rattle.std.proofs.Common.{ℕ, ◌*◌, ◌||◌, Bool, List, length, MatchOption, bit_or, slice_index, sym, ◌≡◌, ap, ap₂, subst, ◌∙◌, arith}
use Rattle.marks.specs.Words.{has_bit, HasNoneBelow, IsFirst}
use Rattle.marks.specs.Marks.{is_marked, size_of}
use Rattle.marks.proofs.Bits.{joined, answer_by, answer_all, past_marks}
use Rattle.marks.proofs.Walks.{kept_by, kept_answer}
use Rattle.marks.proofs.marks.Marks.next_of_either.Goals as goal

-- the bits of both sets' words are those that one of them has
alike : (left right xs ys : List ℕ) → left ≡ xs → right ≡ ys → (k : ℕ) → has_bit (λ w. bit_or (slice_index left w) (slice_index right w)) k ≡ (has_bit (slice_index xs) k || has_bit (slice_index ys) k)
alike left right xs ys el er k = joined (slice_index left) (slice_index right) k ∙ ap₂ (λ (a : List ℕ) (b : List ℕ). has_bit (slice_index a) k || has_bit (slice_index b) k) el er

pub next-requires-clause-kept : goal.next-requires-clause-kept
unfolding is_marked
next-requires-clause-kept c = kept_by _ _ c.args.from c.args.walk.now.word c.args.walk.now.stop (λ k a. sym (alike _ _ _ _ c.as_slice-left.ensures.value c.as_slice-right.ensures.value k)) c.requires.kept

pub returns-clause-first : goal.returns-clause-first
unfolding is_marked size_of
returns-clause-first c =
    let left : List ℕ = c.as_slice-left.result.now in
    let right : List ℕ = c.as_slice-right.result.now in
    let test : List ℕ → List ℕ → ℕ → Bool = λ xs ys k. has_bit (slice_index xs) k || has_bit (slice_index ys) k in
    let same = alike left right _ _ c.as_slice-left.ensures.value c.as_slice-right.ensures.value in
    let P : ℕ → Type 0 = λ stop. MatchOption c.next.result (HasNoneBelow stop (test c.args.self.now.words.items c.args.other.now.words.items) c.args.from) (IsFirst (test c.args.self.now.words.items c.args.other.now.words.items) c.args.from) in
    let all = subst P (ap (λ (xs : List ℕ). 64 * length xs) c.as_slice-left.ensures.value) (answer_by c.next.result _ (test c.args.self.now.words.items c.args.other.now.words.items) c.args.from _ same c.next.ensures.first) in
    answer_all c.next.result (test c.args.self.now.words.items c.args.other.now.words.items) c.args.from (64 * length c.args.self.now.words.items) (λ k h. ap₂ (λ (a b : Bool). a || b) (past_marks c.args.self.now k h) (past_marks c.args.other.now k (omega (arith, c.requires.size, h)))) all

pub returns-clause-kept : goal.returns-clause-kept
unfolding is_marked
returns-clause-kept c = kept_answer c.next.result _ _ c.next.new.self.word c.next.new.self.stop (alike _ _ _ _ c.as_slice-left.ensures.value c.as_slice-right.ensures.value) c.next.ensures.kept
