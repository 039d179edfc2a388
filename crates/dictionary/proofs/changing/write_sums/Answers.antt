use Rattle.std.proofs.Common.{◌≡◌, ℕ, ℤ, ◌+◌, ◌-◌, ◌*◌, ◌<◌, ◌||◌, ◌+ℤ◌, ◌*ℤ◌, Bool, bit_or, FitsSigned, w64, arith, rules, sym, ◌∙◌, ap, ap₂, subst}
use Rattle.std.proofs.lemmas.Bool.{false≢true}
use Rattle.std.proofs.lemmas.Int.{to_z-of_z}
use Rattle.evidence.proofs.Columns.{by_lt}
use Rattle.common_rows.proofs.Sizes.{size_above}
use Rattle.marks.proofs.Bits.{past_marks}
use Rattle.dictionary.specs.Rows.{numbers_of, numer_at, entries_at, either_at}
use Rattle.dictionary.specs.Words.{number_at}
use Rattle.dictionary.proofs.RowForms.{sized_above}
use Rattle.dictionary.proofs.Changes.{entry_count, counted_words, counted_within}
use Rattle.dictionary.proofs.ChangedSums.{either_below}
use Rattle.dictionary.proofs.WordRows.{either_set, steps_most}
use Rattle.dictionary.proofs.changing.write_sums.Goals as goal

pub of-all-requires-clause-above : goal.of-all-requires-clause-above
of-all-requires-clause-above g c =
    let row = c.args.row.now in
    let d : FitsSigned w64 row.denom = search rules in
    let e = simp to_z-of_z at c.unsigned_abs.ensures.value in
    let l = sized_above row.denom row.above in
    omega arith

pub of-all-requires-clause-small : goal.of-all-requires-clause-small
of-all-requires-clause-small g c =
    let row = c.args.row.now in
    let d : FitsSigned w64 row.denom = search rules in
    let e = simp to_z-of_z at c.unsigned_abs.ensures.value in
    let l = size_above row.denom d row.above in
    omega arith

pub loop-w-init : goal.loop-w-init
loop-w-init g c = record { told = λ j l h. absurd (omega arith); cost = omega arith; counted = omega arith }

pub sum_word-all-requires-clause-inside : goal.sum_word-all-requires-clause-inside
sum_word-all-requires-clause-inside g c i l h =
    let r = c.requires.rows in
    let row = c.args.row.now in
    let by = c.args.by.now in
    let e = either_set row by c.loop-w.w c.word-own.result c.word-other.result c.word-own.ensures c.word-other.ensures i l in
    let inside = either_below row by _ r.0 r.1 r.2 (64 * c.loop-w.w + i) (sym e ∙ h) in
    let x = r.1.count in
    let y = r.2.count in
    let p = c.as_slice.ensures.len in
    let q = c.as_slice-in-loop-w.ensures.len in
    let s = c.loop-w.auto.sums in
    (omega arith, omega arith, omega arith)

pub loop-w-preserved : goal.loop-w-preserved
loop-w-preserved g c =
    let r = c.requires.rows in
    let row = c.args.row.now in
    let by = c.args.by.now in
    let s : ℤ = c.args.parts.scale in
    let k : ℤ = c.args.parts.factor in
    let w : ℕ = c.loop-w.w in
    let i = c.loop-w.invariant in
    let e = c.sum_word-all.ensures in
    let own : ℕ = c.word-own.result in
    let other : ℕ = c.word-other.result in
    record {
      told = λ j l h. by_lt j (64 * w)
          (λ low. e.before j low ∙ i.told j low h)
          (λ high.
          let at : 64 * w + (j - 64 * w) ≡ j = omega arith in
          let within : j - 64 * w < 64 = omega arith in
          let set = either_set row by w own other c.word-own.ensures c.word-other.ensures (j - 64 * w) within ∙ ap (either_at row by) at ∙ h in
          let sum = e.sums (j - 64 * w) within set ∙ ap₂ (λ xs ys. number_at xs (64 * w + (j - 64 * w)) *ℤ s +ℤ number_at ys (64 * w + (j - 64 * w)) *ℤ k) c.as_slice.ensures.value c.as_slice-in-loop-w.ensures.value in
          subst (λ q. number_at c.sum_word-all.new.sums q ≡ numer_at row q *ℤ s +ℤ numer_at by q *ℤ k) at sum);
      cost =
          let most = steps_most row by w own other (bit_or own other) 0 1 c.word-own.ensures c.word-other.ensures (λ j l h. omega arith) in
          let more = counted_words (numbers_of row) (numbers_of by) w (λ j. entries_at row (64 * w + j)) (λ j. entries_at by (64 * w + j)) (λ j. entry_count row _ r.0 (64 * w + j) r.1) (λ j. entry_count by _ r.0 (64 * w + j) r.2) in
          let before = i.cost in
          let now = e.cost in
          omega arith;
      counted = let p = i.counted in let q = e.cost in omega arith;
    }

pub returns-clause-sums : goal.returns-clause-sums
returns-clause-sums g c j h = by_lt j (64 * c.loop-w.w)
    (λ low. c.loop-w.invariant.told j low h)
    (λ high.
    let r = c.requires.rows in
    let x = r.1.columns in
    let y = r.2.columns in
    let size = c.words-w-end.ensures in
    let a = past_marks c.args.row.now.marks j (omega arith) in
    let b = past_marks c.args.by.now.marks j (omega arith) in
    absurd (false≢true (sym (ap₂ (λ (p q : Bool). p || q) a b) ∙ h)))

pub returns-clause-cost : goal.returns-clause-cost
returns-clause-cost g c =
    let r = c.requires.rows in
    let mine = counted_within c.args.row.now _ r.0 (64 * c.loop-w.w) r.1 in
    let its = counted_within c.args.by.now _ r.0 (64 * c.loop-w.w) r.2 in
    let all = c.loop-w.invariant.cost in
    omega arith
