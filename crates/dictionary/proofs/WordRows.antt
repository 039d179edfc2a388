-- A row in common form of which a word of columns was changed.
use Rattle.std.proofs.Common.{◌≡◌, ℕ, ◌+◌, ◌*◌, ◌/◌, ◌%◌, ◌^◌, ◌<◌, ◌≤◌, ◌≢◌, ◌⊎◌, inl, inr, ◌||◌, ℤ, pos, ◌+ℤ◌, ◌*ℤ◌, Bool, true, false, cond, not, nat_eq, bit_or, List, length, arith, refl, sym, ◌∙◌, ap, ap₂, subst}
use Rattle.std.specs.Prelude.{unsigned_abs}
use Rattle.std.proofs.lemmas.Bool.{false≢true, cases_eq}
use Rattle.rational.specs.Ratio.{Ratio}
use Rattle.marks.specs.Words.{is_set}
use Rattle.marks.proofs.Bits.{set_or}
use Rattle.marks.specs.Marks.{is_marked, size_of}
use Rattle.dictionary.specs.declared.row.Row.{Row}
use Rattle.dictionary.specs.Row.{room_of}
use Rattle.dictionary.specs.Rows.{numbers_of, numer_at, either_at, entries_at, IsRow}
use Rattle.dictionary.specs.Lowest.{lowest}
use Rattle.dictionary.specs.Words.{number_at, AreChanged, steps_at, count_word}
use Rattle.dictionary.proofs.Words.{undone, count_most}
use Rattle.dictionary.proofs.RowForms.{sized_zero, sized_above, lowest_alike, zero_tests, common_number}
use Rattle.dictionary.proofs.Changes.{either_false, either_true, unadded, unchanged, kept_numbers}

-- which columns change: where all numbers are only added to, those of the other row
chosen_false : (adds a b : Bool) → cond adds b (a || b) ≡ false → b ≡ false
chosen_false true a b e = e
chosen_false false a b e = (either_false a b e).1

chosen_true : (adds a b : Bool) → cond adds b (a || b) ≡ true → (a ≡ true) ⊎ (b ≡ true)
chosen_true true a b e = inr e
chosen_true false a b e = either_true a b e

or_false : (a b : Bool) → b ≡ false → (a || b) ≡ a
or_false true b e = refl
or_false false b e = e

-- a column of either row
pub either_set : {L : _} {G : _} (row by : Row L G) (w own other : ℕ) → ((i : ℕ) → i < 64 → is_set own i ≡ is_marked row.marks (64 * w + i)) → ((i : ℕ) → i < 64 → is_set other i ≡ is_marked by.marks (64 * w + i)) → (i : ℕ) → i < 64 → is_set (bit_or own other) i ≡ either_at row by (64 * w + i)
either_set row by w own other mine its i l = set_or own other i ∙ ap₂ (λ (x y : Bool). x || y) (mine i l) (its i l)

few : (x y : Bool) → (x ≡ true) ⊎ (y ≡ true) → cond x 1 0 + cond y 1 0 + 1 ≤ 2 * (cond x 1 0 + cond y 1 0)
few true true h = omega arith
few true false h = omega arith
few false true h = omega arith
few false false (inl h) = absurd (false≢true h)
few false false (inr h) = absurd (false≢true h)

-- the steps of a word are at most so many for each entry that both rows have at its columns
pub steps_most : {L : _} {G : _} (row by : Row L G) (w own other columns each t : ℕ) → ((i : ℕ) → i < 64 → is_set own i ≡ is_marked row.marks (64 * w + i)) → ((i : ℕ) → i < 64 → is_set other i ≡ is_marked by.marks (64 * w + i)) → ((i : ℕ) → i < 64 → is_set columns i ≡ true → cond (is_marked row.marks (64 * w + i)) 1 0 + cond (is_marked by.marks (64 * w + i)) 1 0 + each ≤ t * (cond (is_marked row.marks (64 * w + i)) 1 0 + cond (is_marked by.marks (64 * w + i)) 1 0)) → count_word (steps_at each own other (is_set columns)) ≤ t * count_word (λ i. cond (entries_at row (64 * w + i)) 1 0 + cond (entries_at by (64 * w + i)) 1 0)
unfolding entries_at
steps_most row by w own other columns each t mine its most = count_most t (steps_at each own other (is_set columns)) (λ i. cond (is_marked row.marks (64 * w + i)) 1 0 + cond (is_marked by.marks (64 * w + i)) 1 0) (λ i l. at i l (is_set columns i) refl)
  where
    at : (i : ℕ) → i < 64 → (b : Bool) → is_set columns i ≡ b → steps_at each own other (is_set columns) i ≤ t * (cond (is_marked row.marks (64 * w + i)) 1 0 + cond (is_marked by.marks (64 * w + i)) 1 0)
    at i l true e =
        let here = ap (λ (b : Bool). cond b (cond (is_set own i) 1 0 + cond (is_set other i) 1 0 + each) 0) e in
        let both = ap₂ (λ (x y : Bool). cond x 1 0 + cond y 1 0 + each) (mine i l) (its i l) in
        subst (λ n. n ≤ t * (cond (is_marked row.marks (64 * w + i)) 1 0 + cond (is_marked by.marks (64 * w + i)) 1 0)) (sym (here ∙ both)) (most i l e)
    at i l false e = subst (λ n. n ≤ t * (cond (is_marked row.marks (64 * w + i)) 1 0 + cond (is_marked by.marks (64 * w + i)) 1 0)) (sym (ap (λ (b : Bool). cond b (cond (is_set own i) 1 0 + cond (is_set other i) 1 0 + each) 0) e)) (omega arith)

module _ {L : _} {G : _} (row by : Row L G) (xs : List ℤ) (w own other columns entries most : ℕ) (s k : ℤ) (adds : Bool)
    (mine : (i : ℕ) → i < 64 → is_set own i ≡ is_marked row.marks (64 * w + i))
    (its : (i : ℕ) → i < 64 → is_set other i ≡ is_marked by.marks (64 * w + i))
    (which : (i : ℕ) → is_set columns i ≡ cond adds (is_set other i) (is_set own i || is_set other i))
    (a : AreChanged (64 * w) own columns (is_set columns) s k row.numers.items by.numers.items xs row.size entries most) where
  -- a column that changes has an entry in one of the rows
  of_either : (i : ℕ) → i < 64 → is_set columns i ≡ true → (is_marked row.marks (64 * w + i) ≡ true) ⊎ (is_marked by.marks (64 * w + i) ≡ true)
  of_either i l h = elim (chosen_true adds (is_set own i) (is_set other i) (sym (which i) ∙ h)) [ inl e ↦ inl (sym (mine i l) ∙ e) | inr e ↦ inr (sym (its i l) ∙ e) ]

  column_inside : (m n : ℕ) → IsRow m n row → IsRow m n by → (i : ℕ) → i < 64 → is_set columns i ≡ true → 64 * w + i + 1 < m
  column_inside m n was is i l h = elim (of_either i l h) [ inl e ↦ was.inside (64 * w + i) e | inr e ↦ is.inside (64 * w + i) e ]

  -- one that doesn't has the sum of both numbers too
  pub changed_number : (m n : ℕ) → IsRow m n row → IsRow m n by → (adds ≡ true → s ≡ pos 1) → (i : ℕ) → i < 64 → number_at xs (64 * w + i) ≡ numer_at row (64 * w + i) *ℤ s +ℤ numer_at by (64 * w + i) *ℤ k
  changed_number m n was is one i l = at (is_set columns i) refl
    where
      rest : (t : Bool) → adds ≡ t → is_set columns i ≡ false → numer_at row (64 * w + i) ≡ numer_at row (64 * w + i) *ℤ s +ℤ numer_at by (64 * w + i) *ℤ k
      rest true t e = let z = is.empty (64 * w + i) (sym (its i l) ∙ chosen_false adds (is_set own i) (is_set other i) (sym (which i) ∙ e)) in subst (λ x. numer_at row (64 * w + i) ≡ numer_at row (64 * w + i) *ℤ x +ℤ numer_at by (64 * w + i) *ℤ k) (sym (one t)) (unadded (numer_at row (64 * w + i)) (numer_at by (64 * w + i)) k z)
      rest false t e =
          let both = either_false (is_set own i) (is_set other i) (ap (λ b. cond b (is_set other i) (is_set own i || is_set other i)) (sym t) ∙ sym (which i) ∙ e) in
          unchanged (numer_at row (64 * w + i)) (numer_at by (64 * w + i)) s k (was.empty (64 * w + i) (sym (mine i l) ∙ both.0)) (is.empty (64 * w + i) (sym (its i l) ∙ both.1))

      at : (b : Bool) → is_set columns i ≡ b → number_at xs (64 * w + i) ≡ numer_at row (64 * w + i) *ℤ s +ℤ numer_at by (64 * w + i) *ℤ k
      at true e = a.is i l e
      at false e = undone a i e ∙ rest adds refl e

  -- nor one of another word
  pub outside : (c : ℕ) → c / 64 ≢ w → number_at xs c ≡ numer_at row c
  outside c d = a.others c (λ i l h e. d (omega arith))

  -- a row that has these numbers and marks is one
  module _ (new : Row L G) (items : new.numers.items ≡ xs) (sized : new.size ≡ most) (common : row.is_common ≡ true) (stays : new.is_common ≡ true) (denom : new.denom ≡ row.denom) (size : size_of new.marks ≡ size_of row.marks)
      (marks : (i : ℕ) → i < 64 → is_marked new.marks (64 * w + i) ≡ is_set entries i)
      (others : (c : ℕ) → c / 64 ≢ w → is_marked new.marks c ≡ is_marked row.marks c)
      (room : room_of new.fractions ≡ room_of row.fractions) where
    numer : (c : ℕ) → numer_at new c ≡ number_at xs c
    numer c = ap (λ ys. number_at ys c) items

    -- a column is one that changed, or has its number and its mark from before
    by_column : (P : ℕ → Type 0) → ((i : ℕ) → i < 64 → is_set columns i ≡ true → P (64 * w + i)) → ((c : ℕ) → numer_at new c ≡ numer_at row c → is_marked new.marks c ≡ is_marked row.marks c → P c) → (c : ℕ) → P c
    by_column P changed kept c = elim (cases_eq (c / 64) w) [
      | inr d ↦ kept c (numer c ∙ outside c d) (others c d)
      | inl e ↦ let f : 64 * w + c % 64 ≡ c = omega arith in subst P f (at (c % 64) (omega arith) (is_set columns (c % 64)) refl)
    ]
      where
        at : (i : ℕ) → i < 64 → (b : Bool) → is_set columns i ≡ b → P (64 * w + i)
        at i l true e = changed i l e
        at i l false e = kept (64 * w + i) (numer (64 * w + i) ∙ undone a i e) (marks i l ∙ a.unmarked i l e ∙ or_false (is_set own i) (is_set columns i) e ∙ mine i l)

    mark : (i : ℕ) → i < 64 → is_set columns i ≡ true → is_marked new.marks (64 * w + i) ≡ not (nat_eq (unsigned_abs (numer_at new (64 * w + i))) 0)
    mark i l h = marks i l ∙ a.marked i l h ∙ ap (λ (z : ℤ). not (nat_eq (unsigned_abs z) 0)) (sym (numer (64 * w + i)))

    abbrev has : Ratio → Bool
    has x = not (nat_eq (unsigned_abs x.num) 0)

    pub word_row : (x y : ℕ) → IsRow x y row → IsRow x y by → (m n : ℕ) → IsRow m n row → IsRow m n new
    word_row x y both is m n was = record {
      count = ap length items ∙ a.count ∙ was.count;
      columns = size ∙ was.columns;
      small = subst (λ z. z < 2 ^ 63) (sym sized) a.small;
      marked = by_column (λ c. is_marked new.marks c ≡ has (numbers_of new c))
          (λ i l h.
          let z : ℤ = numer_at new (64 * w + i) in
          let alike = lowest_alike z (unsigned_abs new.denom) (sized_above new.denom new.above) in
          mark i l h ∙ zero_tests (lowest z (unsigned_abs new.denom)).num z alike.zero ∙ ap has (sym (common_number new stays (64 * w + i))))
          (λ c e f. f ∙ was.marked c ∙ ap has (sym (kept_numbers row new common stays denom c e)));
      inside = by_column (λ c. is_marked new.marks c ≡ true → c + 1 < m) (λ i l h e. let p = column_inside x y both is i l h in let q = both.count in let r = was.count in omega arith) (λ c e f h. was.inside c (sym f ∙ h));
      empty = by_column (λ c. is_marked new.marks c ≡ false → numer_at new c ≡ pos 0) (λ i l h e. sized_zero (numer_at new (64 * w + i)) (sym e ∙ mark i l h)) (λ c e f h. e ∙ was.empty c (sym f ∙ h));
      within = by_column (λ c. unsigned_abs (numer_at new c) ≤ new.size)
          (λ i l h. subst (λ (z : ℤ). unsigned_abs z ≤ new.size) (sym (numer (64 * w + i))) (let p = a.within i l h in omega arith))
          (λ c e f. subst (λ (z : ℤ). unsigned_abs z ≤ new.size) (sym e) (let p = was.within c in let q = a.more in omega arith));
      ascending = λ h. absurd (false≢true (sym h ∙ stays));
      room = room ∙ was.room;
    }

  -- a column takes no more steps than twice the entries that both rows have there
  pub word_steps : count_word (steps_at 1 own other (is_set columns)) ≤ 2 * count_word (λ i. cond (entries_at row (64 * w + i)) 1 0 + cond (entries_at by (64 * w + i)) 1 0)
  word_steps = steps_most row by w own other columns 1 2 mine its (λ i l h. few (is_marked row.marks (64 * w + i)) (is_marked by.marks (64 * w + i)) (of_either i l h))
