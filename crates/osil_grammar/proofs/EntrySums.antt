-- One entry more among the sums of those before it.
use Rattle.osil_grammar.proofs.Words.{◌≡◌, ℕ, ◌+◌, ◌/◌, ◌<◌, ◌≤◌, false, nat_eq, cond, pos, ◌+ℤ◌, List, [], ◌∷◌, ◌++◌, length, get_or, take, drop, arith, refl, sym, ◌∙◌, ap, subst, ⊎_elim, inl, inr, ◌&&◌, ◌⊎◌, unsigned_abs, All, div-one, ints, ne_eqb, and_left, and_right, cases_eq, set, append_assoc, map_push, map-append, take_all, take_more, take-append-drop, drop_more, set_at, length-take-le, All-weaker, All-map, Ratio, sum, IsNumber, IsSame, left_term, right_term, AreFourWithin, SumFits, IsSame-trans, IsSame-sum, sum-number, none-sum, sums_same, whole-reduced, ratio, Frac, Entry, IsBefore, entry, entries, place_sum, HasWidePlace, Follow, IsNotBehind, IsInOrder, IsRising, AreSumsAt, AreJoined}
use Rattle.rational.specs.Width.{most}
use Rattle.rational.proofs.CommonDivisors.{one_divides}
use Rattle.evidence.specs.Sums as evidence
use Rattle.evidence.specs.Instance as Of
use Rattle.fraction.proofs.Sums.{sum_fits}
use Rattle.osil_grammar.proofs.Places.{is_at, entry_at-push_other, entry_at-push_here, entry_at-nowhere, place_sum-push, place_sum-number, IsWideFrom, wide_push, is_at-same, is_at-own, apart}
use Rattle.osil_grammar.proofs.EntryOrder.{all_before_last, before_alike, before_or_same, all_change, all_behind_one}

-- 0 and a fraction have a sum that fits
parts_within : (x : Ratio) → unsigned_abs x.num ≤ most → x.den ≤ most → AreFourWithin evidence.none x 1 1
parts_within x num den =
    let whole : x.den / 1 ≡ x.den = div-one x.den in
    let left : left_term evidence.none x 1 ≡ pos 0 = omega (arith, ints) in
    let right : right_term evidence.none x 1 ≡ x.num = omega (arith, ints) in
    let total : left_term evidence.none x 1 +ℤ right_term evidence.none x 1 ≡ x.num = omega (arith, ints) in
    record {
      left = subst (λ z. unsigned_abs z ≤ most) (sym left) (omega arith);
      right = subst (λ z. unsigned_abs z ≤ most) (sym right) num;
      total = subst (λ z. unsigned_abs z ≤ most) (sym total) num;
      below = omega arith;
    }

pub none_fits : (f : Frac) → SumFits evidence.none (ratio f)
none_fits f =
    sum_fits evidence.none (ratio f) 1 1 (whole-reduced (pos 0)) (f.above, f.reduced)
    (one_divides 1, one_divides f.denom, λ d p q. p)
    (one_divides (unsigned_abs (left_term evidence.none (ratio f) 1 +ℤ right_term evidence.none (ratio f) 1)), one_divides 1, λ d p q. q)
    (parts_within (ratio f) f.numer_within f.denom_within)

others_apart : (es : List Entry) (x : Entry) → IsRising (es ++ x ∷ []) → All (λ e. is_at x.row x.col e ≡ false) (entries es)
others_apart es x r = All-map (λ e. is_at x.row x.col e ≡ false) entry es (All-weaker (λ e. IsBefore e x) (λ e. is_at x.row x.col (entry e) ≡ false) (λ e h. apart e x h) es (all_before_last es x r))

-- which place it is
place_cases : (i j : ℕ) (x : Entry) → ((i ≡ x.row) × (j ≡ x.col)) ⊎ (is_at i j (entry x) ≡ false)
place_cases i j x =
    ⊎_elim
    (λ p. ⊎_elim (λ q. inl (sym p, sym q)) (λ q. inr (and_right (nat_eq x.row i) (nat_eq x.col j) (ne_eqb x.col j q))) (cases_eq x.col j))
    (λ p. inr (and_left (nat_eq x.row i) (nat_eq x.col j) (ne_eqb x.row i p)))
    (cases_eq x.row i)

-- the sums with one entry more, where the sums stay at the other places and its own is so
module _ (before old new : List Entry) (x : Entry) where
  more_at : ((i j : ℕ) → is_at i j (entry x) ≡ false → IsSame (Of.entry_at (entries new) i j) (place_sum evidence.none (entries before) i j)) → IsSame (Of.entry_at (entries new) x.row x.col) (sum (place_sum evidence.none (entries before) x.row x.col) (ratio x.value)) → (i j : ℕ) → IsSame (Of.entry_at (entries new) i j) (place_sum evidence.none (entries (before ++ x ∷ [])) i j)
  more_at others own i j =
      let pushed : entries (before ++ x ∷ []) ≡ entries before ++ entry x ∷ [] = map_push entry before x in
      let summed : (i j : ℕ) → place_sum evidence.none (entries (before ++ x ∷ [])) i j ≡ cond (is_at i j (entry x)) (sum (place_sum evidence.none (entries before) i j) (ratio x.value)) (place_sum evidence.none (entries before) i j) = λ i j. ap (λ l. place_sum evidence.none l i j) pushed ∙ place_sum-push evidence.none (entries before) (entry x) i j in
      ⊎_elim
      (λ here.
      let there : place_sum evidence.none (entries (before ++ x ∷ [])) x.row x.col ≡ sum (place_sum evidence.none (entries before) x.row x.col) (ratio x.value) = summed x.row x.col ∙ ap (λ b. cond b (sum (place_sum evidence.none (entries before) x.row x.col) (ratio x.value)) (place_sum evidence.none (entries before) x.row x.col)) (is_at-own (entry x)) in
      let at_x : IsSame (Of.entry_at (entries new) x.row x.col) (place_sum evidence.none (entries (before ++ x ∷ [])) x.row x.col) = subst (λ s. IsSame (Of.entry_at (entries new) x.row x.col) s) (sym there) own in
      subst (λ k. IsSame (Of.entry_at (entries new) k j) (place_sum evidence.none (entries (before ++ x ∷ [])) k j)) (sym here.0)
      (subst (λ k. IsSame (Of.entry_at (entries new) x.row k) (place_sum evidence.none (entries (before ++ x ∷ [])) x.row k)) (sym here.1) at_x))
      (λ off.
      let there : place_sum evidence.none (entries (before ++ x ∷ [])) i j ≡ place_sum evidence.none (entries before) i j = summed i j ∙ ap (λ b. cond b (sum (place_sum evidence.none (entries before) i j) (ratio x.value)) (place_sum evidence.none (entries before) i j)) off in
      subst (λ s. IsSame (Of.entry_at (entries new) i j) s) (sym there) (others i j off))
      (place_cases i j x)

none_number : IsNumber evidence.none
none_number = omega arith

-- it stands behind them, at a new place
pub joined_new : (before old rest : List Entry) (x : Entry) → AreSumsAt (entries before) old → IsInOrder (old ++ x ∷ rest) → IsRising (old ++ x ∷ []) → AreJoined before (old ++ x ∷ []) x rest
joined_new before old rest x at order rise =
    let place = place_sum evidence.none (entries before) x.row x.col in
    let number : IsNumber place = place_sum-number evidence.none before x.row x.col none_number in
    let pushed : entries (old ++ x ∷ []) ≡ entries old ++ entry x ∷ [] = map_push entry old x in
    let nothing : Of.entry_at (entries old) x.row x.col ≡ evidence.none = entry_at-nowhere (entries old) x.row x.col (others_apart old x rise) in
    let empty : IsSame evidence.none place = subst (λ s. IsSame s place) nothing (at.sums x.row x.col) in
    let own : Of.entry_at (entries (old ++ x ∷ [])) x.row x.col ≡ ratio x.value = ap (λ l. Of.entry_at l x.row x.col) pushed ∙ entry_at-push_here (entries old) (entry x) x.row x.col (others_apart old x rise) (is_at-own (entry x)) in
    let added : IsSame (ratio x.value) (sum place (ratio x.value)) = subst (λ s. IsSame s (sum place (ratio x.value))) (none-sum (ratio x.value)) (IsSame-sum evidence.none place (ratio x.value) empty) in
    record {
      sums = record {
        rising = rise;
        sums = more_at before old (old ++ x ∷ []) x
            (λ i j off. subst (λ s. IsSame s (place_sum evidence.none (entries before) i j)) (sym (ap (λ l. Of.entry_at l i j) pushed ∙ entry_at-push_other (entries old) (entry x) i j off)) (at.sums i j))
            (subst (λ s. IsSame s (sum place (ratio x.value))) (sym own) added);
      };
      order = subst IsInOrder (sym (append_assoc old (x ∷ []) rest)) order;
      fits = sums_same evidence.none (ratio x.value) place (ratio x.value) number x.value.above empty refl (none_fits x.value);
    }

-- it stands at the place of the last of them, which has their sum
pub record IsMerged (last x merged : Entry) : Type 0 where
  pub same_row : last.row ≡ x.row
  pub same_col : last.col ≡ x.col
  pub row : merged.row ≡ x.row
  pub col : merged.col ≡ x.col

follow_same : (a b : Entry) (rest : List Entry) → b.row ≡ a.row → b.col ≡ a.col → Follow IsNotBehind a rest → Follow IsNotBehind b rest
follow_same a b [] p q f = tt
follow_same a b (c ∷ rest) p q f = (λ h. f.0 (before_alike c b c a refl refl p q h), f.1)

at_place : (es : List Entry) (last x : Entry) → last.row ≡ x.row → last.col ≡ x.col → IsRising (es ++ last ∷ []) → Of.entry_at (entries (es ++ last ∷ [])) x.row x.col ≡ ratio last.value
at_place es last x row col rise =
    let own : Of.entry_at (entries (es ++ last ∷ [])) last.row last.col ≡ ratio last.value = ap (λ l. Of.entry_at l last.row last.col) (map_push entry es last) ∙ entry_at-push_here (entries es) (entry last) last.row last.col (others_apart es last rise) (is_at-own (entry last)) in
    subst (λ k. Of.entry_at (entries (es ++ last ∷ [])) k x.col ≡ ratio last.value) row (subst (λ k. Of.entry_at (entries (es ++ last ∷ [])) last.row k ≡ ratio last.value) col own)

elsewhere : (es : List Entry) (last x : Entry) (i j : ℕ) → last.row ≡ x.row → last.col ≡ x.col → is_at i j (entry x) ≡ false → Of.entry_at (entries (es ++ last ∷ [])) i j ≡ Of.entry_at (entries es) i j
elsewhere es last x i j row col off =
    ap (λ l. Of.entry_at l i j) (map_push entry es last)
    ∙ entry_at-push_other (entries es) (entry last) i j (ap (λ k. nat_eq k i && nat_eq last.col j) row ∙ ap (λ k. nat_eq x.row i && nat_eq k j) col ∙ off)

pub joined_same : (before es rest : List Entry) (last x merged : Entry) → AreSumsAt (entries before) (es ++ last ∷ []) → IsInOrder ((es ++ last ∷ []) ++ x ∷ rest) → IsMerged last x merged → IsSame (ratio merged.value) (sum (ratio last.value) (ratio x.value)) → SumFits (ratio last.value) (ratio x.value) → AreJoined before (es ++ merged ∷ []) x rest
joined_same before es rest last x merged at order m same fits =
    let place = place_sum evidence.none (entries before) x.row x.col in
    let number : IsNumber place = place_sum-number evidence.none before x.row x.col none_number in
    let was : IsSame (ratio last.value) place = subst (λ s. IsSame s place) (at_place es last x m.same_row m.same_col at.rising) (at.sums x.row x.col) in
    let rise : IsRising (es ++ merged ∷ []) = all_change IsBefore last merged [] [] (λ a h. before_alike a last a merged refl refl (m.same_row ∙ sym m.row) (m.same_col ∙ sym m.col) h) (λ f. f) es at.rising in
    let added : IsSame (ratio merged.value) (sum place (ratio x.value)) = IsSame-trans (ratio merged.value) (sum (ratio last.value) (ratio x.value)) (sum place (ratio x.value)) (sum-number (ratio last.value) (ratio x.value) last.value.above x.value.above) same (IsSame-sum (ratio last.value) place (ratio x.value) was) in
    record {
      sums = record {
        rising = rise;
        sums = more_at before (es ++ last ∷ []) (es ++ merged ∷ []) x
            (λ i j off. subst (λ s. IsSame s (place_sum evidence.none (entries before) i j)) (elsewhere es last x i j m.same_row m.same_col off ∙ sym (elsewhere es merged x i j m.row m.col off)) (at.sums i j))
            (subst (λ s. IsSame s (sum place (ratio x.value))) (sym (at_place es merged x m.row m.col rise)) added);
      };
      order = subst IsInOrder (sym (append_assoc es (merged ∷ []) rest))
          (all_change IsNotBehind last merged (x ∷ rest) rest (λ a h b. h (before_alike merged a last a (m.row ∙ sym m.same_row) (m.col ∙ sym m.same_col) refl refl b)) (λ f. follow_same x merged rest m.row m.col f.1) es (subst IsInOrder (append_assoc es (last ∷ []) (x ∷ rest)) order));
      fits = sums_same (ratio last.value) (ratio x.value) place (ratio x.value) number x.value.above was refl fits;
    }

-- or that sum doesn't fit
pub joined_wide : (before es : List Entry) (last x : Entry) → AreSumsAt (entries before) (es ++ last ∷ []) → last.row ≡ x.row → last.col ≡ x.col → (SumFits (ratio last.value) (ratio x.value) → ⊥) → SumFits (place_sum evidence.none (entries before) x.row x.col) (ratio x.value) → ⊥
joined_wide before es last x at row col wide fits =
    let place = place_sum evidence.none (entries before) x.row x.col in
    let was : IsSame (ratio last.value) place = subst (λ s. IsSame s place) (at_place es last x row col at.rising) (at.sums x.row x.col) in
    wide (sums_same place (ratio x.value) (ratio last.value) (ratio x.value) last.value.above x.value.above (sym was) refl fits)

-- by the code's last one
split_last : (es : List Entry) (n : ℕ) (last : Entry) → n + 1 ≡ length es → last ≡ get_or es n last → es ≡ take n es ++ last ∷ []
split_last es n last size is = sym (take_all (n + 1) es (omega arith)) ∙ take_more es n last (omega arith) ∙ ap (λ e. take n es ++ e ∷ []) (sym is)

nothing_in : (es : List Entry) → length es ≡ 0 → es ≡ []
nothing_in [] size = refl
nothing_in (e ∷ es) size = absurd (omega arith)

pub joined_first : (before old rest : List Entry) (x : Entry) → AreSumsAt (entries before) old → IsInOrder (old ++ x ∷ rest) → length old ≡ 0 → AreJoined before (old ++ x ∷ []) x rest
joined_first before old rest x at order size = joined_new before old rest x at order (subst (λ l. IsRising (l ++ x ∷ [])) (sym (nothing_in old size)) tt)

rise_more : (es : List Entry) (last x : Entry) → IsRising (es ++ last ∷ []) → IsBefore last x → IsRising ((es ++ last ∷ []) ++ x ∷ [])
rise_more es last x rise h =
    subst IsRising (sym (append_assoc es (last ∷ []) (x ∷ []))) (all_change IsBefore last last [] (x ∷ []) (λ a p. p) (λ f. (h, tt)) es rise)

pub joined_behind : (before old rest : List Entry) (x last : Entry) (n : ℕ) → AreSumsAt (entries before) old → IsInOrder (old ++ x ∷ rest) → n + 1 ≡ length old → last ≡ get_or old n last → ((last.row ≡ x.row) × (last.col ≡ x.col) → ⊥) → AreJoined before (old ++ x ∷ []) x rest
joined_behind before old rest x last n at order size is apart =
    let split : old ≡ take n old ++ last ∷ [] = split_last old n last size is in
    let next : Follow IsNotBehind last (x ∷ rest) = all_behind_one IsNotBehind last (x ∷ rest) (take n old) (subst IsInOrder (append_assoc (take n old) (last ∷ []) (x ∷ rest)) (subst (λ l. IsInOrder (l ++ x ∷ rest)) split order)) in
    let rise : IsRising ((take n old ++ last ∷ []) ++ x ∷ []) = rise_more (take n old) last x (subst IsRising split at.rising) (before_or_same last x next.0 apart) in
    joined_new before old rest x at order (subst (λ l. IsRising (l ++ x ∷ [])) (sym split) rise)

pub joined_at : (before old rest : List Entry) (x last : Entry) (total : Frac) (n : ℕ) → AreSumsAt (entries before) old → IsInOrder (old ++ x ∷ rest) → n + 1 ≡ length old → last ≡ get_or old n last → last.row ≡ x.row → last.col ≡ x.col → IsSame (ratio total) (sum (ratio last.value) (ratio x.value)) → SumFits (ratio last.value) (ratio x.value) → AreJoined before (set old n (record { row = last.row; col = last.col; value = total })) x rest
joined_at before old rest x last total n at order size is row col same fits =
    let merged : Entry = record { row = last.row; col = last.col; value = total } in
    let split : old ≡ take n old ++ last ∷ [] = split_last old n last size is in
    let changed : set old n merged ≡ take n old ++ merged ∷ [] = ap (λ l. set l n merged) split ∙ set_at (take n old) last [] merged n (length-take-le n old (omega arith)) in
    subst (λ l. AreJoined before l x rest) (sym changed)
    (joined_same before (take n old) rest last x merged (subst (λ l. AreSumsAt (entries before) l) split at) (subst (λ l. IsInOrder (l ++ x ∷ rest)) split order) (record { same_row = row; same_col = col; row = row; col = col }) same fits)

pub wide_there : (before old : List Entry) (x last : Entry) (n : ℕ) → AreSumsAt (entries before) old → n + 1 ≡ length old → last ≡ get_or old n last → last.row ≡ x.row → last.col ≡ x.col → (SumFits (ratio last.value) (ratio x.value) → ⊥) → SumFits (place_sum evidence.none (entries before) x.row x.col) (ratio x.value) → ⊥
wide_there before old x last n at size is row col wide =
    joined_wide before (take n old) last x (subst (λ l. AreSumsAt (entries before) l) (split_last old n last size is) at) row col wide

-- all entries, one after another
middle : (es : List Entry) (k : ℕ) (x : Entry) → k < length es → x ≡ get_or es k x → es ≡ take k es ++ x ∷ drop (k + 1) es
middle es k x inside is = sym (take-append-drop k es) ∙ ap (λ l. take k es ++ l) (drop_more es k x inside) ∙ ap (λ e. take k es ++ e ∷ drop (k + 1) es) (sym is)

pub next_in_order : (out es : List Entry) (k : ℕ) (x : Entry) → k < length es → x ≡ get_or es k x → IsInOrder (out ++ drop k es) → IsInOrder (out ++ x ∷ drop (k + 1) es)
next_in_order out es k x inside is order = subst (λ l. IsInOrder (out ++ l)) (drop_more es k x inside ∙ ap (λ e. e ∷ drop (k + 1) es) (sym is)) order

one_more_taken : (es : List Entry) (k : ℕ) (x : Entry) → k < length es → x ≡ get_or es k x → take (k + 1) es ≡ take k es ++ x ∷ []
one_more_taken es k x inside is = take_more es k x inside ∙ ap (λ e. take k es ++ e ∷ []) (sym is)

pub wide_place : (es : List Entry) (k : ℕ) (x : Entry) → k < length es → x ≡ get_or es k x → (SumFits (place_sum evidence.none (entries (take k es)) x.row x.col) (ratio x.value) → ⊥) → HasWidePlace (entries es)
wide_place es k x inside is wide = record {
  before = entries (take k es);
  entry = entry x;
  after = entries (drop (k + 1) es);
  split = ap entries (middle es k x inside is) ∙ map-append entry (take k es) (x ∷ drop (k + 1) es);
  wide = wide;
}

pub more_sums : (es out : List Entry) (k : ℕ) (x : Entry) (rest : List Entry) → k < length es → x ≡ get_or es k x → AreJoined (take k es) out x rest → AreSumsAt (entries (take (k + 1) es)) out
more_sums es out k x rest inside is j = subst (λ l. AreSumsAt (entries l) out) (sym (one_more_taken es k x inside is)) j.sums

pub more_fit : (es out : List Entry) (k : ℕ) (x : Entry) (rest : List Entry) → k < length es → x ≡ get_or es k x → AreJoined (take k es) out x rest → ((i j : ℕ) → IsWideFrom evidence.none (entries (take k es)) i j → ⊥) → (i j : ℕ) → IsWideFrom evidence.none (entries (take (k + 1) es)) i j → ⊥
more_fit es out k x rest inside is joined fit i j wide =
    let so_far : List Of.Entry = entries (take k es) in
    ⊎_elim
    (λ before. fit i j before)
    (λ here.
    let same = is_at-same i j (entry x) here.0 in
    here.1 (subst (λ n. SumFits (place_sum evidence.none so_far i n) (ratio x.value)) same.1 (subst (λ n. SumFits (place_sum evidence.none so_far n x.col) (ratio x.value)) same.0 joined.fits)))
    (wide_push evidence.none so_far (entry x) i j (subst (λ l. IsWideFrom evidence.none l i j) (ap entries (one_more_taken es k x inside is) ∙ map_push entry (take k es) x) wide))
