-- A row in common form over another denominator.
use Rattle.std.proofs.Common.{◌≡◌, ℕ, ◌^◌, ◌<◌, ◌≤◌, ℤ, pos, true, not, nat_eq, List, length, sym, ◌∙◌, ap, subst}
use Rattle.std.specs.Prelude.{unsigned_abs, slice_index_or}
use Rattle.std.proofs.lemmas.Bool.{false≢true}
use Rattle.rational.specs.Ratio.{Ratio}
use Rattle.marks.specs.declared.marks.Marks.{Marks}
use Rattle.marks.specs.Marks.{is_marked, size_of}
use Rattle.dictionary.specs.declared.fractions.Fractions.{Fractions}
use Rattle.dictionary.specs.declared.row.Row.{Row}
use Rattle.dictionary.specs.Lowest.{lowest}
use Rattle.dictionary.specs.Row.{room_of}
use Rattle.dictionary.specs.Rows.{numbers_of, IsRow}
use Rattle.dictionary.proofs.RowForms.{common_number, lowest_alike, sized_above, zero_tests}

-- whether a number is 0 doesn't depend on its denominator
tests_alike : (z : ℤ) (d e : ℕ) → 0 < d → 0 < e → not (nat_eq (unsigned_abs (lowest z d).num) 0) ≡ not (nat_eq (unsigned_abs (lowest z e).num) 0)
tests_alike z d e ud ue =
    let a = lowest_alike z d ud in
    let b = lowest_alike z e ue in
    zero_tests (lowest z e).num (lowest z d).num ((λ h. a.zero.1 (b.zero.0 h)), (λ h. b.zero.1 (a.zero.0 h)))

module _ {L : _} {G : _} (row new : Row L G) (common : row.is_common ≡ true) (stays : new.is_common ≡ true) (numers : new.numers.items ≡ row.numers.items) (marks : new.marks ≡ row.marks) (size : new.size ≡ row.size) (fractions : new.fractions ≡ row.fractions) where
  same_test : (c : ℕ) → not (nat_eq (unsigned_abs (numbers_of row c).num) 0) ≡ not (nat_eq (unsigned_abs (numbers_of new c).num) 0)
  same_test c =
      let z : ℤ = slice_index_or row.numers.items c (pos 0) in
      ap (λ (x : Ratio). not (nat_eq (unsigned_abs x.num) 0)) (common_number row common c)
      ∙ tests_alike z (unsigned_abs row.denom) (unsigned_abs new.denom) (sized_above row.denom row.above) (sized_above new.denom new.above)
      ∙ sym (ap (λ (x : Ratio). not (nat_eq (unsigned_abs x.num) 0)) (common_number new stays c ∙ ap (λ (xs : List ℤ). lowest (slice_index_or xs c (pos 0)) (unsigned_abs new.denom)) numers))

  pub denom_row : (k n : ℕ) → IsRow k n row → IsRow k n new
  denom_row k n is = record {
    count = ap length numers ∙ is.count;
    columns = ap size_of marks ∙ is.columns;
    small = subst (λ j. j < 2 ^ 63) (sym size) is.small;
    marked = λ c. ap (λ (m : Marks). is_marked m c) marks ∙ is.marked c ∙ same_test c;
    inside = λ c h. is.inside c (sym (ap (λ (m : Marks). is_marked m c) marks) ∙ h);
    empty = λ c h. ap (λ (xs : List ℤ). slice_index_or xs c (pos 0)) numers ∙ is.empty c (sym (ap (λ (m : Marks). is_marked m c) marks) ∙ h);
    within = λ c. subst (λ j. unsigned_abs (slice_index_or new.numers.items c (pos 0)) ≤ j) (sym size) (subst (λ (xs : List ℤ). unsigned_abs (slice_index_or xs c (pos 0)) ≤ row.size) (sym numers) (is.within c));
    ascending = λ h. absurd (false≢true (sym h ∙ stays));
    room = ap (λ (f : Fractions _). room_of f) fractions ∙ is.room;
  }
