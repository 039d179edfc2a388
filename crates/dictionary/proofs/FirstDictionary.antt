-- A dictionary that was loaded is that of the rows' own columns.
use Rattle.std.proofs.Common.{◌≡◌, ℕ, ◌+◌, ◌-◌, ◌<◌, ◌≤◌, ℤ, pos, negsuc, zero, suc, true, false, cond, nat_lt, IsTrue, List, slice_index_or, arith, refl, sym, ◌∙◌, ap, subst}
use Rattle.std.proofs.lemmas.Bool.{lt-ltb, le-ltb}
use Rattle.std.proofs.lemmas.List.Elements.{All-map}
use Rattle.rational.specs.Ratio.{Ratio, IsNumber, IsSame}
use Rattle.rational.specs.Width.{IsReduced}
use Rattle.fraction.specs.Frac.{ratios}
use Rattle.fraction.specs.declared.frac.Frac.{Frac}
use Rattle.fraction.specs.declared.ends.Entry.{Entry}
use Rattle.evidence.specs.Sums.{none}
use Rattle.evidence.specs.Instance.{entry_at}
use Rattle.evidence.specs.Point.{value_at}
use Rattle.evidence.proofs.Columns.{by_lt, pick, none-number, entry-number}
use Rattle.evidence.proofs.Fits.{whole-reduced}
use Rattle.instance.specs.Program.{entry, entries}
use Rattle.instance.proofs.Terms.{ratios-number}
use Rattle.bases.specs.Dictionary.{Entries, AreEntries, IsDictionary}
use Rattle.bases.specs.Program.{is_fresh}
use Rattle.bases.proofs.OwnColumns.{fresh_dictionary}
use Rattle.bases.proofs.Lists.{same_basis}
use Rattle.dictionary.specs.declared.dict.Dict.{Dict}
use Rattle.dictionary.specs.Rows.{numbers_in, IsOverPlaces}
use Rattle.dictionary.specs.Basis.{ArePlaces, entries_by}
use Rattle.dictionary.specs.ProgramRows.{times_sign, program_rows}
use Rattle.dictionary.specs.Dict.{width_of, height_of, basic_of, entry_of, IsLoaded, IsJustLoaded, Holds}
use Rattle.dictionary.proofs.DictParts.{cols, place, past_list}
use Rattle.dictionary.proofs.DictPivots.{beyond_rows, table-reduced}
use Rattle.dictionary.proofs.TurnedTables.{listed, unlisted}

times-number : (factor : ℤ) (x : Ratio) → IsNumber x → IsNumber (times_sign factor x)
times-number (pos zero) x p = none-number
times-number (pos (suc n)) x p = p
times-number (negsuc n) x p = p

pub rows-number : (es : List Entry) (costs : List Frac) (factor : ℤ) (m r j : ℕ) → IsNumber (program_rows es costs factor m r j)
rows-number es costs factor m r j =
    pick IsNumber (nat_lt r m) (entry_at (entries es) r j) (times_sign factor (value_at (ratios costs) j))
    (entry-number (entries es) (All-map (λ e. IsNumber e.value) entry es (λ k d h. (slice_index_or es k d).value.above)) r j)
    (times-number factor (value_at (ratios costs) j) (ratios-number costs j))

fresh_below : (n c : ℕ) → c < n → is_fresh n c ≡ false
fresh_below n c h = rw (lt-ltb c n h) refl

fresh_from : (n c : ℕ) → n ≤ c → is_fresh n c ≡ true
fresh_from n c h = rw (le-ltb c n h) refl

module _ {L : _} {G : _} (f : Dict L G) (A : Entries) (number : (i j : ℕ) → IsNumber (A i j)) (flag : IsTrue f.is_loaded) (told : (r c : ℕ) → r < f.height + 1 → numbers_in f.rows.items r c ≡ A r c) (past : (r c : ℕ) → f.width ≤ c → A r c ≡ none) (at_is : (c : ℕ) → c < f.width + (f.height + 1) → cols f c ≡ c) (place_is : (c : ℕ) → c < f.width + (f.height + 1) → place f c ≡ c) where
  abbrev u : Entries
  u = entries_by f.width (place f) f.rows.items

  -- no entry stands from the rows' columns on
  above : (r c : ℕ) → f.width ≤ c → numbers_in f.rows.items r c ≡ none
  above r c l = by_lt r (f.height + 1) (λ h. told r c h ∙ past r c l) (λ h. beyond_rows f.rows.items r (let n = f.count in omega arith) c)

  over : (r : ℕ) → IsOverPlaces f.width (place f) (numbers_in f.rows.items r)
  over r c h = above r c (by_lt c (f.width + (f.height + 1)) (λ l. let e = place_is c l in omega arith) (λ l. omega arith))

  from : (b c : ℕ) → (f.width ≤ place f b → f.width ≤ c) → u b c ≡ none
  from b c l = by_lt (place f b) f.width (λ h. unlisted f.width (place f) (numbers_in f.rows.items) b c h) (λ h. listed f.width (place f) (numbers_in f.rows.items) b c h ∙ above (place f b - f.width) c (l h))

  begun_entries : AreEntries (f.width + (f.height + 1)) (is_fresh f.width) u
  begun_entries = record {
    reduced = λ b c. pick IsReduced (nat_lt (place f b) f.width) none (numbers_in f.rows.items (place f b - f.width) c) (whole-reduced (pos 0)) (table-reduced (f.width + (f.height + 1)) f.width f.rows.items f.rows_are (place f b - f.width) c);
    past_row = λ b c h. from b c (λ l. let z = past_list f.places.items b (let e = f.places_count in omega arith) in omega arith);
    past_column = λ b c h. from b c (λ l. omega arith);
    unlisted = λ b c t. by_lt b f.width
        (λ h. unlisted f.width (place f) (numbers_in f.rows.items) b c (let e = place_is b (omega arith) in omega arith))
        (λ h. let x : true ≡ false = sym (fresh_from f.width b h) ∙ t in absurd (cc));
    at_basic = λ b c t. from b c (λ l. by_lt c f.width (λ h. let x : false ≡ true = sym (fresh_below f.width c h) ∙ t in absurd (cc)) (λ h. h));
  }

  said : (i j : ℕ) → i < f.height + 1 → j < f.width → IsSame (u (f.width + i) j) (A i j)
  said i j h g =
      let p = place_is (f.width + i) (omega arith) in
      let e : place f (f.width + i) - f.width ≡ i = omega arith in
      subst (λ (v : Ratio). IsSame v (A i j)) (sym (listed f.width (place f) (numbers_in f.rows.items) (f.width + i) j (omega arith) ∙ ap (λ r. numbers_in f.rows.items r j) e ∙ told i j h)) refl

  pub begun_basis : (c : ℕ) → c < f.width + (f.height + 1) → basic_of f c ≡ is_fresh f.width c
  unfolding basic_of
  begun_basis c l = ap (λ k. cond (nat_lt k f.width) false true) (place_is c l)

  begun_loaded : IsLoaded f
  unfolding IsLoaded
  begun_loaded = (flag, record { rows_are = f.rows_are; over = λ r l. over r })

  begun_is : IsDictionary (width_of f) (height_of f + 1) A (basic_of f) (entry_of f)
  unfolding width_of height_of entry_of
  begun_is = same_basis f.width (f.height + 1) A (is_fresh f.width) (basic_of f) u (λ c l. sym (begun_basis c l)) (fresh_dictionary f.width (f.height + 1) A u number begun_entries said)

  pub begun_holds : Holds A f
  begun_holds = record { loaded = begun_loaded; is = begun_is }

-- what was loaded, and had no pivot since
pub first_basis : {L : _} {G : _} (d : Dict L G) (A : Entries) → IsJustLoaded A d → (c : ℕ) → c < d.width + (d.height + 1) → basic_of d c ≡ is_fresh d.width c
unfolding IsJustLoaded basic_of
first_basis d A first c l = ap (λ k. cond (nat_lt k d.width) false true) (first.5 c l)

pub first_holds : {L : _} {G : _} (d : Dict L G) (A : Entries) → IsJustLoaded A d → Holds A d
unfolding IsJustLoaded
first_holds d A first = begun_holds d A first.0 first.1 first.2 first.3 first.4 first.5

pub own_places : (k : ℕ) (at place : ℕ → ℕ) → ((j : ℕ) → j < k → at j ≡ j) → ((c : ℕ) → c < k → place c ≡ c) → ArePlaces k at place
own_places k at place a p = record {
  inside = λ j h. let e = a j h in omega arith;
  stands = λ c h. let e = p c h in omega arith;
  at_place = λ c h. ap at (p c h) ∙ a c h;
  place_at = λ j h. ap place (a j h) ∙ p j h;
}
