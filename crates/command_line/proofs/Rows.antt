-- What `clap` has found of texts that were given, one for each name.
use Rattle.std.proofs.Common.{◌≡◌, ◌∙◌, Bool, true, false, cond, List, [], ◌∷◌, ◌++◌, Option, Some, None, refl, sym, ap}
use Rattle.std.specs.Prelude.{◌||◌, find, is_some, map, option_and_then, option_map, slice_get}
use Rattle.std.specs.List.{list_any}
use Rattle.std.specs.Option.{option_map_or}
use Rattle.std.specs.Str.{bytes_eq}
use Rattle.std.proofs.lemmas.List.{append-nil}
use Rattle.clap.specs.Walk.{Row, Text, at_row, first_of, has_row, more_values, with_values, without}
use Rattle.clap.specs.Facts.{explicit_source}
use Rattle.clap.specs.Takes.{is_given}
use Rattle.clap.specs.declared.builder.value_parser.Reading.TheVariants.{AsWritten}
use Rattle.clap.specs.declared.parser.matches.ValueSource.TheVariants.{CommandLine}
use Rattle.command_line.specs.CommandWords.{Given, given_in}
use Rattle.command_line.proofs.Texts.{true_or_false}

-- what is found of a text
abbrev pub row : Text × Text → Row
row p = record { id = p.0; values = p.1 ∷ []; count = None; source = Some CommandLine; reading = AsWritten }

abbrev pub rows : Given → List Row
rows given = map row given

-- ---- what is found by its name

pub row_is : (given : Given) (name : Text) → find (λ (r : Row). bytes_eq r.id name) (rows given) ≡ option_map row (find (λ (p : Text × Text). bytes_eq p.0 name) given)
row_is [] name = refl
row_is (p ∷ given) name = go (bytes_eq p.0 name) (row_is given name)
  where
    go : (b : Bool) → find (λ (r : Row). bytes_eq r.id name) (rows given) ≡ option_map row (find (λ (q : Text × Text). bytes_eq q.0 name) given) → cond b (Some (row p)) (find (λ (r : Row). bytes_eq r.id name) (rows given)) ≡ option_map row (cond b (Some p) (find (λ (p : Text × Text). bytes_eq p.0 name) given))
    go true rest = refl
    go false rest = rest

first_of_row : (found : Option (Text × Text)) → option_and_then (λ (r : Row). slice_get r.values 0) (option_map row found) ≡ option_map (λ (p : Text × Text). p.1) found
first_of_row None = refl
first_of_row (Some p) = refl

pub first_is : (given : Given) (name : Text) → first_of name (rows given) ≡ given_in given name
first_is given name = ap (option_and_then (λ (r : Row). slice_get r.values 0)) (row_is given name) ∙ first_of_row (find (λ (p : Text × Text). bytes_eq p.0 name) given)

pub is_given_is : (given : Given) (name : Text) → is_given name (rows given) ≡ is_some (given_in given name)
is_given_is [] name = refl
is_given_is (p ∷ given) name = go (bytes_eq p.0 name) (is_given_is given name)
  where
    go : (b : Bool) → is_given name (rows given) ≡ is_some (given_in given name) → option_map_or (λ (r : Row). explicit_source r.source) (cond b (Some (row p)) (find (λ (r : Row). bytes_eq r.id name) (rows given))) false
        ≡ is_some (option_map (λ (p : Text × Text). p.1) (cond b (Some p) (find (λ (p : Text × Text). bytes_eq p.0 name) given)))
    go true rest = refl
    go false rest = rest

pub has_row_is : (given : Given) (name : Text) → has_row name (rows given) ≡ is_some (given_in given name)
has_row_is [] name = refl
has_row_is (p ∷ given) name = go (bytes_eq p.0 name) (has_row_is given name)
  where
    go : (b : Bool) → has_row name (rows given) ≡ is_some (given_in given name) → (b || list_any (λ (r : Row). bytes_eq r.id name) (rows given))
        ≡ is_some (option_map (λ (p : Text × Text). p.1) (cond b (Some p) (find (λ (p : Text × Text). bytes_eq p.0 name) given)))
    go true rest = refl
    go false rest = rest

-- ---- one more text, for a name that has none

at_no_row : (name : Text) (change : Row → List Row) (missing all : List Row) → has_row name all ≡ false → at_row name change missing all ≡ all ++ missing
at_no_row name change missing [] none = refl
at_no_row name change missing (r ∷ all) none = go (bytes_eq r.id name) (at_no_row name change missing all) none
  where
    go : (b : Bool) → (has_row name all ≡ false → at_row name change missing all ≡ all ++ missing) → (b || has_row name all) ≡ false → cond b (change r ++ all) (r ∷ at_row name change missing all) ≡ r ∷ (all ++ missing)
    go true rest none = absurd (true_or_false none)
    go false rest none = ap (λ (l : List Row). r ∷ l) (rest none)

rows_more : (given : Given) (p : Text × Text) → rows (given ++ p ∷ []) ≡ rows given ++ row p ∷ []
rows_more [] p = refl
rows_more (q ∷ given) p = ap (λ (l : List Row). row q ∷ l) (rows_more given p)

-- a text that is used where there is none for its name
pub rows_used : (given : Given) (p : Text × Text) → given_in given p.0 ≡ None
    → with_values p.0 AsWritten CommandLine (p.1 ∷ []) (without p.0 (rows given)) ≡ rows (given ++ p ∷ [])
rows_used given p new =
    let none : has_row p.0 (rows given) ≡ false = has_row_is given p.0 ∙ ap is_some new in
    let same : without p.0 (rows given) ≡ rows given = at_no_row p.0 (λ (r : Row). []) [] (rows given) none ∙ append-nil (rows given) in
    ap (with_values p.0 AsWritten CommandLine (p.1 ∷ [])) same ∙ at_no_row p.0 (more_values CommandLine (p.1 ∷ [])) (row p ∷ []) (rows given) none ∙ sym (rows_more given p)
