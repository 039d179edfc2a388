-- What is held of texts that were given, and when they are used.
use Rattle.std.proofs.Common.{◌≡◌, ◌∙◌, Bool, true, false, cond, List, [], ◌∷◌, ◌++◌, Option, Some, None, refl, sym, ap, subst}
use Rattle.std.specs.Prelude.{◌||◌, ◌&&◌, is_some, not, option_map}
use Rattle.std.specs.Option.{option_map_or}
use Rattle.std.proofs.lemmas.List.{append-nil}
use Rattle.clap.specs.Kinds.{or_else}
use Rattle.clap.specs.Walk.{Held, Row, Rule, Text, has_row, settled, used, used_by_id, with_values, without}
use Rattle.clap.specs.Faults.{settle_fault, use_fault}
use Rattle.clap.specs.declared.builder.value_parser.Reading.TheVariants.{AsWritten}
use Rattle.clap.specs.declared.parser.matches.ValueSource.TheVariants.{CommandLine}
use Rattle.clap.specs.declared.error.kind.ErrorKind.TheVariants.{ArgumentConflict}
use Rattle.command_line.specs.CommandWords.{AreNew, Given, given_in, has_name}
use Rattle.command_line.specs.Forms.{CommandForm}
use Rattle.command_line.proofs.Texts.{true_or_false}
use Rattle.command_line.proofs.Flags.{some_fault}
use Rattle.command_line.proofs.Rows.{has_row_is, rows, rows_used}
use Rattle.command_line.proofs.Rules.{IsWord, TakesText, at_place, behind_name, flag_rule, rules_of, word_is}

-- the last text that was given, where it isn't used yet
abbrev pub Last : Type 0
Last = Option (Text × Text)

abbrev pub pending_of : Last → Option (Text × List Text)
pending_of last = option_map (λ (p : Text × Text). (p.0, p.1 ∷ [])) last

-- what is held of these texts, which are used, and of the last one
abbrev pub held : Given → Last → Held
held past last = record { rows = rows past; pending = pending_of last; skip = 0 }

abbrev pub last_of : Last → Given
last_of None = []
last_of (Some p) = p ∷ []

-- the last text is of a word of the form
abbrev pub IsOwn : CommandForm → Last → Type 0
IsOwn f None = Unit {0}
IsOwn f (Some p) = (has_name f.needed p.0 || has_name f.named p.0) ≡ true

-- the use of a text: of the word's own where it stands alone, else of those that were given
pub record IsUse (p : Text × Text) (values : List Text) (a : Rule) : Type 0 where
  faults : (all : List Row) → use_fault false a values all ≡ or_else (cond (has_row p.0 all && not false) (ArgumentConflict ∷ []) []) []
  added : (all : List Row) → used a values all ≡ with_values p.0 AsWritten CommandLine (p.1 ∷ []) (without p.0 all)

pub text_use : (name text : Text) (a : Rule) → TakesText name a → IsUse (name, text) (text ∷ []) a
text_use name text a (at_place k) = record { faults = λ all. refl; added = λ all. refl }
text_use name text a behind_name = record { faults = λ all. refl; added = λ all. refl }

pub flag_use : (name : Text) → IsUse (name, name) [] (flag_rule name)
flag_use name = record { faults = λ all. refl; added = λ all. refl }

conflict_or_none : (has : Bool) → or_else (cond (has && not false) (ArgumentConflict ∷ []) []) [] ≡ [] → has ≡ false
conflict_or_none true none = absurd (some_fault _ _ none)
conflict_or_none false none = refl

no_conflict : (has : Bool) → has ≡ false → or_else (cond (has && not false) (ArgumentConflict ∷ []) []) [] ≡ []
no_conflict true none = absurd (true_or_false none)
no_conflict false none = refl

none_is : (found : Option Text) → is_some found ≡ false → found ≡ None
none_is None none = refl
none_is (Some text) none = absurd (true_or_false none)

module _ (past : Given) (p : Text × Text) (values : List Text) (a : Rule) (uses : IsUse p values a) where
  -- it passes where there is none for its name, and only there
  pub use_passes : given_in past p.0 ≡ None → use_fault false a values (rows past) ≡ []
  use_passes new = uses.faults (rows past) ∙ no_conflict _ (has_row_is past p.0 ∙ ap is_some new)

  pub use_is_new : use_fault false a values (rows past) ≡ [] → given_in past p.0 ≡ None
  use_is_new none = none_is _ (sym (has_row_is past p.0) ∙ conflict_or_none _ (sym (uses.faults (rows past)) ∙ none))

  pub used_rows : given_in past p.0 ≡ None → used a values (rows past) ≡ rows (past ++ p ∷ [])
  used_rows new = uses.added (rows past) ∙ rows_used past p new

module _ (f : CommandForm) where
  pub own_word : (name : Text) → (has_name f.needed name || has_name f.named name) ≡ true → IsWord (rules_of f) name
  own_word name own = word_is f.needed f.named f.flags 1 name own

  -- the last text is used without a fault where it is new, and only there
  pub settle_passes : (past : Given) (last : Last) → IsOwn f last → AreNew past (last_of last) → settle_fault (rules_of f) false (held past last) ≡ []
  settle_passes past None own new = refl
  settle_passes past (Some p) own new =
      let word = own_word p.0 own in
      ap (λ (a : Option Rule). option_map_or (λ (b : Rule). use_fault false b (p.1 ∷ []) (rows past)) a []) word.found ∙ use_passes past p (p.1 ∷ []) word.rule (text_use p.0 p.1 word.rule word.takes) new.0

  pub settle_is_new : (past : Given) (last : Last) → IsOwn f last → settle_fault (rules_of f) false (held past last) ≡ [] → AreNew past (last_of last)
  settle_is_new past None own none = tt
  settle_is_new past (Some p) own none =
      let word = own_word p.0 own in
      (use_is_new past p (p.1 ∷ []) word.rule (text_use p.0 p.1 word.rule word.takes) (subst (λ (a : Option Rule). option_map_or (λ (b : Rule). use_fault false b (p.1 ∷ []) (rows past)) a [] ≡ []) word.found none), tt)

  pub settles : (past : Given) (last : Last) → IsOwn f last → AreNew past (last_of last) → settled (rules_of f) (held past last) ≡ held (past ++ last_of last) None
  settles past None own new = ap (λ (given : Given). held given None) (sym (append-nil past))
  settles past (Some p) own new =
      let word = own_word p.0 own in
      ap (λ (all : List Row). record (held past None) { rows = all })
      (ap (λ (a : Option Rule). used_by_id a (p.1 ∷ []) (rows past)) word.found ∙ used_rows past p (p.1 ∷ []) word.rule (text_use p.0 p.1 word.rule word.takes) new.0)
