-- The words of a command that is built, found by their names and places.
use Rattle.std.proofs.Common.{◌≡◌, ◌∙◌, ◌+◌, ℕ, zero, suc, List, [], ◌∷◌, ◌++◌, Bool, true, false, cond, Option, Some, None, refl, sym, ap, subst, arith}
use Rattle.std.specs.Prelude.{◌||◌, ◌&&◌, is_some, map, not, option_map, slice_get}
use Rattle.std.proofs.Math.Bool.{or-false}
use Rattle.std.specs.Str.{bytes_eq}
use Rattle.std.proofs.lemmas.Bool.{eq-eqb, ne_eqb}
use Rattle.std.proofs.lemmas.Slice.Eq.{bytes_eq-Decides}
use Rattle.clap.specs.Walk.{Rule, Text, arg_by_id, arg_by_index, arg_by_long, arg_by_short, has_long, has_short}
use Rattle.clap.specs.Simple.{Shape, filled, with_index}
use Rattle.command_line.specs.CommandWords.{has_name}
use Rattle.command_line.specs.Forms.{CommandForm, flag_word, named_word, needed_word, shape}
use Rattle.command_line.proofs.Texts.{true_or_false}
use Rattle.command_line.proofs.Flags.{HasHelpAlone, help_flag}

abbrev pub place_rule : ℕ → Text → Rule
place_rule k name = with_index k (filled (needed_word name))

abbrev pub option_rule : Text → Rule
option_rule name = filled (named_word name)

abbrev pub flag_rule : Text → Rule
flag_rule name = filled (flag_word name)

-- words at places, from this one on
abbrev pub places : ℕ → List Text → List Rule
places k [] = []
places k (n ∷ ns) = place_rule k n ∷ places (k + 1) ns

-- words behind names, those that stand alone, and the flag for help
abbrev pub options : (named flags : List Text) → List Rule
options named flags = map option_rule named ++ (map flag_rule flags ++ help_flag ∷ [])

abbrev pub rules_of : CommandForm → List Rule
rules_of f = places 1 f.needed ++ options f.named f.flags

-- a command of this form that is built
abbrev pub leaf : CommandForm → Shape
leaf f = record (shape f) { rules = rules_of f; is_built = true; disable_help_subcommand = true }

-- ---- by a place

no_place : (named flags : List Text) (i : ℕ) → arg_by_index (options named flags) i ≡ None
no_place [] [] i = refl
no_place [] (n ∷ flags) i = no_place [] flags i
no_place (n ∷ named) flags i = no_place named flags i

pub place_at : (ns named flags : List Text) (k j i : ℕ) → i ≡ k + j → arg_by_index (places k ns ++ options named flags) i ≡ option_map (place_rule i) (slice_get ns j)
place_at [] named flags k j i is = no_place named flags i
place_at (n ∷ ns) named flags k zero i is =
    let same : k ≡ i = omega (arith, is) in
    ap (λ (b : Bool). cond b (Some (place_rule k n)) (arg_by_index (places (k + 1) ns ++ options named flags) i)) (eq-eqb k i same) ∙ ap (λ (m : ℕ). Some (place_rule m n)) same
place_at (n ∷ ns) named flags k (suc j) i is =
    ap (λ (b : Bool). cond b (Some (place_rule k n)) (arg_by_index (places (k + 1) ns ++ options named flags) i)) (ne_eqb k i (λ same. omega (arith, is, same)))
    ∙ place_at ns named flags (k + 1) j i (omega (arith, is))

-- ---- by a name

behind_places : (ns named flags : List Text) (k : ℕ) (name : Text) → arg_by_long (places k ns ++ options named flags) name ≡ arg_by_long (options named flags) name
behind_places [] named flags k name = refl
behind_places (n ∷ ns) named flags k name = behind_places ns named flags (k + 1) name

-- words of one kind that are found by their names, before other ones
module _ (rule : Text → Rule) (reads : (n name : Text) → (not (is_some (rule n).index) && has_long (rule n) name) ≡ bytes_eq n name) (rest : List Rule) (name : Text) where
  found_at : (names : List Text) → (has_name names name ≡ true → arg_by_long (map rule names ++ rest) name ≡ Some (rule name)) × (has_name names name ≡ false → arg_by_long (map rule names ++ rest) name ≡ arg_by_long rest name)
  found_at [] = (λ has. absurd (true_or_false (sym has)), λ none. refl)
  found_at (n ∷ names) = subst (λ (t : Bool). ((bytes_eq n name || has_name names name) ≡ true → cond t (Some (rule n)) (arg_by_long (map rule names ++ rest) name) ≡ Some (rule name))
      × ((bytes_eq n name || has_name names name) ≡ false → cond t (Some (rule n)) (arg_by_long (map rule names ++ rest) name) ≡ arg_by_long rest name)) (sym (reads n name)) (go (bytes_eq n name) refl (found_at names))
    where
      go : (b : Bool) → bytes_eq n name ≡ b → (has_name names name ≡ true → arg_by_long (map rule names ++ rest) name ≡ Some (rule name)) × (has_name names name ≡ false → arg_by_long (map rule names ++ rest) name ≡ arg_by_long rest name)
          → ((b || has_name names name) ≡ true → cond b (Some (rule n)) (arg_by_long (map rule names ++ rest) name) ≡ Some (rule name)) × ((b || has_name names name) ≡ false → cond b (Some (rule n)) (arg_by_long (map rule names ++ rest) name) ≡ arg_by_long rest name)
      go true is after = (λ has. ap (λ (t : Text). Some (rule t)) ((bytes_eq-Decides n name).0 is), λ none. absurd (true_or_false none))
      go false is after = after

-- what is found by a name: a word that has it, one that stands alone, or the flag for help
pub data ByName (f : CommandForm) (name : Text) (found : Option Rule) : Type 0 where
  is_option : has_name f.named name ≡ true → found ≡ Some (option_rule name) → ByName f name found
  is_flag : has_name f.flags name ≡ true → found ≡ Some (flag_rule name) → ByName f name found
  is_help : found ≡ cond (has_long help_flag name) (Some help_flag) None → ByName f name found

module _ (f : CommandForm) (name : Text) where
  options_at : (has_name f.named name ≡ true → arg_by_long (options f.named f.flags) name ≡ Some (option_rule name)) × (has_name f.named name ≡ false → arg_by_long (options f.named f.flags) name ≡ arg_by_long (map flag_rule f.flags ++ help_flag ∷ []) name)
  options_at = found_at option_rule (λ n t. or-false (bytes_eq n t)) (map flag_rule f.flags ++ help_flag ∷ []) name f.named

  flags_at : (has_name f.flags name ≡ true → arg_by_long (map flag_rule f.flags ++ help_flag ∷ []) name ≡ Some (flag_rule name)) × (has_name f.flags name ≡ false → arg_by_long (map flag_rule f.flags ++ help_flag ∷ []) name ≡ arg_by_long (help_flag ∷ []) name)
  flags_at = found_at flag_rule (λ n t. or-false (bytes_eq n t)) (help_flag ∷ []) name f.flags

  pub named_rule : has_name f.named name ≡ true → arg_by_long (rules_of f) name ≡ Some (option_rule name)
  named_rule has = behind_places f.needed f.named f.flags 1 name ∙ options_at.0 has

  pub alone_rule : has_name f.named name ≡ false → has_name f.flags name ≡ true → arg_by_long (rules_of f) name ≡ Some (flag_rule name)
  alone_rule other has = behind_places f.needed f.named f.flags 1 name ∙ options_at.1 other ∙ flags_at.0 has

  pub by_name : ByName f name (arg_by_long (rules_of f) name)
  by_name = go (has_name f.named name) (has_name f.flags name) refl refl
    where
      go : (b d : Bool) → has_name f.named name ≡ b → has_name f.flags name ≡ d → ByName f name (arg_by_long (rules_of f) name)
      go true d has flag = is_option has (named_rule has)
      go false true none has = is_flag has (alone_rule none has)
      go false false none neither = is_help (behind_places f.needed f.named f.flags 1 name ∙ options_at.1 none ∙ flags_at.1 neither)

short_behind : (ns named flags : List Text) (k x : ℕ) → arg_by_short (places k ns ++ options named flags) x ≡ cond (has_short help_flag x) (Some help_flag) None
short_behind [] [] [] k x = refl
short_behind [] [] (n ∷ flags) k x = short_behind [] [] flags k x
short_behind [] (n ∷ named) flags k x = short_behind [] named flags k x
short_behind (n ∷ ns) named flags k x = short_behind ns named flags (k + 1) x

pub help_alone : (f : CommandForm) → HasHelpAlone (rules_of f)
help_alone f x = short_behind f.needed f.named f.flags 1 x

-- ---- by an id

-- the word of this id, which takes one text
pub data TakesText (name : Text) : Rule → Type 0 where
  at_place : (k : ℕ) → TakesText name (place_rule k name)
  behind_name : TakesText name (option_rule name)

-- a rule is found by this id that takes one text
pub record IsWord (rules : List Rule) (name : Text) : Type 0 where
  pub rule : Rule
  pub found : arg_by_id rules name ≡ Some rule
  pub takes : TakesText name rule

passed : (rules : List Rule) (name : Text) (a : Rule) → bytes_eq a.id name ≡ false → IsWord rules name → IsWord (a ∷ rules) name
passed rules name a other word = record { rule = word.rule; found = ap (λ (b : Bool). cond b (Some a) (arg_by_id rules name)) other ∙ word.found; takes = word.takes }

met : (rules : List Rule) (n name : Text) (a : Text → Rule) → ((t : Text) → TakesText t (a t)) → bytes_eq (a n).id name ≡ true → n ≡ name → IsWord (a n ∷ rules) name
met rules n name a takes is same = record {
  rule = a name;
  found = ap (λ (b : Bool). cond b (Some (a n)) (arg_by_id rules name)) is ∙ ap (λ (t : Text). Some (a t)) same;
  takes = takes name;
}

pub option_word_is : (named flags : List Text) (name : Text) → has_name named name ≡ true → IsWord (options named flags) name
option_word_is [] flags name has = absurd (true_or_false (sym has))
option_word_is (n ∷ named) flags name has = go (bytes_eq n name) refl (option_word_is named flags name) has
  where
    go : (b : Bool) → bytes_eq n name ≡ b → (has_name named name ≡ true → IsWord (options named flags) name) → (b || has_name named name) ≡ true → IsWord (options (n ∷ named) flags) name
    go true is rest has = met (options named flags) n name option_rule (λ t. behind_name) is ((bytes_eq-Decides n name).0 is)
    go false is rest has = passed (options named flags) name (option_rule n) is (rest has)

pub word_is : (ns named flags : List Text) (k : ℕ) (name : Text) → (has_name ns name || has_name named name) ≡ true → IsWord (places k ns ++ options named flags) name
word_is [] named flags k name has = option_word_is named flags name has
word_is (n ∷ ns) named flags k name has = go (bytes_eq n name) refl (word_is ns named flags (k + 1) name) has
  where
    go : (b : Bool) → bytes_eq n name ≡ b → ((has_name ns name || has_name named name) ≡ true → IsWord (places (k + 1) ns ++ options named flags) name) → ((b || has_name ns name) || has_name named name) ≡ true → IsWord (places k (n ∷ ns) ++ options named flags) name
    go true is rest has = met (places (k + 1) ns ++ options named flags) n name (place_rule k) (λ t. at_place k) is ((bytes_eq-Decides n name).0 is)
    go false is rest has = passed (places (k + 1) ns ++ options named flags) name (place_rule k n) is (rest has)
