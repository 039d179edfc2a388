-- Which command words name, and what it makes of the words behind it.
use Rattle.std.proofs.Common.{◌≡◌, ◌∙◌, ◌+◌, ◌<◌, ◌≤◌, ℕ, ◌⊎◌, zero, suc, List, [], ◌∷◌, ◌++◌, length, get_or, Bool, true, false, cond, not, Option, Some, None, inl, inr, refl, sym, ap, ap₂, subst, arith}
use Rattle.std.specs.Prelude.{◌||◌, ◌&&◌, codes, drop, find, fold, is_some, map, nat_le, option_map, slice_get}
use Rattle.std.specs.List.{list_all, list_any, zip}
use Rattle.std.specs.Str.{bytes_eq}
use Rattle.std.proofs.lemmas.List.{append_assoc, get_or_default}
use Rattle.std.proofs.lemmas.Bool.{leb-true}
use Rattle.std.proofs.lemmas.Option.{none-some}
use Rattle.std.proofs.lemmas.Slice.Eq.{bytes_eq-Decides}
use Rattle.clap.specs.Kinds.{Kinds, or_else}
use Rattle.clap.specs.Lexer.{has_byte}
use Rattle.clap.specs.Walk.{Held, Names, Row, Rule, Step, Text, Walk, answers_to, finished, idle, nothing_held, rows_after, settled, default_rows, has_row, is_empty, reading_by, stop_after, subcommand_or_other, walk, walk_from, walked, with_default, has_long}
use Rattle.clap.specs.Simple.{App, Shape, built, built_leaf, entered, help_shape, inherited, names_of, new_shape}
use Rattle.clap.specs.Takes.{is_given}
use Rattle.clap.specs.Faults.{built_fault, check_fault, default_fault, defaults_fault, entered_fault, given_default_fault, level_fault, long_fault, other_fault, settle_fault, step_fault, turn_fault, walk_fault}
use Rattle.clap.specs.declared.error.kind.ErrorKind.TheVariants.{MissingRequiredArgument}
use Rattle.clap.proofs.FaultLemmas.{stopped_fault}
use Rattle.clap.proofs.OnLiterals.{clap_on_literals}
use Rattle.clap.proofs.WalkLemmas.{both, walk_stopped}
use Rattle.command_line.specs.CommandWords.{AreNew, Give, Given, AreWordsOf, given_in, has_name}
use Rattle.command_line.specs.CommandWords as giving
use Rattle.command_line.specs.Forms.{CommandForm, forms, program_form}
use Rattle.command_line.specs.Words.{Command, command_asked, asked_with, asks}
use Rattle.std.proofs.Math.Bool.{or-true}
use Rattle.std.proofs.lemmas.List.Folds.{list_any-append}
use Rattle.clap.proofs.SimpleLemmas.{is_false}
use Rattle.command_line.proofs.Texts.{true_or_false}
use Rattle.command_line.proofs.Flags.{HasHelpAlone, IsName, Tells, dashes, first_none, goes_to_place, help_flag, is_dashes, is_long, is_value, next_none, no_flag, some_fault, tells}
use Rattle.command_line.proofs.Rows.{first_is, is_given_is, rows}
use Rattle.command_line.proofs.Rules.{flag_rule, leaf, option_rule, options, place_rule, places, rules_of}
use Rattle.command_line.proofs.TextUses.{held}
use Rattle.command_line.proofs.Walks.{Gives, IsForm, Needs, at, end, gives, may_give}
use Rattle.command_line.proofs.TextsGiven.{AreApart, AreFree, AreGiven, Ended, IsApart, Lacks, said}

-- ---- the names of a form

abbrev pub is_name : Text → Bool
is_name [] = false
is_name (x ∷ rest) = not (has_byte 61 (x ∷ rest))

abbrev pub is_apart : Text → List Text → Bool
is_apart name names = list_all (λ n. not (bytes_eq name n)) names

abbrev pub are_apart : List Text → Bool
are_apart [] = true
are_apart (name ∷ names) = is_apart name names && are_apart names

abbrev pub is_fit : CommandForm → Bool
is_fit f = list_all is_name (f.named ++ f.flags) && (list_all (λ n. is_apart n f.needed) (f.named ++ f.flags) && (list_all (λ n. not (has_name f.named n)) f.flags && (are_apart f.needed && nat_le (length f.needed) 15)))

name_of : (name : Text) → is_name name ≡ true → IsName name
name_of [] is = absurd (true_or_false (sym is))
name_of (x ∷ rest) is = record { first = x; more = rest; is = refl; lacks = is_false _ is }

all_named : (test : Text → Bool) (names : List Text) (name : Text) → list_all test names ≡ true → has_name names name ≡ true → test name ≡ true
all_named test [] name all has = absurd (true_or_false (sym has))
all_named test (n ∷ names) name all has =
    let parts = both (test n) (list_all test names) all in
    go (bytes_eq n name) refl has parts.0 (all_named test names name parts.1)
  where
    go : (b : Bool) → bytes_eq n name ≡ b → (b || has_name names name) ≡ true → test n ≡ true → (has_name names name ≡ true → test name ≡ true) → test name ≡ true
    go true is has first rest = subst (λ (t : Text). test t ≡ true) ((bytes_eq-Decides n name).0 is) first
    go false is has first rest = rest has

apart_of : (name : Text) (names : List Text) → is_apart name names ≡ true → IsApart name names
apart_of name [] is = tt
apart_of name (n ∷ names) is = let parts = both _ _ is in (is_false _ parts.0, apart_of name names parts.1)

all_apart : (names : List Text) → are_apart names ≡ true → AreApart names
all_apart [] is = tt
all_apart (name ∷ names) is = let parts = both _ _ is in (apart_of name names parts.0, all_apart names parts.1)

none_given : (names : List Text) → AreFree [] names
none_given [] = tt
none_given (name ∷ names) = (refl, none_given names)

module _ (f : CommandForm) (fit : is_fit f ≡ true) where
  among : (name : Text) → may_give f name ≡ true → has_name (f.named ++ f.flags) name ≡ true
  among name may = list_any-append (λ n. bytes_eq n name) f.named f.flags ∙ may

  form_is : IsForm f
  form_is =
      let parts = both _ _ fit in
      let more = both _ _ (both _ _ parts.1).1 in
      record {
        names = λ name may. name_of name (all_named is_name (f.named ++ f.flags) name parts.0 (among name may));
        apart = λ name has. is_false _ (all_named (λ n. not (has_name f.named n)) f.flags name more.0 has);
        few = leb-true (length f.needed) 15 (both _ _ more.1).1;
      }

  needs_all : Needs f 0 f.needed
  needs_all = record { rest = λ i. let same : 0 + i ≡ i = omega arith in ap (slice_get f.needed) same; few = omega (arith, form_is.few) }

  lacks_all : Lacks f [] f.needed
  lacks_all =
      let parts = both _ _ (both _ _ fit).1 in
      record {
        apart = all_apart f.needed (both _ _ (both _ _ parts.1).1).0;
        named = λ name may. apart_of name f.needed (all_named (λ n. is_apart n f.needed) (f.named ++ f.flags) name parts.0 (among name may));
        free = none_given f.needed;
        among = λ all given. given;
      }

-- ---- words that aren't said

module _ (a : Rule) (bare : a.defaults ≡ []) (all : List Row) where
  default_passes : default_fault all a ≡ []
  default_passes = ap (λ (texts : List Text). cond (has_row a.id all || is_empty texts) [] (given_default_fault a texts)) bare ∙ ap (λ (b : Bool). cond b [] (given_default_fault a [])) (or-true (has_row a.id all))

  default_adds : with_default all a ≡ all
  default_adds = ap (λ (texts : List Text). cond (has_row a.id all) all (default_rows a.id (reading_by a) texts all)) bare ∙ same_either (has_row a.id all)
    where
      same_either : (b : Bool) → cond b all all ≡ all
      same_either true = refl
      same_either false = refl

-- words that have no text of their own: where they aren't said, none is added, and that is no fault
record AreBare (all : List Row) (rules : List Rule) : Type 0 where
  added : fold with_default all rules ≡ all
  faults : defaults_fault all rules ≡ []

bare_more : (all : List Row) (a : Rule) (rules : List Rule) → a.defaults ≡ [] → AreBare all rules → AreBare all (a ∷ rules)
unfolding defaults_fault
bare_more all a rules bare rest = record {
  added = ap (λ (rs : List Row). fold with_default rs rules) (default_adds a bare all) ∙ rest.added;
  faults = ap₂ or_else (default_passes a bare all) (ap (λ (rs : List Row). defaults_fault rs rules) (default_adds a bare all) ∙ rest.faults);
}

are_bare : (all : List Row) (ns named flags : List Text) (k : ℕ) → AreBare all (places k ns ++ options named flags)
unfolding defaults_fault
are_bare all [] [] [] k = bare_more all help_flag [] refl (record { added = refl; faults = refl })
are_bare all [] [] (n ∷ flags) k = bare_more all (flag_rule n) (options [] flags) refl (are_bare all [] [] flags k)
are_bare all [] (n ∷ named) flags k = bare_more all (option_rule n) (options named flags) refl (are_bare all [] named flags k)
are_bare all (n ∷ ns) named flags k = bare_more all (place_rule k n) (places (k + 1) ns ++ options named flags) refl (are_bare all ns named flags (k + 1))

missing_false : (b : Bool) → cond b (MissingRequiredArgument ∷ []) [] ≡ [] → b ≡ false
missing_false true none = absurd (some_fault _ _ none)
missing_false false none = refl

-- which of those that are needed have none
abbrev are_missing : List Row → List Text → Bool
are_missing all names = list_any (λ n. not (is_given n all)) names

missing_is : (ns named flags : List Text) (k : ℕ) (all : List Row) → list_any (λ (a : Rule). a.required && not (is_given a.id all)) (places k ns ++ options named flags) ≡ are_missing all ns
missing_is [] [] [] k all = refl
missing_is [] [] (n ∷ flags) k all = missing_is [] [] flags k all
missing_is [] (n ∷ named) flags k all = missing_is [] named flags k all
missing_is (n ∷ ns) named flags k all = ap (λ (b : Bool). not (is_given n all) || b) (missing_is ns named flags (k + 1) all)

given_of : (all : Given) (names : List Text) → are_missing (rows all) names ≡ false → AreGiven all names
given_of all [] none = tt
given_of all (name ∷ names) none = go (is_given name (rows all)) refl (given_of all names) none
  where
    go : (b : Bool) → is_given name (rows all) ≡ b → (are_missing (rows all) names ≡ false → AreGiven all names) → (not b || are_missing (rows all) names) ≡ false → AreGiven all (name ∷ names)
    go true is rest none = (sym (is_given_is all name) ∙ is, rest none)
    go false is rest none = absurd (true_or_false none)

missing_of : (all : Given) (names : List Text) → AreGiven all names → are_missing (rows all) names ≡ false
missing_of all [] given = refl
missing_of all (name ∷ names) given = ap (λ (b : Bool). not b || are_missing (rows all) names) (is_given_is all name ∙ given.0) ∙ missing_of all names given.1

level_parts : (walks settles defaults checks : Kinds) → or_else walks (or_else [] (or_else settles (or_else defaults checks))) ≡ [] → (walks ≡ []) × (settles ≡ []) × (checks ≡ [])
level_parts walks settles defaults checks none =
    let after = next_none walks (or_else settles (or_else defaults checks)) none in
    (first_none walks (or_else settles (or_else defaults checks)) none, first_none settles (or_else defaults checks) after, next_none defaults checks (next_none settles (or_else defaults checks) after))

module _ (f : CommandForm) where
  -- what is found at the end of the words, and what is refused then
  abbrev level : List Text → Kinds
  level words = level_fault (leaf f) [] nothing_held words false []

  check_is : (all : List Row) → check_fault (leaf f) all false ≡ cond (are_missing all f.needed) (MissingRequiredArgument ∷ []) []
  check_is all = ap (λ (b : Bool). cond b (MissingRequiredArgument ∷ []) []) (missing_is f.needed f.named f.flags 1 all)

  end_rows : (words : List Text) → rows_after (rules_of f) [] words ≡ (settled (rules_of f) (end f (at 0 (held [] None) idle false) words).held).rows
  end_rows words = (are_bare _ f.needed f.named f.flags 1).added

  ended_of : (form : IsForm f) (words : List Text) → level words ≡ [] → Ended f form (at 0 (held [] None) idle false) words
  ended_of form words none =
      let parts = level_parts _ _ _ _ none in
      let checks : check_fault (leaf f) (rows_after (rules_of f) [] words) false ≡ [] = parts.2 in
      record {
        faults = parts.0;
        settle = parts.1;
        complete = λ all is. given_of all f.needed (missing_false (are_missing (rows all) f.needed) (sym (check_is (rows all)) ∙ ap (λ (rs : List Row). check_fault (leaf f) rs false) (ap (λ (h : Held). h.rows) (sym is) ∙ sym (end_rows words)) ∙ checks));
      }

  level_of : (words : List Text) (given : Given) → Gives f (at 0 (held [] None) idle false) words given → AreGiven given f.needed → (level words ≡ []) × (rows_after (rules_of f) [] words ≡ rows given)
  level_of words given gives complete =
      let found : rows_after (rules_of f) [] words ≡ rows given = end_rows words ∙ ap (λ (h : Held). h.rows) gives.settled in (
        ap₂ (λ (a b : Kinds). or_else a (or_else [] (or_else b (or_else (defaults_fault (settled (rules_of f) (end f (at 0 (held [] None) idle false) words).held).rows (rules_of f)) (check_fault (leaf f) (rows_after (rules_of f) [] words) false))))) gives.faults gives.passes
            ∙ ap (λ (k : Kinds). or_else k (check_fault (leaf f) (rows_after (rules_of f) [] words) false)) (are_bare (settled (rules_of f) (end f (at 0 (held [] None) idle false) words).held).rows f.needed f.named f.flags 1).faults
            ∙ ap (λ (rs : List Row). check_fault (leaf f) rs false) found ∙ check_is (rows given) ∙ ap (λ (b : Bool). cond b (MissingRequiredArgument ∷ []) []) (missing_of given f.needed complete),
        found,
      )

-- ---- the first word behind the name

-- the program, built: it has the commands, and `help`
abbrev program_shape : Shape
program_shape = record (new_shape (codes "os_app")) { rules = help_flag ∷ []; is_leaf = false; subcommand_required = true; is_built = true }

abbrev whole : App
whole = record { top = program_shape; subs = map leaf forms ++ built_leaf (inherited program_shape help_shape) ∷ [] }

whole_is : built program_form ≡ whole
whole_is = refl

abbrev subcommands : Names
subcommands = names_of whole

-- what the words ask for of it
abbrev asks_of : App → List Text → Option Command
asks_of a words = asked_with (built_fault a nothing_held (drop 1 words)) (entered a (stop_after a.top.rules (names_of a) (drop 1 words)))

pub asks_is : (words : List Text) → asks words ≡ asks_of whole words
unfolding asks
asks_is words = ap (λ (a : App). asks_of a words) whole_is

program_alone : HasHelpAlone program_shape.rules
program_alone x = refl

abbrev label : CommandForm → Text × List Text
label f = (f.name, [])

-- the word is a command's name, or what is found by it is found among others
which_form : (fs : List CommandForm) (others : Names) (word : Text) (d : CommandForm)
    → ((k : ℕ) × (k < length fs) × (word ≡ (get_or fs k d).name)) ⊎ (find (answers_to word) (map label fs ++ others) ≡ find (answers_to word) others)
which_form [] others word d = inr refl
which_form (f ∷ fs) others word d = go (bytes_eq f.name word) refl (which_form fs others word d)
  where
    go : (b : Bool) → bytes_eq f.name word ≡ b → ((k : ℕ) × (k < length fs) × (word ≡ (get_or fs k d).name)) ⊎ (find (answers_to word) (map label fs ++ others) ≡ find (answers_to word) others) → ((k : ℕ) × (k < length (f ∷ fs)) × (word ≡ (get_or (f ∷ fs) k d).name)) ⊎ (cond (b || false) (Some (label f)) (find (answers_to word) (map label fs ++ others)) ≡ find (answers_to word) others)
    go true is rest = inl (0, omega arith, sym ((bytes_eq-Decides f.name word).0 is))
    go false is rest = elim rest [
      | inl (k, within, same) ↦ inl (suc k, omega (arith, within), same)
      | inr same ↦ inr same
    ]

-- the faults of the first word, by the subcommand that it calls
abbrev turn_with : Option Text → Text → Kinds
turn_with called word =
    let met : Held × Step = subcommand_or_other program_shape.rules called idle 1 word nothing_held in
    or_else (other_fault program_shape called word nothing_held) (step_fault program_shape 1 met.0 met.1)

no_command : (word : Text) → turn_with None word ≡ [] → word ≡ dashes
no_command word none =
    by (tells program_shape program_alone nothing_held refl word (first_none _ _ none))
  where
    long_is_refused : (name : Text) (found : Bool) (text : Option Text) → long_fault program_shape.rules false (cond found (Some help_flag) None) text nothing_held ≡ [] → ⊥
    long_is_refused name false text none = some_fault _ _ none
    long_is_refused name true (Some text) none = some_fault _ _ none
    long_is_refused name true None none = some_fault _ _ none

    by : Tells program_shape nothing_held word → word ≡ dashes
    by (is_value plain) =
        let met = goes_to_place program_shape word nothing_held refl idle 1 (no_flag word plain) in
        absurd (some_fault _ _ (subst (λ (m : Held × Step). step_fault program_shape 1 m.0 m.1 ≡ []) met (next_none _ _ none)))
    by (is_dashes is) = is
    by (is_long name text long refused) = absurd (long_is_refused name (has_long help_flag name) text refused)

-- help is refused
help_or_none : (help : Bool) (word : Text) → turn_with (option_map (λ (s : Text × List Text). s.0) (cond help (Some (label (record { name = codes "help"; needed = []; named = []; flags = [] }))) None)) word ≡ [] → word ≡ dashes
help_or_none true word none = absurd (some_fault _ _ none)
help_or_none false word none = no_command word none

dashes_are_refused : (words : List Text) → built_fault whole nothing_held (dashes ∷ words) ≡ [] → ⊥
unfolding clap_on_literals
dashes_are_refused [] none = some_fault _ _ none
dashes_are_refused (word ∷ words) none = some_fault _ _ none

first_word : (word : Text) (words : List Text) (d : CommandForm) → built_fault whole nothing_held (word ∷ words) ≡ [] → (k : ℕ) × (k < 7) × (word ≡ (get_or forms k d).name)
unfolding clap_on_literals
first_word word words d none =
    let turn : turn_with (option_map (λ (s : Text × List Text). s.0) (find (answers_to word) subcommands)) word ≡ [] = first_none _ _ (first_none _ _ none) in
    elim (which_form forms (label (record { name = codes "help"; needed = []; named = []; flags = [] }) ∷ []) word d) [
      | inl form ↦ form
      | inr same ↦
          let is = help_or_none (bytes_eq (codes "help") word || false) word (subst (λ (f : Option (Text × List Text)). turn_with (option_map (λ (s : Text × List Text). s.0) f) word ≡ []) same turn) in
          absurd (dashes_are_refused words (subst (λ (t : Text). built_fault whole nothing_held (t ∷ words) ≡ []) is none))
    ]

-- ---- a command, and the words behind it

-- what is asked for by this command, by the faults of the words behind it and by what is found of them
abbrev heard_by : Text → Kinds → List Row → Option Command
heard_by command faults all = asked_with (or_else faults []) (Some (command, all))

-- where a walk stops that meets a command
abbrev stopped_at : Text → List Text → Walk
stopped_at command words = record (walk_from nothing_held) { stopped = Some (command, words) }

-- the faults of the program's own words, by those of the walk and by its end
abbrev faults_by : Kinds → Walk → Kinds
faults_by faults end = or_else faults (or_else (entered_fault whole end.stopped)
    (or_else (settle_fault program_shape.rules program_shape.args_override_self end.held)
    (or_else (defaults_fault (settled program_shape.rules end.held).rows program_shape.rules)
    (check_fault program_shape (finished program_shape.rules end.held) (is_some (entered whole end.stopped))))))

reached : (command : Text) → walked program_shape.rules subcommands (walk_from nothing_held) command ≡ stopped_at command []
    → turn_fault program_shape subcommands (walk_from nothing_held) command ≡ [] → (name : Text) (words : List Text)
    → asks (name ∷ command ∷ words) ≡ asked_with (faults_by [] (stopped_at command words)) (entered whole (Some (command, words)))
unfolding walk_fault
reached command met passes name words =
    let end : walk program_shape.rules subcommands nothing_held (command ∷ words) ≡ stopped_at command words =
    ap (λ (w : Walk). fold (walked program_shape.rules subcommands) w words) met ∙ sym (walk_stopped program_shape.rules subcommands (walk_from nothing_held) command [] words) in
    let none : walk_fault program_shape subcommands (walk_from nothing_held) (command ∷ words) ≡ [] =
    (λ i. or_else (passes i) (walk_fault program_shape subcommands (met i) words)) ∙ stopped_fault program_shape subcommands (walk_from nothing_held) (command, []) words in
    asks_is (name ∷ command ∷ words) ∙ (λ i. asked_with (faults_by (none i) (end i)) (entered whole (end i).stopped))

-- the program has this command
pub record HasCommand (f : CommandForm) : Type 0 where
  pub fit : is_fit f ≡ true
  pub heard : (name : Text) (words : List Text) → asks (name ∷ f.name ∷ words) ≡ heard_by f.name (level f words) (rows_after (rules_of f) [] words)

has_command : (k : ℕ) (d : CommandForm) → k < 7 → HasCommand (get_or forms k d)
unfolding clap_on_literals
has_command zero d within = record { fit = refl; heard = λ name words. reached (codes "session") refl refl name words }
has_command (suc zero) d within = record { fit = refl; heard = λ name words. reached (codes "check") refl refl name words }
has_command (suc (suc zero)) d within = record { fit = refl; heard = λ name words. reached (codes "solve") refl refl name words }
has_command (suc (suc (suc zero))) d within = record { fit = refl; heard = λ name words. reached (codes "generate") refl refl name words }
has_command (suc (suc (suc (suc zero)))) d within = record { fit = refl; heard = λ name words. reached (codes "call") refl refl name words }
has_command (suc (suc (suc (suc (suc zero))))) d within = record { fit = refl; heard = λ name words. reached (codes "compact") refl refl name words }
has_command (suc (suc (suc (suc (suc (suc zero)))))) d within = record { fit = refl; heard = λ name words. reached (codes "serve") refl refl name words }
has_command (suc (suc (suc (suc (suc (suc (suc k))))))) d within = absurd (omega (arith, within))

-- ---- what a command makes of texts that are given

-- a text that is given
one_given : (before : Given) (p : Text × Text) (given : Given) → is_some (given_in (before ++ p ∷ given) p.0) ≡ true
one_given [] p given = ap (λ (b : Bool). is_some (option_map (λ (q : Text × Text). q.1) (cond b (Some p) (find (λ (q : Text × Text). bytes_eq q.0 p.0) given)))) ((bytes_eq-Decides p.0 p.0).1 refl)
one_given (q ∷ before) p given = go (bytes_eq q.0 p.0) (one_given before p given)
  where
    go : (b : Bool) → is_some (given_in (before ++ p ∷ given) p.0) ≡ true → is_some (option_map (λ (r : Text × Text). r.1) (cond b (Some q) (find (λ (r : Text × Text). bytes_eq r.0 p.0) (before ++ p ∷ given)))) ≡ true
    go true rest = refl
    go false rest = rest

-- all that a command needs is given
zip_given : (names values : List Text) (before : Given) → length values ≡ length names → AreGiven (before ++ zip names values) names
zip_given [] values before same = tt
zip_given (name ∷ names) [] before same = absurd (omega (arith, same))
zip_given (name ∷ names) (value ∷ values) before same = (
  one_given before (name, value) (zip names values),
  subst (λ (g : Given). AreGiven g names) (append_assoc before ((name, value) ∷ []) (zip names values)) (zip_given names values (before ++ (name, value) ∷ []) (omega (arith, same))),
)

all_given : (named flags needed words : List Text) (given before : Given) → Give named flags needed words given → AreGiven (before ++ given) needed
all_given named flags _ _ _ before giving.ends = tt
all_given named flags _ _ _ before (giving.dashes needed values same) = zip_given needed values before same
all_given named flags _ _ _ before (giving.value name word needed words given plain rest) = (
  one_given before (name, word) given,
  subst (λ (g : Given). AreGiven g needed) (append_assoc before ((name, word) ∷ []) given) (all_given named flags needed words given (before ++ (name, word) ∷ []) rest),
)
all_given named flags _ _ _ before (giving.next name word needed words given has plain rest) =
    subst (λ (g : Given). AreGiven g needed) (append_assoc before ((name, word) ∷ []) given) (all_given named flags needed words given (before ++ (name, word) ∷ []) rest)
all_given named flags _ _ _ before (giving.joined name text needed words given has rest) =
    subst (λ (g : Given). AreGiven g needed) (append_assoc before ((name, text) ∷ []) given) (all_given named flags needed words given (before ++ (name, text) ∷ []) rest)
all_given named flags _ _ _ before (giving.alone name needed words given has rest) =
    subst (λ (g : Given). AreGiven g needed) (append_assoc before ((name, name) ∷ []) given) (all_given named flags needed words given (before ++ (name, name) ∷ []) rest)

none_refused : (faults : Kinds) (found : Option (Text × List Row)) (it : Command) → asked_with faults found ≡ Some it → faults ≡ []
none_refused [] found it asked = refl
none_refused (fault ∷ faults) found it asked = absurd (none-some it asked)

module _ (f : CommandForm) (has : HasCommand f) (name : Text) (words : List Text) where
  -- words that give texts ask for what these mean
  given_asks : (given : Given) → Give f.named f.flags f.needed words given → AreNew [] given → asks (name ∷ f.name ∷ words) ≡ command_asked f.name (given_in given)
  given_asks given give new =
      let found = level_of f words given (gives f (form_is f has.fit) f.needed words given give 0 [] None (needs_all f has.fit) tt new) (all_given f.named f.flags f.needed words given [] give) in
      has.heard name words ∙ ap₂ (heard_by f.name) found.0 found.1 ∙ ap (command_asked f.name) (λ i id. first_is given id i)

  -- and words that ask for something do
  asks_given : (it : Command) → asks (name ∷ f.name ∷ words) ≡ Some it → (given : Given) × Give f.named f.flags f.needed words given × AreNew [] given × (command_asked f.name (given_in given) ≡ Some it)
  asks_given it asked =
      let none : level f words ≡ [] = first_none _ _ (none_refused _ _ it (sym (has.heard name words) ∙ asked)) in
      let form = form_is f has.fit in
      let all = said f form (length words) words f.needed (omega arith) 0 [] None (needs_all f has.fit) tt (lacks_all f has.fit) (ended_of f form words none) in
      (all.given, all.give, all.new, sym (given_asks all.given all.give all.new) ∙ asked)

-- ---- which words ask for a command

-- any form
abbrev no_form : CommandForm
no_form = record { name = []; needed = []; named = []; flags = [] }

pub call_asks : (words : List Text) (it : Command) → AreWordsOf it words → asks words ≡ Some it
call_asks words it call =
    let k = call.among.0 in
    let is : get_or forms k no_form ≡ call.form = get_or_default forms k no_form call.among.1 call.among.2 ∙ call.among.3 ∙ call.among.4 in
    ap asks call.are ∙ given_asks call.form (subst HasCommand is (has_command k no_form call.among.2)) call.name call.rest call.given call.give call.once ∙ call.means

nothing_asked : asks_of whole [] ≡ None
unfolding clap_on_literals
nothing_asked = refl

name_asked : (name : Text) → asks_of whole (name ∷ []) ≡ None
unfolding clap_on_literals
name_asked name = refl

-- the name alone asks for nothing
pub name_asks_nothing : (words : List Text) → length words ≤ 1 → asks words ≡ None
unfolding clap_on_literals
name_asks_nothing [] few = asks_is [] ∙ nothing_asked
name_asks_nothing (name ∷ []) few = asks_is (name ∷ []) ∙ name_asked name
name_asks_nothing (name ∷ word ∷ rest) few = absurd (omega (arith, few))

pub asks_call : (words : List Text) (it : Command) → asks words ≡ Some it → AreWordsOf it words
unfolding clap_on_literals
asks_call [] it asked = absurd (none-some it (sym (name_asks_nothing [] (omega arith)) ∙ asked))
asks_call (name ∷ []) it asked = absurd (none-some it (sym (name_asks_nothing (name ∷ []) (omega arith)) ∙ asked))
asks_call (name ∷ word ∷ rest) it asked =
    let first = first_word word rest no_form (none_refused _ _ it (sym (asks_is (name ∷ word ∷ rest)) ∙ asked)) in
    let f = get_or forms first.0 no_form in
    let all = asks_given f (has_command first.0 no_form first.1) name rest it (subst (λ (t : Text). asks (name ∷ t ∷ rest) ≡ Some it) first.2 asked) in
    record {
      name = name;
      form = f;
      rest = rest;
      given = all.0;
      among = (first.0, f, first.1, get_or_default forms first.0 f no_form first.1, refl);
      are = ap (λ (t : Text). name ∷ t ∷ rest) first.2;
      give = all.1;
      once = all.2;
      means = all.3;
    }
