-- Which words are flags.
use Rattle.std.proofs.Common.{◌≡◌, ◌∙◌, ℕ, suc, List, [], ◌∷◌, length, Bool, true, false, cond, Option, Some, None, refl, sym, ap, subst, arith}
use Rattle.std.specs.Prelude.{◌==◌, ◌++◌, codes, drop, encode_utf8, slice_get, IfSome}
use Rattle.std.specs.Option.{option_map_or}
use Rattle.std.specs.Str.{bytes_eq, chars}
use Rattle.std.proofs.lemmas.Bool.{eqb-true}
use Rattle.clap.specs.Lexer.{has_byte, long_of, name_and_value, short_of}
use Rattle.clap.proofs.LexerLemmas.{name_and_value-at, name_and_value-without}
use Rattle.clap.proofs.CutLemmas.{Lacks, before_first-Lacks}
use Rattle.std.specs.List.{after_first, before_first}
use Rattle.command_line.proofs.Texts.{lacks, split_at_byte}
use Rattle.clap.specs.Kinds.{Kinds, or_else}
use Rattle.clap.specs.Walk.{Held, Outcome, Rule, Text, after_flag, Waiting, arg_by_long, arg_by_short, has_short, long_or_other, long_word, plain, plain_word, short_or_plain, subcommand_or_other, trailing}
use Rattle.clap.specs.Simple.{Shape, filled, help_rule}
use Rattle.clap.specs.Faults.{bundle_fault, bundle_step_fault, flags_fault, flag_word_fault, long_fault, other_fault, settle_fault, short_fault}
use Rattle.clap.specs.declared.error.kind.ErrorKind.{ErrorKind}
use Rattle.clap.proofs.FaultLemmas.{fault_ends}
use Rattle.clap.proofs.WalkLemmas.{bundle_ends}
use Rattle.command_line.specs.CommandWords.{is_plain}

-- ---- kinds of faults

pub some_fault : (kind : ErrorKind) (faults : Kinds) → kind ∷ faults ≡ [] → ⊥
some_fault kind faults none = omega (arith, ap length none)

pub first_none : (a b : Kinds) → or_else a b ≡ [] → a ≡ []
first_none [] b none = refl
first_none (kind ∷ a) b none = none

pub next_none : (a b : Kinds) → or_else a b ≡ [] → b ≡ []
next_none [] b none = none
next_none (kind ∷ a) b none = absurd (some_fault kind a none)

-- ---- a word that is no flag

abbrev pub dashes : Text
dashes = codes "--"

-- it is neither `--` nor a long option, and no flag stands behind its `-`
pub record IsNoFlag (word : Text) : Type 0 where
  pub no_dashes : bytes_eq word dashes ≡ false
  pub no_long : long_of word ≡ None
  pub no_short : IfSome (short_of word) (λ (flags : Text). chars flags ≡ [])

none_spelt : (cs : List ℕ) → (length cs == 0) ≡ true → cs ≡ []
none_spelt [] e = refl
none_spelt (c ∷ cs) e = absurd (omega (arith, eqb-true (length (c ∷ cs)) 0 e))

hyphen_spelt : (rest : Text) → chars (45 ∷ rest) ≡ [] → ⊥
unfolding chars
hyphen_spelt [] none = omega (arith, ap length none)
hyphen_spelt (b ∷ rest) none = omega (arith, ap length none)

-- of what stands behind a `-`
behind_hyphen : (rest : Text) → chars rest ≡ [] → IsNoFlag (45 ∷ rest)
behind_hyphen [] none = record { no_dashes = refl; no_long = refl; no_short = tt }
behind_hyphen (y ∷ rest) none = go (y == 45) refl
  where
    go : (t : Bool) → (y == 45) ≡ t → IsNoFlag (45 ∷ y ∷ rest)
    go true e = absurd (hyphen_spelt rest (subst (λ (n : ℕ). chars (n ∷ rest) ≡ []) (eqb-true y 45 e) none))
    go false e = record { no_dashes = rw e refl; no_long = rw e refl; no_short = rw e none }

pub no_flag : (word : Text) → is_plain word ≡ true → IsNoFlag word
no_flag [] bare = record { no_dashes = refl; no_long = refl; no_short = tt }
no_flag (x ∷ rest) bare = go (x == 45) refl
  where
    go : (t : Bool) → (x == 45) ≡ t → IsNoFlag (x ∷ rest)
    go true e =
        let is : x ≡ 45 = eqb-true x 45 e in
        subst (λ (n : ℕ). IsNoFlag (n ∷ rest)) (sym is) (behind_hyphen rest (none_spelt (chars rest) (subst (λ (n : ℕ). is_plain (n ∷ rest) ≡ true) is bare)))
    go false e = record { no_dashes = rw e refl; no_long = rw e refl; no_short = rw e tt }

-- it goes to what waits for it, or to a place, and has no fault of its own
module _ (s : Shape) (word : Text) (h : Held) (unskipped : h.skip ≡ 0) where
  short_value : (waiting : Waiting) (flags : Option Text) → IfSome flags (λ (f : Text). chars f ≡ []) → short_or_plain s.rules waiting word flags h ≡ plain_word s.rules waiting word h
  short_value waiting None none = refl
  short_value waiting (Some flags) none =
      let ended = bundle_ends s.rules (length flags) flags h.skip plain (record h { skip = 0 }) (ap (λ (cs : List ℕ). slice_get cs 0) (sym none)) in
      ap (λ (b : Held × Outcome). after_flag s.rules waiting word b.0 b.1) (sym ended) ∙ ap (λ (n : ℕ). plain_word s.rules waiting word (record h { skip = n })) (sym unskipped)

  short_passes : (flags : Option Text) → IfSome flags (λ (f : Text). chars f ≡ [])
      → option_map_or (λ (f : Text). bundle_fault s.rules s.args_override_self f h) flags [] ≡ []
  short_passes None none = refl
  short_passes (Some flags) none = sym (fault_ends s.rules s.args_override_self (length flags) flags h.skip (record h { skip = 0 }) (ap (λ (cs : List ℕ). slice_get cs 0) (sym none)))

  pub goes_to_place : (waiting : Waiting) (position : ℕ) → IsNoFlag word → subcommand_or_other s.rules None waiting position word h ≡ plain_word s.rules waiting word h
  goes_to_place waiting position free =
      (λ i. cond (free.no_dashes i) (h, trailing position) (long_or_other s.rules waiting word (free.no_long i) h)) ∙ short_value waiting (short_of word) free.no_short

  pub passes : IsNoFlag word → other_fault s None word h ≡ []
  passes free = (λ i. cond (free.no_dashes i) [] (flag_word_fault s.rules s.args_override_self (free.no_long i) word h)) ∙ short_passes (short_of word) free.no_short

-- ---- a word that begins with hyphens

abbrev pub help_flag : Rule
help_flag = filled help_rule

-- the command's one short flag is that for help
abbrev pub HasHelpAlone : List Rule → Type 0
HasHelpAlone rules = (x : ℕ) → arg_by_short rules x ≡ cond (has_short help_flag x) (Some help_flag) None

-- a name, and a text behind a `=` if there is one
abbrev pub long_text : Text → Option Text → Text
long_text name None = name
long_text name (Some text) = name ++ (codes "=" ++ text)

-- a text is its name and its text together
named_whole : (word : Text) → word ≡ long_text (name_and_value word).0 (name_and_value word).1
named_whole word = go (has_byte 61 word) refl
  where
    go : (b : Bool) → has_byte 61 word ≡ b → word ≡ long_text (before_first (λ x. x == 61) word) (cond b (Some (after_first (λ x. x == 61) word)) None)
    go true has = split_at_byte 61 word has
    go false none = sym (before_first-Lacks 61 word (lacks 61 word none))

-- a word that is long: it isn't `--`, and has a name, and perhaps a text behind a `=`
pub record IsLong (word name : Text) (text : Option Text) : Type 0 where
  pub no_dashes : bytes_eq word dashes ≡ false
  pub long : long_of word ≡ Some (name, text)
  pub is : word ≡ dashes ++ long_text name text

-- what is told of a word without a fault
pub data Tells (s : Shape) (h : Held) (word : Text) : Type 0 where
  is_value : is_plain word ≡ true → Tells s h word
  is_dashes : word ≡ dashes → Tells s h word
  is_long : (name : Text) (text : Option Text) → IsLong word name text → long_fault s.rules s.args_override_self (arg_by_long s.rules name) text h ≡ [] → Tells s h word

long_reads : (x : ℕ) (rest : Text) → IsLong (45 ∷ 45 ∷ x ∷ rest) (name_and_value (x ∷ rest)).0 (name_and_value (x ∷ rest)).1
long_reads x rest = record { no_dashes = refl; long = refl; is = ap (λ (t : Text). dashes ++ t) (named_whole (x ∷ rest)) }

-- a name that has a character, and none that is `=`
pub record IsName (name : Text) : Type 0 where
  pub first : ℕ
  pub more : Text
  pub is : name ≡ first ∷ more
  pub lacks : has_byte 61 name ≡ false

module _ (s : Shape) (alone : HasHelpAlone s.rules) where
  short_is_refused : (x : ℕ) (rest : Text) (h : Held) (then : Held → Kinds)
      → short_fault s.rules s.args_override_self (arg_by_short s.rules x) rest h then ≡ [] → ⊥
  short_is_refused x rest h then none =
      go (has_short help_flag x) (subst (λ (a : Option Rule). short_fault s.rules s.args_override_self a rest h then ≡ []) (alone x) none)
    where
      go : (found : Bool) → short_fault s.rules s.args_override_self (cond found (Some help_flag) None) rest h then ≡ [] → ⊥
      go false none = some_fault _ _ none
      go true none = some_fault _ _ (next_none (settle_fault s.rules s.args_override_self h) _ (first_none _ _ none))

  flags_are_refused : (most : ℕ) (flags : Text) (h : Held) → flags_fault s.rules s.args_override_self (suc most) flags 0 h ≡ [] → chars flags ≡ []
  unfolding flags_fault
  flags_are_refused most flags h none = go (chars flags) none
    where
      go : (cs : List ℕ)
          → bundle_step_fault s.rules s.args_override_self (slice_get cs 0) flags 0 h (flags_fault s.rules s.args_override_self most) ≡ [] → cs ≡ []
      go [] none = refl
      go (x ∷ cs) none = absurd (short_is_refused x (drop (length (encode_utf8 x)) flags) h _ none)

  module _ (h : Held) (unskipped : h.skip ≡ 0) where
    two_hyphens : (rest : Text) → other_fault s None (45 ∷ 45 ∷ rest) h ≡ [] → Tells s h (45 ∷ 45 ∷ rest)
    two_hyphens [] none = is_dashes refl
    two_hyphens (z ∷ rest) none = is_long _ _ (long_reads z rest) none

    one_hyphen : (rest : Text) → other_fault s None (45 ∷ rest) h ≡ [] → Tells s h (45 ∷ rest)
    unfolding chars
    one_hyphen [] none = is_value refl
    one_hyphen (y ∷ rest) none = go (y == 45) refl
      where
        go : (t : Bool) → (y == 45) ≡ t → Tells s h (45 ∷ y ∷ rest)
        go true e =
            let is : y ≡ 45 = eqb-true y 45 e in
            subst (λ (n : ℕ). Tells s h (45 ∷ n ∷ rest)) (sym is) (two_hyphens rest (subst (λ (n : ℕ). other_fault s None (45 ∷ n ∷ rest) h ≡ []) is none))
        go false e =
            let short : short_of (45 ∷ y ∷ rest) ≡ Some (y ∷ rest) = rw e refl in
            let no_long : long_of (45 ∷ y ∷ rest) ≡ None = rw e refl in
            let no_dashes : bytes_eq (45 ∷ y ∷ rest) dashes ≡ false = rw e refl in
            let reads : other_fault s None (45 ∷ y ∷ rest) h ≡ bundle_fault s.rules s.args_override_self (y ∷ rest) h =
            (λ i. cond (no_dashes i) [] (flag_word_fault s.rules s.args_override_self (no_long i) (45 ∷ y ∷ rest) h))
            ∙ ap (λ (flags : Option Text). option_map_or (λ (f : Text). bundle_fault s.rules s.args_override_self f h) flags []) short in
            let faults : flags_fault s.rules s.args_override_self (suc (length rest)) (y ∷ rest) 0 (record h { skip = 0 }) ≡ [] =
            subst (λ (n : ℕ). flags_fault s.rules s.args_override_self (length (y ∷ rest)) (y ∷ rest) n (record h { skip = 0 }) ≡ []) unskipped (sym reads ∙ none) in
            is_value (ap (λ (cs : List ℕ). length cs == 0) (flags_are_refused (length rest) (y ∷ rest) (record h { skip = 0 }) faults))

    -- a word that has no fault is no flag, or `--`, or a name of the command's with or without a text
    pub tells : (word : Text) → other_fault s None word h ≡ [] → Tells s h word
    tells [] none = is_value refl
    tells (x ∷ rest) none = go (x == 45) refl
      where
        go : (t : Bool) → (x == 45) ≡ t → Tells s h (x ∷ rest)
        go true e =
            let is : x ≡ 45 = eqb-true x 45 e in
            subst (λ (n : ℕ). Tells s h (n ∷ rest)) (sym is) (one_hyphen rest (subst (λ (n : ℕ). other_fault s None (n ∷ rest) h ≡ []) is none))
        go false e = is_value (rw e refl)

-- ---- a word that is long

module _ (s : Shape) (word name : Text) (text : Option Text) (is : IsLong word name text) (h : Held) where
  pub long_faults : other_fault s None word h ≡ long_fault s.rules s.args_override_self (arg_by_long s.rules name) text h
  long_faults = λ i. cond (is.no_dashes i) [] (flag_word_fault s.rules s.args_override_self (is.long i) word h)

  pub long_meets : (waiting : Waiting) (position : ℕ) → subcommand_or_other s.rules None waiting position word h ≡ long_word s.rules waiting word name text h
  long_meets waiting position = λ i. cond (is.no_dashes i) (h, trailing position) (long_or_other s.rules waiting word (is.long i) h)

-- words of a command's names are long
pub bare_long : (name : Text) → IsName name → IsLong (dashes ++ name) name None
bare_long name is = subst (λ (t : Text). IsLong (dashes ++ t) t None) (sym is.is) (record {
  no_dashes = refl;
  long = ap (λ (p : Text × Option Text). Some p) (name_and_value-without (is.first ∷ is.more) (subst (λ (t : Text). Lacks 61 t) is.is (lacks 61 name is.lacks)));
  is = refl;
})

pub joined_long : (name text : Text) → IsName name → IsLong (dashes ++ (name ++ (codes "=" ++ text))) name (Some text)
joined_long name text is = subst (λ (t : Text). IsLong (dashes ++ (t ++ (codes "=" ++ text))) t (Some text)) (sym is.is) (record {
  no_dashes = refl;
  long = ap (λ (p : Text × Option Text). Some p) (name_and_value-at (is.first ∷ is.more) text (subst (λ (t : Text). Lacks 61 t) is.is (lacks 61 name is.lacks)));
  is = refl;
})
