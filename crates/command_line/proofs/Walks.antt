-- What `clap` makes of the words behind a command, word by word.
use Rattle.std.proofs.Common.{◌≡◌, ◌∙◌, ◌+◌, ◌≤◌, ℕ, zero, suc, List, [], ◌∷◌, ◌++◌, length, Bool, true, false, cond, Option, Some, None, refl, sym, ap, ap₂, subst, arith}
use Rattle.std.specs.Prelude.{◌||◌, ◌&&◌, codes, fold, min, nat_lt, option_map, slice_get}
use Rattle.std.specs.List.{zip}
use Rattle.std.specs.Option.{option_map_or}
use Rattle.clap.specs.Kinds.{Kinds, or_else}
use Rattle.clap.specs.Walk.{Held, Row, Rule, Step, Text, Waiting, Walk, after_flag, after_step, arg_by_index, arg_by_long, idle, is_pending, long_met, option, option_met, option_word, plain_word, positional, pushed, settled, subcommand_or_other, to_positional, used, value, walked, word_met}
use Rattle.clap.specs.Walk as walk
use Rattle.clap.specs.Simple.{Shape}
use Rattle.clap.specs.Faults.{long_fault, other_fault, use_fault, positional_fault, settle_fault, step_fault, stray_fault, turn_fault, walk_fault}
use Rattle.std.proofs.lemmas.List.{append_assoc, append-nil}
use Rattle.std.proofs.lemmas.Option.{none-some, same_Some}
use Rattle.std.proofs.lemmas.Slice.Eq.{bytes_eq-Decides}
use Rattle.std.specs.Str.{bytes_eq}
use Rattle.std.proofs.Math.Bool.{or-false, or-true}
use Rattle.command_line.specs.CommandWords.{AreNew, Give, Given, ends, given_in, has_name, is_plain}
use Rattle.command_line.specs.CommandWords as giving
use Rattle.command_line.specs.Forms.{CommandForm}
use Rattle.command_line.proofs.Flags.{IsLong, IsName, bare_long, first_none, goes_to_place, joined_long, long_faults, long_meets, next_none, no_flag, passes}
use Rattle.command_line.proofs.Rows.{rows}
use Rattle.command_line.proofs.Rules.{TakesText, alone_rule, at_place, behind_name, flag_rule, leaf, named_rule, option_rule, place_at, place_rule, rules_of}
use Rattle.command_line.proofs.TextUses.{IsOwn, IsUse, Last, flag_use, held, own_word, last_of, settle_is_new, settle_passes, settles, text_use, use_is_new, use_passes, used_rows}

-- ---- where a walk stands

-- after so many values: nothing waits, or a name for its text; before `--` or behind it
abbrev pub at : ℕ → Held → Waiting → Bool → Walk
at count h waiting is_trailing = record { held = h; waiting = waiting; position = 1 + count; is_trailing = is_trailing; stopped = None }

-- what is held while this name waits
abbrev pub asking : Given → Text → Held
asking past name = record { rows = rows past; pending = Some (name, []); skip = 0 }

-- these words are still needed after so many values, which are few
pub record Needs (f : CommandForm) (count : ℕ) (needed : List Text) : Type 0 where
  pub rest : (i : ℕ) → slice_get f.needed (count + i) ≡ slice_get needed i
  pub few : count + length needed ≤ 16

pub needs_rest : (f : CommandForm) (count : ℕ) (name : Text) (needed : List Text) → Needs f count (name ∷ needed) → Needs f (count + 1) needed
needs_rest f count name needed needs = record {
  rest = λ i. let same : count + 1 + i ≡ count + suc i = omega arith in ap (slice_get f.needed) same ∙ needs.rest (suc i);
  few = omega (arith, needs.few);
}

module _ (f : CommandForm) where
  abbrev s : Shape
  s = leaf f

  place_of : (count : ℕ) (needed : List Text) → Needs f count needed → arg_by_index (rules_of f) (1 + count) ≡ option_map (place_rule (1 + count)) (slice_get needed 0)
  place_of count needed needs = place_at f.needed f.named f.flags 1 count (1 + count) refl
      ∙ ap (option_map (place_rule (1 + count))) (let same : count ≡ count + 0 = omega arith in ap (slice_get f.needed) same ∙ needs.rest 0)

  and_false : (b : Bool) → (b && false) ≡ false
  and_false true = refl
  and_false false = refl

  -- ---- a word that goes to a place

  -- its fault, where it is met as a value
  pub value_faults : (count : ℕ) (h : Held) (needed : List Text) → Needs f count needed
      → step_fault s (1 + count) h value ≡ option_map_or (λ (name : Text). settle_fault (rules_of f) false h) (slice_get needed 0) (stray_fault s)
  value_faults count h needed needs =
      ap (λ (a : Option Rule). option_map_or (λ (b : Rule). positional_fault (rules_of f) false b h) a (stray_fault s)) (place_of count needed needs) ∙ by (slice_get needed 0)
    where
      by : (found : Option Text) → option_map_or (λ (b : Rule). positional_fault (rules_of f) false b h) (option_map (place_rule (1 + count)) found) (stray_fault s)
          ≡ option_map_or (λ (name : Text). settle_fault (rules_of f) false h) found (stray_fault s)
      by None = refl
      by (Some name) = ap (λ (b : Bool). cond b [] (settle_fault (rules_of f) false h)) (and_false (is_pending (place_rule (1 + count) name) h.pending))

  -- the walk past it
  value_goes : (count : ℕ) (past : Given) (last : Last) (waiting : Waiting) (is_trailing : Bool) (name word : Text) (needed : List Text) → Needs f count (name ∷ needed)
      → IsOwn f last → AreNew past (last_of last)
      → to_positional (rules_of f) (arg_by_index (rules_of f) (1 + count)) word (at count (held past last) waiting is_trailing) (held past last)
      ≡ at (count + 1) (held (past ++ last_of last) (Some (name, word))) idle is_trailing
  value_goes count past last waiting is_trailing name word needed needs own new =
      let h = held past last in
      let a = place_rule (1 + count) name in
      let now : pushed name word (cond (is_pending a h.pending && false) h (settled (rules_of f) h)) ≡ held (past ++ last_of last) (Some (name, word)) =
      ap (λ (b : Bool). pushed name word (cond b h (settled (rules_of f) h))) (and_false (is_pending a h.pending)) ∙ ap (pushed name word) (settles f past last own new) in
      let position : min (1 + count + 1) 18446744073709551615 ≡ 1 + (count + 1) = omega (arith, needs.few) in
      ap (λ (b : Option Rule). to_positional (rules_of f) b word (at count h waiting is_trailing) h) (place_of count (name ∷ needed) needs)
      ∙ (λ i. record { held = now i; waiting = idle; position = position i; is_trailing = or-false is_trailing i; stopped = None })

  -- ---- words before `--`

  -- its fault and the walk past it, by what is told of it
  record IsMet (count : ℕ) (h : Held) (waiting : Waiting) (word : Text) (faults : Kinds) (then : Held × Step) : Type 0 where
    pub faults_are : other_fault s None word h ≡ faults
    pub met : word_met (rules_of f) [] false waiting (1 + count) word h ≡ then

  met_turn : (count : ℕ) (h : Held) (waiting : Waiting) (word : Text) (faults : Kinds) (then : Held × Step) → IsMet count h waiting word faults then
      → turn_fault s [] (at count h waiting false) word ≡ or_else faults (step_fault s (1 + count) then.0 then.1)
  met_turn count h waiting word faults then is = by waiting is
    where
      by : (waiting : Waiting) → IsMet count h waiting word faults then → turn_fault s [] (at count h waiting false) word ≡ or_else faults (step_fault s (1 + count) then.0 then.1)
      by idle is = λ i. or_else (is.faults_are i) (step_fault s (1 + count) (is.met i).0 (is.met i).1)
      by (option name) is = λ i. or_else (is.faults_are i) (step_fault s (1 + count) (is.met i).0 (is.met i).1)
      by positional is = λ i. or_else (is.faults_are i) (step_fault s (1 + count) (is.met i).0 (is.met i).1)

  met_walked : (count : ℕ) (h : Held) (waiting : Waiting) (word : Text) (faults : Kinds) (then : Held × Step) → IsMet count h waiting word faults then
      → walked (rules_of f) [] (at count h waiting false) word ≡ after_step (rules_of f) word (at count h waiting false) then.0 then.1
  unfolding walked
  met_walked count h waiting word faults then is = ap (λ (m : Held × Step). after_step (rules_of f) word (at count h waiting false) m.0 m.1) is.met

  no_subcommand : (waiting : Waiting) (count : ℕ) (word : Text) (h : Held) → word_met (rules_of f) [] false waiting (1 + count) word h ≡ subcommand_or_other (rules_of f) None waiting (1 + count) word h
  no_subcommand idle count word h = refl
  no_subcommand (option name) count word h = refl
  no_subcommand positional count word h = refl

  plain_met : (count : ℕ) (h : Held) (waiting : Waiting) (word : Text) → h.skip ≡ 0 → is_plain word ≡ true → IsMet count h waiting word [] (plain_word (rules_of f) waiting word h)
  plain_met count h waiting word unskipped plain = record {
    faults_are = passes s word h unskipped (no_flag word plain);
    met = no_subcommand waiting count word h ∙ goes_to_place s word h unskipped waiting (1 + count) (no_flag word plain);
  }

  long_met_is : (count : ℕ) (h : Held) (waiting : Waiting) (word name : Text) (text : Option Text) (a : Rule) → IsLong word name text → arg_by_long (rules_of f) name ≡ Some a
      → IsMet count h waiting word (long_fault (rules_of f) false (Some a) text h)
      (after_flag (rules_of f) waiting word (long_met (rules_of f) (Some a) text h).0 (long_met (rules_of f) (Some a) text h).1)
  long_met_is count h waiting word name text a is found = record {
    faults_are = long_faults s word name text is h ∙ ap (λ (b : Option Rule). long_fault (rules_of f) false b text h) found;
    met = no_subcommand waiting count word h ∙ long_meets s word name text is h waiting (1 + count)
        ∙ ap (λ (b : Option Rule). after_flag (rules_of f) waiting word (long_met (rules_of f) b text h).0 (long_met (rules_of f) b text h).1) found;
  }

  -- the walk behind a name that waits, and behind a name with its text
  pub own_name : (name : Text) → has_name f.named name ≡ true → (has_name f.needed name || has_name f.named name) ≡ true
  own_name name has = ap (λ (b : Bool). has_name f.needed name || b) has ∙ or-true (has_name f.needed name)

  -- ---- the end of the words

  abbrev pub end : Walk → List Text → Walk
  end w words = fold (walked (rules_of f) []) w words

  -- the words have no fault from here on, and give all these texts in the end
  pub record Gives (w : Walk) (words : List Text) (all : Given) : Type 0 where
    pub faults : walk_fault s [] w words ≡ []
    pub passes : settle_fault (rules_of f) false (end w words).held ≡ []
    pub settled : settled (rules_of f) (end w words).held ≡ held all None

  -- one word more
  gives_more : (w then : Walk) (word : Text) (words : List Text) (all : Given) → turn_fault s [] w word ≡ [] → walked (rules_of f) [] w word ≡ then → Gives then words all → Gives w (word ∷ words) all
  unfolding walk_fault
  gives_more w then word words all passes goes rest = record {
    faults = ap₂ or_else passes (ap (λ (u : Walk). walk_fault s [] u words) goes ∙ rest.faults);
    passes = ap (λ (u : Walk). settle_fault (rules_of f) false (end u words).held) goes ∙ rest.passes;
    settled = ap (λ (u : Walk). settled (rules_of f) (end u words).held) goes ∙ rest.settled;
  }

  gives_all : (count : ℕ) (past : Given) (last : Last) (waiting : Waiting) (is_trailing : Bool) → IsOwn f last → AreNew past (last_of last)
      → Gives (at count (held past last) waiting is_trailing) [] (past ++ last_of last)
  unfolding walk_fault
  gives_all count past last waiting is_trailing own new = record { faults = refl; passes = settle_passes f past last own new; settled = settles f past last own new }

  -- ---- texts that are new

  pub new_last : (past : Given) (last : Last) (given : Given) → AreNew past (last_of last ++ given) → AreNew past (last_of last) × AreNew (past ++ last_of last) given
  new_last past None given new = (tt, subst (λ (g : Given). AreNew g given) (sym (append-nil past)) new)
  new_last past (Some p) given new = ((new.0, tt), new.1)

  pub last_new : (past : Given) (last : Last) (given : Given) → AreNew past (last_of last) → AreNew (past ++ last_of last) given → AreNew past (last_of last ++ given)
  last_new past None given first new = subst (λ (g : Given). AreNew g given) (append-nil past) new
  last_new past (Some p) given first new = (first.0, new)

  -- a text more, and then others
  pub pushed_on : (before given : Given) (p : Text × Text) → before ++ p ∷ [] ++ given ≡ before ++ (p ∷ given)
  pushed_on before given p = append_assoc before (p ∷ []) given

  -- ---- each word that gives a text

  -- a word that goes to a place
  module _ (count : ℕ) (past : Given) (last : Last) (name word : Text) (needed : List Text) (needs : Needs f count (name ∷ needed)) (own : IsOwn f last) where
    pub place_turn : is_plain word ≡ true → turn_fault s [] (at count (held past last) idle false) word ≡ settle_fault (rules_of f) false (held past last)
    place_turn plain = met_turn count (held past last) idle word [] _ (plain_met count (held past last) idle word refl plain) ∙ value_faults count (held past last) (name ∷ needed) needs

    pub place_walked : is_plain word ≡ true → AreNew past (last_of last) → walked (rules_of f) [] (at count (held past last) idle false) word ≡ at (count + 1) (held (past ++ last_of last) (Some (name, word))) idle false
    place_walked plain new = met_walked count (held past last) idle word [] _ (plain_met count (held past last) idle word refl plain) ∙ value_goes count past last idle false name word needed needs own new

    pub behind_turn : (waiting : Waiting) → turn_fault s [] (at count (held past last) waiting true) word ≡ settle_fault (rules_of f) false (held past last)
    behind_turn waiting = value_faults count (held past last) (name ∷ needed) needs

    pub behind_walked : (waiting : Waiting) → AreNew past (last_of last) → walked (rules_of f) [] (at count (held past last) waiting true) word ≡ at (count + 1) (held (past ++ last_of last) (Some (name, word))) idle true
    unfolding walked
    behind_walked waiting new = value_goes count past last waiting true name word needed needs own new

  -- a word for which there is no place
  pub stray_turn : (count : ℕ) (h : Held) (word : Text) → h.skip ≡ 0 → Needs f count [] → is_plain word ≡ true → turn_fault s [] (at count h idle false) word ≡ stray_fault s
  stray_turn count h word unskipped needs plain = met_turn count h idle word [] _ (plain_met count h idle word unskipped plain) ∙ value_faults count h [] needs

  -- `--`
  pub dashes_turn : (count : ℕ) (h : Held) (waiting : Waiting) → turn_fault s [] (at count h waiting false) (codes "--") ≡ []
  dashes_turn count h idle = refl
  dashes_turn count h (option name) = refl
  dashes_turn count h positional = refl

  pub dashes_walked : (count : ℕ) (h : Held) (waiting : Waiting) → walked (rules_of f) [] (at count h waiting false) (codes "--") ≡ at count h waiting true
  unfolding walked
  dashes_walked count h idle = refl
  dashes_walked count h (option name) = refl
  dashes_walked count h positional = refl

  -- a name, and the word behind it
  module _ (count : ℕ) (past : Given) (last : Last) (word name : Text) (has : has_name f.named name ≡ true) (own : IsOwn f last) where
    pub name_turn : IsLong word name None → turn_fault s [] (at count (held past last) idle false) word ≡ or_else (settle_fault (rules_of f) false (held past last)) []
    name_turn is = met_turn count (held past last) idle word _ _ (long_met_is count (held past last) idle word name None (option_rule name) is (named_rule f name has))

    pub name_walked : IsLong word name None → AreNew past (last_of last) → walked (rules_of f) [] (at count (held past last) idle false) word ≡ at count (asking (past ++ last_of last) name) (option name) false
    name_walked is new = met_walked count (held past last) idle word _ _ (long_met_is count (held past last) idle word name None (option_rule name) is (named_rule f name has))
        ∙ ap (λ (h : Held). at count (record h { pending = Some (name, []) }) (option name) false) (settles f past last own new)

  -- a word that gives a text by itself: a name with its text, or one that stands alone
  pub record GivesOne (word : Text) (p : Text × Text) : Type 0 where
    rule : Rule
    values : List Text
    uses : IsUse p values rule
    met : (count : ℕ) (h : Held) → IsMet count h idle word (or_else (settle_fault (rules_of f) false h) (use_fault false rule values (settled (rules_of f) h).rows)) (record h { rows = used rule values (settled (rules_of f) h).rows; pending = None }, walk.next idle)

  pub joined_one : (word name text : Text) → IsLong word name (Some text) → has_name f.named name ≡ true → GivesOne word (name, text)
  joined_one word name text is has = record {
    rule = option_rule name;
    values = text ∷ [];
    uses = text_use name text (option_rule name) behind_name;
    met = λ count h. long_met_is count h idle word name (Some text) (option_rule name) is (named_rule f name has);
  }

  pub alone_one : (word name : Text) → IsLong word name None → has_name f.named name ≡ false → has_name f.flags name ≡ true → GivesOne word (name, name)
  alone_one word name is other has = record {
    rule = flag_rule name;
    values = [];
    uses = flag_use name;
    met = λ count h. long_met_is count h idle word name None (flag_rule name) is (alone_rule f name other has);
  }

  module _ (count : ℕ) (past : Given) (last : Last) (word : Text) (p : Text × Text) (one : GivesOne word p) (own : IsOwn f last) where
    pub one_turn : turn_fault s [] (at count (held past last) idle false) word ≡ or_else (or_else (settle_fault (rules_of f) false (held past last)) (use_fault false one.rule one.values (settled (rules_of f) (held past last)).rows)) []
    one_turn = met_turn count (held past last) idle word _ _ (one.met count (held past last))

    pub one_walked : AreNew past (last_of last) → given_in (past ++ last_of last) p.0 ≡ None → walked (rules_of f) [] (at count (held past last) idle false) word ≡ at count (held (past ++ last_of last ++ p ∷ []) None) idle false
    one_walked new free = met_walked count (held past last) idle word _ _ (one.met count (held past last))
        ∙ ap (λ (h : Held). at count (record h { rows = used one.rule one.values h.rows; pending = None }) idle false) (settles f past last own new)
        ∙ ap (λ (all : List Row). at count (record (held past None) { rows = all }) idle false) (used_rows (past ++ last_of last) p one.values one.rule one.uses free)

    -- it passes where it is new, and only there
    pub one_passes : AreNew past (last_of last) → given_in (past ++ last_of last) p.0 ≡ None → turn_fault s [] (at count (held past last) idle false) word ≡ []
    one_passes new free = one_turn
        ∙ ap (λ (k : Kinds). or_else (or_else k (use_fault false one.rule one.values (settled (rules_of f) (held past last)).rows)) []) (settle_passes f past last own new)
        ∙ ap (λ (h : Held). or_else (use_fault false one.rule one.values h.rows) []) (settles f past last own new)
        ∙ ap (λ (k : Kinds). or_else k []) (use_passes (past ++ last_of last) p one.values one.rule one.uses free)

    pub one_is_new : turn_fault s [] (at count (held past last) idle false) word ≡ [] → AreNew past (last_of last) × (given_in (past ++ last_of last) p.0 ≡ None)
    one_is_new none =
        let both = first_none _ _ (sym one_turn ∙ none) in
        let new = settle_is_new f past last own (first_none _ _ both) in (
          new,
          use_is_new (past ++ last_of last) p one.values one.rule one.uses (sym (ap (λ (h : Held). use_fault false one.rule one.values h.rows) (settles f past last own new)) ∙ next_none _ _ both),
        )

  module _ (count : ℕ) (past : Given) (name word : Text) (has : has_name f.named name ≡ true) (plain : is_plain word ≡ true) where
    text_met : ◌≡◌ {A = Held × Step} (plain_word (rules_of f) (option name) word (asking past name)) (held past (Some (name, word)), walk.next idle)
    text_met =
        let found = own_word f name (own_name name has) in
        ap (λ (a : Option Rule). ((option_word a name word (asking past name)).0, walk.next (option_word a name word (asking past name)).1)) found.found ∙ by found.rule found.takes
      where
        by : (a : Rule) → TakesText name a → ◌≡◌ {A = Held × Step} ((option_word (Some a) name word (asking past name)).0, walk.next (option_word (Some a) name word (asking past name)).1) (held past (Some (name, word)), walk.next idle)
        by _ (at_place k) = ap (λ (b : Bool). (held past (Some (name, word)), walk.next (cond (nat_lt (cond b 1 0) 1) (option name) idle))) ((bytes_eq-Decides name name).1 refl)
        by _ behind_name = ap (λ (b : Bool). (held past (Some (name, word)), walk.next (cond (nat_lt (cond b 1 0) 1) (option name) idle))) ((bytes_eq-Decides name name).1 refl)

    pub text_turn : turn_fault s [] (at count (asking past name) (option name) false) word ≡ []
    text_turn = met_turn count (asking past name) (option name) word [] _ (plain_met count (asking past name) (option name) word refl plain)
        ∙ ap (λ (m : Held × Step). step_fault s (1 + count) m.0 m.1) text_met

    pub text_walked : walked (rules_of f) [] (at count (asking past name) (option name) false) word ≡ at count (held past (Some (name, word))) idle false
    text_walked = met_walked count (asking past name) (option name) word [] _ (plain_met count (asking past name) (option name) word refl plain)
        ∙ ap (λ (m : Held × Step). after_step (rules_of f) word (at count (asking past name) (option name) false) m.0 m.1) text_met

-- ---- words that give texts are read as these

-- a name that may be given, or stand alone
abbrev pub may_give : CommandForm → Text → Bool
may_give f name = has_name f.named name || has_name f.flags name

pub may_name : (f : CommandForm) (name : Text) → has_name f.named name ≡ true → may_give f name ≡ true
may_name f name has = ap (λ (b : Bool). b || has_name f.flags name) has

pub may_stand : (f : CommandForm) (name : Text) → has_name f.flags name ≡ true → may_give f name ≡ true
may_stand f name has = ap (λ (b : Bool). has_name f.named name || b) has ∙ or-true (has_name f.named name)

-- the names that may be given are names, and no name is another word's
pub record IsForm (f : CommandForm) : Type 0 where
  pub names : (name : Text) → may_give f name ≡ true → IsName name
  pub apart : (name : Text) → has_name f.flags name ≡ true → has_name f.named name ≡ false
  pub few : length f.needed ≤ 15

has_at : (names : List Text) (i : ℕ) (name : Text) → slice_get names i ≡ Some name → has_name names name ≡ true
has_at [] i name is = absurd (none-some name is)
has_at (n ∷ names) zero name is = ap (λ (b : Bool). b || has_name names name) ((bytes_eq-Decides n name).1 (same_Some n name is))
has_at (n ∷ names) (suc i) name is = ap (λ (b : Bool). bytes_eq n name || b) (has_at names i name is) ∙ or-true (bytes_eq n name)

module _ (f : CommandForm) (form : IsForm f) where
  pub own_needed : (count : ℕ) (name : Text) (needed : List Text) → Needs f count (name ∷ needed) → (has_name f.needed name || has_name f.named name) ≡ true
  own_needed count name needed needs =
      ap (λ (b : Bool). b || has_name f.named name) (has_at f.needed (count + 0) name (needs.rest 0))

  behind_gives : (needed values : List Text) → length values ≡ length needed → (count : ℕ) (past : Given) (last : Last) (waiting : Waiting) → Needs f count needed → IsOwn f last → AreNew past (last_of last ++ zip needed values)
      → Gives f (at count (held past last) waiting true) values (past ++ last_of last ++ zip needed values)
  behind_gives [] [] same count past last waiting needs own new =
      subst (Gives f (at count (held past last) waiting true) []) (sym (append-nil (past ++ last_of last))) (gives_all f count past last waiting true own (new_last f past last [] new).0)
  behind_gives [] (text ∷ values) same count past last waiting needs own new = absurd (omega (arith, same))
  behind_gives (name ∷ needed) [] same count past last waiting needs own new = absurd (omega (arith, same))
  behind_gives (name ∷ needed) (word ∷ values) same count past last waiting needs own new =
      let both = new_last f past last ((name, word) ∷ zip needed values) new in
      subst (Gives f (at count (held past last) waiting true) (word ∷ values)) (pushed_on f (past ++ last_of last) (zip needed values) (name, word))
      (gives_more f _ _ word values _ (behind_turn f count past last name word needed needs own waiting ∙ settle_passes f past last own both.0) (behind_walked f count past last name word needed needs own waiting both.0)
      (behind_gives needed values (omega (arith, same)) (count + 1) (past ++ last_of last) (Some (name, word)) idle (needs_rest f count name needed needs) (own_needed count name needed needs) both.1))

  -- a word that gives a text by itself, and then others
  gives_one : (words : List Text) (given : Given) (word : Text) (p : Text × Text) → GivesOne f word p → (count : ℕ) (past : Given) (last : Last) → IsOwn f last → AreNew past (last_of last ++ (p ∷ given))
      → (AreNew (past ++ last_of last ++ p ∷ []) given → Gives f (at count (held (past ++ last_of last ++ p ∷ []) None) idle false) words (past ++ last_of last ++ p ∷ [] ++ [] ++ given))
      → Gives f (at count (held past last) idle false) (word ∷ words) (past ++ last_of last ++ (p ∷ given))
  gives_one words given word p one count past last own new rest =
      let both = new_last f past last (p ∷ given) new in
      subst (Gives f (at count (held past last) idle false) (word ∷ words)) (ap (λ (g : Given). g ++ given) (append-nil (past ++ last_of last ++ p ∷ [])) ∙ pushed_on f (past ++ last_of last) given p)
      (gives_more f _ _ word words _ (one_passes f count past last word p one own both.0 both.1.0) (one_walked f count past last word p one own both.0 both.1.0) (rest both.1.1))

  pub gives : (needed words : List Text) (given : Given) → Give f.named f.flags needed words given → (count : ℕ) (past : Given) (last : Last) → Needs f count needed → IsOwn f last → AreNew past (last_of last ++ given)
      → Gives f (at count (held past last) idle false) words (past ++ last_of last ++ given)
  gives _ _ _ ends count past last needs own new =
      subst (Gives f (at count (held past last) idle false) []) (sym (append-nil (past ++ last_of last))) (gives_all f count past last idle false own (new_last f past last [] new).0)
  gives _ _ _ (giving.dashes needed values same) count past last needs own new =
      gives_more f _ _ (codes "--") values _ (dashes_turn f count (held past last) idle) (dashes_walked f count (held past last) idle) (behind_gives needed values same count past last idle needs own new)
  gives _ _ _ (giving.value name word needed words given plain rest) count past last needs own new =
      let both = new_last f past last ((name, word) ∷ given) new in
      subst (Gives f (at count (held past last) idle false) (word ∷ words)) (pushed_on f (past ++ last_of last) given (name, word))
      (gives_more f _ _ word words _ (place_turn f count past last name word needed needs own plain ∙ settle_passes f past last own both.0) (place_walked f count past last name word needed needs own plain both.0)
      (gives needed words given rest (count + 1) (past ++ last_of last) (Some (name, word)) (needs_rest f count name needed needs) (own_needed count name needed needs) both.1))
  gives _ _ _ (giving.next name word needed words given has plain rest) count past last needs own new =
      let both = new_last f past last ((name, word) ∷ given) new in
      let long = bare_long name (form.names name (may_name f name has)) in
      subst (Gives f (at count (held past last) idle false) ((codes "--" ++ name) ∷ word ∷ words)) (pushed_on f (past ++ last_of last) given (name, word))
      (gives_more f _ _ (codes "--" ++ name) (word ∷ words) _ (name_turn f count past last (codes "--" ++ name) name has own long ∙ ap (λ (k : Kinds). or_else k []) (settle_passes f past last own both.0))
      (name_walked f count past last (codes "--" ++ name) name has own long both.0)
      (gives_more f _ _ word words _ (text_turn f count (past ++ last_of last) name word has plain) (text_walked f count (past ++ last_of last) name word has plain)
      (gives needed words given rest count (past ++ last_of last) (Some (name, word)) needs (own_name f name has) both.1)))
  gives _ _ _ (giving.joined name text needed words given has rest) count past last needs own new =
      gives_one words given _ (name, text) (joined_one f _ name text (joined_long name text (form.names name (may_name f name has))) has) count past last own new
      (gives needed words given rest count (past ++ last_of last ++ (name, text) ∷ []) None needs tt)
  gives _ _ _ (giving.alone name needed words given has rest) count past last needs own new =
      gives_one words given _ (name, name) (alone_one f _ name (bare_long name (form.names name (may_stand f name has))) (form.apart name has) has) count past last own new
      (gives needed words given rest count (past ++ last_of last ++ (name, name) ∷ []) None needs tt)
