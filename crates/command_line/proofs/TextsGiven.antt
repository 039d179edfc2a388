-- Words behind a command that have no fault give texts.
use Rattle.std.proofs.Common.{◌≡◌, ◌∙◌, ◌+◌, ◌≤◌, ℕ, zero, suc, List, [], ◌∷◌, ◌++◌, length, Bool, true, false, cond, Option, Some, None, refl, sym, ap, subst, arith}
use Rattle.std.specs.Prelude.{codes, find, is_some, option_map, slice_get}
use Rattle.std.specs.List.{zip}
use Rattle.std.specs.Option.{option_map_or}
use Rattle.std.specs.Str.{bytes_eq}
use Rattle.std.proofs.lemmas.List.{append-nil}
use Rattle.std.proofs.lemmas.Option.{none-some}
use Rattle.clap.specs.Walk.{Held, Rule, Text, Waiting, Walk, arg_by_long, has_long, idle, option, positional, settled, walked}
use Rattle.clap.specs.Faults.{long_fault, option_fault, other_fault, settle_fault, stray_fault, turn_fault, use_fault, walk_fault}
use Rattle.command_line.specs.CommandWords.{AreNew, Give, Given, ends, given_in, has_name, is_plain}
use Rattle.command_line.specs.CommandWords as giving
use Rattle.command_line.specs.Forms.{CommandForm}
use Rattle.command_line.proofs.Texts.{true_or_false}
use Rattle.command_line.proofs.Flags.{IsLong, Tells, first_none, help_flag, is_dashes, is_long, is_value, next_none, some_fault, tells}
use Rattle.command_line.proofs.Rows.{rows}
use Rattle.command_line.proofs.Rules.{TakesText, ByName, at_place, behind_name, by_name, flag_rule, help_alone, is_flag, is_help, is_option, leaf, option_rule, rules_of}
use Rattle.command_line.proofs.TextUses.{IsOwn, Last, held, last_of, own_word, settle_is_new, settles}
use Rattle.command_line.proofs.Walks.{Needs, at, asking, behind_turn, behind_walked, dashes_walked, end, GivesOne, alone_one, joined_one, last_new, may_give, may_name, may_stand, name_walked, one_is_new, one_walked, needs_rest, own_name, place_turn, place_walked, stray_turn, text_walked, value_faults, IsForm, own_needed}

-- ---- names that no text is given for yet

-- none of these names has a text
abbrev pub AreFree : Given → List Text → Type 0
AreFree given [] = Unit {0}
AreFree given (name ∷ names) = (given_in given name ≡ None) × AreFree given names

-- each of these names has one
abbrev pub AreGiven : Given → List Text → Type 0
AreGiven given [] = Unit {0}
AreGiven given (name ∷ names) = (is_some (given_in given name) ≡ true) × AreGiven given names

-- this name is none of these
abbrev pub IsApart : Text → List Text → Type 0
IsApart name [] = Unit {0}
IsApart name (n ∷ names) = (bytes_eq name n ≡ false) × IsApart name names

abbrev pub AreApart : List Text → Type 0
AreApart [] = Unit {0}
AreApart (name ∷ names) = IsApart name names × AreApart names

one_more_free : (given : Given) (p : Text × Text) (name : Text) → bytes_eq p.0 name ≡ false → given_in given name ≡ None → given_in (given ++ p ∷ []) name ≡ None
one_more_free [] p name other none = ap (λ (b : Bool). option_map (λ (q : Text × Text). q.1) (cond b (Some p) None)) other
one_more_free (q ∷ given) p name other none = go (bytes_eq q.0 name) (one_more_free given p name other) none
  where
    go : (b : Bool) → (given_in given name ≡ None → given_in (given ++ p ∷ []) name ≡ None) → option_map (λ (r : Text × Text). r.1) (cond b (Some q) (find (λ (r : Text × Text). bytes_eq r.0 name) given)) ≡ None
        → option_map (λ (r : Text × Text). r.1) (cond b (Some q) (find (λ (r : Text × Text). bytes_eq r.0 name) (given ++ p ∷ []))) ≡ None
    go true rest none = absurd (none-some _ (sym none))
    go false rest none = rest none

pub still_free : (given : Given) (p : Text × Text) (names : List Text) → IsApart p.0 names → AreFree given names → AreFree (given ++ p ∷ []) names
still_free given p [] apart free = tt
still_free given p (name ∷ names) apart free = (one_more_free given p name apart.0 free.0, still_free given p names apart.1 free.1)

-- ---- a command's form, and the words that it still needs

-- what is still needed: no name is another word's, and what has a text for all that is needed has one for these
pub record Lacks (f : CommandForm) (given : Given) (needed : List Text) : Type 0 where
  pub apart : AreApart needed
  pub named : (name : Text) → may_give f name ≡ true → IsApart name needed
  pub free : AreFree given needed
  pub among : (all : Given) → AreGiven all f.needed → AreGiven all needed

lacks_rest : (f : CommandForm) (given : Given) (name word : Text) (needed : List Text) → Lacks f given (name ∷ needed) → Lacks f (given ++ (name, word) ∷ []) needed
lacks_rest f given name word needed lacks = record {
  apart = lacks.apart.1;
  named = λ n has. (lacks.named n has).1;
  free = still_free given (name, word) needed lacks.apart.0 lacks.free.1;
  among = λ all given. (lacks.among all given).1;
}

lacks_still : (f : CommandForm) (given : Given) (name word : Text) (needed : List Text) → may_give f name ≡ true → Lacks f given needed → Lacks f (given ++ (name, word) ∷ []) needed
lacks_still f given name word needed has lacks = record {
  apart = lacks.apart;
  named = lacks.named;
  free = still_free given (name, word) needed (lacks.named name has) lacks.free;
  among = lacks.among;
}

module _ (f : CommandForm) (form : IsForm f) where
  -- nothing is needed any more where all that is needed was given
  none_needed : (given : Given) (needed : List Text) → Lacks f given needed → AreGiven given f.needed → needed ≡ []
  none_needed given [] lacks all = refl
  none_needed given (name ∷ needed) lacks all = absurd (true_or_false (sym (lacks.among given all).0 ∙ ap is_some lacks.free.0))

  -- what is told of the end of words that have no fault
  pub record Ended (w : Walk) (words : List Text) : Type 0 where
    pub faults : walk_fault (leaf f) [] w words ≡ []
    pub settle : settle_fault (rules_of f) false (end f w words).held ≡ []
    pub complete : (all : Given) → settled (rules_of f) (end f w words).held ≡ held all None → AreGiven all f.needed

  turn_of : (w : Walk) (word : Text) (words : List Text) → Ended w (word ∷ words) → turn_fault (leaf f) [] w word ≡ []
  unfolding walk_fault
  turn_of w word words ended = first_none _ _ ended.faults

  ended_past : (w then : Walk) (word : Text) (words : List Text) → walked (rules_of f) [] w word ≡ then → Ended w (word ∷ words) → Ended then words
  unfolding walk_fault
  ended_past w then word words goes ended = subst (λ (u : Walk). Ended u words) goes (record { faults = next_none _ _ ended.faults; settle = ended.settle; complete = ended.complete })

  -- the texts that words give, which are new
  pub record Said (needed words : List Text) (past : Given) (last : Last) : Type 0 where
    pub given : Given
    pub give : Give f.named f.flags needed words given
    pub new : AreNew past (last_of last ++ given)

  -- ---- behind `--`

  behind : (words needed : List Text) (count : ℕ) (past : Given) (last : Last) (waiting : Waiting) → Needs f count needed → IsOwn f last → Lacks f (past ++ last_of last) needed
      → Ended (at count (held past last) waiting true) words → (length words ≡ length needed) × AreNew past (last_of last ++ zip needed words)
  unfolding walk_fault
  behind [] needed count past last waiting needs own lacks ended =
      let new = settle_is_new f past last own ended.settle in
      let none = none_needed (past ++ last_of last) needed lacks (ended.complete _ (settles f past last own new)) in
      (ap length (sym none), subst (λ (ns : List Text). AreNew past (last_of last ++ zip ns [])) (sym none) (subst (AreNew past) (sym (append-nil (last_of last))) new))
  behind (word ∷ words) [] count past last waiting needs own lacks ended =
      absurd (some_fault _ _ (sym (value_faults f count (held past last) [] needs) ∙ turn_of _ word words ended))
  behind (word ∷ words) (name ∷ needed) count past last waiting needs own lacks ended =
      let new = settle_is_new f past last own (sym (behind_turn f count past last name word needed needs own waiting) ∙ turn_of _ word words ended) in
      let rest = behind words needed (count + 1) (past ++ last_of last) (Some (name, word)) idle (needs_rest f count name needed needs) (own_needed f form count name needed needs)
      (lacks_rest f (past ++ last_of last) name word needed lacks) (ended_past _ _ word words (behind_walked f count past last name word needed needs own waiting new) ended) in
      (omega (arith, rest.0), last_new f past last ((name, word) ∷ zip needed words) new rest.1)

  -- ---- a name that waits for its text

  -- it is never used without one
  asks_text : (past : Given) (name : Text) → has_name f.named name ≡ true → settle_fault (rules_of f) false (asking past name) ≡ [] → ⊥
  asks_text past name has none =
      let found = own_word f name (own_name f name has) in
      by found.rule found.takes (subst (λ (a : Option Rule). option_map_or (λ (b : Rule). use_fault false b [] (rows past)) a [] ≡ []) found.found none)
    where
      by : (a : Rule) → TakesText name a → use_fault false a [] (rows past) ≡ [] → ⊥
      by _ (at_place k) none = some_fault _ _ none
      by _ behind_name none = some_fault _ _ none

  -- a long word that has no fault is a name that may be given, or one that stands alone
  data IsOwnName (name : Text) (text : Option Text) (h : Held) : Type 0 where
    is_named : has_name f.named name ≡ true → option_fault (rules_of f) false (option_rule name) text h ≡ [] → IsOwnName name text h
    is_alone : text ≡ None → has_name f.flags name ≡ true → settle_fault (rules_of f) false h ≡ [] → IsOwnName name text h

  own_named : (name : Text) (text : Option Text) (h : Held) → long_fault (rules_of f) false (arg_by_long (rules_of f) name) text h ≡ [] → IsOwnName name text h
  own_named name text h none = by (by_name f name)
    where
      help_refused : (found : Bool) (text : Option Text) → long_fault (rules_of f) false (cond found (Some help_flag) None) text h ≡ [] → ⊥
      help_refused false text none = some_fault _ _ none
      help_refused true (Some text) none = some_fault _ _ none
      help_refused true None none = some_fault _ _ (next_none (settle_fault (rules_of f) false h) _ none)

      alone : (text : Option Text) → has_name f.flags name ≡ true → long_fault (rules_of f) false (Some (flag_rule name)) text h ≡ [] → IsOwnName name text h
      alone None has none = is_alone refl has (first_none _ _ none)
      alone (Some text) has none = absurd (some_fault _ _ none)

      by : ByName f name (arg_by_long (rules_of f) name) → IsOwnName name text h
      by (is_option has found) = is_named has (subst (λ (a : Option Rule). long_fault (rules_of f) false a text h ≡ []) found none)
      by (is_flag has found) = alone text has (subst (λ (a : Option Rule). long_fault (rules_of f) false a text h ≡ []) found none)
      by (is_help found) = absurd (help_refused (has_long help_flag name) text (subst (λ (a : Option Rule). long_fault (rules_of f) false a text h ≡ []) found none))

  own_settles : (name : Text) (text : Option Text) (h : Held) → IsOwnName name text h → settle_fault (rules_of f) false h ≡ []
  own_settles name None h (is_named has none) = none
  own_settles name (Some text) h (is_named has none) = first_none _ _ none
  own_settles name text h (is_alone is has none) = none

  -- no word behind `--` comes to its aid
  no_text_behind : (count : ℕ) (past : Given) (name : Text) (needed words : List Text) → Needs f count needed → has_name f.named name ≡ true
      → Ended (at count (asking past name) (option name) true) words → ⊥
  unfolding walk_fault
  no_text_behind count past name needed [] needs has ended = asks_text past name has ended.settle
  no_text_behind count past name needed (word ∷ words) needs has ended =
      by needed (sym (value_faults f count (asking past name) needed needs) ∙ turn_of _ word words ended)
    where
      by : (needed : List Text) → option_map_or (λ (n : Text). settle_fault (rules_of f) false (asking past name)) (slice_get needed 0) (stray_fault (leaf f)) ≡ [] → ⊥
      by [] none = some_fault _ _ none
      by (n ∷ needed) none = asks_text past name has none

  other_of_turn : (count : ℕ) (h : Held) (waiting : Waiting) (word : Text) → turn_fault (leaf f) [] (at count h waiting false) word ≡ [] → other_fault (leaf f) None word h ≡ []
  other_of_turn count h idle word none = first_none _ _ none
  other_of_turn count h (option name) word none = first_none _ _ none
  other_of_turn count h positional word none = first_none _ _ none

  -- the next word is the text
  pub record IsText (words : List Text) (count : ℕ) (past : Given) (name : Text) : Type 0 where
    pub word : Text
    pub rest : List Text
    pub are : words ≡ word ∷ rest
    pub plain : is_plain word ≡ true
    pub ended : Ended (at count (held past (Some (name, word))) idle false) rest

  pub text_of : (words needed : List Text) (count : ℕ) (past : Given) (name : Text) → Needs f count needed → has_name f.named name ≡ true → Ended (at count (asking past name) (option name) false) words
      → IsText words count past name
  text_of [] needed count past name needs has ended = absurd (asks_text past name has ended.settle)
  text_of (word ∷ words) needed count past name needs has ended =
      by (tells (leaf f) (help_alone f) (asking past name) refl word (other_of_turn count (asking past name) (option name) word (turn_of _ word words ended)))
    where
      by : Tells (leaf f) (asking past name) word → IsText (word ∷ words) count past name
      by (is_value plain) = record { word = word; rest = words; are = refl; plain = plain; ended = ended_past _ _ word words (text_walked f count past name word has plain) ended }
      by (is_dashes is) = absurd (no_text_behind count past name needed words needs has
          (ended_past _ _ word words (ap (walked (rules_of f) [] (at count (asking past name) (option name) false)) is ∙ dashes_walked f count (asking past name) (option name)) ended))
      by (is_long other text long none) =
          absurd (asks_text past name has (own_settles other text (asking past name) (own_named other text (asking past name) none)))

-- words that have no fault give texts, each a new one
abbrev pub IsSaid : (f : CommandForm) → IsForm f → ℕ → Type 0
IsSaid f form most = (words needed : List Text) → length words ≤ most → (count : ℕ) (past : Given) (last : Last) → Needs f count needed → IsOwn f last → Lacks f (past ++ last_of last) needed
    → Ended f form (at count (held past last) idle false) words → Said f form needed words past last

-- a word, and then fewer
module _ (f : CommandForm) (form : IsForm f) (most : ℕ) (again : IsSaid f form most) (word : Text) (words : List Text) (within : length words ≤ most) (count : ℕ) (past : Given) (last : Last) (own : IsOwn f last)
    (ended : Ended f form (at count (held past last) idle false) (word ∷ words)) where
  turn : turn_fault (leaf f) [] (at count (held past last) idle false) word ≡ []
  turn = turn_of f form _ word words ended

  said_value : (needed : List Text) → Needs f count needed → Lacks f (past ++ last_of last) needed → is_plain word ≡ true → Said f form needed (word ∷ words) past last
  said_value [] needs lacks plain = absurd (some_fault _ _ (sym (stray_turn f count (held past last) word refl needs plain) ∙ turn))
  said_value (name ∷ needed) needs lacks plain =
      let new = settle_is_new f past last own (sym (place_turn f count past last name word needed needs own plain) ∙ turn) in
      let rest = again words needed within (count + 1) (past ++ last_of last) (Some (name, word)) (needs_rest f count name needed needs) (own_needed f form count name needed needs)
      (lacks_rest f (past ++ last_of last) name word needed lacks) (ended_past f form _ _ word words (place_walked f count past last name word needed needs own plain new) ended) in
      record { given = (name, word) ∷ rest.given; give = giving.value name word needed words rest.given plain rest.give; new = last_new f past last _ new rest.new }

  -- a name, and the word behind it
  said_name : (needed : List Text) → Needs f count needed → Lacks f (past ++ last_of last) needed → (name : Text) → has_name f.named name ≡ true → IsLong word name None
      → settle_fault (rules_of f) false (held past last) ≡ [] → Said f form needed (word ∷ words) past last
  said_name needed needs lacks name has long none =
      let new = settle_is_new f past last own none in
      let next = text_of f form words needed count (past ++ last_of last) name needs has (ended_past f form _ _ word words (name_walked f count past last word name has own long new) ended) in
      let rest = again next.rest needed (omega (arith, within, ap length next.are)) count (past ++ last_of last) (Some (name, next.word)) needs (own_name f name has)
      (lacks_still f (past ++ last_of last) name next.word needed (may_name f name has) lacks) next.ended in
      record {
        given = (name, next.word) ∷ rest.given;
        give = subst (λ (t : Text). Give f.named f.flags needed (t ∷ words) ((name, next.word) ∷ rest.given)) (sym long.is)
            (subst (λ (more : List Text). Give f.named f.flags needed ((codes "--" ++ name) ∷ more) ((name, next.word) ∷ rest.given)) (sym next.are)
            (giving.next name next.word needed next.rest rest.given has next.plain rest.give));
        new = last_new f past last _ new rest.new;
      }

  -- a word that gives a text by itself
  said_one : (needed : List Text) → Needs f count needed → Lacks f (past ++ last_of last) needed → (name text : Text) → GivesOne f word (name, text) → may_give f name ≡ true
      → ((given : Given) → Give f.named f.flags needed words given → Give f.named f.flags needed (word ∷ words) ((name, text) ∷ given)) → Said f form needed (word ∷ words) past last
  said_one needed needs lacks name text one may gives =
      let free = one_is_new f count past last word (name, text) one own turn in
      let rest = again words needed within count (past ++ last_of last ++ (name, text) ∷ []) None needs tt
      (subst (λ (g : Given). Lacks f g needed) (sym (append-nil (past ++ last_of last ++ (name, text) ∷ []))) (lacks_still f (past ++ last_of last) name text needed may lacks))
      (ended_past f form _ _ word words (one_walked f count past last word (name, text) one own free.0 free.1) ended) in
      record { given = (name, text) ∷ rest.given; give = gives rest.given rest.give; new = last_new f past last _ free.0 (free.1, rest.new) }

  said_long : (needed : List Text) → Needs f count needed → Lacks f (past ++ last_of last) needed → (name : Text) (text : Option Text) → IsLong word name text → IsOwnName f form name text (held past last) → Said f form needed (word ∷ words) past last
  said_long needed needs lacks name None long (is_named has none) = said_name needed needs lacks name has long none
  said_long needed needs lacks name (Some text) long (is_named has none) =
      said_one needed needs lacks name text (joined_one f word name text long has) (may_name f name has)
      (λ given rest. subst (λ (t : Text). Give f.named f.flags needed (t ∷ words) ((name, text) ∷ given)) (sym long.is) (giving.joined name text needed words given has rest))
  said_long needed needs lacks name None long (is_alone is has none) =
      said_one needed needs lacks name name (alone_one f word name long (form.apart name has) has) (may_stand f name has)
      (λ given rest. subst (λ (t : Text). Give f.named f.flags needed (t ∷ words) ((name, name) ∷ given)) (sym long.is) (giving.alone name needed words given has rest))
  said_long needed needs lacks name (Some text) long (is_alone is has none) = absurd (none-some text (sym is))

  said_word : (needed : List Text) → Needs f count needed → Lacks f (past ++ last_of last) needed → Tells (leaf f) (held past last) word → Said f form needed (word ∷ words) past last
  said_word needed needs lacks (is_value plain) = said_value needed needs lacks plain
  said_word needed needs lacks (is_dashes is) =
      let behind_is = ended_past f form _ _ word words (ap (walked (rules_of f) [] (at count (held past last) idle false)) is ∙ dashes_walked f count (held past last) idle) ended in
      let all = behind f form words needed count past last idle needs own lacks behind_is in
      record { given = zip needed words; give = subst (λ (t : Text). Give f.named f.flags needed (t ∷ words) (zip needed words)) (sym is) (giving.dashes needed words all.0); new = all.1 }
  said_word needed needs lacks (is_long name text long none) =
      said_long needed needs lacks name text long (own_named f form name text (held past last) none)

  pub said_more : (needed : List Text) → Needs f count needed → Lacks f (past ++ last_of last) needed → Said f form needed (word ∷ words) past last
  said_more needed needs lacks = said_word needed needs lacks (tells (leaf f) (help_alone f) (held past last) refl word (other_of_turn f form count (held past last) idle word turn))

pub said : (f : CommandForm) (form : IsForm f) (most : ℕ) → IsSaid f form most
said f form most [] needed within count past last needs own lacks ended =
    let new = settle_is_new f past last own ended.settle in
    let none = none_needed f form (past ++ last_of last) needed lacks (ended.complete _ (settles f past last own new)) in
    record { given = []; give = subst (λ (ns : List Text). Give f.named f.flags ns [] []) (sym none) ends; new = subst (AreNew past) (sym (append-nil (last_of last))) new }
said f form zero (word ∷ words) needed within count past last needs own lacks ended = absurd (omega (arith, within))
said f form (suc most) (word ∷ words) needed within count past last needs own lacks ended =
    said_more f form most (said f form most) word words (omega (arith, within)) count past last own ended needed needs lacks
