-- Which words are a command's, in their forms.
use Rattle.std.specs.Prelude.{◌≡◌, ◌==◌, ◌||◌, Bool, true, not, None, Some, List, [], ◌∷◌, ◌++◌, length, codes, find, option_map}
use Rattle.std.specs.List.{Any, list_any, zip}
use Rattle.std.specs.Str.{bytes_eq, chars}
use Rattle.clap.specs.Words.{Text}
use Rattle.command_line.specs.Forms.{CommandForm, forms}
use Rattle.command_line.specs.Words.{Command, Said, command_asked}

-- the word is no flag: it doesn't begin with `-` (45), or no character stands behind that, as in `-` alone (POSIX.1, XBD 12.2,
-- guideline 4)
abbrev pub is_plain : Text → Bool
is_plain [] = true
is_plain (first ∷ rest) = not (first == 45) || length (chars rest) == 0

-- the list has this name
abbrev pub has_name : List Text → Text → Bool
has_name names name = list_any (λ n. bytes_eq n name) names

-- names with the texts that are given for them
abbrev pub Given : Type 0
Given = List (Text × Text)

-- the words give these texts: for each name that is needed, in their order, a word that is no flag; for names that may be given, a text
-- behind `--` and the name, as the next word, where it is no flag, or behind a `=`. Behind a word `--`, which gives nothing, the words
-- are all that is still needed, whatever they are (POSIX.1, XBD 12.2, guideline 10). A name that stands alone behind `--` gives itself
pub data Give (named flags : List Text) : (needed words : List Text) → Given → Type 0 where
  ends : Give named flags [] [] []
  dashes : (needed values : List Text) → length values ≡ length needed → Give named flags needed (codes "--" ∷ values) (zip needed values)
  value : (name word : Text) (needed words : List Text) (given : Given) → is_plain word ≡ true → Give named flags needed words given
      → Give named flags (name ∷ needed) (word ∷ words) ((name, word) ∷ given)
  next : (name word : Text) (needed words : List Text) (given : Given) → has_name named name ≡ true → is_plain word ≡ true → Give named flags needed words given
      → Give named flags needed ((codes "--" ++ name) ∷ word ∷ words) ((name, word) ∷ given)
  joined : (name text : Text) (needed words : List Text) (given : Given) → has_name named name ≡ true → Give named flags needed words given
      → Give named flags needed ((codes "--" ++ (name ++ (codes "=" ++ text))) ∷ words) ((name, text) ∷ given)
  alone : (name : Text) (needed words : List Text) (given : Given) → has_name flags name ≡ true → Give named flags needed words given
      → Give named flags needed ((codes "--" ++ name) ∷ words) ((name, name) ∷ given)

-- the text that is given for a name, if one is
abbrev pub given_in : Given → Said
given_in given name = option_map (λ p. p.1) (find (λ p. bytes_eq p.0 name) given)

-- no name is given twice, and none that was given before
abbrev pub AreNew : (before given : Given) → Type 0
AreNew before [] = Unit {0}
AreNew before (first ∷ given) = (given_in before first.0 ≡ None) × AreNew (before ++ first ∷ []) given

-- the words are those of a command that means this: a name, that of the command, and words that give what it needs, and what it may be given at
-- most once each
pub record AreWordsOf (it : Command) (words : List Text) : Type 0 where
  pub name : Text
  pub form : CommandForm
  pub rest : List Text
  pub given : Given
  pub among : Any (λ f. f ≡ form) forms
  pub are : words ≡ name ∷ form.name ∷ rest
  pub give : Give form.named form.flags form.needed rest given
  pub once : AreNew [] given
  pub means : command_asked form.name (given_in given) ≡ Some it
