-- What the words of a command line ask for, and what is written where they are no command's.
use Rattle.std.proofs.Common.{◌≡◌, ◌∙◌, List, [], ◌∷◌, Option, Some, None, inl, inr, sym, ap, subst, refl, true}
use Rattle.std.specs.Prelude.{option_and_then, option_map}
use Rattle.clap.specs.Words.{App, HasKind, HasMatchesOf, IsAmong, Kinds, Row, Text, fault_of, is_simple, is_simple_and_free, kind_of, first_of, rows_of, subcommand_of, subcommand_rows_of}
use Rattle.clap.specs.declared.error.Error.{Error}
use Rattle.clap.specs.declared.error.kind.ErrorKind.{ErrorKind}
use Rattle.clap.specs.declared.error.kind.ErrorKind.TheVariants.{OutOfMemory}
use Rattle.clap.specs.declared.parser.matches.ArgMatches.{ArgMatches}
use Rattle.clap.proofs.OnLiterals.{clap_on_literals}
use Rattle.std.specs.Box.{box_value}
use Rattle.std.proofs.lemmas.Option.{none-some, same_Some}
use Rattle.clap.specs.Matches.{first_value, found_of, subcommand_name_of}
use Rattle.clap.specs.declared.parser.matches.ArgMatches.TheViews.{out-ArgMatches, out-SubCommand}
use Rattle.clap.specs.declared.parser.matches.Found.{Found}
use Rattle.clap.proofs.WalkLemmas.{first_value-rows}
use Rattle.command_line.specs.declared.words.Asked.{Asked}
use Rattle.command_line.specs.Forms.{program_form}
use Rattle.command_line.specs.Words.{Command, IsNoCommand, command_asked, asked_with, asks, found_in, meant}

-- clap says exactly what it makes of the program's words
program_is_free : is_simple_and_free program_form ≡ true
unfolding clap_on_literals
program_is_free = refl

program_is_simple : is_simple program_form ≡ true
unfolding clap_on_literals
program_is_simple = refl

-- what words ask for that aren't refused
pub asks_by_subcommand : (app : App) (words : List Text) (found : ArgMatches) → app ≡ program_form
    → (is_simple_and_free app ≡ true → fault_of app words ≡ []) → HasMatchesOf app words found
    → option_and_then (λ f. command_asked f.0 (found_in f.1)) (subcommand_rows_of found) ≡ asks words
unfolding asks
asks_by_subcommand app words found is faults matches =
    let none : fault_of program_form words ≡ [] = subst (λ (a : App). fault_of a words ≡ []) is (faults (ap is_simple_and_free is ∙ program_is_free)) in
    let rows : subcommand_rows_of found ≡ subcommand_of program_form words =
    (matches (ap is_simple is ∙ program_is_simple)).1 ∙ ap (λ (a : App). subcommand_of a words) is in
    ap (option_and_then (λ f. command_asked f.0 (found_in f.1))) rows ∙ ap (λ (faults : Kinds). asked_with faults (subcommand_of program_form words)) (sym none)

some_fault : (kind : ErrorKind) (faults : Kinds) (found : Option (Text × List Row)) → IsAmong kind faults
    → None ≡ asked_with faults found
some_fault kind [] found among = absurd among
some_fault kind (fault ∷ faults) found among = refl

-- what words ask for that are refused
pub asks_nothing : (app : App) (words : List Text) (error : Error) → app ≡ program_form
    → (is_simple_and_free app ≡ true → HasKind (fault_of app words) error) → (kind_of error ≡ OutOfMemory → ⊥)
    → None ≡ asks words
unfolding asks
asks_nothing app words error is kinds other =
    let kind = subst (λ (a : App). HasKind (fault_of a words) error) is (kinds (ap is_simple_and_free is ∙ program_is_free)) in
    elim kind [
      | inl memory ↦ absurd (other memory)
      | inr among ↦ some_fault (kind_of error) (fault_of program_form words) (subcommand_of program_form words) among
    ]

-- ---- the command that was found

-- what is asked for by its name and by what was found of its words
module _ {X : Type 0} (named : X → Text) (rows : X → List Row) where
  asked_found : (o : Option X) (name : Text) (f : Found) (it : Option Command) → Some name ≡ option_map named o
      → Some (rows_of f) ≡ option_map (λ (p : Text × List Row). p.1) (option_map (λ (b : X). (named b, rows b)) o)
      → it ≡ command_asked name (first_value f) → it ≡ option_and_then (λ (q : Text × List Row). command_asked q.0 (found_in q.1)) (option_map (λ (b : X). (named b, rows b)) o)
  asked_found None name f it first second is = absurd (none-some name (sym first))
  asked_found (Some b) name f it first second is =
      is ∙ (λ i. command_asked (same_Some _ _ first i) (λ id. (first_value-rows f id ∙ ap (first_of id) (same_Some _ _ second)) i))

pub command_asked_found : (m : ArgMatches) (name : Text) (f : Found) (it : Option Command) → Some name ≡ subcommand_name_of m → Some (rows_of f) ≡ option_map (λ (p : Text × List Row). p.1) (subcommand_rows_of m)
    → it ≡ command_asked name (first_value f) → it ≡ option_and_then (λ (q : Text × List Row). command_asked q.0 (found_in q.1)) (subcommand_rows_of m)
command_asked_found m name f it first second is =
    asked_found (λ b. (out-SubCommand (box_value b)).name.now) (λ b. rows_of (found_of (out-SubCommand (box_value b)).matches)) (out-ArgMatches m).subcommand name f it first second is

-- ---- what was asked for

-- what is asked for is what the words ask for
pub asks_it : (found : Option Asked) (it : Asked) (words : List Text) → found ≡ Some it → option_map meant found ≡ asks words → asks words ≡ Some (meant it)
asks_it found it words some is = sym is ∙ ap (option_map meant) some

pub asks_none : (found : Option Asked) (words : List Text) → found ≡ None → option_map meant found ≡ asks words → IsNoCommand words
asks_none found words none is = sym is ∙ ap (option_map meant) none
