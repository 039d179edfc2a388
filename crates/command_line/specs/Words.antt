-- What the words of a command line ask for: what clap makes of them, where it refuses none.
use Rattle.std.specs.Prelude.{◌≡◌, ◌≤◌, ◌-◌, ◌^◌, ◌||◌, ℕ, Bool, true, false, List, [], ◌∷◌, Option, Some, None, IfSome, codes, is_some, option_and_then, option_map, if◌then◌else◌}
use Rattle.std.specs.Str.{bytes_eq}
use Rattle.clap.specs.Words.{Row, Text, fault_of, first_of, subcommand_of}
use Rattle.clap.specs.Kinds.{Kinds}
use Rattle.effects.specs.Limits.{most_first}
use Rattle.six_calls.specs.Names.{kind_named}
use Rattle.six_calls.specs.declared.call.CallKind.{CallKind}
use Rattle.command_line.specs.Forms.{program_form}
use Rattle.command_line.specs.Numbers.{number_between, number_or}
use Rattle.command_line.specs.declared.words.Asked.{Asked}
use Rattle.command_line.specs.declared.words.Asked.TheVariants as asked

-- what words may ask for: a session; a check of the files of these names; the result of an instance's file with the options of
-- another file, if one is named, and the result in one that is handed in, if there is one, until there is a file of this name, if one is named, within so many seconds, if they are said, and with or without the safe limit of turns; the instance of so many variables, solved; a call of the server at a host's port, with the
-- files of its parts; a journal, written again; or a server there, with so many workers, so many conversations at once, up to so many connections, of whose links
-- each waits for its peer for so many seconds at most, and whose first job has this number
pub data Command : Type 0 where
  Session : (journal : Option Text) → Command
  Check : (osil osrl : Text) → Command
  Solve : (osil : Text) → (options handed halt : Option Text) → (seconds : Option ℕ) → (safe : Bool) → Command
  Generate : (variables : ℕ) → Command
  Call : (kind : CallKind) → (host : Text) → (port : ℕ) → (osil osol ospl : Option Text) → Command
  Compact : (old new : Text) → Command
  Serve : (host : Text) → (port workers servers connections patience first : ℕ) → (journal : Option Text) → Command

-- the command that is asked for
abbrev pub meant : Asked → Command
meant (asked.Session journal) = Session (option_map (λ n. n.now) journal)
meant (asked.Check osil osrl) = Check osil.now osrl.now
meant (asked.Solve osil options handed halt seconds safe) = Solve osil.now (option_map (λ name. name.now) options) (option_map (λ name. name.now) handed) (option_map (λ name. name.now) halt) seconds safe
meant (asked.Generate variables) = Generate variables
meant (asked.Call words) = Call words.kind words.host.now words.port (option_map (λ name. name.now) words.osil) (option_map (λ name. name.now) words.osol) (option_map (λ name. name.now) words.ospl)
meant (asked.Compact old new) = Compact old.now new.now
meant (asked.Serve words) = Serve words.host.now words.port words.workers words.servers words.connections words.patience words.first (option_map (λ n. n.now) words.journal)

-- ---- what a command's words mean

-- the texts of words, by the words' names
abbrev pub Said : Type 0
Said = Text → Option Text

-- a session, over the journal in a file, if it is named
abbrev pub session_of : Said → Command
session_of said = Session (said (codes "journal"))

abbrev pub check_of : Said → Option Command
check_of said = option_and_then (λ osil. option_map (Check osil) (said (codes "osrl"))) (said (codes "osil"))

abbrev pub compact_of : Said → Option Command
compact_of said = option_and_then (λ old. option_map (Compact old) (said (codes "new"))) (said (codes "old"))

-- the most seconds: the greatest that options may say
abbrev pub most_seconds : ℕ
most_seconds = 2 ^ 63 - 1

-- no time where no word says one, or so many seconds
abbrev pub seconds_of : Option Text → Option (Option ℕ)
seconds_of None = Some None
seconds_of (Some word) = option_map Some (number_between 0 most_seconds word)

abbrev pub solve_of : Said → Option Command
solve_of said = option_and_then (λ osil. option_map (λ seconds. Solve osil (said (codes "options")) (said (codes "result")) (said (codes "halt")) seconds (is_some (said (codes "safe")))) (seconds_of (said (codes "seconds")))) (said (codes "osil"))

-- one to a thousand variables
abbrev pub generate_of : Said → Option Command
generate_of said = option_map Generate (option_and_then (number_between 1 1000) (said (codes "variables")))

-- a port of TCP (RFC 9293, section 3.1), of which 0 stands for one that the system chooses
abbrev pub port_of : Said → Option ℕ
port_of said = option_and_then (number_between 0 65535) (said (codes "port"))

abbrev pub called_command : Said → Option Command
called_command said = option_and_then (λ kind. option_and_then (λ host. option_map (λ port. Call kind host port (said (codes "osil")) (said (codes "osol")) (said (codes "ospl"))) (port_of said)) (said (codes "host"))) (option_and_then kind_named (said (codes "name")))

-- no worker to 16, two where none are said; one to 64 conversations at once, eight where none are said; one to 1,000,000
-- connections, all of them where none are said; 1 to 3600 seconds, 30 where none are said; and a number from 1 to 2^62, 1 where none is said
abbrev pub serve_of : Said → Option Command
serve_of said =
    option_and_then (λ host. option_and_then (λ port. option_and_then (λ workers. option_and_then (λ servers. option_and_then (λ connections. option_and_then (λ patience. option_map (λ first. Serve host port workers servers connections patience first (said (codes "journal")))
    (number_or 1 1 most_first (said (codes "first")))) (number_or 30 1 3600 (said (codes "patience")))) (number_or 1000000 1 1000000 (said (codes "connections"))))
    (number_or 8 1 64 (said (codes "servers")))) (number_or 2 0 16 (said (codes "workers")))) (port_of said)) (said (codes "host"))

-- what a command asks for, by its name and by the texts of its words
abbrev pub command_asked : Text → Said → Option Command
command_asked name said = if bytes_eq name (codes "session") then Some (session_of said)
    else (if bytes_eq name (codes "check") then check_of said
    else (if bytes_eq name (codes "solve") then solve_of said
    else (if bytes_eq name (codes "generate") then generate_of said
    else (if bytes_eq name (codes "call") then called_command said
    else (if bytes_eq name (codes "compact") then compact_of said
    else (if bytes_eq name (codes "serve") then serve_of said else None))))))

-- ---- what the words ask for

-- the texts that were found of words
abbrev pub found_in : List Row → Said
found_in rows id = first_of id rows

-- what is asked for where the words have these faults and name this subcommand
abbrev pub asked_with : Kinds → Option (Text × List Row) → Option Command
asked_with [] found = option_and_then (λ f. command_asked f.0 (found_in f.1)) found
asked_with (fault ∷ faults) found = None

-- what the words ask for, the first of which is the program's name; nothing where they are refused, or ask for help
unfoldable pub asks : List Text → Option Command
asks words = asked_with (fault_of program_form words) (subcommand_of program_form words)

-- the words are `session`'s
abbrev pub AsksSession : List Text → Type 0
AsksSession words = asks words ≡ Some (Session None)

-- the words are no command's
abbrev pub IsNoCommand : List Text → Type 0
IsNoCommand words = asks words ≡ None

-- the words are `check`'s, and name these files
abbrev pub IsCheck : List Text → (osil osrl : Text) → Type 0
IsCheck words osil osrl = asks words ≡ Some (Check osil osrl)

-- the words are `solve`'s, and name this file, one of options, if any, one of a result that is handed in, if any, and one that ends the search once it is there, if any, within so many seconds, if they say so, with or without the safe limit
abbrev pub IsSolve : List Text → (osil : Text) → (options handed halt : Option Text) → (seconds : Option ℕ) → (safe : Bool) → Type 0
IsSolve words osil options handed halt seconds safe = asks words ≡ Some (Solve osil options handed halt seconds safe)

-- a command's numbers are within their ends
abbrev pub AreNumbersWithin : Command → Type 0
AreNumbersWithin (Session journal) = Unit {0}
AreNumbersWithin (Check osil osrl) = Unit {0}
AreNumbersWithin (Solve osil options handed halt seconds safe) = IfSome seconds (λ n. n ≤ most_seconds)
AreNumbersWithin (Generate variables) = (1 ≤ variables) × (variables ≤ 1000)
AreNumbersWithin (Call kind host port osil osol ospl) = port ≤ 65535
AreNumbersWithin (Compact old new) = Unit {0}
AreNumbersWithin (Serve host port workers servers connections patience first journal) =
    (port ≤ 65535) × (workers ≤ 16) × ((1 ≤ servers) × (servers ≤ 64)) × ((1 ≤ connections) × (connections ≤ 1000000)) × ((1 ≤ patience) × (patience ≤ 3600))
    × ((1 ≤ first) × (first ≤ most_first))

-- the command names files: a call does where one of its parts is in a file
abbrev pub names_files : Command → Bool
names_files (Session journal) = false
names_files (Check osil osrl) = true
names_files (Solve osil options handed halt seconds safe) = true
names_files (Generate variables) = false
names_files (Call kind host port osil osol ospl) = is_some osil || (is_some osol || is_some ospl)
names_files (Compact old new) = false
names_files (Serve host port workers servers connections patience first journal) = false

-- the command asks for links
abbrev pub asks_for_links : Command → Bool
asks_for_links (Session journal) = false
asks_for_links (Check osil osrl) = false
asks_for_links (Solve osil options handed halt seconds safe) = false
asks_for_links (Generate variables) = false
asks_for_links (Call kind host port osil osol ospl) = true
asks_for_links (Compact old new) = false
asks_for_links (Serve host port workers servers connections patience first journal) = true

-- the words name no file: no command that they ask for does
abbrev pub NamesNoFile : List Text → Type 0
NamesNoFile words = (it : Command) → asks words ≡ Some it → names_files it ≡ false

-- and ask for no link
abbrev pub AsksForNoLink : List Text → Type 0
AsksForNoLink words = (it : Command) → asks words ≡ Some it → asks_for_links it ≡ false

-- what is written to whoever gives words that are no command's
abbrev pub usage : List ℕ
usage = codes "usage: os_app session | solve | check | serve | call | compact | generate\n"
