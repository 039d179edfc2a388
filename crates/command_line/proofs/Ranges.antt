-- The numbers of a command are within their ends.
use Rattle.std.proofs.Common.{◌≡◌, ◌≤◌, ℕ, Bool, true, false, cond, List, [], ◌∷◌, Option, Some, None, refl, subst, arith}
use Rattle.std.specs.Prelude.{IfSome, codes, is_some, option_and_then, option_map}
use Rattle.std.specs.Str.{bytes_eq}
use Rattle.std.specs.Str.Parse.{digits_value, without_leading_plus}
use Rattle.std.proofs.lemmas.Option.{none-some, same_Some}
use Rattle.clap.specs.Words.{Row, Text, fault_of, subcommand_of}
use Rattle.clap.specs.Kinds.{Kinds}
use Rattle.clap.specs.ValueTests.{is_unsigned_in}
use Rattle.clap.specs.declared.builder.value_parser.ValueParser.TheVariants as parsers
use Rattle.clap.proofs.ValueTestLemmas.{accepts-Accepts}
use Rattle.six_calls.specs.declared.call.CallKind.{CallKind}
use Rattle.effects.specs.Limits.{most_first}
use Rattle.six_calls.specs.Names.{kind_named}
use Rattle.command_line.specs.Forms.{program_form}
use Rattle.command_line.specs.Numbers.{number_between, number_or}
use Rattle.command_line.specs.Words.{Command, Said, Check, Solve, Generate, Call, Compact, Serve, AreNumbersWithin, command_asked, asked_with, asks, called_command, check_of, compact_of, found_in, generate_of, most_seconds, port_of, seconds_of, serve_of, session_of, solve_of}

number_within : (least most : ℕ) (word : Text) (n : ℕ) → number_between least most word ≡ Some n → (least ≤ n) × (n ≤ most)
number_within least most word n is = go (is_unsigned_in least most word) refl is
  where
    go : (b : Bool) → is_unsigned_in least most word ≡ b → cond b (Some (digits_value 10 (without_leading_plus word))) None ≡ Some n → (least ≤ n) × (n ≤ most)
    go true passes is =
        let within = accepts-Accepts false (parsers.Unsigned least most) word passes in
        subst (λ (m : ℕ). (least ≤ m) × (m ≤ most)) (same_Some _ n is) (within.2, within.3)
    go false fails is = absurd (none-some n is)

or_within : (default least most : ℕ) (word : Option Text) (n : ℕ) → least ≤ default → default ≤ most → number_or default least most word ≡ Some n → (least ≤ n) × (n ≤ most)
or_within default least most None n low high is = subst (λ (m : ℕ). (least ≤ m) × (m ≤ most)) (same_Some default n is) (low, high)
or_within default least most (Some word) n low high is = number_within least most word n is

module _ (said : Said) (it : Command) where
  check_within : (osil osrl : Option Text) → option_and_then (λ (a : Text). option_map (Check a) osrl) osil ≡ Some it → AreNumbersWithin it
  check_within None osrl is = absurd (none-some it is)
  check_within (Some osil) None is = absurd (none-some it is)
  check_within (Some osil) (Some osrl) is = subst AreNumbersWithin (same_Some (Check osil osrl) it is) tt

  compact_within : (old new : Option Text) → option_and_then (λ (a : Text). option_map (Compact a) new) old ≡ Some it → AreNumbersWithin it
  compact_within None new is = absurd (none-some it is)
  compact_within (Some old) None is = absurd (none-some it is)
  compact_within (Some old) (Some new) is = subst AreNumbersWithin (same_Some (Compact old new) it is) tt

  seconds_within : (word : Option Text) (seconds : Option ℕ) → seconds_of word ≡ Some seconds → IfSome seconds (λ n. n ≤ most_seconds)
  seconds_within None seconds is = subst (λ (s : Option ℕ). IfSome s (λ n. n ≤ most_seconds)) (same_Some None seconds is) tt
  seconds_within (Some word) seconds is = by (number_between 0 most_seconds word) refl is
    where
      by : (read : Option ℕ) → number_between 0 most_seconds word ≡ read → option_map Some read ≡ Some seconds → IfSome seconds (λ n. n ≤ most_seconds)
      by None read is = absurd (none-some seconds is)
      by (Some n) read is = subst (λ (s : Option ℕ). IfSome s (λ m. m ≤ most_seconds)) (same_Some (Some n) seconds is) (number_within 0 most_seconds word n read).1

  solve_within : (osil options handed halt : Option Text) (seconds : Option (Option ℕ)) (safe : Bool) → seconds_of (said (codes "seconds")) ≡ seconds
      → option_and_then (λ (a : Text). option_map (λ (s : Option ℕ). Solve a options handed halt s safe) seconds) osil ≡ Some it → AreNumbersWithin it
  solve_within None options handed halt seconds safe read is = absurd (none-some it is)
  solve_within (Some osil) options handed halt None safe read is = absurd (none-some it is)
  solve_within (Some osil) options handed halt (Some seconds) safe read is = subst AreNumbersWithin (same_Some (Solve osil options handed halt seconds safe) it is) (seconds_within (said (codes "seconds")) seconds read)

  -- a number that a word is, if one is there
  read_within : (least most : ℕ) (word : Option Text) (n : ℕ) → option_and_then (number_between least most) word ≡ Some n → (least ≤ n) × (n ≤ most)
  read_within least most None n is = absurd (none-some n is)
  read_within least most (Some word) n is = number_within least most word n is

  generate_within : (variables : Option ℕ) → option_and_then (number_between 1 1000) (said (codes "variables")) ≡ variables → option_map Generate variables ≡ Some it → AreNumbersWithin it
  generate_within None read is = absurd (none-some it is)
  generate_within (Some variables) read is = subst AreNumbersWithin (same_Some (Generate variables) it is) (read_within 1 1000 (said (codes "variables")) variables read)

  call_within : (kind : Option CallKind) (host : Option Text) (port : Option ℕ) → port_of said ≡ port
      → option_and_then (λ (k : CallKind). option_and_then (λ (h : Text). option_map (λ (p : ℕ). Call k h p (said (codes "osil")) (said (codes "osol")) (said (codes "ospl"))) port) host) kind ≡ Some it → AreNumbersWithin it
  call_within None host port read is = absurd (none-some it is)
  call_within (Some kind) None port read is = absurd (none-some it is)
  call_within (Some kind) (Some host) None read is = absurd (none-some it is)
  call_within (Some kind) (Some host) (Some port) read is = subst AreNumbersWithin (same_Some _ it is) (read_within 0 65535 (said (codes "port")) port read).1

  serve_within : (host : Option Text) (port workers servers connections patience first : Option ℕ) → port_of said ≡ port → number_or 2 0 16 (said (codes "workers")) ≡ workers
      → number_or 8 1 64 (said (codes "servers")) ≡ servers → number_or 1000000 1 1000000 (said (codes "connections")) ≡ connections
      → number_or 30 1 3600 (said (codes "patience")) ≡ patience → number_or 1 1 most_first (said (codes "first")) ≡ first
      → option_and_then (λ (h : Text). option_and_then (λ (p : ℕ). option_and_then (λ (w : ℕ). option_and_then (λ (s : ℕ). option_and_then (λ (c : ℕ). option_and_then (λ (t : ℕ). option_map (λ (n : ℕ). Serve h p w s c t n (said (codes "journal"))) first) patience) connections) servers) workers) port) host ≡ Some it
      → AreNumbersWithin it
  serve_within None port workers servers connections patience first p w s c t n is = absurd (none-some it is)
  serve_within (Some host) None workers servers connections patience first p w s c t n is = absurd (none-some it is)
  serve_within (Some host) (Some port) None servers connections patience first p w s c t n is = absurd (none-some it is)
  serve_within (Some host) (Some port) (Some workers) None connections patience first p w s c t n is = absurd (none-some it is)
  serve_within (Some host) (Some port) (Some workers) (Some servers) None patience first p w s c t n is = absurd (none-some it is)
  serve_within (Some host) (Some port) (Some workers) (Some servers) (Some connections) None first p w s c t n is = absurd (none-some it is)
  serve_within (Some host) (Some port) (Some workers) (Some servers) (Some connections) (Some patience) None p w s c t n is = absurd (none-some it is)
  serve_within (Some host) (Some port) (Some workers) (Some servers) (Some connections) (Some patience) (Some first) p w s c t n is =
      let within : AreNumbersWithin (Serve host port workers servers connections patience first (said (codes "journal"))) = (
        (read_within 0 65535 (said (codes "port")) port p).1,
        (or_within 2 0 16 (said (codes "workers")) workers (omega arith) (omega arith) w).1,
        or_within 8 1 64 (said (codes "servers")) servers (omega arith) (omega arith) s,
        or_within 1000000 1 1000000 (said (codes "connections")) connections (omega arith) (omega arith) c,
        or_within 30 1 3600 (said (codes "patience")) patience (omega arith) (omega arith) t,
        or_within 1 1 most_first (said (codes "first")) first (omega arith) (omega arith) n,
      ) in
      subst AreNumbersWithin (same_Some (Serve host port workers servers connections patience first (said (codes "journal"))) it is) within

  by_name : (session check solve generate call compact serve : Bool)
      → cond session (Some (session_of said)) (cond check (check_of said) (cond solve (solve_of said) (cond generate (generate_of said) (cond call (called_command said) (cond compact (compact_of said) (cond serve (serve_of said) None)))))) ≡ Some it
      → AreNumbersWithin it
  by_name true check solve generate call compact serve is = subst AreNumbersWithin (same_Some (session_of said) it is) tt
  by_name false true solve generate call compact serve is = check_within (said (codes "osil")) (said (codes "osrl")) is
  by_name false false true generate call compact serve is = solve_within (said (codes "osil")) (said (codes "options")) (said (codes "result")) (said (codes "halt")) (seconds_of (said (codes "seconds"))) (is_some (said (codes "safe"))) refl is
  by_name false false false true call compact serve is = generate_within (option_and_then (number_between 1 1000) (said (codes "variables"))) refl is
  by_name false false false false true compact serve is = call_within (option_and_then kind_named (said (codes "name"))) (said (codes "host")) (port_of said) refl is
  by_name false false false false false true serve is = compact_within (said (codes "old")) (said (codes "new")) is
  by_name false false false false false false true is = serve_within (said (codes "host")) (port_of said) (number_or 2 0 16 (said (codes "workers"))) (number_or 8 1 64 (said (codes "servers"))) (number_or 1000000 1 1000000 (said (codes "connections")))
      (number_or 30 1 3600 (said (codes "patience"))) (number_or 1 1 most_first (said (codes "first"))) refl refl refl refl refl refl is
  by_name false false false false false false false is = absurd (none-some it is)

asked_within : (faults : Kinds) (found : Option (Text × List Row)) (it : Command) → asked_with faults found ≡ Some it → AreNumbersWithin it
asked_within [] found it is =
    by found is
  where
    by : (found : Option (Text × List Row)) → option_and_then (λ (f : Text × List Row). command_asked f.0 (found_in f.1)) found ≡ Some it → AreNumbersWithin it
    by None is = absurd (none-some it is)
    by (Some f) is = by_name (found_in f.1) it (bytes_eq f.0 (codes "session")) (bytes_eq f.0 (codes "check")) (bytes_eq f.0 (codes "solve")) (bytes_eq f.0 (codes "generate")) (bytes_eq f.0 (codes "call"))
        (bytes_eq f.0 (codes "compact")) (bytes_eq f.0 (codes "serve")) is
asked_within (fault ∷ faults) found it is = absurd (none-some it is)

pub asks_within : (words : List Text) (it : Command) → asks words ≡ Some it → AreNumbersWithin it
unfolding asks
asks_within words it is = asked_within (fault_of program_form words) (subcommand_of program_form words) it is
