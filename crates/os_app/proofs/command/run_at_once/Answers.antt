use Rattle.std.proofs.lemmas.Result.{IfOk-weaker}
use Rattle.std.proofs.Common.{◌∙◌, Some, arith, ap, refl}
use Rattle.command_line.proofs.Meanings.{asks_it, asks_none}
use Rattle.os_app.proofs.OtherWords.{other_told}
use Rattle.os_app.proofs.Words.{links_none, more_words, names_none, unheard_runs}
use Rattle.os_app.proofs.Calls.{call_runs, none_named}
use Rattle.os_app.proofs.Checks.{check_runs}
use Rattle.os_app.proofs.CompactRuns.{compact_runs}
use Rattle.os_app.proofs.Summaries.{generate_runs}
use Rattle.os_app.proofs.JournalRuns.{journal_none}
use Rattle.os_app.proofs.Solves.{about_named, solve_runs}
use Rattle.os_app.proofs.Ends.{ends_of, made_ends, told_from}
use Rattle.os_app.proofs.command.run_at_once.Goals as goal

pub returns-in-Ok-Some-Check-clause-runs : goal.returns-in-Ok-Some-Check-clause-runs
returns-in-Ok-Some-Check-clause-runs g c = λ input.
    check_runs refl c.documents_are_judged_once.ensures _ _ _ _ (asks_it _ _ _ (c.in-Ok-Some-Check.field-0-is ∙ ap Some c.in-Ok-Some-Check.field-0-0-is) c.in-Ok-Some-Check.ensures.asked)
    (ends_of _ _ _ _ c.answer_about.result _ _ c.answer_about.ensures.ok c.answer_about.ensures.counted c.tell.ensures.told) (refl, refl)

pub returns-in-Ok-Some-Solve-clause-runs : goal.returns-in-Ok-Some-Solve-clause-runs
returns-in-Ok-Some-Solve-clause-runs g c = λ input.
    let solve = asks_it _ _ _ (c.in-Ok-Some-Solve.field-0-is ∙ ap Some c.in-Ok-Some-Solve.field-0-0-is) c.in-Ok-Some-Solve.ensures.asked in
    solve_runs refl _ _ _ _ _ _ _ _ solve
    (ends_of _ _ _ _ c.solve_files.result _ _
    (IfOk-weaker c.solve_files.result _ _ (λ a about. about_named (g.F.Files.held c.args.files.now) _ _ _ _ _ _ a.status a.text about) c.solve_files.ensures.ok)
    c.solve_files.ensures.counted c.tell-in-Ok-Some-Solve.ensures.told) (refl, refl)

pub returns-in-Ok-None-clause-runs : goal.returns-in-Ok-None-clause-runs
returns-in-Ok-None-clause-runs g c = λ input. other_told refl _ _ (asks_none _ _ c.in-Ok-None.field-0-is c.in-Ok-None.ensures.asked) (refl, refl) refl c.tell_usage.ensures.told

pub returns-in-Err-clause-runs : goal.returns-in-Err-clause-runs
returns-in-Err-clause-runs g c = λ input. unheard_runs refl _ (record { untaken = (refl, refl); unwritten = refl; all_files_read = refl })

pub returns-in-Ok-Some-Generate-clause-runs : goal.returns-in-Ok-Some-Generate-clause-runs
returns-in-Ok-Some-Generate-clause-runs g c = λ input.
    let asked = asks_it _ _ _ (c.in-Ok-Some-Generate.field-0-is ∙ ap Some c.in-Ok-Some-Generate.field-0-0-is) c.in-Ok-Some-Generate.ensures.asked in
    generate_runs refl _ _ _ asked
    (made_ends _ _ _ _ c.generate.result _ c.generate.ensures (told_from _ _ _ _ _ c.from_memory.ensures c.tell-in-Ok-Some-Generate.ensures.told)) (refl, refl)

pub returns-in-Ok-Some-Call-clause-runs : goal.returns-in-Ok-Some-Call-clause-runs
returns-in-Ok-Some-Call-clause-runs g c = λ input.
    call_runs refl _ _ _ _ _ _ _ _ (asks_it _ _ _ (c.in-Ok-Some-Call.field-0-is ∙ ap Some c.in-Ok-Some-Call.field-0-0-is) c.in-Ok-Some-Call.ensures.asked) c.make_call.ensures.ends refl

pub returns-in-Ok-Some-Compact-clause-runs : goal.returns-in-Ok-Some-Compact-clause-runs
returns-in-Ok-Some-Compact-clause-runs g c = λ input.
    compact_runs g.K.Store.Disk _ _ _ _ _ refl (asks_it _ _ _ (c.in-Ok-Some-Compact.field-0-is ∙ ap Some c.in-Ok-Some-Compact.field-0-0-is) c.in-Ok-Some-Compact.ensures.asked) c.compact_named.ensures.ends (refl, refl)

pub returns-in-Ok-Some-Compact-clause-unkept : goal.returns-in-Ok-Some-Compact-clause-unkept
returns-in-Ok-Some-Compact-clause-unkept g c = λ none. absurd (journal_none _ _ _ (asks_it _ _ _ (c.in-Ok-Some-Compact.field-0-is ∙ ap Some c.in-Ok-Some-Compact.field-0-0-is) c.in-Ok-Some-Compact.ensures.asked) refl none)

pub returns-in-Ok-Some-Check-clause-unread : goal.returns-in-Ok-Some-Check-clause-unread
returns-in-Ok-Some-Check-clause-unread g c = λ none. absurd (names_none _ _ (asks_it _ _ _ (c.in-Ok-Some-Check.field-0-is ∙ ap Some c.in-Ok-Some-Check.field-0-0-is) c.in-Ok-Some-Check.ensures.asked) refl none)

pub returns-in-Ok-Some-Solve-clause-unread : goal.returns-in-Ok-Some-Solve-clause-unread
returns-in-Ok-Some-Solve-clause-unread g c = λ none. absurd (names_none _ _ (asks_it _ _ _ (c.in-Ok-Some-Solve.field-0-is ∙ ap Some c.in-Ok-Some-Solve.field-0-0-is) c.in-Ok-Some-Solve.ensures.asked) refl none)

pub returns-in-Ok-Some-Call-clause-unread : goal.returns-in-Ok-Some-Call-clause-unread
returns-in-Ok-Some-Call-clause-unread g c = λ none. c.make_call.ensures.unread (none_named _ _ _ (none _ (asks_it _ _ _ (c.in-Ok-Some-Call.field-0-is ∙ ap Some c.in-Ok-Some-Call.field-0-0-is) c.in-Ok-Some-Call.ensures.asked)))

pub returns-in-Ok-Some-Call-clause-unlinked : goal.returns-in-Ok-Some-Call-clause-unlinked
returns-in-Ok-Some-Call-clause-unlinked g c = λ none. absurd (links_none _ _ (asks_it _ _ _ (c.in-Ok-Some-Call.field-0-is ∙ ap Some c.in-Ok-Some-Call.field-0-0-is) c.in-Ok-Some-Call.ensures.asked) refl none)

pub generate-requires-clause-least : goal.generate-requires-clause-least
generate-requires-clause-least g c = (c.numbers_are_within_their_ends.ensures _ _ (asks_it _ _ _ (c.in-Ok-Some-Generate.field-0-is ∙ ap Some c.in-Ok-Some-Generate.field-0-0-is) c.in-Ok-Some-Generate.ensures.asked)).0

pub generate-requires-clause-most : goal.generate-requires-clause-most
generate-requires-clause-most g c = (c.numbers_are_within_their_ends.ensures _ _ (asks_it _ _ _ (c.in-Ok-Some-Generate.field-0-is ∙ ap Some c.in-Ok-Some-Generate.field-0-0-is) c.in-Ok-Some-Generate.ensures.asked)).1

pub returns-in-Ok-Some-Session-clause-waits : goal.returns-in-Ok-Some-Session-clause-waits
returns-in-Ok-Some-Session-clause-waits g c = asks_it _ _ _ (c.in-Ok-Some-Session.field-0-is ∙ ap Some c.in-Ok-Some-Session.field-0-0-is) c.in-Ok-Some-Session.ensures.asked

pub returns-in-Ok-Some-Serve-clause-waits : goal.returns-in-Ok-Some-Serve-clause-waits
returns-in-Ok-Some-Serve-clause-waits g c = asks_it _ _ _ (c.in-Ok-Some-Serve.field-0-is ∙ ap Some c.in-Ok-Some-Serve.field-0-0-is) c.in-Ok-Some-Serve.ensures.asked

pub returns-in-Ok-Some-Session-clause-asked : goal.returns-in-Ok-Some-Session-clause-asked
returns-in-Ok-Some-Session-clause-asked g c = record { words = _; asked = asks_it _ _ _ (c.in-Ok-Some-Session.field-0-is ∙ ap Some c.in-Ok-Some-Session.field-0-0-is) c.in-Ok-Some-Session.ensures.asked }

pub returns-in-Ok-Some-Serve-clause-asked : goal.returns-in-Ok-Some-Serve-clause-asked
returns-in-Ok-Some-Serve-clause-asked g c = record { words = _; asked = asks_it _ _ _ (c.in-Ok-Some-Serve.field-0-is ∙ ap Some c.in-Ok-Some-Serve.field-0-0-is) c.in-Ok-Some-Serve.ensures.asked }

pub returns-in-Ok-Some-Session-clause-has_words : goal.returns-in-Ok-Some-Session-clause-has_words
returns-in-Ok-Some-Session-clause-has_words g c = more_words _ _ _ (asks_it _ _ _ (c.in-Ok-Some-Session.field-0-is ∙ ap Some c.in-Ok-Some-Session.field-0-0-is) c.in-Ok-Some-Session.ensures.asked)

pub returns-in-Ok-Some-Serve-clause-has_words : goal.returns-in-Ok-Some-Serve-clause-has_words
returns-in-Ok-Some-Serve-clause-has_words g c = more_words _ _ _ (asks_it _ _ _ (c.in-Ok-Some-Serve.field-0-is ∙ ap Some c.in-Ok-Some-Serve.field-0-0-is) c.in-Ok-Some-Serve.ensures.asked)

pub returns-in-Ok-Some-Check-clause-usage : goal.returns-in-Ok-Some-Check-clause-usage
returns-in-Ok-Some-Check-clause-usage g c = λ few. absurd (omega (arith, few, more_words _ _ _ (asks_it _ _ _ (c.in-Ok-Some-Check.field-0-is ∙ ap Some c.in-Ok-Some-Check.field-0-0-is) c.in-Ok-Some-Check.ensures.asked)))

pub returns-in-Ok-Some-Solve-clause-usage : goal.returns-in-Ok-Some-Solve-clause-usage
returns-in-Ok-Some-Solve-clause-usage g c = λ few. absurd (omega (arith, few, more_words _ _ _ (asks_it _ _ _ (c.in-Ok-Some-Solve.field-0-is ∙ ap Some c.in-Ok-Some-Solve.field-0-0-is) c.in-Ok-Some-Solve.ensures.asked)))

pub returns-in-Ok-Some-Generate-clause-usage : goal.returns-in-Ok-Some-Generate-clause-usage
returns-in-Ok-Some-Generate-clause-usage g c = λ few. absurd (omega (arith, few, more_words _ _ _ (asks_it _ _ _ (c.in-Ok-Some-Generate.field-0-is ∙ ap Some c.in-Ok-Some-Generate.field-0-0-is) c.in-Ok-Some-Generate.ensures.asked)))

pub returns-in-Ok-Some-Call-clause-usage : goal.returns-in-Ok-Some-Call-clause-usage
returns-in-Ok-Some-Call-clause-usage g c = λ few. absurd (omega (arith, few, more_words _ _ _ (asks_it _ _ _ (c.in-Ok-Some-Call.field-0-is ∙ ap Some c.in-Ok-Some-Call.field-0-0-is) c.in-Ok-Some-Call.ensures.asked)))

pub returns-in-Ok-Some-Compact-clause-usage : goal.returns-in-Ok-Some-Compact-clause-usage
returns-in-Ok-Some-Compact-clause-usage g c = λ few. absurd (omega (arith, few, more_words _ _ _ (asks_it _ _ _ (c.in-Ok-Some-Compact.field-0-is ∙ ap Some c.in-Ok-Some-Compact.field-0-0-is) c.in-Ok-Some-Compact.ensures.asked)))

pub returns-in-Ok-None-clause-usage : goal.returns-in-Ok-None-clause-usage
returns-in-Ok-None-clause-usage g c = λ few. c.tell_usage.ensures.told

pub returns-in-Err-clause-usage : goal.returns-in-Err-clause-usage
returns-in-Err-clause-usage g c = λ few. let said = c.in-Err.ensures.name_alone few in absurd (cc)
