use Rattle.std.proofs.Common.{◌∙◌, ◌≤◌, Some, None, ap, refl}
use Rattle.effects.specs.Limits.{most_first}
use Rattle.command_line.specs.Words.{meant}
use Rattle.os_app.specs.AtOnce.{asked_to_wait}
use Rattle.os_app.proofs.Words.{links_none, serve_runs, session_runs}
use Rattle.os_app.proofs.JournalRuns.{hosted_runs, journal_none, kept_runs, serve_named, session_named, set_within}
use Rattle.os_app.proofs.command.serve_for.Goals as goal

pub returns-in-None-clause-runs : goal.returns-in-None-clause-runs
returns-in-None-clause-runs g c = λ words held faults asks.
    session_runs refl _ c.serve_session.result c.session_status.result c.session_status.ensures (record {
      session = session_named _ _ None c.in-None.is (asks ∙ ap (λ w. Some (meant (asked_to_wait w))) c.in-Session.is);
      serves = c.serve_session.ensures.session;
    }) refl

pub returns-in-Some-clause-runs : goal.returns-in-Some-clause-runs
returns-in-Some-clause-runs g c = λ words held faults asks.
    kept_runs g.K.Store.Disk _ _ _ _ refl (session_named _ _ (Some c.in-Some.name) c.in-Some.is (asks ∙ ap (λ w. Some (meant (asked_to_wait w))) c.in-Session.is)) c.keep_session.ensures.ends

pub returns-in-None-journal-clause-runs : goal.returns-in-None-journal-clause-runs
returns-in-None-journal-clause-runs g c = λ words held faults asks.
    serve_runs refl _ c.serve.result c.serve_status.result _ _ _ c.serve_status.ensures
    (serve_named c.in-Serve.to _ c.setup_of-setup.ensures _ None c.in-None-journal.is (asks ∙ ap (λ w. Some (meant (asked_to_wait w))) c.in-Serve.is)) c.serve.ensures.served refl refl

pub returns-in-Some-journal-clause-runs : goal.returns-in-Some-journal-clause-runs
returns-in-Some-journal-clause-runs g c = λ words held faults asks.
    hosted_runs g.K.Store.Disk _ _ _ _ refl _ _ _ (serve_named c.in-Serve.to _ c.setup_of-setup.ensures _ (Some c.in-Some-journal.name) c.in-Some-journal.is (asks ∙ ap (λ w. Some (meant (asked_to_wait w))) c.in-Serve.is)) c.keep_server.ensures.ends refl

pub returns-in-Some-clause-unkept : goal.returns-in-Some-clause-unkept
returns-in-Some-clause-unkept g c = λ words asks none. absurd (journal_none _ _ _ (session_named _ _ (Some c.in-Some.name) c.in-Some.is (asks ∙ ap (λ w. Some (meant (asked_to_wait w))) c.in-Session.is)) refl none)

pub returns-in-Some-journal-clause-unkept : goal.returns-in-Some-journal-clause-unkept
returns-in-Some-journal-clause-unkept g c = λ words asks none. absurd (journal_none _ _ _ (serve_named c.in-Serve.to _ c.setup_of-setup.ensures _ (Some c.in-Some-journal.name) c.in-Some-journal.is (asks ∙ ap (λ w. Some (meant (asked_to_wait w))) c.in-Serve.is)) refl none)

pub returns-in-None-journal-clause-unlinked : goal.returns-in-None-journal-clause-unlinked
returns-in-None-journal-clause-unlinked g c = λ words asks none. absurd (links_none _ _ (asks ∙ ap (λ w. Some (meant (asked_to_wait w))) c.in-Serve.is) refl none)

pub returns-in-Some-journal-clause-unlinked : goal.returns-in-Some-journal-clause-unlinked
returns-in-Some-journal-clause-unlinked g c = λ words asks none. absurd (links_none _ _ (asks ∙ ap (λ w. Some (meant (asked_to_wait w))) c.in-Serve.is) refl none)

pub serve-requires-clause-servers : goal.serve-requires-clause-servers
serve-requires-clause-servers g c κs lives = set_within c.in-Serve.to _ c.setup_of-setup.ensures (λ s. 1 ≤ s.limits.servers) ((c.numbers_are_within_their_ends.ensures _ _ (c.requires.asked ∙ ap (λ w. Some (meant (asked_to_wait w))) c.in-Serve.is)).2.0)

pub serve-requires-clause-first : goal.serve-requires-clause-first
serve-requires-clause-first g c κs lives = set_within c.in-Serve.to _ c.setup_of-setup.ensures (λ s. 1 ≤ s.first) ((c.numbers_are_within_their_ends.ensures _ _ (c.requires.asked ∙ ap (λ w. Some (meant (asked_to_wait w))) c.in-Serve.is)).5.0)

pub serve-requires-clause-fits : goal.serve-requires-clause-fits
serve-requires-clause-fits g c κs lives = set_within c.in-Serve.to _ c.setup_of-setup.ensures (λ s. s.first ≤ most_first) ((c.numbers_are_within_their_ends.ensures _ _ (c.requires.asked ∙ ap (λ w. Some (meant (asked_to_wait w))) c.in-Serve.is)).5.1)

pub keep_server-requires-clause-servers : goal.keep_server-requires-clause-servers
keep_server-requires-clause-servers g c κs lives = set_within c.in-Serve.to _ c.setup_of-setup.ensures (λ s. 1 ≤ s.limits.servers) ((c.numbers_are_within_their_ends.ensures _ _ (c.requires.asked ∙ ap (λ w. Some (meant (asked_to_wait w))) c.in-Serve.is)).2.0)

pub keep_server-requires-clause-first : goal.keep_server-requires-clause-first
keep_server-requires-clause-first g c κs lives = set_within c.in-Serve.to _ c.setup_of-setup.ensures (λ s. 1 ≤ s.first) ((c.numbers_are_within_their_ends.ensures _ _ (c.requires.asked ∙ ap (λ w. Some (meant (asked_to_wait w))) c.in-Serve.is)).5.0)

pub keep_server-requires-clause-fits : goal.keep_server-requires-clause-fits
keep_server-requires-clause-fits g c κs lives = set_within c.in-Serve.to _ c.setup_of-setup.ensures (λ s. s.first ≤ most_first) ((c.numbers_are_within_their_ends.ensures _ _ (c.requires.asked ∙ ap (λ w. Some (meant (asked_to_wait w))) c.in-Serve.is)).5.1)
