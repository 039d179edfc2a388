use Rattle.sessions.proofs.OneSeat.{served_without, session_of}
use Rattle.sessions.proofs.session.serve_session.Goals as goal

pub returns-in-Ok-clause-session : goal.returns-in-Ok-clause-session
returns-in-Ok-clause-session g c =
    session_of c.conversations_are_kept.ensures c.shown_documents_are_proved.ensures c.serve_alone.result _ _ c.serve_alone.ensures.serves

pub returns-in-Err-clause-session : goal.returns-in-Err-clause-session
returns-in-Err-clause-session g c =
    session_of c.conversations_are_kept.ensures c.shown_documents_are_proved.ensures c.turn_away.result _ _ (served_without _ _ _ c.turn_away.ensures.serves)
