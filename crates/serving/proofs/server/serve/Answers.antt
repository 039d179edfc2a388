use Rattle.std.proofs.Common.{◌∙◌}
use Rattle.serving.specs.Serving.{IsHistory, given_in}
use Rattle.serving.proofs.Endings.{unbegun, unopened, ended}
use Rattle.serving.proofs.Histories.{hosted, no_history}
use Rattle.serving.proofs.server.serve.Goals as goal

pub returns-in-Err-clause-served : goal.returns-in-Err-clause-served
returns-in-Err-clause-served g c =
    let setup = c.args.setup in
    unbegun given_in (λ links staff closer log. IsHistory setup.first setup.limits.servers links staff closer log) _ _ setup (no_history setup.first setup.limits.servers) _ _ _ _ _ c.in-Err.ensures.unbegun

pub returns-in_default-clause-served : goal.returns-in_default-clause-served
returns-in_default-clause-served g c =
    let setup = c.args.setup in
    let e = c.in-Ok.ensures.begun in
    unopened given_in (λ links staff closer log. IsHistory setup.first setup.limits.servers links staff closer log) _ _ setup _ _ e.0 e.1 e.2 _ _ (no_history setup.first setup.limits.servers) e.3

pub returns-clause-served : goal.returns-clause-served
returns-clause-served g c =
    let setup = c.args.setup in
    let e = c.in-Ok.ensures.begun in
    let loop = c.serve_loop-seat in
    let worked = c.work_closing_shift.ensures.worked in
    let has = loop.ensures.served in
    let at = loop.ensures.seat in
    let hosts = hosted c.first_finish_is_kept.ensures c.numbers_are_given_once.ensures c.shown_documents_are_proved.ensures setup c.issued-given.result _ _ _ _ _ _ _ _
    has c.in-Ok-new.ensures.seat.1 at.ready.stand at.ready.known worked.1 worked.2 (c.close.ensures.first ∙ c.in-Ok-new.ensures.first) c.close.ensures.closes c.issued-given.ensures in
    ended given_in (λ links staff closer log. IsHistory setup.first setup.limits.servers links staff closer log) _ _ setup _ _ e.0 e.1 e.2 _ _ e.3 _
    has.1.reached _ _ _ _ c.tell_end.ensures.told hosts
