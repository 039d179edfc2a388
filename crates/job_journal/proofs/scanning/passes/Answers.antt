use Rattle.std.proofs.Common.{◌≡◌, subst}
use Rattle.std.specs.Prelude.{◌↔◌, true, false, IfOk}
use Rattle.job_journal.specs.Opening.{IsAcceptedFor}
use Rattle.job_journal.proofs.scanning.passes.Goals as goal

pub returns-in-Some : goal.returns-in-Some
returns-in-Some g c =
    rw c.in-Finish.is (rw c.in-Kept.is (subst (λ o. IfOk c.accepts.result (λ is. (is ≡ true) ↔ IsAcceptedFor g.S.Sieve.accepted o c.in-Kept.text.now)) c.in-Some.ensures c.accepts.ensures))

pub returns-in-None : goal.returns-in-None
returns-in-None g c =
    rw c.in-Finish.is (rw c.in-Kept.is (subst (λ o. (false ≡ true) ↔ IsAcceptedFor g.S.Sieve.accepted o c.in-Kept.text.now) c.in-None.ensures ((λ wrong. absurd cc), (λ some. absurd some))))
