use Rattle.std.proofs.Common.{arith, refl, ◌∙◌, sym, subst}
use Rattle.http_link.specs.Pieces.{TakesPieces, none, more}
use Rattle.http_link.proofs.RequestSteps.{none_went, more_went, body_whole, body_ended, body_fault}
use Rattle.http_link.proofs.requests.read_body.Goals as goal

pub loop-done-init : goal.loop-done-init
loop-done-init g c = record {
  fits = omega arith;
  went = none_went _ _ none;
  faults = refl;
  output = record { written = refl; handed_on = refl; write_faults = refl };
}

pub loop-done-preserved : goal.loop-done-preserved
loop-done-preserved g c =
    let i = c.loop-done.invariant in
    let e = c.in-Ok.ensures in
    record {
      fits = let most = e.piece.3 in let test = c.loop-done-test.true in omega (arith, most, test);
      went = more_went _ _ _ _ _ _ _ _ _ (more _ _) i.went e.piece;
      faults = e.counted ∙ i.faults;
      output = record {
        written = e.output.written ∙ i.output.written;
        handed_on = e.output.handed_on ∙ i.output.handed_on;
        write_faults = e.output.write_faults ∙ i.output.write_faults;
      };
    }

pub returns-then-count-eq0-clause-answer : goal.returns-then-count-eq0-clause-answer
returns-then-count-eq0-clause-answer g c =
    body_ended _ _ _ c.loop-done.done c.args.len c.in-Ok.count _ _ _ _ (more _ _) c.loop-done.invariant.went c.in-Ok.ensures.piece c.if-count-eq0.true c.loop-done.invariant.fits

pub returns-in-Err-clause-answer : goal.returns-in-Err-clause-answer
returns-in-Err-clause-answer g c =
    body_fault _ (TakesPieces g.B.Body.took c.args.body.now c.read_piece.new.body) c.loop-done.done c.args.len c.in-Err.failed _ _ _
    (λ bytes. subst (λ b. TakesPieces g.B.Body.took c.args.body.now b bytes) (sym c.in-Err.ensures.stays)) c.loop-done.invariant.went c.loop-done-test.true c.in-Err.ensures.err

pub returns-clause-answer : goal.returns-clause-answer
returns-clause-answer g c = body_whole _ _ _ _ _ c.loop-done.invariant.went c.loop-done.invariant.fits c.loop-done-test.false
