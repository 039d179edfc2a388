use Rattle.std.proofs.Common.{◌≡◌, ◌∙◌, map, arith}
use Rattle.std.specs.String.{string_bytes}
use Rattle.os_app.specs.ProgramRuns.{stores_run}
use Rattle.os_app.specs.Runs.{Runs}
use Rattle.os_app.proofs.AtOnce.{carried}
use Rattle.os_app.proofs.command.run.Goals as goal

pub returns-in-Ok-clause-runs : goal.returns-in-Ok-clause-runs
returns-in-Ok-clause-runs g c = c.in-Ok.ensures.runs (g.I.Stream.tells c.args.input.now)

pub returns-in-Err-clause-runs : goal.returns-in-Err-clause-runs
returns-in-Err-clause-runs g c =
    let after = c.serve_for.new in
    carried
    (λ files stores output net. Runs g.K.Store.Disk (after.stores ≡ stores) c.serve_for.result (record {
      words = map string_bytes c.args.words.now;
      held = g.F.Files.held files;
      file_faults = g.F.Files.faults files;
      file_faults_after = g.F.Files.faults c.run_at_once.new.files;
      input = g.I.Stream.tells c.args.input.now;
      input_after = g.I.Stream.tells after.input;
      output = g.O.Stream.tells output;
      output_after = g.O.Stream.tells after.output;
      net = g.N.Listener.tells net;
      net_after = g.N.Listener.tells after.net;
    }) (stores_run g.K.Stores.held g.K.Stores.back g.K.Stores.opened g.K.Stores.faults stores after.stores))
    _ _ _ _ _ _ _ _ c.in-Err.ensures.untouched (c.serve_for.ensures.runs _ _ _ c.in-Err.ensures.waits)

pub returns-in-Err-clause-unread : goal.returns-in-Err-clause-unread
returns-in-Err-clause-unread g c = λ none. c.in-Err.ensures.untouched.0

pub returns-in-Err-clause-unlinked : goal.returns-in-Err-clause-unlinked
returns-in-Err-clause-unlinked g c = λ none. c.serve_for.ensures.unlinked _ c.in-Err.ensures.waits none ∙ c.in-Err.ensures.untouched.3

pub returns-in-Err-clause-unkept : goal.returns-in-Err-clause-unkept
returns-in-Err-clause-unkept g c = λ none. c.serve_for.ensures.unkept _ c.in-Err.ensures.waits none ∙ c.in-Err.ensures.untouched.1

pub returns-in-Err-clause-usage : goal.returns-in-Err-clause-usage
returns-in-Err-clause-usage g c = λ few. absurd (omega (arith, few, c.in-Err.ensures.has_words))
