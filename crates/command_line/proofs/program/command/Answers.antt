use Rattle.std.proofs.Common.{[], refl, ◌++◌}
use Rattle.std.specs.Prelude.{map}
use Rattle.command_line.specs.Forms.{flag_word, named_word, needed_word}
use Rattle.command_line.proofs.Forms.{named, named_here, needed, needed_here, told_next}
use Rattle.command_line.proofs.program.command.Goals as goal

pub loop-id-preserved : goal.loop-id-preserved
loop-id-preserved c =
    told_next c.args.name.now [] needed_word c.args.needed.now c.loop-id.id-index _ _ _ c.required.result c.loop-id-test.true c.loop-id.invariant c.in_ok-command.ensures
    (needed _ c.new.result c.required.result c.required.ensures c.new.ensures.rule)
    (needed_here c.new.result c.required.result c.required.ensures c.new.ensures.optional.1)

pub loop-id-2-preserved : goal.loop-id-2-preserved
loop-id-2-preserved c =
    told_next c.args.name.now (map needed_word (map (λ id. id.now) c.args.needed.now)) named_word c.args.named.now c.loop-id-2.id-index _ _ _ c.long.result c.loop-id-2-test.true c.loop-id-2.invariant
    c.in_ok-command-2.ensures
    (named _ c.new-in-loop-id-2.result c.long.result _ refl c.long.ensures c.new-in-loop-id-2.ensures.rule)
    (named_here c.new-in-loop-id-2.result c.long.result _ c.long.ensures c.new-in-loop-id-2.ensures.optional.1)

pub loop-id-3-preserved : goal.loop-id-3-preserved
loop-id-3-preserved c =
    told_next c.args.name.now (map needed_word (map (λ id. id.now) c.args.needed.now) ++ map named_word (map (λ id. id.now) c.args.named.now)) flag_word c.args.flags.now c.loop-id-3.id-index _ _ _ c.flag.result
    c.loop-id-3-test.true c.loop-id-3.invariant c.in_ok-command-3.ensures c.flag.ensures.rule c.flag.ensures.local
