use Rattle.osil_grammar.proofs.Words.{[], on_ok_weaker, chars, none}
use Rattle.osil_grammar.proofs.Tellings.{begun, wrote_around}
use Rattle.osil_grammar.proofs.telling.leaf.Goals as goal

pub returns : goal.returns
returns c =
    on_ok_weaker c.end.result (λ ends. wrote_around c.args.w.now c.begin.new.self c.chars.new.self c.end.new.self c.args.name.now [] (chars c.args.text.now none) (begun c.args.w.now c.begin.new.self c.args.name.now c.in_ok-begin.ensures) c.in_ok-chars.ensures ends) c.end.ensures
