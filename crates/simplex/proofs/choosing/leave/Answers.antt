use Rattle.std.proofs.Common.{◌≡◌, ◌<◌, length, sym, ◌∙◌, ap, arith}
use Rattle.rational.specs.Ratio.{Ratio}
use Rattle.evidence.specs.Instance.{Range, column_at}
use Rattle.simplex_rules.specs.declared.columns.Way.{Way}
use Rattle.simplex_rules.specs.Turns.{rate, reached_status, way_of}
use Rattle.dictionary.specs.Dict.{entry_of}
use Rattle.simplex.proofs.ColumnEnds.{read_range}
use Rattle.simplex.proofs.choosing.leave.Goals as goal

pub returns-clause-status : goal.returns-clause-status
returns-clause-status g c = λ I e.
    let h : c.args.basic < length c.args.ends.now = let a = c.requires.ends in let i = c.requires.basic_inside in let g = c.requires.goal in omega arith in
    let r = e.is c.args.basic ∙ read_range c.args.ends.now c.args.basic c.index-ends-basic.result c.index-ends-basic.is h in
    let n = c.rate.ensures ∙ ap (rate c.args.moving.way) c.entry_at-entry.ensures in
    let v : c.way_of-way.result ≡ way_of (rate c.args.moving.way (entry_of c.args.dict.now c.args.basic c.args.moving.col)).num = c.way_of-way.ensures ∙ ap (λ (x : Ratio). way_of x.num) n in
    c.reached.ensures.is ∙ ap (λ (k : Range). reached_status c.way_of-way.result k) (sym r) ∙ ap (λ (k : Way). reached_status k (column_at I c.args.basic)) v
