use Rattle.osil_grammar.proofs.Lines.{divides, division}
use Rattle.osil_grammar.proofs.entries.is_division.Goals as goal

pub returns : goal.returns
returns c = (
  λ rising. division c.args.starts.now c.args.lines c.args.values (record { first = c.if-starts-ne0.false; rising = c.is_rising.ensures.0 rising; last = c.if-starts-lines-2.false; one_more = c.if-starts-lines.false }),
  λ d. c.is_rising.ensures.1 (divides c.args.starts.now c.args.lines c.args.values d).rising,
)
