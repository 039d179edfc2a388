use Rattle.cert_checker.proofs.Widths.{legal_column}
use Rattle.cert_checker.proofs.sums.end_at.Goals as goal

pub ends_of-ends-requires-clause-inside : goal.ends_of-ends-requires-clause-inside
ends_of-ends-requires-clause-inside c = legal_column c.args.program.now c.args.cuts.now c.args.mults.now c.args.k c.index-mults-k.result c.requires.legal c.requires.place c.index-mults-k.is
