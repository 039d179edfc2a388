use Rattle.cert_checker.proofs.Lists.{after_to, after_from}
use Rattle.cert_checker.proofs.pairs.is_after.Goals as goal

pub returns-else-k-eq0 : goal.returns-else-k-eq0
returns-else-k-eq0 c =
    let nz = c.if-k-eq0.false in
    (after_to c.args.mults.now c.args.k c.index-mults-k.result c.index-mults-k-else-k-eq0.result c.requires nz, after_from c.args.mults.now c.args.k c.index-mults-k.result c.index-mults-k-else-k-eq0.result c.requires nz)
